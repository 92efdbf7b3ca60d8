-- Past the last brand the node is 0.
-- Before it, the element at the number is the brand's record: its node is read, or its fault is the cause.
use Rattle.std.proofs.Common.{arith, ◌∙◌}
use Rattle.std.proofs.lemmas.Result.{err_from_is_err_and}
use Rattle.capnp_wire.specs.Reading.{list_length}
use Rattle.capnp_wire.specs.Standing.{list_of}
use Rattle.capnp_schema.specs.Meta.{meta_struct}
use Rattle.capnp_records.specs.Record as value
use Rattle.capnp_sets.specs.Steps.Handles.{meta_record_in}
use Rattle.capnp_sets.proofs.Elements.{struct_refused, struct_there}
use Rattle.capnp_sets.proofs.Generics.{generic_here, generic_past, generic_refused}
use Rattle.capnp_sets.proofs.RowsRead.{element_in}
use Rattle.capnp_sets.proofs.PartsRead.{number_there}
use Rattle.capnp_sets.proofs.types.generic_of.Goals as goal

pub returns-then-number-len-clause-read : goal.returns-then-number-len-clause-read
returns-then-number-len-clause-read c = generic_past (element_in (meta_struct 6) c.args.brands.now) 0 (list_length (list_of c.args.brands.now)) c.args.number (omega (arith, c.if-number-len.true, c.len.ensures.length))

pub returns-in_err-record-clause-refused : goal.returns-in_err-record-clause-refused
returns-in_err-record-clause-refused c =
    let p = err_from_is_err_and c.from_residual.result c.from_residual.ensures.1 in rw (p.1, p.2) (generic_refused c.args.brands.now c.args.number (omega (arith, c.if-number-len.false, c.len.ensures.length)) _ (struct_refused 6 c.args.brands.now c.args.number _ c.in_err-record.ensures.read))

pub returns-clause-read : goal.returns-clause-read
returns-clause-read c =
    generic_here c.args.brands.now c.args.number (omega (arith, c.if-number-len.false, c.len.ensures.length)) (value.Struct (meta_record_in 6 c.in_ok-record.record)) (struct_there 6 c.args.brands.now c.args.number c.in_ok-record.record c.in_ok-record.ensures.read c.in_ok-record.ensures.levels)
    ∙ (number_there _ _ _ c.u32_at.ensures)
