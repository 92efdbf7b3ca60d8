-- What was read, taken as a struct.
use Rattle.std.proofs.Common.{◌≡◌, ap}
use Rattle.std.proofs.lemmas.Result.{err_from_is_err_and}
use Rattle.capnp_dynamic_readers.specs.Handles.{element_of, list_set}
use Rattle.capnp_dynamic_readers.specs.Reads.{element_seen}
use Rattle.capnp_dynamic_readers.specs.Seen.{value_seen}
use Rattle.capnp_dynamic_readers.specs.Taken.{only_struct}
use Rattle.capnp_dynamic_readers.specs.Typed.{IsOf, IsValueUnder}
use Rattle.capnp_dynamic_readers.specs.declared.dynamic_value.Reader.{Reader as DynamicValue}
use Rattle.capnp_dynamic_readers.specs.declared.dynamic_value.Reader.TheVariants as dynamic
use Rattle.capnp_dynamic_readers.specs.Facts.Taken.{read_refused, taken}
use Rattle.capnp_dynamic_readers.proofs.parts.struct_at.Goals as goal

pub returns-in_err-part-clause-refused : goal.returns-in_err-part-clause-refused
returns-in_err-part-clause-refused c =
    let p = err_from_is_err_and c.from_residual.result c.from_residual.ensures.1 in
    rw (p.1, p.2) (ap only_struct c.in_err-part.ensures.value)

pub returns-clause-value : goal.returns-clause-value
returns-clause-value c =
    taken dynamic.Struct c.in_ok-part.part (λ (v : DynamicValue). value_seen v ≡ element_seen c.args.list c.args.index) c.struct_of.result c.struct_of.ensures.is c.in_ok-part.ensures.value

pub returns-clause-under : goal.returns-clause-under
returns-clause-under c =
    taken dynamic.Struct c.in_ok-part.part (IsValueUnder (list_set c.args.list) (element_of c.args.list)) c.struct_of.result c.struct_of.ensures.is c.in_ok-part.ensures.under

pub returns-clause-typed : goal.returns-clause-typed
returns-clause-typed c = λ named.
    taken dynamic.Struct c.in_ok-part.part (IsOf (list_set c.args.list) (element_of c.args.list)) c.struct_of.result c.struct_of.ensures.is (c.in_ok-part.ensures.typed named)

pub returns-clause-refused : goal.returns-clause-refused
returns-clause-refused c = read_refused only_struct _ _ c.struct_of.result c.in_ok-part.ensures.value c.struct_of.ensures.refused
