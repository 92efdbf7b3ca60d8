-- What was read, taken as a struct.
use Rattle.std.proofs.Common.{◌≡◌, ap}
use Rattle.std.proofs.lemmas.Result.{err_from_is_err_and}
use Rattle.capnp_schema.specs.FieldLists.{index_of}
use Rattle.capnp_schema.specs.StructHandles.{set_of, struct_field}
use Rattle.capnp_dynamic_readers.specs.Handles.{schema_of}
use Rattle.capnp_dynamic_readers.specs.Reads.{field_seen}
use Rattle.capnp_dynamic_readers.specs.Seen.{value_seen}
use Rattle.capnp_dynamic_readers.specs.Taken.{only_struct}
use Rattle.capnp_dynamic_readers.specs.Typed.{IsOf}
use Rattle.capnp_dynamic_readers.specs.declared.dynamic_value.Reader.{Reader as DynamicValue}
use Rattle.capnp_dynamic_readers.specs.declared.dynamic_value.Reader.TheVariants as dynamic
use Rattle.capnp_dynamic_readers.specs.Facts.Taken.{read_refused, taken}
use Rattle.capnp_dynamic_readers.proofs.parts.struct_in.Goals as goal

pub returns-in_err-part-clause-refused : goal.returns-in_err-part-clause-refused
returns-in_err-part-clause-refused c =
    let p = err_from_is_err_and c.from_residual.result c.from_residual.ensures.1 in
    rw (p.1, p.2) (ap only_struct c.in_err-part.ensures.value)

pub returns-clause-value : goal.returns-clause-value
returns-clause-value c =
    taken dynamic.Struct c.in_ok-part.part (λ (v : DynamicValue). value_seen v ≡ field_seen c.args.reader (index_of c.args.field)) c.struct_of.result c.struct_of.ensures.is
    c.in_ok-part.ensures.value

pub returns-clause-typed : goal.returns-clause-typed
returns-clause-typed c =
    taken dynamic.Struct c.in_ok-part.part (IsOf (set_of (schema_of c.args.reader)) (struct_field (schema_of c.args.reader) (index_of c.args.field)).type) c.struct_of.result
    c.struct_of.ensures.is c.in_ok-part.ensures.typed

pub returns-clause-refused : goal.returns-clause-refused
returns-clause-refused c = read_refused only_struct _ _ c.struct_of.result c.in_ok-part.ensures.value c.struct_of.ensures.refused
