-- The field that was found is read.
use Rattle.std.proofs.Common.{◌∙◌}
use Rattle.std.proofs.lemmas.Result.{IfOk-weaker}
use Rattle.capnp_schema.specs.FieldLists.{index_of}
use Rattle.capnp_schema.specs.Query.{field_named}
use Rattle.capnp_schema.specs.StructHandles.{set_of, struct_field, struct_records}
use Rattle.capnp_dynamic_readers.specs.Handles.{schema_of}
use Rattle.capnp_dynamic_readers.specs.Typed.{IsOf, IsOfFound}
use Rattle.capnp_dynamic_readers.specs.Facts.Found.{found_belongs}
use Rattle.capnp_dynamic_readers.proofs.FoundReads.{found_read, found_typed}
use Rattle.capnp_dynamic_readers.proofs.dynamic_struct.Reader.get_named.Goals as goal

pub get-requires : goal.get-requires
get-requires c = found_belongs (schema_of c.args.self) (field_named (struct_records (schema_of c.args.self)) c.args.field_name.now) c.in_ok-field.field c.in_ok-field.ensures.field

pub returns-clause-value : goal.returns-clause-value
returns-clause-value c =
    c.get.ensures.value ∙ found_read c.args.self (field_named (struct_records (schema_of c.args.self)) c.args.field_name.now) c.in_ok-field.field c.in_ok-field.ensures.field

pub returns-clause-typed : goal.returns-clause-typed
returns-clause-typed c =
    let h = c.args.self in
    let o = field_named (struct_records (schema_of h)) c.args.field_name.now in
    let f = c.in_ok-field.field in
    IfOk-weaker c.get.result (IsOf (set_of (schema_of h)) (struct_field (schema_of h) (index_of f)).type) (IsOfFound h o) (found_typed h o f c.in_ok-field.ensures.field) c.get.ensures.typed
