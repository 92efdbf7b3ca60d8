-- What is read at the end of a path is what the machine of records says.
use Rattle.std.proofs.Common.{ℕ, ◌<◌, ◌≡◌, refl, Bool, true, false, not, length, IsTrue, Option, None, Result, Ok, IfOk, ap, inl, inr, sym, subst, ◌∙◌}
use Rattle.capnp_device.specs.declared.error.Error.{Error}
use Rattle.capnp_device.specs.declared.error.ErrorKind.{ErrorKind}
use Rattle.capnp_device.specs.declared.error.ErrorKind.TheVariants.{OutOfMemory}
use Rattle.capnp_wire.specs.Standing.{struct_levels, struct_of}
use Rattle.capnp_wire.specs.Tree.{StructTree}
use Rattle.capnp_base.specs.declared.introspect.TypeVariant.{TypeVariant}
use Rattle.capnp_schema.specs.FieldLists.{index_of, typed_of, field_schema as field_schema}
use Rattle.capnp_schema.specs.Schema.{Schemas, default_of}
use Rattle.capnp_schema.specs.StructHandles.{IsStruct, number_of, set_of, struct_field, struct_fields}
use Rattle.capnp_schema.specs.Types.{SchemaType, seen_variant}
use Rattle.capnp_schema.specs.declared.schema.fields.Field.{Field}
use Rattle.capnp_schema.specs.declared.schema.structs.StructSchema.{StructSchema}
use Rattle.capnp_records.specs.Call.{Get, GivesValue, Plain, Reply, Refused}
use Rattle.capnp_records.specs.Default.{read_of}
use Rattle.capnp_records.specs.Facts.Frame.{choose_false}
use Rattle.capnp_records.specs.Facts.PartRead.{CanEnter, can_enter}
use Rattle.capnp_records.specs.Operation.{Answers, Does, answer_of, takes_memory}
use Rattle.capnp_records.specs.Part.{has_of, is_inactive}
use Rattle.capnp_records.specs.Reading.{reads, struct_record}
use Rattle.capnp_records.specs.Record.{Left, Record, Value}
use Rattle.capnp_records.specs.Step.{fault_of}
use Rattle.capnp_dynamic_readers.specs.Handles.{reader_of, schema_of}
use Rattle.capnp_dynamic_readers.specs.Reads.{field_read, field_seen}
use Rattle.capnp_dynamic_readers.specs.Seen.{answered_value, record_seen, value_seen}
use Rattle.capnp_dynamic_readers.specs.Typed.{IsOf}
use Rattle.capnp_dynamic_readers.specs.declared.dynamic_struct.Reader.{Reader as StructHandle}
use Rattle.capnp_dynamic_readers.specs.declared.dynamic_value.Reader.{Reader as DynamicValue}
use Rattle.capnp_dynamic_readers.specs.declared.dynamic_value.Reader.TheVariants as dynamic
use Rattle.capnp_slots.specs.Fields.{field_brand, field_set}
use Rattle.capnp_call.specs.Ways.{target_in}
use Rattle.capnp_arena.specs.Same.{IsStructCutOf}
use Rattle.capnp_call.proofs.Heads.{active_cut, bytes_cut, field_cut, has_cut}
use Rattle.capnp_call.proofs.Levels.{answers_same, same_from, same_then}

-- ---- a struct's reader ----

-- a reader of a struct under a schema
pub record StandsOn (r : StructHandle) (schema : StructSchema) (s : StructTree) : Type 0 where
  pub schema_is : schema_of r ≡ schema
  pub struct_is : struct_of (reader_of r) ≡ s
  pub levels : struct_levels (reader_of r) ≡ 64

record_is : (r : StructHandle) (schema : StructSchema) (s : StructTree) → StandsOn r schema s → record_seen r ≡ struct_record (set_of schema) (Left 64) s (number_of schema)
record_is r schema s on =
    ap (λ (z : StructSchema). struct_record (set_of z) (Left (struct_levels (reader_of r))) (struct_of (reader_of r)) (number_of z)) on.schema_is
    ∙ ap (λ (n : ℕ). struct_record (set_of schema) (Left n) (struct_of (reader_of r)) (number_of schema)) on.levels
    ∙ ap (λ (x : StructTree). struct_record (set_of schema) (Left 64) x (number_of schema)) on.struct_is

pub has_reads : (r : StructHandle) (f : Field) (x s : StructTree) → StandsOn r (field_schema f) x → IsStructCutOf x s → IsStruct (field_schema f) → index_of f < length (struct_fields (field_schema f)) →
    (v : TypeVariant) → seen_variant v ≡ (typed_of f).type →
    has_of (record_seen r) (struct_field (schema_of r) (index_of f)).field (index_of f) ≡ has_of (reads (field_set f) s (field_brand f)) (typed_of f).field (index_of f)
has_reads r f x s on cut is inside v e =
    ap (λ (y : Record). has_of y (struct_field (schema_of r) (index_of f)).field (index_of f)) (record_is r (field_schema f) x on)
    ∙ ap (λ (z : StructSchema). has_of (struct_record (field_set f) (Left 64) x (field_brand f)) (struct_field z (index_of f)).field (index_of f)) on.schema_is
    ∙ has_cut (field_set f) (Left 64) x s cut is.accepted (field_brand f) (index_of f) is.number inside v e

not_not : (x : Bool) → not (not x) ≡ x
not_not true = refl
not_not false = refl

pub active_reads : (r : StructHandle) (f : Field) (x s : StructTree) → schema_of r ≡ field_schema f → struct_of (reader_of r) ≡ x → IsStructCutOf x s → IsStruct (field_schema f) → index_of f < length (struct_fields (field_schema f)) → (q : Bool) →
    q ≡ not (is_inactive (record_seen r) (struct_field (schema_of r) (index_of f)).field (index_of f)) → not q ≡ is_inactive (reads (field_set f) s (field_brand f)) (typed_of f).field (index_of f)
active_reads r f x s schema struct cut is inside q answered_value =
    ap not (answered_value
    ∙ (ap (λ (z : StructSchema). not (is_inactive (struct_record (set_of z) (Left (struct_levels (reader_of r))) (struct_of (reader_of r)) (number_of z)) (struct_field z (index_of f)).field (index_of f))) schema
    ∙ (ap (λ (y : StructTree). not (is_inactive (struct_record (field_set f) (Left (struct_levels (reader_of r))) y (field_brand f)) (typed_of f).field (index_of f))) struct
    ∙ active_cut (field_set f) (Left (struct_levels (reader_of r))) x s (bytes_cut x s cut) is.accepted (field_brand f) (index_of f) is.number inside)))
    ∙ not_not _

-- ---- get ----

read_is : (r : StructHandle) (f : Field) (s : StructTree) → StandsOn r (field_schema f) s → field_seen r (index_of f) ≡ field_read (field_set f) (Left 64) s (typed_of f)
read_is r f s on =
    ap (λ (z : StructSchema). field_read (set_of z) (Left (struct_levels (reader_of r))) (struct_of (reader_of r)) (struct_field z (index_of f))) on.schema_is
    ∙ ap (λ (n : ℕ). field_read (field_set f) (Left n) (struct_of (reader_of r)) (typed_of f)) on.levels
    ∙ ap (λ (x : StructTree). field_read (field_set f) (Left 64) x (typed_of f)) on.struct_is

pub get_reads : (r : StructHandle) (f : Field) (x s : StructTree) (read : Result DynamicValue Error) (reply : Reply) → StandsOn r (field_schema f) x → IsStructCutOf x s → index_of f < length (struct_fields (field_schema f)) →
    answered_value read ≡ field_seen r (index_of f) → IfOk read (IsOf (set_of (schema_of r)) (struct_field (schema_of r) (index_of f)).type) →
    ((set : Schemas) (t : SchemaType) (old : Value) → IfOk read (IsOf set t) → Answers t (answered_value read) (fault_of (answered_value read)) old reply old) →
    is_inactive (reads (field_set f) s (field_brand f)) (typed_of f).field (index_of f) ≡ false →
    (whole : Record → Value) (old : Value) → Does (field_set f) Get (target_in whole f s) old reply old
get_reads r f x s read reply on cut inside value typed answers active whole old =
    let enter : CanEnter (field_set f) s (field_brand f) (index_of f) = can_enter (field_set f) s (field_brand f) (index_of f) inside active in
    let typed_as : IfOk read (IsOf (field_set f) (typed_of f).type) = subst (λ (z : StructSchema). IfOk read (IsOf (set_of z) (struct_field z (index_of f)).type)) on.schema_is typed in
    choose_false (target_in whole f s).inactive _ _ active
    (answers_same (typed_of f).type (answered_value read) _ old old reply
    (same_then (same_from (value ∙ read_is r f x on))
    (same_then (field_cut (field_set f) x s cut (typed_of f)) (same_from (ap (read_of (field_set f) (default_of (typed_of f).field) (typed_of f).type) (sym enter.part)))))
    (answers (field_set f) (typed_of f).type old typed_as))

-- a value that was read is none of a fault
sound : (v : DynamicValue) → fault_of (value_seen v) ≡ None
sound dynamic.Void = refl
sound (dynamic.Bool b) = refl
sound (dynamic.Int8 x) = refl
sound (dynamic.Int16 x) = refl
sound (dynamic.Int32 x) = refl
sound (dynamic.Int64 x) = refl
sound (dynamic.UInt8 x) = refl
sound (dynamic.UInt16 x) = refl
sound (dynamic.UInt32 x) = refl
sound (dynamic.UInt64 x) = refl
sound (dynamic.Enum e) = refl
sound (dynamic.Text text) = refl
sound (dynamic.«Data» bytes) = refl
sound (dynamic.Struct s) = refl
sound (dynamic.List l) = refl
sound (dynamic.AnyPointer p) = refl

pub answers_given : (set : Schemas) (t : SchemaType) (read : Result DynamicValue Error) (v : DynamicValue) (old : Value) (p : Plain) → read ≡ Ok v → IfOk read (IsOf set t) →
    (IsOf set t v → p ≡ answer_of t (value_seen v)) → Answers t (answered_value read) (fault_of (answered_value read)) old (GivesValue p) old
answers_given set t read v old p e h given =
    subst (λ (x : Result DynamicValue Error). Answers t (answered_value x) (fault_of (answered_value x)) old (GivesValue p) old) (sym e)
    (subst (λ (o : Option ErrorKind). Answers t (value_seen v) o old (GivesValue p) old) (sym (sound v))
    (inl (ap GivesValue (given (subst (λ (x : Result DynamicValue Error). IfOk x (IsOf set t)) e h)), refl)))

pub answers_short : (set : Schemas) (t : SchemaType) (read : Result DynamicValue Error) (v : DynamicValue) (old : Value) (kind : ErrorKind) → read ≡ Ok v → IfOk read (IsOf set t) →
    (IsOf set t v → takes_memory t ≡ true) → kind ≡ OutOfMemory → Answers t (answered_value read) (fault_of (answered_value read)) old (Refused kind) old
answers_short set t read v old kind e h memory cause =
    subst (λ (x : Result DynamicValue Error). Answers t (answered_value x) (fault_of (answered_value x)) old (Refused kind) old) (sym e)
    (subst (λ (o : Option ErrorKind). Answers t (value_seen v) o old (Refused kind) old) (sym (sound v))
    (inr (subst IsTrue (sym (memory (subst (λ (x : Result DynamicValue Error). IfOk x (IsOf set t)) e h))) refl, (ap Refused cause, refl))))
