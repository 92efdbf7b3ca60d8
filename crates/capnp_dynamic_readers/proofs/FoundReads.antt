-- What is read of a field that was found is what is read of the index that was looked up.
use Rattle.std.proofs.Common.{ℕ, ◌≡◌, Option, Some, None, Ok, Result, Bool, ap, subst}
use Rattle.capnp_device.specs.declared.error.ErrorKind.{ErrorKind}
use Rattle.capnp_schema.specs.FieldLists.{IsFound, index_of}
use Rattle.capnp_schema.specs.StructHandles.{set_of, struct_field}
use Rattle.capnp_schema.specs.declared.schema.fields.Field.{Field}
use Rattle.capnp_dynamic_readers.specs.Facts.Found.{there}
use Rattle.capnp_dynamic_readers.specs.Handles.{schema_of}
use Rattle.capnp_dynamic_readers.specs.Reads.{field_seen, found_has, found_seen}
use Rattle.capnp_dynamic_readers.specs.Seen.{record_seen}
use Rattle.capnp_dynamic_readers.specs.Typed.{IsOf, IsOfFound}
use Rattle.capnp_dynamic_readers.specs.declared.dynamic_struct.Reader.{Reader as StructHandle}
use Rattle.capnp_dynamic_readers.specs.declared.dynamic_value.Reader.{Reader as DynamicValue}

pub found_read : (h : StructHandle) (o : Option ℕ) (f : Field) → IsFound (schema_of h) o (Some f) → field_seen h (index_of f) ≡ found_seen h o
found_read h None f a = absurd a
found_read h (Some i) f a = ap (field_seen h) a.index

pub found_typed : (h : StructHandle) (o : Option ℕ) (f : Field) → IsFound (schema_of h) o (Some f) → (v : DynamicValue) →
    IsOf (set_of (schema_of h)) (struct_field (schema_of h) (index_of f)).type v → IsOfFound h o v
found_typed h None f a v x = absurd a
found_typed h (Some i) f a v x = subst (λ (j : ℕ). IsOf (set_of (schema_of h)) (struct_field (schema_of h) j).type v) a.index x

abbrev kind_there : Bool → Result Bool ErrorKind
kind_there q = Ok q

pub found_there : (h : StructHandle) (o : Option ℕ) (f : Field) → IsFound (schema_of h) o (Some f) → kind_there (there (record_seen h) (schema_of h) (index_of f)) ≡ found_has h o
found_there h None f a = absurd a
found_there h (Some i) f a = ap (λ (j : ℕ). kind_there (there (record_seen h) (schema_of h) j)) a.index
