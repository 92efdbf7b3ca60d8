-- The field that a step names.
use Rattle.std.proofs.Common.{ℕ, ◌≡◌, refl, Option, Some, None, ap, sym, subst}
use Rattle.capnp_schema.specs.FieldLists.{IsFound, index_of}
use Rattle.capnp_schema.specs.declared.schema.fields.Field.{Field}
use Rattle.capnp_schema.specs.declared.schema.structs.StructSchema.{StructSchema}

-- the field that was found
found_at : (schema : StructSchema) (o : Option ℕ) (f : Field) → IsFound schema o (Some f) → o ≡ Some (index_of f)
found_at schema None f h = absurd h
found_at schema (Some i) f h = ap Some (sym h.index)

pub found_index : (schema : StructSchema) (o : Option ℕ) (m : Option Field) (f : Field) → IsFound schema o m → m ≡ Some f → o ≡ Some (index_of f)
found_index schema o m f h e = found_at schema o f (subst (IsFound schema o) e h)

found_nothing : (schema : StructSchema) (o : Option ℕ) → IsFound schema o None → o ≡ None
found_nothing schema None h = refl
found_nothing schema (Some i) h = absurd h

pub found_none : (schema : StructSchema) (o : Option ℕ) (m : Option Field) → IsFound schema o m → m ≡ None → o ≡ None
found_none schema o m h e = found_nothing schema o (subst (IsFound schema o) e h)
