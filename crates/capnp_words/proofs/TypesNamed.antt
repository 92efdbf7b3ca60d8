-- The type at the end of a path names entries of the set, as the type does that the path starts from.
use Rattle.std.proofs.Common.{ℕ, ◌<◌, ◌≡◌, List, [], ◌∷◌, Option, Some, None, IfSome, length, slice_get, ap, refl, subst, sym}
use Rattle.std.specs.Option.{option_and_then, option_map, unwrap_or}
use Rattle.std.proofs.lemmas.Option.{slice_get_within}
use Rattle.capnp_schema.specs.Accepted.{IsAccepted, NamesEntries}
use Rattle.capnp_schema.specs.Query.{field_named, records_of}
use Rattle.capnp_schema.specs.Schema.{Schemas, TypedField, fields_of, no_field}
use Rattle.capnp_schema.specs.StructHandles.{IsStruct, generic_of, number_of, set_of}
use Rattle.capnp_schema.specs.Types.{ListType, SchemaType, StructType}
use Rattle.capnp_schema.specs.declared.schema.structs.StructSchema.{StructSchema}
use Rattle.capnp_records.specs.Call.{ElementAt, FieldNamed, FieldNumber, PathStep}
use Rattle.capnp_words.specs.Targets.{field_type, type_along, type_behind}

module _ (set : Schemas) (accepted : IsAccepted set) where
  field_names : (b i : ℕ) → b < length set.brands → IfSome (field_type set b i) (NamesEntries set)
  field_names b i inside = go (slice_get (fields_of set b) i) refl
    where
      go : (o : Option TypedField) → slice_get (fields_of set b) i ≡ o → IfSome (option_map (λ (f : TypedField). f.type) o) (NamesEntries set)
      go None e = tt {0}
      go (Some f) e =
          subst (λ (x : TypedField). NamesEntries set x.type) (ap (λ (o : Option TypedField). unwrap_or o no_field) e)
          (accepted.rule1.fields b i inside (slice_get_within (fields_of set b) i f e))

  named_field_names : (b : ℕ) (o : Option ℕ) → b < length set.brands → IfSome (option_and_then (field_type set b) o) (NamesEntries set)
  named_field_names b None inside = tt {0}
  named_field_names b (Some i) inside = field_names b i inside

  behind_names : (t : SchemaType) (s : PathStep) → NamesEntries set t → IfSome (type_behind set t s) (NamesEntries set)
  behind_names (StructType b g) (FieldNumber i) named = field_names b i named.0
  behind_names (StructType b g) (FieldNamed name) named = named_field_names b (field_named (records_of set b) name) named.0
  behind_names (StructType b g) (ElementAt i) named = tt {0}
  behind_names (ListType e) (ElementAt i) named = named
  behind_names (ListType e) (FieldNumber i) named = tt {0}
  behind_names (ListType e) (FieldNamed name) named = tt {0}
  behind_names t s named = tt {0}

  next_names : (o : Option SchemaType) (rest : SchemaType → Option SchemaType) → ((u : SchemaType) → NamesEntries set u → IfSome (rest u) (NamesEntries set)) → IfSome o (NamesEntries set)
      → IfSome (option_and_then rest o) (NamesEntries set)
  next_names None rest again named = tt {0}
  next_names (Some u) rest again named = again u named

  pub along_names : (t : SchemaType) (path : List PathStep) → NamesEntries set t → IfSome (type_along set t path) (NamesEntries set)
  along_names t [] named = named
  along_names t (s ∷ path) named = next_names (type_behind set t s) (λ u. type_along set u path) (λ u. along_names u path) (behind_names t s named)

-- a struct's own type does, where its schema is one of an accepted set
pub from_struct_names : (s : StructSchema) (path : List PathStep) → IsStruct s → IfSome (type_along (set_of s) (StructType (number_of s) (generic_of s)) path) (NamesEntries (set_of s))
from_struct_names s path stands = along_names (set_of s) stands.accepted (StructType (number_of s) (generic_of s)) path (stands.number, sym stands.generic)
