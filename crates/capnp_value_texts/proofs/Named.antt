-- Names of fields are in UTF-8, so what is not is the name of none.
use Rattle.std.proofs.Common.{◌≡◌, ℕ, zero, suc, ◌+◌, refl, List, [], ◌∷◌, Bool, true, false, cond, map, bytes_eq, slice_get, Option, Some, None, IsUtf8, sym, ◌∙◌, subst}
use Rattle.std.specs.List.{AllByRecursion, position_from}
use Rattle.std.specs.Option.{unwrap_or}
use Rattle.std.proofs.lemmas.Iterator.Adapters.{position_from-zero}
use Rattle.std.proofs.lemmas.Slice.Eq.{bytes_eq-Decides}
use Rattle.std.proofs.lemmas.Str.{IsUtf8-string_bytes}
use Rattle.capnp_schema.specs.FieldLists.{IsFound}
use Rattle.capnp_schema.specs.Query.{field_named}
use Rattle.capnp_schema.specs.Schema.{Field, TypedField, brand_at, no_node, node_of, seen_field, seen_node, typed_fields}
use Rattle.capnp_schema.specs.StructHandles.{number_of, set_of, struct_records}
use Rattle.capnp_schema.specs.Types.{SchemaType}
use Rattle.capnp_schema.specs.declared.record.FieldRecord.{FieldRecord}
use Rattle.capnp_schema.specs.declared.record.NodeRecord.{NodeRecord}
use Rattle.capnp_schema.specs.declared.schema.structs.StructSchema.{StructSchema}

-- ---- the names of a struct's fields ----

abbrev AreTexts : List Field → Type 0
AreTexts fs = AllByRecursion (λ (f : Field). IsUtf8 f.name) fs

of_records : (fs : List FieldRecord) → AreTexts (map seen_field fs)
of_records [] = tt
of_records (f ∷ fs) = (IsUtf8-string_bytes f.name, of_records fs)

of_nodes : (ns : List NodeRecord) (i : ℕ) → AreTexts (unwrap_or (slice_get (map seen_node ns) i) no_node).fields
of_nodes [] i = tt
of_nodes (n ∷ ns) zero = of_records n.body.fields.items
of_nodes (n ∷ ns) (suc i) = of_nodes ns i

typed : (fs : List Field) (ts : List SchemaType) → AreTexts fs → AreTexts (map (λ (f : TypedField). f.field) (typed_fields fs ts))
typed [] ts h = tt
typed (f ∷ fs) [] h = tt
typed (f ∷ fs) (t ∷ ts) h = (h.0, typed fs ts h.1)

of_struct : (s : StructSchema) → AreTexts (struct_records s)
of_struct s = typed (node_of (set_of s) (number_of s)).fields (brand_at (set_of s) (number_of s)).field_types (of_nodes s.schemas.now.nodes.items (brand_at (set_of s) (number_of s)).node)

-- ---- what is none ----

module _ (name : List ℕ) (absent : IsUtf8 name → ⊥) where
  differs : (bs : List ℕ) (q : Bool) → q ≡ bytes_eq bs name → IsUtf8 bs → q ≡ false
  differs bs false e h = refl
  differs bs true e h = absurd (absent (subst IsUtf8 ((bytes_eq-Decides bs name).0 (sym e)) h))

  past : (q : Bool) (i : ℕ) (rest : Option ℕ) → q ≡ false → cond q (Some i) rest ≡ rest
  past true i rest e = cc
  past false i rest e = refl

  none_from : (fs : List Field) (i : ℕ) → AreTexts fs → position_from (λ (f : Field). bytes_eq f.name name) i fs ≡ None
  none_from [] i h = refl
  none_from (f ∷ fs) i h = past (bytes_eq f.name name) i (position_from (λ (g : Field). bytes_eq g.name name) (i + 1) fs) (differs f.name (bytes_eq f.name name) refl h.0) ∙ none_from fs (i + 1) h.1

pub none_named : (s : StructSchema) (name : List ℕ) → (IsUtf8 name → ⊥) → IsFound s (field_named (struct_records s) name) None
none_named s name absent =
    subst (λ (o : Option ℕ). IsFound s o None)
    (sym (position_from-zero (λ (f : Field). bytes_eq f.name name) (struct_records s) ∙ none_from name absent (struct_records s) 0 (of_struct s))) (tt {0})
