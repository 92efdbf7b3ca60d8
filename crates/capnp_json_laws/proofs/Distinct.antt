-- Fields without names of their own in JSON have distinct names in an accepted set.
use Rattle.std.proofs.Common.{◌≡◌, ℕ, zero, suc, ◌≤◌, ◌==◌, ◌||◌, inl, inr, Bool, true, false, List, [], ◌∷◌, length, map, slice_get, Some, None, refl, ap, sym, ◌∙◌, arith}
use Rattle.std.specs.Option.{unwrap_or}
use Rattle.std.proofs.lemmas.Bool.{cases_lt}
use Rattle.std.proofs.lemmas.Option.{slice_get_past}
use Rattle.capnp_schema.specs.Accepted.{HasOwnName, IsAccepted}
use Rattle.capnp_schema.specs.Facts.Fields.{of_node}
use Rattle.capnp_schema.specs.Schema.{Annotation, Field, Node, Schemas, TypedField, brand_at, no_brand, no_node, node_at, node_of, typed_fields}
use Rattle.capnp_schema.specs.Types.{SchemaType}
use Rattle.capnp_json_fields.specs.Marks.{is_annotated}
use Rattle.capnp_json_fields.specs.Names.{field_name, last_text, name_id, text_if}
use Rattle.capnp_json_laws.specs.Distinct.{PlainNamesAreDistinct}

neither : (a b : Bool) → (a || b) ≡ false → (a ≡ false) × (b ≡ false)
neither true b e = let no : ⊥ = cc in absurd no
neither false b e = (refl, e)

pub own_text : (id : ℕ) (name : List ℕ) (annotations : List Annotation) → is_annotated id annotations ≡ false → last_text id name annotations ≡ name
own_text id name [] h = refl
own_text id name (a ∷ rest) h =
    let none = neither (a.id == id) (is_annotated id rest) h in
    ap (λ q. last_text id (text_if q name a.value) rest) none.0 ∙ own_text id name rest none.1

pub own_name : (f : Field) → is_annotated name_id f.annotations ≡ false → field_name f ≡ f.name
own_name f h = own_text name_id f.name f.annotations h

-- a brand's field is its node's
pub of_its_node : (fs : List Field) (ts : List SchemaType) (i : ℕ) (f : Field) → slice_get (map (λ (x : TypedField). x.field) (typed_fields fs ts)) i ≡ Some f → slice_get fs i ≡ Some f
of_its_node [] ts i f e = let no : ⊥ = cc in absurd no
of_its_node (g ∷ fs) [] i f e = let no : ⊥ = cc in absurd no
of_its_node (g ∷ fs) (t ∷ ts) zero f e = e
of_its_node (g ∷ fs) (t ∷ ts) (suc i) f e = of_its_node fs ts i f e

-- past the brands there are no fields
past_brands : (set : Schemas) (b : ℕ) → length set.brands ≤ b → (node_of set b).fields ≡ []
past_brands set b past =
    ap (λ o. (node_at set (unwrap_or o (no_brand set)).node).fields) (slice_get_past set.brands b past)
    ∙ ap (λ o. (unwrap_or o no_node).fields) (slice_get_past set.nodes (length set.nodes) (omega arith))

pub fields_apart : (set : Schemas) → IsAccepted set → (b i j : ℕ) (f g : Field) → slice_get (node_of set b).fields i ≡ Some f → slice_get (node_of set b).fields j ≡ Some g → f.name ≡ g.name → i ≡ j
fields_apart set accepted b i j f g at_i at_j same = elim (cases_lt b (length set.brands)) [
  | inl inside ↦ of_node set accepted (λ (n : Node). (k : ℕ) → HasOwnName n.fields k) accepted.rule3.names b inside i j f g at_i at_j same
  | inr past ↦
      let gone : None ≡ Some f = ap (λ (xs : List Field). slice_get xs i) (sym (past_brands set b past)) ∙ at_i in
      let no : ⊥ = cc in absurd no
]

pub plain_names : PlainNamesAreDistinct
plain_names set accepted plain enumerants = record {
  fields = λ b i j f g at_i at_j same.
      fields_apart set accepted b i j f g (of_its_node (node_of set b).fields (brand_at set b).field_types i f at_i) (of_its_node (node_of set b).fields (brand_at set b).field_types j g at_j)
      (sym (own_name f (plain b i f at_i)) ∙ same ∙ own_name g (plain b j g at_j));
  enumerants = enumerants;
}
