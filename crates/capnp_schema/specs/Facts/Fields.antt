-- Fields of brands: what holds of all entries of a list holds of one, and a field shows that its brand is there.
use Rattle.std.proofs.Common.{ℕ, zero, suc, ◌<◌, ◌≤◌, ◌≡◌, refl, List, [], ◌∷◌, IsTrue, All, Option, Some, length, slice_get, arith, ap, subst, ◌∙◌, ⊎_elim}
use Rattle.std.specs.Option.{unwrap_or}
use Rattle.std.proofs.lemmas.Bool.{cases_lt}
use Rattle.std.proofs.lemmas.Option.{get_or_from_slice_get, slice_get_past, slice_get_within}
use Rattle.capnp_schema.specs.Types.{SchemaType}
use Rattle.capnp_schema.specs.Schema.{Schemas, Node, Brand, Field, TypedField, no_node, no_brand, no_field, typed_fields, brand_at, node_of, fields_of, field_at, is_member}
use Rattle.capnp_schema.specs.Accepted.{IsAccepted, HasEachMember}

pub typed_nothing : (fs : List Field) → typed_fields fs [] ≡ []
typed_nothing [] = refl
typed_nothing (f ∷ fs) = refl

-- ---- entries ----

pub entry_some : {A : Type 0} (xs : List A) (i : ℕ) (none : A) → i < length xs → slice_get xs i ≡ Some (unwrap_or (slice_get xs i) none)
entry_some [] i none a = absurd (omega arith)
entry_some (x ∷ xs) zero none a = refl
entry_some (x ∷ xs) (suc i) none a = entry_some xs i none (omega arith)

pub All_entry : {A : Type 0} (P : A → Type 0) (xs : List A) (i : ℕ) (x : A) → All P xs → slice_get xs i ≡ Some x → P x
All_entry P xs i x all e = subst P (get_or_from_slice_get xs i x x e) (all i x (slice_get_within xs i x e))

-- what holds of all nodes holds of a brand's
pub of_node : (set : Schemas) → IsAccepted set → (P : Node → Type 0) → All P set.nodes → (b : ℕ) → b < length set.brands → P (node_of set b)
of_node set accepted P all b b_in =
    All_entry P set.nodes (brand_at set b).node (node_of set b) all (entry_some set.nodes (brand_at set b).node no_node (accepted.rule2.brands b b_in).node)

pub typed_field : (fs : List Field) (ts : List SchemaType) (i : ℕ) → i < length (typed_fields fs ts) → slice_get fs i ≡ Some (unwrap_or (slice_get (typed_fields fs ts) i) no_field).field
typed_field [] ts i a = absurd (omega arith)
typed_field (f ∷ fs) [] i a = absurd (omega arith)
typed_field (f ∷ fs) (t ∷ ts) zero a = refl
typed_field (f ∷ fs) (t ∷ ts) (suc i) a = typed_field fs ts i (omega arith)

-- what holds of all fields of a node holds of a brand's
pub of_field : (P : Field → Type 0) (set : Schemas) (b i : ℕ) → i < length (fields_of set b) → All P (node_of set b).fields → P (field_at set b i).field
of_field P set b i i_in all = All_entry P (node_of set b).fields i (field_at set b i).field all (typed_field (node_of set b).fields (brand_at set b).field_types i i_in)

-- a struct with a member has a union
pub member_counted : (set : Schemas) → IsAccepted set → (b i : ℕ) → b < length set.brands → i < length (fields_of set b) → IsTrue (is_member (field_at set b i).field) →
    (field_at set b i).field.discriminant_value < (node_of set b).discriminant_count
member_counted set accepted b i b_in i_in member =
    (of_node set accepted HasEachMember accepted.rule9 b b_in).apart.below i (field_at set b i).field (typed_field (node_of set b).fields (brand_at set b).field_types i i_in) member

-- a field of a brand shows that the brand is there
pub brand_there : (set : Schemas) (b i : ℕ) → i < length (fields_of set b) → b < length set.brands
brand_there set b i h = ⊎_elim (λ inside. inside) (λ past. absurd (none past)) (cases_lt b (length set.brands))
  where
    none : length set.brands ≤ b → ⊥
    none past =
        let gone : brand_at set b ≡ (no_brand set) = ap (λ (o : Option Brand). unwrap_or o (no_brand set)) (slice_get_past set.brands b past) in
        let empty : fields_of set b ≡ [] = ap (λ (x : Brand). typed_fields (node_of set b).fields x.field_types) gone ∙ typed_nothing (node_of set b).fields in
        let count = ap (λ (l : List TypedField). length l) empty in
        absurd (omega arith)
