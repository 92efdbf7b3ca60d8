-- In an accepted set each field is found by its name, and the member of discriminant value 0 comes first.
use Rattle.std.proofs.Common.{bytes_eq, get_or, position, ℕ, zero, suc, ◌<◌, ◌≤◌, ◌≡◌, ◌&&◌, ◌==◌, refl, List, [], ◌∷◌, Bool, true, false, length, map, Some, arith, ap, sym, ◌∙◌}
use Rattle.std.specs.Option.{unwrap_or}
use Rattle.std.specs.List.{position_or_len}
use Rattle.std.proofs.Common.{slice_get}
use Rattle.std.proofs.lemmas.Bool.Decides.{nat_tests}
use Rattle.std.proofs.lemmas.Grind.{common_steps}
use Rattle.std.proofs.lemmas.List.{length-map}
use Rattle.std.proofs.lemmas.List.Sums.{position_or_len_is}
use Rattle.std.proofs.lemmas.Slice.Eq.{bytes_eq-Decides}
use Rattle.capnp_schema.specs.Accepted.{HasOwnName, IsAccepted}
use Rattle.capnp_schema.specs.Facts.Fields.{brand_there, of_node}
use Rattle.capnp_schema.specs.Query.{field_named, is_member_of, member_of, records_of}
use Rattle.capnp_schema.specs.Schema.{Field, Node, Schemas, TypedField, field_at, fields_of, is_member, no_field, node_of}
use Rattle.capnp_schema.proofs.FieldCounts.{few_fields_of}
use Rattle.capnp_records.specs.Facts.Members.{counted_from_member, counted_not_zero, field_get, once_from_members}

-- what is known of the fields of a set
pub record KnowsFields (set : Schemas) : Type 0 where
  pub few : (b : ℕ) → length (fields_of set b) ≤ 65535
  pub found : (b i : ℕ) → i < length (fields_of set b) → field_named (records_of set b) (field_at set b i).field.name ≡ Some i
  pub counted : (b i : ℕ) → i < length (fields_of set b) → is_member (field_at set b i).field ≡ true → ((node_of set b).discriminant_count == 0) ≡ false
  pub first : (b i : ℕ) → i < length (fields_of set b) → is_member (field_at set b i).field ≡ true → (field_at set b i).field.discriminant_value ≡ 0 → member_of (records_of set b) 0 ≡ Some i

first_position : (p : Field → Bool) (xs : List Field) (i : ℕ) (d : Field) → i < length xs → ((k : ℕ) → k < i → p (get_or xs k d) ≡ false) → p (get_or xs i d) ≡ true → position p xs ≡ Some i
first_position p xs i d inside before here =
    let at : position_or_len p xs ≡ i = position_or_len_is p xs i d (omega (arith, inside)) before (λ h. here) in
    rw at (grind (arith, common_steps))

record_here : (fs : List TypedField) (i : ℕ) → get_or (map (λ (f : TypedField). f.field) fs) i no_field.field ≡ (unwrap_or (slice_get fs i) no_field).field
record_here [] i = refl
record_here (f ∷ fs) zero = refl
record_here (f ∷ fs) (suc i) = record_here fs i

fails_unless : (q : Bool) → (q ≡ true → ⊥) → q ≡ false
fails_unless true h = absurd (h refl)
fails_unless false h = refl

both : (x y : Bool) → x && y ≡ true → (x ≡ true) × (y ≡ true)
both true true e = (refl, refl)
both true false e = (refl, e)
both false y e = let no : ⊥ = cc in absurd no

pub same_number : (m n : ℕ) → (m == n) ≡ true → m ≡ n
same_number m n e = grind (arith, nat_tests)

module _ (set : Schemas) (accepted : IsAccepted set) (b : ℕ) where
  -- the first field that passes, where one does and none else
  only_one : (p : Field → Bool) (i : ℕ) → i < length (fields_of set b) → p (field_at set b i).field ≡ true → ((k : ℕ) → k < length (fields_of set b) → p (field_at set b k).field ≡ true → k ≡ i) → position p (records_of set b) ≡ Some i
  only_one p i inside here only =
      first_position p (records_of set b) i no_field.field (let n = length-map (fields_of set b) (λ (f : TypedField). f.field) in omega (arith, n, inside))
      (λ k less. ap p (record_here (fields_of set b) k) ∙ fails_unless (p (field_at set b k).field) (λ e. let same = only k (omega (arith, less, inside)) e in absurd (omega (arith, same, less))))
      (ap p (record_here (fields_of set b) i) ∙ here)

  name_found : (i : ℕ) → i < length (fields_of set b) → field_named (records_of set b) (field_at set b i).field.name ≡ Some i
  name_found i inside =
      let names = of_node set accepted (λ (n : Node). (j : ℕ) → HasOwnName n.fields j) accepted.rule3.names b (brand_there set b i inside) in
      let name = (field_at set b i).field.name in
      only_one (λ (f : Field). bytes_eq f.name name) i inside ((bytes_eq-Decides name name).1 refl)
      (λ k within e. names k i (field_at set b k).field (field_at set b i).field (field_get set b k within) (field_get set b i inside) ((bytes_eq-Decides (field_at set b k).field.name name).0 e))

  first_found : (i : ℕ) → i < length (fields_of set b) → is_member (field_at set b i).field ≡ true → (field_at set b i).field.discriminant_value ≡ 0 → member_of (records_of set b) 0 ≡ Some i
  first_found i inside member is =
      only_one (is_member_of 0) i inside (rw (member, is) refl)
      (λ k within e.
      let parts = both (is_member (field_at set b k).field) ((field_at set b k).field.discriminant_value == 0) e in
      once_from_members set accepted b i k (brand_there set b i inside) inside within parts.0 (same_number (field_at set b k).field.discriminant_value 0 parts.1 ∙ sym is))

pub fields_known : (set : Schemas) → IsAccepted set → KnowsFields set
fields_known set accepted = record {
  few = few_fields_of set accepted.rule3;
  found = name_found set accepted;
  counted = λ b i inside member. counted_not_zero (node_of set b).discriminant_count (field_at set b i).field.discriminant_value (counted_from_member set accepted b i (brand_there set b i inside) inside member);
  first = first_found set accepted;
}
