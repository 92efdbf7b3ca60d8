-- The active member of a struct whose members have discriminant values from 0 on, by the number at the discriminant's place.
use Rattle.std.proofs.Common.{ℕ, ◌+◌, ◌<◌, ◌≤◌, ◌≡◌, ◌≢◌, ◌∙◌, suc, zero, arith, ap, refl, sym, Bool, true, false, ◌==◌, List, [], ◌∷◌, Option, Some, None}
use Rattle.std.proofs.lemmas.Bool.{eqb-true, true≢false}
use Rattle.std.specs.Prelude.{◌&&◌}
use Rattle.capnp_wire.specs.Standing.{struct_levels, struct_of}
use Rattle.capnp_wire.specs.declared.struct_reader.StructReader.{StructReader}
use Rattle.capnp_schema.specs.Schema.{Schemas, TypedField, fields_of, is_member, node_of}
use Rattle.capnp_schema.specs.SlotValue.{bits_at}
use Rattle.capnp_records.specs.Facts.Frame.{second_of}
use Rattle.capnp_records.specs.Part.{which_of}
use Rattle.capnp_records.specs.Reading.{active_among, discriminant, non_union_parts, part_of, values_of}
use Rattle.capnp_records.specs.Record.{Active, Left, NoUnion, Parts, Union, Value, Values}
use Rattle.capnp_known.specs.Known.{record_in}
use Rattle.capnp_known.specs.Members.{AreNumbered, ArePlainThenNumbered, HasMembers}

differs : (a b : ℕ) → a ≢ b → (b == a) ≡ false
differs a b h = go (b == a) refl
  where
    go : (q : Bool) → (b == a) ≡ q → (b == a) ≡ false
    go true e = absurd (h (sym (eqb-true b a e)))
    go false e = e

itself : (j : ℕ) → (j == j) ≡ true
itself j = grind arith

module _ (part : TypedField → Value) (vs : Values) (number : ℕ) where
  abbrev which : List TypedField → ℕ → Option ℕ
  which fs k = which_of (Parts vs (active_among part fs k number))

  abbrev union_among : TypedField → List TypedField → ℕ → Bool → Union
  union_among f fs k q = elim q as (λ _. Union) [ true ↦ Active k (part f) | false ↦ active_among part fs (suc k) number ]

  tested : (k : ℕ) (f : TypedField) → is_member f.field ≡ true → f.field.discriminant_value ≡ k → (is_member f.field && (f.field.discriminant_value == number)) ≡ (k == number)
  tested k f is value = ap (λ q. q && (f.field.discriminant_value == number)) is ∙ ap (λ d. d == number) value

  -- the field at an index j has the discriminant value k
  numbered_here : (fs : List TypedField) (k count j : ℕ) → AreNumbered k count fs → k ≤ number → number < k + count → (i : ℕ) → j + number ≡ k + i → which fs j ≡ Some i
  numbered_here [] k count j are low high i e = absurd (omega (arith, are, low, high))
  numbered_here (f ∷ fs) k zero j are low high i e = absurd are
  numbered_here (f ∷ fs) k (suc count) j are low high i e =
      ap (λ q. which_of (Parts vs (union_among f fs j q))) (tested k f are.0 are.1.0)
      ∙ go (k == number) refl (λ other. numbered_here fs (suc k) count (suc j) are.1.1 (omega (arith, low, other)) (omega (arith, high)) i (omega (arith, e)))
    where
      go : (q : Bool) → (k == number) ≡ q → (k ≢ number → which fs (suc j) ≡ Some i) → which_of (Parts vs (union_among f fs j q)) ≡ Some i
      go true is rest = let same : j ≡ i = omega (arith, eqb-true k number is, e) in ap (λ n. Some n) same
      go false is rest = rest (λ h. true≢false (sym (itself k) ∙ (ap (λ n. k == n) h ∙ is)))

  numbered_past : (fs : List TypedField) (k count j : ℕ) → AreNumbered k count fs → k + count ≤ number → which fs j ≡ None
  numbered_past [] k count j are past = refl
  numbered_past (f ∷ fs) k zero j are past = absurd are
  numbered_past (f ∷ fs) k (suc count) j are past =
      ap (λ q. which_of (Parts vs (union_among f fs j q))) (tested k f are.0 are.1.0 ∙ differs number k (λ h. omega (arith, past, h)))
      ∙ numbered_past fs (suc k) count (suc j) are.1.1 (omega (arith, past))

  -- fields that are no members are passed over
  plain_here : (fs : List TypedField) (first count j : ℕ) → ArePlainThenNumbered first count fs → number < count → (i : ℕ) → j + (first + number) ≡ i → which fs j ≡ Some i
  plain_here fs zero count j are high i e = numbered_here fs 0 count j are (omega arith) (omega (arith, high)) i (omega (arith, e))
  plain_here [] (suc first) count j are high i e = absurd are
  plain_here (f ∷ fs) (suc first) count j are high i e =
      ap (λ q. which_of (Parts vs (union_among f fs j (q && (f.field.discriminant_value == number))))) are.0
      ∙ plain_here fs first count (suc j) are.1 high i (omega (arith, e))

  plain_past : (fs : List TypedField) (first count j : ℕ) → ArePlainThenNumbered first count fs → count ≤ number → which fs j ≡ None
  plain_past fs zero count j are past = numbered_past fs 0 count j are (omega (arith, past))
  plain_past [] (suc first) count j are past = absurd are
  plain_past (f ∷ fs) (suc first) count j are past =
      ap (λ q. which_of (Parts vs (union_among f fs j (q && (f.field.discriminant_value == number))))) are.0
      ∙ plain_past fs first count (suc j) are.1 past

-- ---- the same of a struct ----

module _ (set : Schemas) (s : StructReader) (b place first count number : ℕ) (has : HasMembers set b place first count) (e : number ≡ bits_at (struct_of s).bytes place 16) where
  abbrev part : TypedField → Value
  part = part_of set (Left (struct_levels s)) (struct_of s).bytes (values_of set (struct_of s).pointers)

  abbrev plain : Values
  plain = non_union_parts part (fields_of set b)

  abbrev number_there : ℕ
  number_there = discriminant (node_of set b) (struct_of s).bytes

  is_number : number_there ≡ number
  is_number = ap (λ n. bits_at (struct_of s).bytes n 16) has.1.0 ∙ sym e

  by_number : which_of (record_in set b s) ≡ which_of (Parts plain (active_among part (fields_of set b) 0 number))
  by_number =
      ap (λ u. which_of (Parts plain u))
      (second_of ((node_of set b).discriminant_count == 0) NoUnion (active_among part (fields_of set b) 0 number_there) has.0
      ∙ ap (active_among part (fields_of set b) 0) is_number)

  pub member_here : number < count → which_of (record_in set b s) ≡ Some (first + number)
  member_here high = by_number ∙ plain_here part plain number (fields_of set b) first count 0 has.1.1 high (first + number) (omega arith)

  pub member_past : count ≤ number → which_of (record_in set b s) ≡ None
  member_past low = by_number ∙ plain_past part plain number (fields_of set b) first count 0 has.1.1 low
