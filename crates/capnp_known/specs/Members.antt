-- Structs whose members stand one after another, with discriminant values from 0 on.
use Rattle.std.specs.Prelude.{ℕ, ◌≡◌, ◌*◌, ◌==◌, List, [], ◌∷◌, true, false, zero, suc}
use Rattle.capnp_schema.specs.Schema.{Schemas, TypedField, fields_of, is_member, node_of}

-- members whose discriminant values count on from a number, so many of them
abbrev pub AreNumbered : ℕ → ℕ → List TypedField → Type 0
AreNumbered k count [] = count ≡ 0
AreNumbered k zero (f ∷ fs) = ⊥
AreNumbered k (suc count) (f ∷ fs) = (is_member f.field ≡ true) × ((f.field.discriminant_value ≡ k) × AreNumbered (suc k) count fs)

-- so many fields that are no members, and then the members
abbrev pub ArePlainThenNumbered : ℕ → ℕ → List TypedField → Type 0
ArePlainThenNumbered zero count fs = AreNumbered 0 count fs
ArePlainThenNumbered (suc first) count [] = ⊥
ArePlainThenNumbered (suc first) count (f ∷ fs) = (is_member f.field ≡ false) × ArePlainThenNumbered first count fs

-- the union of a brand's node has these members and no others, and its discriminant at a place in bits
abbrev pub HasMembers : Schemas → ℕ → ℕ → ℕ → ℕ → Type 0
HasMembers set b place first count =
    (((node_of set b).discriminant_count == 0) ≡ false) × ((16 * (node_of set b).discriminant_offset ≡ place) × ArePlainThenNumbered first count (fields_of set b))
