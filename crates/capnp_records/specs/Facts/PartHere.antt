-- The part of a struct's record that a non-union field or the active member has.
use Rattle.std.proofs.Common.{ℕ, ◌<◌, ◌≡◌, ◌⊎◌, ◌∙◌, arith, ap, inl, inr, refl, sym, subst, Bool, true, false, ◌==◌, length, Some}
use Rattle.std.proofs.lemmas.Bool.{true≢false}
use Rattle.capnp_wire.specs.Tree.{StructTree}
use Rattle.capnp_schema.specs.Schema.{Schemas, TypedField, field_at, fields_of, is_member, node_of}
use Rattle.capnp_records.specs.Facts.Frame.{chosen_first, second_of}
use Rattle.capnp_records.specs.Facts.PartRead.{FoundActive, found_active, nth_plain_parts}
use Rattle.capnp_records.specs.Part.{active_value, is_active, nth_value, part_at, which_of}
use Rattle.capnp_records.specs.Reading.{active_among, discriminant, part_of, non_union_parts, struct_record, union_of, values_of}
use Rattle.capnp_records.specs.Record.{Active, Levels, NoUnion, Union, Unknown, Parts, Record, Value, Values}

-- a field is non-union, or the active member of a record
abbrev pub IsHere : Record → TypedField → ℕ → Type 0
IsHere r f i = (is_member f.field ≡ false) ⊎ (which_of r ≡ Some i)

some_same : {i j : ℕ} → Some i ≡ Some j → i ≡ j
some_same e = cc

active_same : (vs : Values) (u : Union) (i : ℕ) → which_of (Parts vs u) ≡ Some i → is_active u i ≡ true
active_same vs NoUnion i e = cc
active_same vs (Active j v) i e = let h : j ≡ i = some_same e in grind (arith, h)
active_same vs (Unknown number) i e = cc

module _ (set : Schemas) (l : Levels) (s : StructTree) (b i : ℕ) where
  abbrev f : TypedField
  f = field_at set b i

  abbrev v : TypedField → Value
  v = part_of set l s.bytes (values_of set s.pointers)

  abbrev union : Union
  union = union_of v (node_of set b) (fields_of set b) s.bytes

  active_part : is_active union i ≡ true → active_value union ≡ v f
  active_part is = counted ((node_of set b).discriminant_count == 0) refl
    where
      counted : (q : Bool) → ((node_of set b).discriminant_count == 0) ≡ q → active_value union ≡ v f
      counted true e = absurd (true≢false (sym is ∙ ap (λ u. is_active u i) (chosen_first ((node_of set b).discriminant_count == 0) NoUnion (active_among v (fields_of set b) 0 (discriminant (node_of set b) s.bytes)) e)))
      counted false e =
          let same : union ≡ active_among v (fields_of set b) 0 (discriminant (node_of set b) s.bytes) = second_of ((node_of set b).discriminant_count == 0) NoUnion (active_among v (fields_of set b) 0 (discriminant (node_of set b) s.bytes)) e in
          let found : FoundActive v (fields_of set b) i (discriminant (node_of set b) s.bytes) (active_among v (fields_of set b) 0 (discriminant (node_of set b) s.bytes)) =
          found_active v (fields_of set b) 0 i (discriminant (node_of set b) s.bytes) (subst (λ n. is_active (active_among v (fields_of set b) 0 (discriminant (node_of set b) s.bytes)) n ≡ true) (omega arith) (sym (ap (λ u. is_active u i) same) ∙ is)) in
          ap active_value same ∙ found.part_is

  pub part_here : i < length (fields_of set b) → IsHere (struct_record set l s b) f i → part_at (struct_record set l s b) f.field i ≡ v f
  part_here inside here = go (is_member f.field) refl here
    where
      go : (q : Bool) → is_member f.field ≡ q → IsHere (struct_record set l s b) f i → part_at (struct_record set l s b) f.field i ≡ v f
      go false plain here = second_of (is_member f.field) (active_value union) (nth_value (non_union_parts v (fields_of set b)) i) plain ∙ nth_plain_parts v (fields_of set b) i inside plain
      go true member (inl plain) = absurd (true≢false (sym member ∙ plain))
      go true member (inr which) =
          chosen_first (is_member f.field) (active_value union) (nth_value (non_union_parts v (fields_of set b)) i) member
          ∙ active_part (active_same (non_union_parts v (fields_of set b)) union i which)
