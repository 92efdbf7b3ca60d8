-- A field that isn't an inactive member has the part of the record that its bits and pointer read as, on any levels.
use Rattle.std.proofs.Common.{ℕ, ◌<◌, ◌≡◌, refl, Bool, true, false, not, ◌&&◌, ◌==◌, length, arith, ap, sym, subst, ◌∙◌}
use Rattle.std.proofs.lemmas.Bool.{true≢false}
use Rattle.capnp_wire.specs.Tree.{StructTree}
use Rattle.capnp_schema.specs.Schema.{Schemas, TypedField, field_at, fields_of, is_member, node_of}
use Rattle.capnp_records.specs.Facts.Frame.{chosen_first, second_of}
use Rattle.capnp_records.specs.Facts.PartRead.{FoundActive, found_active, nth_plain_parts}
use Rattle.capnp_records.specs.Reading.{active_among, discriminant, part_of, struct_record, union_of, values_of}
use Rattle.capnp_records.specs.Record.{Levels, NoUnion, Union, Value}
use Rattle.capnp_records.specs.Part.{active_value, is_active, is_inactive, part_at}

pub part_is : (set : Schemas) (l : Levels) (s : StructTree) (b i : ℕ) → i < length (fields_of set b) → is_inactive (struct_record set l s b) (field_at set b i).field i ≡ false →
    part_at (struct_record set l s b) (field_at set b i).field i ≡ part_of set l s.bytes (values_of set s.pointers) (field_at set b i)
part_is set l s b i i_in active = go (is_member f.field) refl
  where
    f : TypedField
    f = field_at set b i

    v : TypedField → Value
    v = part_of set l s.bytes (values_of set s.pointers)

    union : Union
    union = union_of v (node_of set b) (fields_of set b) s.bytes

    go : (q : Bool) → is_member f.field ≡ q → part_at (struct_record set l s b) f.field i ≡ v f
    go false plain = second_of (is_member f.field) _ _ plain ∙ nth_plain_parts v (fields_of set b) i i_in plain
    go true member = counted ((node_of set b).discriminant_count == 0) refl
      where
        is : is_active union i ≡ true
        is = not_not (is_active union i) (subst (λ q. (q && not (is_active union i)) ≡ false) member active)
          where
            not_not : (x : Bool) → (true && not x) ≡ false → x ≡ true
            not_not true e = refl
            not_not false e = absurd (true≢false e)

        counted : (q : Bool) → ((node_of set b).discriminant_count == 0) ≡ q → part_at (struct_record set l s b) f.field i ≡ v f
        counted true e = absurd (true≢false (sym is ∙ ap (λ u. is_active u i) (chosen_first ((node_of set b).discriminant_count == 0) NoUnion _ e)))
        counted false e =
            let same : union ≡ active_among v (fields_of set b) 0 (discriminant (node_of set b) s.bytes) = second_of ((node_of set b).discriminant_count == 0) _ _ e in
            let found : FoundActive v (fields_of set b) i (discriminant (node_of set b) s.bytes) (active_among v (fields_of set b) 0 (discriminant (node_of set b) s.bytes)) =
            found_active v (fields_of set b) 0 i (discriminant (node_of set b) s.bytes) (subst (λ n. is_active (active_among v (fields_of set b) 0 (discriminant (node_of set b) s.bytes)) n ≡ true) (omega arith) (sym (ap (λ u. is_active u i) same) ∙ is)) in
            chosen_first (is_member f.field) _ _ member ∙ (ap active_value same ∙ found.part_is)
