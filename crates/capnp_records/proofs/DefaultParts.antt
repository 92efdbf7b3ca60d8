-- The default record has each field at its default.
use Rattle.capnp_schema.specs.Facts.Groups.{group_fields_name_brands}
use Rattle.std.proofs.Common.{ℕ, ◌*◌, ◌<◌, ◌≡◌, refl, [], false, ◌==◌, length, bit_xor, arith, ap, sym, ◌∙◌}
use Rattle.std.specs.Int.Bits.{xor_zero_l}
use Rattle.capnp_wire.specs.Tree.{empty_struct}
use Rattle.capnp_schema.specs.Schema.{FieldKind, Group, Schemas, Slot, TypedField, field_at, fields_of, node_of}
use Rattle.capnp_schema.specs.SlotValue.{default_bits}
use Rattle.capnp_schema.specs.Accepted.{IsAccepted}
use Rattle.capnp_schema.specs.Types.{SchemaType, is_pointer, struct_number, width}
use Rattle.capnp_records.specs.Facts.Frame.{active_among_found, either_same, second_of}
use Rattle.capnp_records.specs.Facts.GroupWrite.{bits_at_empty}
use Rattle.capnp_records.specs.Facts.Groups.{part_of_group}
use Rattle.capnp_records.specs.Facts.Members.{counted_from_member, counted_not_zero, once_from_members}
use Rattle.capnp_records.specs.Facts.PartRead.{can_enter}
use Rattle.capnp_records.specs.Laws.{DefaultPartsStand, FirstMemberIsActive, default_part}
use Rattle.capnp_records.specs.Part.{which_of}
use Rattle.capnp_records.specs.Reading.{active_among, number_value, part_of, non_union_parts, union_of}
use Rattle.capnp_records.specs.Record.{Active, Endless, Parts, Union, Value}

-- what a field has of a struct of size zero
default_kind : (set : Schemas) → IsAccepted set → (b i : ℕ) → b < length set.brands → i < length (fields_of set b) → (k : FieldKind) → (field_at set b i).field.kind ≡ k →
    part_of set Endless [] [] (field_at set b i) ≡ default_part set k (field_at set b i).type
default_kind set accepted b i b_in i_in (Slot offset d) e = rw e (
    either_same (is_pointer t) _ _ _ _ (λ _. refl)
    (λ _. ap (λ n. number_value t (bit_xor n (default_bits d))) (bits_at_empty (offset * width t) (width t)) ∙ ap (number_value t) (xor_zero_l (default_bits d))))
  where
    t : SchemaType
    t = (field_at set b i).type
default_kind set accepted b i b_in i_in (Group node) e = part_of_group set accepted Endless [] [] b i (struct_number (field_at set b i).type) b_in i_in (group_fields_name_brands set accepted b i node b_in i_in e)

pub default_parts_stand : DefaultPartsStand
default_parts_stand set accepted b i b_in i_in active = (can_enter set empty_struct b i i_in active).part ∙ default_kind set accepted b i b_in i_in (field_at set b i).field.kind refl

pub first_is_active : FirstMemberIsActive
first_is_active set accepted b i b_in i_in member zero = ap (λ (u : Union). which_of (Parts (non_union_parts v (fields_of set b)) u)) union
  where
    v : TypedField → Value
    v = part_of set Endless [] []

    counted : ((node_of set b).discriminant_count == 0) ≡ false
    counted = counted_not_zero _ _ (counted_from_member set accepted b i b_in i_in member)

    union : union_of v (node_of set b) (fields_of set b) [] ≡ Active i (v (field_at set b i))
    union = second_of ((node_of set b).discriminant_count == 0) _ _ counted
        ∙ (ap (active_among v (fields_of set b) 0) (bits_at_empty (16 * (node_of set b).discriminant_offset) 16)
        ∙ (active_among_found v (fields_of set b) 0 i 0 i_in member zero (λ j j_in other e. once_from_members set accepted b i j b_in i_in j_in other (e ∙ sym zero))
        ∙ ap (λ n. Active n (v (field_at set b i))) (omega arith)))
