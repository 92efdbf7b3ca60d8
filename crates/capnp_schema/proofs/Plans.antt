-- The plan of each field of an accepted set stands for the field's footprint, slot value and discriminant.
use Rattle.std.proofs.Common.{ℕ, zero, suc, ◌*◌, ◌<◌, ◌≡◌, refl, List, Bool, true, false, ◌&&◌, ◌==◌, nat_lt, IsTrue, IsFalse, IfSome, IfNone, length, bit_xor, arith, ap, sym, ◌∙◌}
use Rattle.capnp_schema.specs.Types.{SchemaType, VoidType, BoolType, IntType, UIntType, EnumType, TextType, DataType, StructType, ListType, AnyPointerType, is_pointer, width}
use Rattle.capnp_schema.specs.Schema.{Schemas, Node, Field, FieldKind, Slot, Group, Value, node_of, fields_of, field_at, is_member}
use Rattle.capnp_schema.specs.Footprint.{Spot, DataBit, PointerAt, is_in, slot_names, kind_names, brand_names, discriminant_names, footprint}
use Rattle.capnp_schema.specs.Accepted.{IsAccepted, DiscriminantFits, GroupFits, IsGroupOf}
use Rattle.capnp_schema.specs.SlotValue.{bits_at, default_bits}
use Rattle.capnp_schema.specs.Laws.{struct_spots}
use Rattle.capnp_schema.specs.Plan.{LiesInNode, IsPlan, HasSlotNumber, data_place, slot_place, plan_place, place_names, place_number, member_plan, plan_of, discriminant_bits}
use Rattle.capnp_schema.specs.Ranges.{HasRanges}
use Rattle.capnp_schema.specs.Facts.Groups.{group_names_its_parts}
use Rattle.capnp_schema.specs.Facts.Fields.{of_node, member_counted}
use Rattle.capnp_schema.proofs.PlanFits.{is_discriminant, is_slot_place, plan_fits}

pub lies_in_node : (set : Schemas) → IsAccepted set → (b i : ℕ) → b < length set.brands → i < length (fields_of set b) → LiesInNode (node_of set b) (field_at set b i)
lies_in_node set accepted b i b_in i_in = record {
  slot = accepted.rule4 b i b_in i_in;
  discriminant = λ member. of_node set accepted DiscriminantFits accepted.rule10 b b_in (omega (arith, member_counted set accepted b i b_in i_in member));
}

-- ---- slots ----

-- a type that stands behind a pointer has no bits
pointer_width : (t : SchemaType) → is_pointer t ≡ true → width t ≡ 0
pointer_width VoidType e = refl
pointer_width BoolType e = cc
pointer_width (IntType bytes) e = cc
pointer_width (UIntType bytes) e = cc
pointer_width (EnumType number) e = cc
pointer_width TextType e = refl
pointer_width DataType e = refl
pointer_width (StructType number generic) e = refl
pointer_width (ListType element) e = refl
pointer_width AnyPointerType e = refl

no_bits : (first i : ℕ) → false ≡ is_in first 0 i
no_bits first i = grind arith

data_names : (set : Schemas) (bits offset : ℕ) (default : Value) (i : ℕ) → place_names set (data_place bits offset default) (DataBit i) ≡ is_in (offset * bits) bits i
data_names set zero offset default i = no_bits (offset * 0) i
data_names set (suc bits) offset default i = refl

data_names_pointer : (set : Schemas) (bits offset : ℕ) (default : Value) (i : ℕ) → place_names set (data_place bits offset default) (PointerAt i) ≡ false
data_names_pointer set zero offset default i = refl
data_names_pointer set (suc bits) offset default i = refl

slot_place_names : (set : Schemas) (t : SchemaType) (offset : ℕ) (default : Value) (q : Bool) → is_pointer t ≡ q → (p : Spot) → place_names set (slot_place q (width t) offset default) p ≡ slot_names offset t p
slot_place_names set t offset default true e (DataBit i) = no_bits (offset * 0) i ∙ ap (λ bits. is_in (offset * bits) bits i) (sym (pointer_width t e))
slot_place_names set t offset default true e (PointerAt i) = ap (λ q. q && (i == offset)) (sym e)
slot_place_names set t offset default false e (DataBit i) = data_names set (width t) offset default i
slot_place_names set t offset default false e (PointerAt i) = data_names_pointer set (width t) offset default i ∙ ap (λ q. q && (i == offset)) (sym e)

plan_names : (set : Schemas) → IsAccepted set → (b i : ℕ) → b < length set.brands → i < length (fields_of set b) → (p : Spot) →
    place_names set (plan_of set b (field_at set b i)).place p ≡ footprint set (field_at set b i) p
plan_names set accepted b i b_in i_in p = go (field_at set b i).field.kind (field_at set b i).type (accepted.rule7 b i b_in i_in) (λ g h. group_names_its_parts set accepted b i g p b_in i_in h)
  where
    names : FieldKind → SchemaType → Bool
    names k t = kind_names (brand_names (length set.brands) set) k t p

    go : (k : FieldKind) (t : SchemaType) → GroupFits set k t → ((g : ℕ) → IsGroupOf k t g → names k t ≡ struct_spots set g p) → place_names set (plan_place k t) p ≡ names k t
    go (Slot offset default) t fits h = slot_place_names set t offset default (is_pointer t) refl p
    go (Group node) (StructType number generic) fits h = sym (h number refl)
    go (Group node) t fits h = absurd fits

plan_place_number : (k : FieldKind) (t : SchemaType) → HasSlotNumber k t (plan_place k t)
plan_place_number (Group node) t = tt
plan_place_number (Slot offset default) t = λ bytes some. go bytes (is_pointer t) refl (width t) refl some
  where
    go : (bytes : List ℕ) (q : Bool) → is_pointer t ≡ q → (bits : ℕ) → width t ≡ bits → 0 < bits → place_number bytes (slot_place q bits offset default) ≡ bit_xor (bits_at bytes (offset * bits) bits) (default_bits default)
    go bytes true e bits w some = absurd (omega (arith, pointer_width t e))
    go bytes false e zero w some = absurd (omega arith)
    go bytes false e (suc bits) w some = refl

-- ---- members ----

counted : (n d : ℕ) → d < n → nat_lt 0 n ≡ true
counted n d a = grind arith

discriminant_named : (n : Node) (d : ℕ) → d < n.discriminant_count → (p : Spot) → discriminant_bits (16 * n.discriminant_offset) p ≡ discriminant_names n p
discriminant_named n d a (DataBit i) = ap (λ q. q && is_in (16 * n.discriminant_offset) 16 i) (sym (counted n.discriminant_count d a))
discriminant_named n d a (PointerAt i) = refl

pub plans_stand : (set : Schemas) → IsAccepted set → HasRanges set → (b i : ℕ) → b < length set.brands → i < length (fields_of set b) →
    LiesInNode (node_of set b) (field_at set b i) × IsPlan set b (field_at set b i) (plan_of set b (field_at set b i))
plans_stand set accepted ranges b i b_in i_in = (
  lies,
  record {
    names = plan_names set accepted b i b_in i_in;
    number = plan_place_number (field_at set b i).field.kind (field_at set b i).type;
    member = some (is_member (field_at set b i).field) refl;
    non_union = none (is_member (field_at set b i).field) refl;
    slot = is_slot_place f.kind (field_at set b i).type (ranges.types b i b_in i_in) (ranges.masks b i b_in i_in);
    discriminant = is_discriminant (is_member f) n f (ranges.discriminant_values b i b_in i_in);
    fits = λ s size. plan_fits n s size (field_at set b i) lies;
  },
)
  where
    lies : LiesInNode (node_of set b) (field_at set b i)
    lies = lies_in_node set accepted b i b_in i_in

    n : Node
    n = node_of set b

    f : Field
    f = (field_at set b i).field

    some : (q : Bool) → is_member f ≡ q → IfSome (member_plan q n f) (λ m. IsTrue (is_member f) × (m.1 ≡ f.discriminant_value) × ((p : Spot) → discriminant_bits m.0 p ≡ discriminant_names n p))
    some true e = (e, refl, discriminant_named n f.discriminant_value (member_counted set accepted b i b_in i_in e))
    some false e = tt

    none : (q : Bool) → is_member f ≡ q → IfNone (member_plan q n f) (IsFalse (is_member f))
    none true e = tt
    none false e = e
