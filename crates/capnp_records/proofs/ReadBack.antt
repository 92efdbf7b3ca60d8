-- What is read after a write of a field.
use Rattle.std.proofs.Common.{ℕ, ◌<◌, ◌≡◌, refl, Bool, true, false, not, ◌&&◌, ◌||◌, Some, length, ap, ap₂, sym, subst, ◌∙◌}
use Rattle.std.proofs.lemmas.Bool.{true≢false}
use Rattle.std.specs.Int.Bits.{xor_zero_l}
use Rattle.capnp_wire.specs.Tree.{Null, StructTree}
use Rattle.capnp_schema.specs.Accepted.{IsGroupOf}
use Rattle.capnp_schema.specs.Facts.Groups.{group_fields_name_brands, group_in_set, group_names_its_parts, is_shallow}
use Rattle.capnp_schema.specs.Footprint.{Spot, discriminant_names, footprint}
use Rattle.capnp_schema.specs.Laws.{struct_spots}
use Rattle.capnp_schema.specs.Schema.{Field, FieldKind, Group, Schemas, Slot, TypedField, default_of, field_at, fields_of, is_member, kind_default, node_of, Value as SchemaValue}
use Rattle.capnp_schema.specs.SlotValue.{default_bits}
use Rattle.capnp_schema.specs.Types.{AnyPointerType, BoolType, DataType, EnumType, IntType, ListType, SchemaType, StructType, TextType, UIntType, VoidType, is_pointer, struct_number}
use Rattle.capnp_records.specs.Facts.DefaultTree.{read_there}
use Rattle.capnp_records.specs.Facts.GroupWrite.{suits_cleared}
use Rattle.capnp_records.specs.Facts.FieldWrite.{and_false, field_write, fits_after, ready_switched, same_from_agree, writes_wider}
use Rattle.capnp_records.specs.Facts.Frame.{chosen_first, flip_false, part_of_same, record_of_plain_write, second_of}
use Rattle.capnp_records.specs.Facts.NewTrees.{copied_given, text_closed}
use Rattle.capnp_records.specs.Facts.Numbers.{IsStored, number_content_value, stored_given, suits_number}
use Rattle.capnp_records.specs.Facts.PartRead.{nth_plain_parts, slot_part}
use Rattle.capnp_records.specs.Default.{default_record, default_value, read_of}
use Rattle.capnp_records.specs.Laws.{IsFieldAt}
use Rattle.capnp_records.specs.Steps.Laws.{SameOutside}
use Rattle.capnp_records.specs.Part.{active_value, has_of, is_active, is_inactive, nth_value, part_at, which_of, with_part, with_value}
use Rattle.capnp_records.specs.ReadBack.{AreApart, ClearIsRead, ClearedIsActive, ContentIsRead, CopiedIsActive, CopyIsRead, DataIsRead, GroupStartsAtFirst, IsSlotIn, NumberIsRead, OthersAreRead, OthersAreThere, NonUnionKeepsActive, TextIsRead, WrittenIsActive, content_read}
use Rattle.capnp_records.specs.Reading.{number_value, part_of, reads, struct_record, value_of, values_of}
use Rattle.capnp_records.specs.Record.{Active, Endless, Levels, NoUnion, Parts, Record, Union, Unknown, Value, Values, is_there}
use Rattle.capnp_records.specs.Step.{is_group_field}
use Rattle.capnp_records.specs.Given.{data_tree}
use Rattle.capnp_base.specs.Text.{text_tree}
use Rattle.capnp_records.specs.Writes.Contents.{source_tree}
use Rattle.capnp_records.specs.Writes.Overlay.{IsSwitchedTo, Turns, cleared_content, cleared_group, field_spots, number_content, stored_number, switched_struct, with_slot}
use Rattle.capnp_records.specs.Writes.Slots.{At, Bits, Content, Suits, Writes, with_content}
use Rattle.capnp_records.specs.Writes.TreeEnds.{group_cleared, offset_of, slot_written}
use Rattle.capnp_records.proofs.Contents.{slot_value_written}
use Rattle.capnp_records.proofs.Cut.{RecordCuts, UnionCuts, struct_record_cuts}
use Rattle.capnp_records.proofs.DefaultParts.{first_is_active}
use Rattle.capnp_records.proofs.GroupClear.{fits_group, turns_cleared_group, within_cleared}
use Rattle.capnp_records.proofs.GroupCopy.{within_copied}
use Rattle.capnp_records.proofs.SlotWrite.{slot_inside, turns_with_slot}

-- ---- slots ----

-- what a slot has in which that was written
part_written : (set : Schemas) (b i : ℕ) (s : StructTree) → IsSlotIn set b i s → (c : Content) → Suits (field_at set b i).type c → (l : Levels) →
    part_of set l (slot_written set b (field_at set b i) c s).bytes (values_of set (slot_written set b (field_at set b i) c s).pointers) (field_at set b i)
    ≡ content_read set l (default_of (field_at set b i).field) (field_at set b i).type c
part_written set b i s h c suits l = go f.field.kind refl h.slot
  where
    f : TypedField
    f = field_at set b i

    m : StructTree
    m = switched_struct (node_of set b) f.field s

    ready : IsSwitchedTo set b f s m
    ready = ready_switched set h.at.accepted h.at.ranges b i h.at.brand h.at.index s h.room

    go : (k : FieldKind) → f.field.kind ≡ k → is_group_field k ≡ false →
        part_of set l (with_slot set b f (offset_of k) c s).bytes (values_of set (with_slot set b f (offset_of k) c s).pointers) f ≡ content_read set l (kind_default k) f.type c
    go (Slot offset d) e q =
        slot_part set l (with_content m offset f.type c) f offset d e
        ∙ slot_value_written set l m offset d f.type c suits (slot_inside set h.at.accepted b i h.at.brand h.at.index offset d e m (fits_after _ set b s m ready.writes h.room))
    go (Group node) e q = absurd (true≢false q)

pub content_is_read : ContentIsRead
content_is_read set b i s h c suits l = ap (read_of set (default_of (field_at set b i).field) (field_at set b i).type) (part_written set b i s h c suits l)

number_there : (t : SchemaType) (n : ℕ) → is_there (number_value t n) ≡ true
number_there VoidType n = refl
number_there BoolType n = refl
number_there (IntType k) n = refl
number_there (UIntType k) n = refl
number_there (EnumType m) n = refl
number_there TextType n = refl
number_there DataType n = refl
number_there (StructType b g) n = refl
number_there (ListType e) n = refl
number_there AnyPointerType n = refl

pub number_read : NumberIsRead
number_read set b i s h source fits v e l =
    content_is_read set b i s h (number_content d t v) (suits_number d t v is (h.at.ranges.masks b i h.at.brand h.at.index)) l
    ∙ (ap (read_of set d t) (number_content_value set d t v is)
    ∙ read_there set d t v (subst (λ w. is_there w ≡ true) is.reads_back (number_there t (stored_number t v))))
  where
    d : SchemaValue
    d = default_of (field_at set b i).field

    t : SchemaType
    t = (field_at set b i).type

    is : IsStored t v
    is = stored_given set t source v e fits

pub copy_read : CopyIsRead
copy_read set b i s h source fits x past v e l = content_is_read set b i s h (At (source_tree source)) (copied_given set (field_at set b i).type source x past v e fits).pointer l

pub text_read : TextIsRead
text_read set b i s h e bytes l =
    content_is_read set b i s h (At (text_tree bytes)) (ap is_pointer (sym e)) l
    ∙ ap (read_of set (default_of (field_at set b i).field) (field_at set b i).type) (ap (value_of set (text_tree bytes) l) (sym e) ∙ text_closed set bytes)

pub data_read : DataIsRead
data_read set b i s h e bytes l =
    content_is_read set b i s h (At (data_tree bytes)) (ap is_pointer (sym e)) l
    ∙ ap (read_of set (default_of (field_at set b i).field) (field_at set b i).type) (ap (value_of set (data_tree bytes) l) (sym e))

cleared_read : (set : Schemas) (l : Levels) (d : SchemaValue) (t : SchemaType) →
    read_of set d t (content_read set l d t (cleared_content t)) ≡ (elim (is_pointer t) as (λ _. Value) [ true ↦ default_value set l d t | false ↦ number_value t (default_bits d) ])
cleared_read set l d t = go (is_pointer t)
  where
    go : (q : Bool) → read_of set d t (content_read set l d t (elim q as (λ _. Content) [ true ↦ At Null | false ↦ Bits 0 ])) ≡ (elim q as (λ _. Value) [ true ↦ default_value set l d t | false ↦ number_value t (default_bits d) ])
    go true = refl
    go false = ap (λ n. read_of set d t (number_value t n)) (xor_zero_l (default_bits d)) ∙ read_there set d t (number_value t (default_bits d)) (number_there t (default_bits d))

pub clear_read : ClearIsRead
clear_read set b i s h l =
    content_is_read set b i s h (cleared_content (field_at set b i).type) (suits_cleared (field_at set b i).type) l
    ∙ cleared_read set l (default_of (field_at set b i).field) (field_at set b i).type

-- ---- which member is active ----

union_which : (vs ws : Values) (u v : Union) → UnionCuts u v → which_of (Parts vs u) ≡ which_of (Parts ws v)
union_which vs ws NoUnion NoUnion h = refl
union_which vs ws (Active i v) (Active j w) h = ap Some h.0
union_which vs ws (Unknown m) (Unknown n) h = refl
union_which vs ws u v h = absurd h

record_which : (r s : Record) → RecordCuts r s → which_of r ≡ which_of s
record_which (Parts vs u) (Parts ws v) h = union_which vs ws u v h.1

-- levels don't matter
which_whole : (set : Schemas) (l : Levels) (s : StructTree) (b : ℕ) → which_of (struct_record set l s b) ≡ which_of (reads set s b)
which_whole set l s b = record_which (struct_record set l s b) (reads set s b) (struct_record_cuts set l s b)

which_put : (r : Record) (f : Field) (i : ℕ) (v : Value) → is_member f ≡ true → which_of (with_part r f i v) ≡ Some i
which_put (Parts vs u) f i v member = ap which_of (chosen_first (is_member f) _ _ member)

which_turned : (set : Schemas) (b i : ℕ) (s s' : StructTree) (v : Value) → Turns set b s s' (with_part (reads set s b) (field_at set b i).field i v) → is_member (field_at set b i).field ≡ true →
    (l : Levels) → which_of (struct_record set l s' b) ≡ Some i
which_turned set b i s s' v turns member l = which_whole set l s' b ∙ (ap which_of turns.record_after ∙ which_put (reads set s b) (field_at set b i).field i v member)

pub written_active : WrittenIsActive
written_active set b i s h c suits member l = go f.field.kind refl h.slot
  where
    f : TypedField
    f = field_at set b i

    go : (k : FieldKind) → f.field.kind ≡ k → is_group_field k ≡ false → which_of (struct_record set l (with_slot set b f (offset_of k) c s) b) ≡ Some i
    go (Slot offset d) e q = which_turned set b i s (with_slot set b f offset c s) _ (turns_with_slot set h.at.accepted h.at.ranges b i h.at.brand h.at.index offset d e s h.room c suits) member l
    go (Group node) e q = absurd (true≢false q)

-- ---- groups ----

is_group : (set : Schemas) (b i : ℕ) → IsFieldAt set b i → is_group_field (field_at set b i).field.kind ≡ true →
    IsGroupOf (field_at set b i).field.kind (field_at set b i).type (struct_number (field_at set b i).type)
is_group set b i at group = go f.field.kind refl
  where
    f : TypedField
    f = field_at set b i

    go : (k : FieldKind) → f.field.kind ≡ k → IsGroupOf k f.type (struct_number f.type)
    go (Slot offset d) e = absurd (true≢false (sym group ∙ ap is_group_field e))
    go (Group node) e = subst (λ k. IsGroupOf k f.type (struct_number f.type)) e (group_fields_name_brands set at.accepted b i node at.brand at.index e)

pub cleared_active : ClearedIsActive
cleared_active set b i s h member l =
    which_turned set b i s (group_cleared set b (field_at set b i) s) _
    (turns_cleared_group set h.at.accepted h.at.ranges b i (struct_number (field_at set b i).type) h.at.brand h.at.index (is_group set b i h.at h.group) s h.room) member l

pub starts_at_first : GroupStartsAtFirst
starts_at_first set b i s h g same k k_in member zero l = subst Starts same first k k_in member zero
  where
    Starts : ℕ → Type 0
    Starts g = (k : ℕ) → k < length (fields_of set g) → is_member (field_at set g k).field ≡ true → (field_at set g k).field.discriminant_value ≡ 0 →
        which_of (struct_record set l (group_cleared set b (field_at set b i) s) g) ≡ Some k

    n : ℕ
    n = struct_number (field_at set b i).type

    m : StructTree
    m = switched_struct (node_of set b) (field_at set b i).field s

    group : IsGroupOf (field_at set b i).field.kind (field_at set b i).type n
    group = is_group set b i h.at h.group

    n_in : n < length set.brands
    n_in = group_in_set set h.at.accepted b i n h.at.brand h.at.index group

    ready : IsSwitchedTo set b (field_at set b i) s m
    ready = ready_switched set h.at.accepted h.at.ranges b i h.at.brand h.at.index s h.room

    turns : Turns set n m (cleared_group set n m) (default_record set Endless n)
    turns = within_cleared (length set.brands) set h.at.accepted h.at.ranges n n_in (is_shallow set h.at.accepted b h.at.brand i h.at.index n group) m
        (fits_group set h.at.accepted b i n h.at.brand h.at.index group m (fits_after _ set b s m ready.writes h.room))

    first : Starts n
    first k k_in member zero = which_whole set l (cleared_group set n m) n ∙ (ap which_of turns.record_after ∙ first_is_active set h.at.accepted n k n_in k_in member zero)

pub copied_active : CopiedIsActive
copied_active set b i n s h source_levels source refused s' copies member l =
    which_turned set b i s s' _ (field_write set h.at.accepted b i h.at.brand h.at.index s m s' ready inside) member l
  where
    g : ℕ
    g = struct_number (field_at set b i).type

    m : StructTree
    m = switched_struct (node_of set b) (field_at set b i).field s

    group : IsGroupOf (field_at set b i).field.kind (field_at set b i).type g
    group = is_group set b i h.at h.group

    ready : IsSwitchedTo set b (field_at set b i) s m
    ready = ready_switched set h.at.accepted h.at.ranges b i h.at.brand h.at.index s h.room

    inside : Writes (footprint set (field_at set b i)) m s'
    inside = writes_wider (struct_spots set g) (footprint set (field_at set b i)) m s' (λ p e. group_names_its_parts set h.at.accepted b i g p h.at.brand h.at.index group ∙ e)
        (within_copied n set h.at.accepted h.at.ranges source_levels source b i g h.at.brand h.at.index group m refused s'
        (fits_group set h.at.accepted b i g h.at.brand h.at.index group m (fits_after _ set b s m ready.writes h.room)) copies).1

-- ---- other fields ----

or_neither : (x y : Bool) → x ≡ false → y ≡ false → (x || y) ≡ false
or_neither x y e f = rw (e, f)

-- what one of two such fields names, the other's write doesn't touch
apart_names : (set : Schemas) (b i j : ℕ) → AreApart set b i j → (p : Spot) → footprint set (field_at set b j) p ≡ true → field_spots set b (field_at set b i) p ≡ false
apart_names set b i j h p named = or_neither (footprint set f p) _ (footprints (is_member f.field) refl) (and_false (is_member f.field) _ discriminant)
  where
    f : TypedField
    f = field_at set b i

    g : TypedField
    g = field_at set b j

    discriminant : discriminant_names (node_of set b) p ≡ false
    discriminant = flip_false (discriminant_names (node_of set b) p) (footprint set g p) (h.at.accepted.rule12 b j h.at.brand h.other.index p) named

    footprints : (q : Bool) → is_member f.field ≡ q → footprint set f p ≡ false
    footprints false plain = flip_false (footprint set f p) (footprint set g p) (h.at.accepted.rule11 b i h.at.brand h.at.index j p h.other.index h.differ plain) named
    footprints true member =
        h.at.accepted.rule11 b j h.at.brand h.other.index i p h.at.index (λ e. h.differ (sym e)) (sym (ap (λ q. q && is_member g.field) member) ∙ h.not_both) named

others_part : (set : Schemas) (b i j : ℕ) → AreApart set b i j → (s s' : StructTree) → Writes (field_spots set b (field_at set b i)) s s' → (l : Levels) →
    part_of set l s'.bytes (values_of set s'.pointers) (field_at set b j) ≡ part_of set l s.bytes (values_of set s.pointers) (field_at set b j)
others_part set b i j h s s' w l =
    sym (part_of_same set l s.bytes (values_of set s.pointers) s'.bytes (values_of set s'.pointers) (field_at set b j)
    (λ p named. same_from_agree set s s' p (w.agree p (apart_names set b i j h p named))))

pub others_read : OthersAreRead
others_read set b i j h s s' w l = ap (read_of set (default_of (field_at set b j).field) (field_at set b j).type) (others_part set b i j h s s' w l)

-- a write of a non-union field puts its part into the record
plain_put : (set : Schemas) (b i : ℕ) → IsFieldAt set b i → is_member (field_at set b i).field ≡ false → (s s' : StructTree) → Writes (field_spots set b (field_at set b i)) s s' → (l : Levels) →
    struct_record set l s' b ≡ with_part (struct_record set l s b) (field_at set b i).field i (part_of set l s'.bytes (values_of set s'.pointers) (field_at set b i))
plain_put set b i at plain s s' w l = record_of_plain_write set at.accepted l s.bytes (values_of set s.pointers) s'.bytes (values_of set s'.pointers) b i at.brand at.index plain same
  where
    same : SameOutside (footprint set (field_at set b i)) s.bytes (values_of set s.pointers) s'.bytes (values_of set s'.pointers)
    same p out = same_from_agree set s s' p (w.agree p (or_neither (footprint set (field_at set b i) p) _ out (ap (λ q. q && discriminant_names (node_of set b) p) plain)))

which_beside : (r : Record) (f : Field) (i : ℕ) (v : Value) → is_member f ≡ false → which_of (with_part r f i v) ≡ which_of r
which_beside (Parts vs u) f i v plain = ap which_of (second_of (is_member f) _ _ plain) ∙ same u
  where
    same : (u : Union) → which_of (Parts (with_value vs i v) u) ≡ which_of (Parts vs u)
    same NoUnion = refl
    same (Active j w) = refl
    same (Unknown n) = refl

pub plain_keeps_active : NonUnionKeepsActive
plain_keeps_active set b i at plain s s' w l = ap which_of (plain_put set b i at plain s s' w l) ∙ which_beside (struct_record set l s b) (field_at set b i).field i _ plain

plain_inactive : (r : Record) (f : Field) (i : ℕ) → is_member f ≡ false → is_inactive r f i ≡ false
plain_inactive (Parts vs u) f i plain = ap (λ q. q && not (is_active u i)) plain

has_plain : (set : Schemas) (l : Levels) (s : StructTree) (b j : ℕ) → j < length (fields_of set b) → is_member (field_at set b j).field ≡ false →
    has_of (struct_record set l s b) (field_at set b j).field j ≡ is_there (part_of set l s.bytes (values_of set s.pointers) (field_at set b j))
has_plain set l s b j j_in plain = ap₂ (λ inactive v. not inactive && is_there v) inactive part
  where
    r : Record
    r = struct_record set l s b

    inactive : is_inactive r (field_at set b j).field j ≡ false
    inactive = plain_inactive r (field_at set b j).field j plain

    part : part_at r (field_at set b j).field j ≡ part_of set l s.bytes (values_of set s.pointers) (field_at set b j)
    part = second_of (is_member (field_at set b j).field) _ _ plain ∙ nth_plain_parts (part_of set l s.bytes (values_of set s.pointers)) (fields_of set b) j j_in plain

has_beside : (r : Record) (f g : Field) (i j : ℕ) (v : Value) → is_member f ≡ false → is_member g ≡ true → has_of (with_part r f i v) g j ≡ has_of r g j
has_beside (Parts vs u) f g i j v plain member =
    ap (λ r. has_of r g j) (second_of (is_member f) _ _ plain)
    ∙ ap (λ w. not (is_member g && not (is_active u j)) && is_there w) (chosen_first (is_member g) (active_value u) (nth_value (with_value vs i v) j) member ∙ sym (chosen_first (is_member g) (active_value u) (nth_value vs j) member))

pub others_there : OthersAreThere
others_there set b i j h s s' w l = go (is_member (field_at set b j).field) refl
  where
    go : (q : Bool) → is_member (field_at set b j).field ≡ q → has_of (struct_record set l s' b) (field_at set b j).field j ≡ has_of (struct_record set l s b) (field_at set b j).field j
    go false plain = has_plain set l s' b j h.other.index plain ∙ (ap is_there (others_part set b i j h s s' w l) ∙ sym (has_plain set l s b j h.other.index plain))
    go true member =
        let plain : is_member (field_at set b i).field ≡ false = flip_false (is_member (field_at set b i).field) (is_member (field_at set b j).field) (λ e. sym (ap (λ q. q && is_member (field_at set b j).field) e) ∙ h.not_both) member in
        ap (λ r. has_of r (field_at set b j).field j) (plain_put set b i h.at plain s s' w l)
        ∙ has_beside (struct_record set l s b) (field_at set b i).field (field_at set b j).field i j _ plain member
