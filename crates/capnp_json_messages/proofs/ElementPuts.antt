-- What is written into an element of a list is put into its values.
use Rattle.std.proofs.Common.{ℕ, zero, suc, ◌≡◌, ◌<◌, inl, inr, refl, true, false, Some, None, arith, ap, sym, subst, ◌∙◌}
use Rattle.std.proofs.lemmas.Bool.{true≢false}
use Rattle.capnp_wire.specs.Facts.Room.{HasBit_there, HasNumber_there, HasPointer_there}
use Rattle.capnp_wire.specs.Elements.{HasStruct, reads_list, with_struct_element}
use Rattle.capnp_wire.specs.Reading.{list_length}
use Rattle.capnp_wire.specs.Tree.{StructTree, Tree}
use Rattle.capnp_wire.specs.WellFormed.{IsWellFormed}
use Rattle.capnp_wire.specs.declared.size.ElementSize.TheVariants.{Byte, TwoBytes, FourBytes, EightBytes}
use Rattle.capnp_base.specs.declared.introspect.«Type».{«Type» as TypeHandle}
use Rattle.capnp_base.specs.declared.introspect.TypeVariant.{TypeVariant}
use Rattle.capnp_base.specs.declared.introspect.TypeVariant.TheVariants as variant
use Rattle.capnp_base.specs.Types.{variant_of}
use Rattle.capnp_schema.specs.Accepted.{IsAccepted, NamesEntries}
use Rattle.capnp_schema.specs.Facts.Layers.{seen_which}
use Rattle.capnp_schema.specs.Schema.{Schemas}
use Rattle.capnp_schema.specs.Types.{AnyPointerType, BoolType, DataType, EnumType, IntType, ListType, SchemaType, StructType, TextType, UIntType, VoidType, element_size, seen_type, seen_variant}
use Rattle.capnp_records.proofs.ElementChanges.{change_struct}
use Rattle.capnp_records.proofs.ElementEnd.{ElementCopied, ElementPut, ElementSuits, element_copies, element_gives, element_put, suits_stored}
use Rattle.capnp_records.proofs.StepElement.{sound_put, struct_there}
use Rattle.capnp_records.specs.Call.{Source}
use Rattle.capnp_records.specs.Facts.ListValues.{count_values_from, element_changed, list_read}
use Rattle.capnp_records.specs.Facts.Numbers.{IsStored, stored_given}
use Rattle.capnp_records.specs.Given.{given_element, given_slot}
use Rattle.capnp_records.specs.Operation.{new_element}
use Rattle.capnp_records.specs.Part.{nth_value, value_count, with_value}
use Rattle.capnp_records.specs.Reading.{reads, value_of}
use Rattle.capnp_records.specs.Record as value
use Rattle.capnp_records.specs.Record.{Endless, MoreValues, NoValues, Value, Values}
use Rattle.capnp_records.specs.Steps.ElementEnds.{element_content_value}
use Rattle.capnp_records.specs.Steps.Stand.{seen_element}
use Rattle.capnp_records.specs.Writes.Contents.{SourceFits}
use Rattle.capnp_records.specs.Writes.ElementEnds.{HasElementThere, element_source_tree, element_written}
use Rattle.capnp_records.specs.Writes.Slots.{Content, Fits}
use Rattle.capnp_records.specs.Writes.Stand.{ListSound}
use Rattle.capnp_slots.specs.ElementSets.{element_content, element_given}
use Rattle.capnp_from_json.specs.LeafReads.{is_typed, leaf_value}
use Rattle.capnp_from_json.specs.declared.leaves.Leaf.{Leaf}
use Rattle.capnp_from_json.specs.declared.leaves.Leaf.TheVariants as leaf
use Rattle.capnp_json_messages.specs.Put.{IsListOf, PutsAt}
use Rattle.capnp_json_messages.specs.Ways.{is_struct_type}
use Rattle.capnp_json_messages.specs.Steps.Sources.{leaf_source}
use Rattle.capnp_json_messages.proofs.LeafContents.{GivesLeaf, GivesValue, gives_leaf}

-- ---- where an element is ----

module _ (set : Schemas) (x : Tree) (j : ℕ) (vs : Values) (formed : IsWellFormed x) (inside : j < value_count vs) where
  in_list : (e : SchemaType) → IsListOf set e x vs → j < list_length x
  in_list e list = omega (arith, inside, ap value_count (list_read set x e vs list.reads_as).same, count_values_from (seen_element set x e) 0 (list_length x))

  reads_it : (e : SchemaType) → IsListOf set e x vs → reads_list (element_size e) x ≡ true
  reads_it e list = (list_read set x e vs list.reads_as).reads_it

  room_by : (v : TypeVariant) → IsListOf set (seen_variant v) x vs → HasElementThere (seen_variant v) x j
  room_by variant.Void l = tt
  room_by variant.Bool l = HasBit_there x j (reads_it _ l) (in_list _ l)
  room_by variant.Int8 l = HasNumber_there Byte 1 x j refl refl (reads_it _ l) formed (in_list _ l)
  room_by variant.UInt8 l = HasNumber_there Byte 1 x j refl refl (reads_it _ l) formed (in_list _ l)
  room_by variant.Int16 l = HasNumber_there TwoBytes 2 x j refl refl (reads_it _ l) formed (in_list _ l)
  room_by variant.UInt16 l = HasNumber_there TwoBytes 2 x j refl refl (reads_it _ l) formed (in_list _ l)
  room_by variant.Int32 l = HasNumber_there FourBytes 4 x j refl refl (reads_it _ l) formed (in_list _ l)
  room_by variant.UInt32 l = HasNumber_there FourBytes 4 x j refl refl (reads_it _ l) formed (in_list _ l)
  room_by variant.Int64 l = HasNumber_there EightBytes 8 x j refl refl (reads_it _ l) formed (in_list _ l)
  room_by variant.UInt64 l = HasNumber_there EightBytes 8 x j refl refl (reads_it _ l) formed (in_list _ l)
  room_by (variant.Enum e) l = HasNumber_there TwoBytes 2 x j refl refl (reads_it _ l) formed (in_list _ l)
  room_by variant.Text l = HasPointer_there x j (reads_it _ l) formed (in_list _ l)
  room_by variant.«Data» l = HasPointer_there x j (reads_it _ l) formed (in_list _ l)
  room_by (variant.Struct z) l = struct_there set z.number z.generic x j (reads_it _ l) l.sound (in_list _ l)
  room_by (variant.List t) l = HasPointer_there x j (reads_it _ l) formed (in_list _ l)
  room_by variant.AnyPointer l = HasPointer_there x j (reads_it _ l) formed (in_list _ l)

  pub room_at : (t : TypeHandle) → IsListOf set (seen_type t) x vs → HasElementThere (seen_type t) x j
  room_at t list = subst (λ (e : SchemaType). HasElementThere e x j) (seen_which t) (room_by (variant_of t) (subst (λ (e : SchemaType). IsListOf set e x vs) (sym (seen_which t)) list))

  -- an element of a list of structs is there
  pub room_of_struct : (b g : ℕ) → IsListOf set (StructType b g) x vs → HasStruct x j
  room_of_struct b g list = struct_there set b g x j (reads_it _ list) list.sound (in_list _ list)

-- ---- rows of values ----

pub count_put : (vs : Values) (j : ℕ) (v : Value) → value_count (with_value vs j v) ≡ value_count vs
count_put NoValues j v = refl
count_put (MoreValues w vs) zero v = refl
count_put (MoreValues w vs) (suc j) v = ap suc (count_put vs j v)

pub put_same : (vs : Values) (j : ℕ) (v : Value) → nth_value vs j ≡ v → with_value vs j v ≡ vs
put_same NoValues j v e = refl
put_same (MoreValues w vs) zero v e = ap (λ x. MoreValues x vs) (sym e)
put_same (MoreValues w vs) (suc j) v e = ap (MoreValues w) (put_same vs j v e)

pub put_twice : (vs : Values) (j : ℕ) (v w : Value) → with_value (with_value vs j v) j w ≡ with_value vs j w
put_twice NoValues j v w = refl
put_twice (MoreValues x vs) zero v w = refl
put_twice (MoreValues x vs) (suc j) v w = ap (MoreValues x) (put_twice vs j v w)

pub put_other : (vs : Values) (j i : ℕ) (v : Value) → (i ≡ j → ⊥) → nth_value (with_value vs j v) i ≡ nth_value vs i
put_other NoValues j i v h = refl
put_other (MoreValues w vs) zero zero v h = absurd (h refl)
put_other (MoreValues w vs) zero (suc i) v h = refl
put_other (MoreValues w vs) (suc j) zero v h = refl
put_other (MoreValues w vs) (suc j) (suc i) v h = put_other vs j i v (λ e. h (ap suc e))

-- ---- leaves ----

-- an element takes a leaf as a slot does: it is no struct and not untyped
element_as_slot : (set : Schemas) (t : SchemaType) (l : Leaf) (s : Source) → leaf_source l ≡ Some s → is_typed t l ≡ true → given_element set t s ≡ given_slot set t s
element_as_slot set AnyPointerType leaf.Null s e typed = absurd (none e)
  where
    none : {y : Source} → None ≡ Some y → ⊥
    none e = cc
element_as_slot set AnyPointerType l s e typed = absurd (true≢false (sym typed))
element_as_slot set (StructType b g) leaf.Null s e typed = absurd (none e)
  where
    none : {y : Source} → None ≡ Some y → ⊥
    none e = cc
element_as_slot set (StructType b g) l s e typed = absurd (true≢false (sym typed))
element_as_slot set t l s e typed = refl

-- what is written into an element
pub record IsElementContent (set : Schemas) (t : SchemaType) (c : Content) (v : Value) : Type 0 where
  pub suits : ElementSuits t c
  pub reads_as : element_content_value set t c ≡ v

pub content_at : (set : Schemas) (t : SchemaType) (s : Source) (v : Value) → SourceFits s → GivesValue (given_element set t s) v → IsElementContent set t (element_content set t s) v
content_at set t s v fits (inl e) =
    let stored : IsStored t v = stored_given set t s v (element_gives set t s v e) fits in
    subst (λ g. IsElementContent set t (element_given t s g) v) (sym e) (record { suits = suits_stored t v stored; reads_as = stored.reads_back })
content_at set t s v fits (inr (y, past, e)) =
    let copied : ElementCopied set t (element_source_tree s) v = element_copies set t s y past v e fits in
    subst (λ g. IsElementContent set t (element_given t s g) v) (sym e) (record { suits = copied.suits; reads_as = copied.reads_as })

pub gives_element : (set : Schemas) (t : SchemaType) (l : Leaf) (s : Source) → leaf_source l ≡ Some s → is_typed t l ≡ true → GivesValue (given_element set t s) (leaf_value l)
gives_element set t l s e typed =
    subst (λ g. GivesValue g (leaf_value l)) (sym (element_as_slot set t l s e typed))
    (subst (λ o. GivesLeaf set t o (leaf_value l)) e (gives_leaf set t l typed))

-- a content is written
pub content_put : (set : Schemas) → IsAccepted set → (t : SchemaType) (x x' : Tree) (j : ℕ) (c : Content) (v : Value) (vs : Values) → NamesEntries set t → HasElementThere t x j → IsElementContent set t c v → x' ≡ element_written t x j c
    → IsListOf set t x vs → IsListOf set t x' (with_value vs j v)
content_put set accepted t x x' j c v vs entries room content written list =
    let put : ElementPut set t x j vs c = element_put set accepted t x j vs c entries list.sound room content.suits list.reads_as in
    record {
      reads_as = ap (λ (y : Tree). value_of set y Endless (ListType t)) written ∙ (put.reads_as ∙ ap (λ w. value.Elements (with_value vs j w)) content.reads_as);
      sound = subst (λ (y : Tree). ListSound set t y) (sym written) put.sound;
    }

-- a null pointer stays
pub null_new : (set : Schemas) (t : SchemaType) (l : Leaf) → leaf_source l ≡ None → is_typed t l ≡ true → is_struct_type t ≡ false → new_element set t ≡ leaf_value l
null_new set TextType leaf.Null e typed plain = refl
null_new set DataType leaf.Null e typed plain = refl
null_new set (ListType u) leaf.Null e typed plain = refl
null_new set AnyPointerType leaf.Null e typed plain = refl
null_new set (StructType b g) leaf.Null e typed plain = absurd (true≢false plain)
null_new set VoidType leaf.Null e typed plain = absurd (true≢false (sym typed))
null_new set BoolType leaf.Null e typed plain = absurd (true≢false (sym typed))
null_new set (IntType k) leaf.Null e typed plain = absurd (true≢false (sym typed))
null_new set (UIntType k) leaf.Null e typed plain = absurd (true≢false (sym typed))
null_new set (EnumType k) leaf.Null e typed plain = absurd (true≢false (sym typed))
null_new set t l e typed plain = absurd (some e)
  where
    some : {y : Source} → Some y ≡ None → ⊥
    some e = cc

pub null_stays : (set : Schemas) (t : SchemaType) (x : Tree) (j : ℕ) (v : Value) → new_element set t ≡ v → PutsAt set t j x x v
null_stays set t x j v e vs list inside fresh = subst (IsListOf set t x) (sym (put_same vs j v (fresh ∙ e))) list

-- ---- structs ----

pub struct_puts : (set : Schemas) (b g : ℕ) (x x' : Tree) (j : ℕ) (s : StructTree) → HasStruct x j → Fits set b s → x' ≡ with_struct_element j s x → PutsAt set (StructType b g) j x x' (value.Struct (reads set s b))
struct_puts set b g x x' j s there fits written vs list inside fresh = record {
  reads_as = ap (λ (y : Tree). value_of set y Endless (ListType (StructType b g))) written ∙ element_changed set (StructType b g) x j (with_struct_element j s x) (value.Struct (reads set s b)) vs (change_struct set b g x j s there) list.reads_as;
  sound = subst (λ (y : Tree). ListSound set (StructType b g) y) (sym written) (sound_put set b g x j s there list.sound fits);
}
