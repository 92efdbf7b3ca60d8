-- In a list that has elements of its type each of them is there, also after one was written.
use Rattle.std.proofs.Common.{ℕ, ◌==◌, ◌<◌, ◌≡◌, refl, Bool, true, false, List, None, Result, Ok, Err, OnOk, OnErr, arith, sym, subst, ◌∙◌}
use Rattle.capnp_device.specs.declared.error.Error.{Error}
use Rattle.capnp_device.specs.declared.error.ErrorKind.{ErrorKind}
use Rattle.capnp_wire.specs.Defaults.{error_of, list_refusal}
use Rattle.capnp_wire.specs.Elements.{with_bit_element, with_number_element, with_pointer_element, reads_list}
use Rattle.capnp_wire.specs.Facts.Lengths.{HasAtLeast_element_struct, HasStruct_there, HoldsStructs_with_struct_element}
use Rattle.capnp_wire.specs.Facts.Room.{HasBit_there, HasNumber_there, HasPointer_there, reads_list_as_list}
use Rattle.capnp_wire.specs.Reading.{as_list, element_struct, is_null_tree, list_if, list_length, reads_bits, reads_numbers, reads_pointers, reads_structs}
use Rattle.capnp_wire.specs.Tree as tree
use Rattle.capnp_wire.specs.Tree.{Tree}
use Rattle.capnp_wire.specs.WellFormed.{IsWellFormed}
use Rattle.capnp_wire.specs.declared.size.ElementSize.{ElementSize}
use Rattle.capnp_wire.specs.declared.size.ElementSize.TheVariants as size
use Rattle.capnp_base.specs.declared.introspect.«Type».{«Type» as TypeHandle}
use Rattle.capnp_base.specs.Types.{variant_of}
use Rattle.capnp_base.specs.declared.introspect.TypeVariant.{TypeVariant}
use Rattle.capnp_base.specs.declared.introspect.TypeVariant.TheVariants as variant
use Rattle.capnp_schema.specs.Facts.Layers.{seen_which}
use Rattle.capnp_schema.specs.Schema.{Schemas}
use Rattle.capnp_schema.specs.Types.{SchemaType, VoidType, BoolType, IntType, UIntType, EnumType, TextType, DataType, StructType, ListType, AnyPointerType, element_size, seen_type, seen_variant}
use Rattle.capnp_records.specs.Call.{Source}
use Rattle.capnp_records.specs.Writes.ElementEnds.{HasElementThere, element_written}
use Rattle.capnp_records.specs.Writes.Slots.{Bits, At, Content, Fits}
use Rattle.capnp_schema.specs.Plan.{brand_size}
use Rattle.capnp_slots.specs.ElementSets.{IsElementSet, element_content}
use Rattle.capnp_arena.specs.Forest.{Forest, tree as tree_in}
use Rattle.capnp_arena.specs.Segment.{segment}
use Rattle.capnp_arena.specs.declared.arena.Arena.{Arena}
use Rattle.capnp_dynamic.specs.Built.{HoldsElements, IsListStanding}

-- ---- a list, or null ----

-- ---- each element is there ----

some_there : (x : Tree) (j : ℕ) → j < list_length x → is_null_tree x ≡ false
some_there tree.Null j a = absurd (omega (arith, a))
some_there (tree.Struct bytes ps) j a = refl
some_there (tree.Voids n) j a = refl
some_there (tree.Bits bs) j a = refl
some_there (tree.Numbers w bytes) j a = refl
some_there (tree.Pointers ps) j a = refl
some_there (tree.Composite d p es) j a = refl
some_there (tree.FaultLeaf k) j a = refl

reads_so : (s : ElementSize) (x : Tree) (j : ℕ) → list_refusal s x ≡ None → j < list_length x → reads_list s x ≡ true
reads_so s x j e a = go (as_list s x 1) refl e
  where
    go : (r : Result Tree ErrorKind) → as_list s x 1 ≡ r → error_of r ≡ None → reads_list s x ≡ true
    go (Ok y) is h = reads_list_as_list s x 1 y (some_there x j a) is
    go (Err k) is h = absurd cc

module _ (set : Schemas) (x : Tree) (j : ℕ) (formed : IsWellFormed x) (a : j < list_length x) where
  by_variant : (v : TypeVariant) → HoldsElements set (seen_variant v) x → HasElementThere (seen_variant v) x j
  by_variant variant.Void h = tt
  by_variant variant.Bool h = HasBit_there x j (reads_so size.Bit x j h a) a
  by_variant variant.Int8 h = HasNumber_there size.Byte 1 x j refl refl (reads_so size.Byte x j h a) formed a
  by_variant variant.Int16 h = HasNumber_there size.TwoBytes 2 x j refl refl (reads_so size.TwoBytes x j h a) formed a
  by_variant variant.Int32 h = HasNumber_there size.FourBytes 4 x j refl refl (reads_so size.FourBytes x j h a) formed a
  by_variant variant.Int64 h = HasNumber_there size.EightBytes 8 x j refl refl (reads_so size.EightBytes x j h a) formed a
  by_variant variant.UInt8 h = HasNumber_there size.Byte 1 x j refl refl (reads_so size.Byte x j h a) formed a
  by_variant variant.UInt16 h = HasNumber_there size.TwoBytes 2 x j refl refl (reads_so size.TwoBytes x j h a) formed a
  by_variant variant.UInt32 h = HasNumber_there size.FourBytes 4 x j refl refl (reads_so size.FourBytes x j h a) formed a
  by_variant variant.UInt64 h = HasNumber_there size.EightBytes 8 x j refl refl (reads_so size.EightBytes x j h a) formed a
  by_variant variant.Text h = HasPointer_there x j (reads_so size.Pointer x j h a) formed a
  by_variant variant.«Data» h = HasPointer_there x j (reads_so size.Pointer x j h a) formed a
  by_variant (variant.Struct s) h = HasStruct_there (brand_size set s.number) x j h a
  by_variant variant.AnyPointer h = HasPointer_there x j (reads_so size.Pointer x j h a) formed a
  by_variant (variant.Enum e) h = HasNumber_there size.TwoBytes 2 x j refl refl (reads_so size.TwoBytes x j h a) formed a
  by_variant (variant.List t) h = HasPointer_there x j (reads_so size.Pointer x j h a) formed a

pub room_in : (set : Schemas) (t : TypeHandle) (x : Tree) (j : ℕ) → HoldsElements set (seen_type t) x → IsWellFormed x → j < list_length x → HasElementThere (seen_type t) x j
room_in set t x j holds formed a =
    subst (λ (u : SchemaType). HasElementThere u x j) (seen_which t)
    (by_variant set x j formed a (variant_of t) (subst (λ (u : SchemaType). HoldsElements set u x) (sym (seen_which t)) holds))

pub struct_fits : (set : Schemas) (b g : ℕ) (x : Tree) (j : ℕ) → HoldsElements set (StructType b g) x → IsWellFormed x → j < list_length x → Fits set b (element_struct x j)
struct_fits set b g x j holds formed a = HasAtLeast_element_struct (brand_size set b) x j holds formed a

-- ---- with another element ----

same_if : (q : Bool) (x y : Tree) → error_of (list_if q x 1) ≡ error_of (list_if q y 1)
same_if true x y = refl
same_if false x y = refl

module _ (s : ElementSize) (i : ℕ) where
  bit_kept : (bit : Bool) (x : Tree) → list_refusal s (with_bit_element i bit x) ≡ list_refusal s x
  bit_kept bit (tree.Bits bs) = same_if (reads_bits s) _ (tree.Bits bs)
  bit_kept bit x = refl

  number_kept : (w n : ℕ) (x : Tree) → list_refusal s (with_number_element w i n x) ≡ list_refusal s x
  number_kept w n (tree.Numbers v bytes) = same_if (reads_numbers s v) _ (tree.Numbers v bytes)
  number_kept w n (tree.Composite d p es) = same_if (reads_structs s d p) _ (tree.Composite d p es)
  number_kept w n x = refl

  pointer_kept : (y x : Tree) → list_refusal s (with_pointer_element i y x) ≡ list_refusal s x
  pointer_kept y (tree.Pointers ps) = same_if (reads_pointers s) _ (tree.Pointers ps)
  pointer_kept y (tree.Composite d p es) = same_if (reads_structs s d p) _ (tree.Composite d p es)
  pointer_kept y x = refl

pub elements_kept : (set : Schemas) (t : SchemaType) (j : ℕ) (c : Content) (x : Tree) → HoldsElements set t x → HoldsElements set t (element_written t x j c)
elements_kept set VoidType j (Bits n) x h = h
elements_kept set BoolType j (Bits n) x h = bit_kept size.Bit j (n == 1) x ∙ h
elements_kept set (IntType k) j (Bits n) x h = number_kept (element_size (IntType k)) j k n x ∙ h
elements_kept set (UIntType k) j (Bits n) x h = number_kept (element_size (UIntType k)) j k n x ∙ h
elements_kept set (EnumType k) j (Bits n) x h = number_kept size.TwoBytes j 2 n x ∙ h
elements_kept set TextType j (Bits n) x h = h
elements_kept set DataType j (Bits n) x h = h
elements_kept set (StructType b g) j (Bits n) x h = h
elements_kept set (ListType e) j (Bits n) x h = h
elements_kept set AnyPointerType j (Bits n) x h = h
elements_kept set (StructType b g) j (At y) x h = HoldsStructs_with_struct_element (brand_size set b) j _ x h
elements_kept set VoidType j (At y) x h = pointer_kept size.Void j y x ∙ h
elements_kept set BoolType j (At y) x h = pointer_kept size.Bit j y x ∙ h
elements_kept set (IntType k) j (At y) x h = pointer_kept (element_size (IntType k)) j y x ∙ h
elements_kept set (UIntType k) j (At y) x h = pointer_kept (element_size (UIntType k)) j y x ∙ h
elements_kept set (EnumType k) j (At y) x h = pointer_kept size.TwoBytes j y x ∙ h
elements_kept set TextType j (At y) x h = pointer_kept size.Pointer j y x ∙ h
elements_kept set DataType j (At y) x h = pointer_kept size.Pointer j y x ∙ h
elements_kept set (ListType e) j (At y) x h = pointer_kept size.Pointer j y x ∙ h
elements_kept set AnyPointerType j (At y) x h = pointer_kept size.Pointer j y x ∙ h

-- what a set of an element leaves has elements of its type
pub set_ready : {A : Type 0} (set : Schemas) (t : SchemaType) (x : Source) (j : ℕ) (old new : Arena) (w : ℕ) (r : Result A Error) → IsListStanding set t old w → OnOk r (Forest (segment new) w) →
    OnOk r (IsElementSet set t x j (tree_in (segment old) w) (tree_in (segment new) w)) → OnErr r (segment new ≡ segment old) → IsListStanding set t new w
set_ready set t x j old new w (Ok a) under forest ok same = record {
  forest = forest;
  holds = subst (HoldsElements set t) (sym ok.written) (elements_kept set t j (element_content set t x) (tree_in (segment old) w) under.holds);
}
set_ready set t x j old new w (Err e) under forest ok same = record {
  forest = subst (λ (s : List ℕ). Forest s w) (sym same) under.forest;
  holds = subst (λ (s : List ℕ). HoldsElements set t (tree_in s w)) (sym same) under.holds;
}
