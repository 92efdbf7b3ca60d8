-- What is written by a field's plan is written into the field's slot, and keeps the rest.
use Rattle.std.proofs.Common.{ℕ, List, zero, suc, ◌+◌, ◌*◌, ◌^◌, ◌<◌, ◌≤◌, ◌≡◌, ◌⊎◌, refl, Bool, true, false, ◌==◌, length, bit_xor, arith, ⊎_elim, ap, sym, subst}
use Rattle.std.proofs.lemmas.Bool.Decides.{nat_tests}
use Rattle.std.proofs.lemmas.Bool.{true≢false}
use Rattle.capnp_wire.specs.Tree.{StructTree, Tree, Null}
use Rattle.capnp_wire.specs.Place.{struct_tree}
use Rattle.capnp_wire.specs.Edits.{HasAtLeast, with_bit, with_bytes, with_number, with_pointer_tree}
use Rattle.capnp_wire.specs.Facts.Bytes.{length_with_number}
use Rattle.capnp_wire.specs.Facts.Structs.{IsElement_with_bit, IsElement_with_number, IsElement_with_pointer_tree, of_same_size, own_size}
use Rattle.capnp_wire.specs.WellFormed.{IsWellFormed, is_width}
use Rattle.capnp_schema.specs.Accepted.{LiesInside}
use Rattle.capnp_schema.specs.Plan.{LiesInNode, data_place, member_plan, node_size, plan_place, slot_place}
use Rattle.capnp_schema.specs.Ranges.{HasWidths}
use Rattle.capnp_schema.specs.Schema.{Field, Node, Slot, TypedField, Value, is_member}
use Rattle.capnp_schema.specs.SlotValue.{bits_at, default_bits}
use Rattle.capnp_schema.specs.Types.{SchemaType, VoidType, BoolType, IntType, UIntType, EnumType, TextType, DataType, StructType, ListType, AnyPointerType, is_pointer, width}
use Rattle.capnp_schema.specs.declared.plan.Place.TheVariants as place
use Rattle.capnp_records.specs.Writes.Overlay.{cleared_content, switch, switched_struct}
use Rattle.capnp_records.specs.Writes.Slots.{Content, Bits, At, Suits, with_content}
use Rattle.capnp_slots.specs.Steps.Fields.{IsFormed}
use Rattle.capnp_slots.specs.Planned.{member_switched}
use Rattle.capnp_slots.specs.Steps.Planned.{HoldsNumber, place_bits, place_cleared, place_mask, place_written}

-- ---- the place of a slot ----

bytes_are : (k : ℕ) → is_width k ≡ true → (k ≡ 1) ⊎ ((k ≡ 2) ⊎ ((k ≡ 4) ⊎ (k ≡ 8)))
bytes_are k h = grind (arith, nat_tests)

module _ (o : ℕ) (d : Value) (n : ℕ) (s : StructTree) where
  -- a slot of a number of so many bytes
  abbrev IsNumber : ℕ → Type 0
  IsNumber k = place_written (data_place (8 * k) o d) (Bits n) s ≡ with_bytes s (with_number k o n s.bytes)

  number_place : (k : ℕ) → is_width k ≡ true → IsNumber k
  number_place k h = ⊎_elim (at 1 one) (⊎_elim (at 2 two) (⊎_elim (at 4 four) (at 8 eight))) (bytes_are k h)
    where
      at : (m : ℕ) → IsNumber m → k ≡ m → IsNumber k
      at m p e = subst IsNumber (sym e) p

      one : IsNumber 1
      one = ap (λ i. with_bytes s (with_number 1 i n s.bytes)) (omega arith)

      two : IsNumber 2
      two = ap (λ i. with_bytes s (with_number 2 i n s.bytes)) (omega arith)

      four : IsNumber 4
      four = ap (λ i. with_bytes s (with_number 4 i n s.bytes)) (omega arith)

      eight : IsNumber 8
      eight = ap (λ i. with_bytes s (with_number 8 i n s.bytes)) (omega arith)

place_of_bits : (o : ℕ) (d : Value) (t : SchemaType) → HasWidths t → (n : ℕ) (s : StructTree) → is_pointer t ≡ false → place_written (plan_place (Slot o d) t) (Bits n) s ≡ with_content s o t (Bits n)
place_of_bits o d VoidType h n s p = refl
place_of_bits o d BoolType h n s p = ap (λ i. with_bytes s (with_bit i (n == 1) s.bytes)) (omega arith)
place_of_bits o d (IntType k) h n s p = number_place o d n s k h
place_of_bits o d (UIntType k) h n s p = number_place o d n s k h
place_of_bits o d (EnumType e) h n s p = number_place o d n s 2 refl
place_of_bits o d TextType h n s p = absurd (true≢false p)
place_of_bits o d DataType h n s p = absurd (true≢false p)
place_of_bits o d (StructType b g) h n s p = absurd (true≢false p)
place_of_bits o d (ListType e) h n s p = absurd (true≢false p)
place_of_bits o d AnyPointerType h n s p = absurd (true≢false p)

pointer_at : (q : Bool) (o w : ℕ) (d : Value) (c : Content) (s : StructTree) → q ≡ true → place_written (slot_place q w o d) c s ≡ place_written (place.Pointer o) c s
pointer_at true o w d c s e = refl
pointer_at false o w d c s e = absurd (true≢false (sym e))

pub slot_place_written : (o : ℕ) (d : Value) (t : SchemaType) → HasWidths t → (c : Content) (s : StructTree) → Suits t c → place_written (plan_place (Slot o d) t) c s ≡ with_content s o t c
slot_place_written o d t h (Bits n) s fits = place_of_bits o d t h n s fits.0
slot_place_written o d t h (At x) s fits = pointer_at (is_pointer t) o (width t) d (At x) s fits

-- ---- numbers and clears at a place ----

data_loads : (w o : ℕ) (d : Value) (bytes : List ℕ) → place_bits (data_place w o d) bytes ≡ bits_at bytes (o * w) w
data_loads zero o d bytes = refl
data_loads (suc w) o d bytes = refl

pub slot_loads : (q : Bool) (w o : ℕ) (d : Value) → q ≡ false → (bytes : List ℕ) → place_bits (slot_place q w o d) bytes ≡ bits_at bytes (o * w) w
slot_loads true w o d e bytes = absurd (true≢false e)
slot_loads false w o d e bytes = data_loads w o d bytes

data_holds : (w o : ℕ) (d : Value) (n : ℕ) → n < 2 ^ w → HoldsNumber (data_place w o d) n
data_holds zero o d n h = tt
data_holds (suc w) o d n h = h

slot_holds : (q : Bool) (w o : ℕ) (d : Value) (n : ℕ) → n < 2 ^ w → HoldsNumber (slot_place q w o d) n
slot_holds true w o d n h = tt
slot_holds false w o d n h = data_holds w o d n h

pub place_holds : (o : ℕ) (d : Value) (t : SchemaType) (n : ℕ) → n < 2 ^ width t → HoldsNumber (plan_place (Slot o d) t) n
place_holds o d t n h = slot_holds (is_pointer t) (width t) o d n h

data_mask : (w o : ℕ) (d : Value) (n : ℕ) (s : StructTree) → place_written (data_place w o d) (Bits (bit_xor n (place_mask (data_place w o d)))) s ≡ place_written (data_place w o d) (Bits (bit_xor n (default_bits d))) s
data_mask zero o d n s = refl
data_mask (suc w) o d n s = refl

slot_mask : (q : Bool) (w o : ℕ) (d : Value) (n : ℕ) (s : StructTree) → place_written (slot_place q w o d) (Bits (bit_xor n (place_mask (slot_place q w o d)))) s ≡ place_written (slot_place q w o d) (Bits (bit_xor n (default_bits d))) s
slot_mask true w o d n s = refl
slot_mask false w o d n s = data_mask w o d n s

pub place_stores : (o : ℕ) (d : Value) (t : SchemaType) (n : ℕ) (s : StructTree) →
    place_written (plan_place (Slot o d) t) (Bits (bit_xor n (place_mask (plan_place (Slot o d) t)))) s ≡ place_written (plan_place (Slot o d) t) (Bits (bit_xor n (default_bits d))) s
place_stores o d t n s = slot_mask (is_pointer t) (width t) o d n s

data_clears : (w o : ℕ) (d : Value) (s : StructTree) → place_written (data_place w o d) (place_cleared (data_place w o d)) s ≡ place_written (data_place w o d) (Bits 0) s
data_clears zero o d s = refl
data_clears (suc w) o d s = refl

slot_clears : (q : Bool) (w o : ℕ) (d : Value) (s : StructTree) → place_written (slot_place q w o d) (place_cleared (slot_place q w o d)) s ≡ place_written (slot_place q w o d) (elim q as (λ _. Content) [ true ↦ At Null | false ↦ Bits 0 ]) s
slot_clears true w o d s = refl
slot_clears false w o d s = data_clears w o d s

pub place_clears : (o : ℕ) (d : Value) (t : SchemaType) (s : StructTree) →
    place_written (plan_place (Slot o d) t) (place_cleared (plan_place (Slot o d) t)) s ≡ place_written (plan_place (Slot o d) t) (cleared_content t) s
place_clears o d t s = slot_clears (is_pointer t) (width t) o d s

-- ---- the union ----

pub member_switched_by : (q : Bool) (n : Node) (f : Field) (s : StructTree) → member_switched (member_plan q n f) s ≡ (elim q as (λ _. StructTree) [ true ↦ switch n f.discriminant_value s | false ↦ s ])
member_switched_by true n f s = ap (λ i. with_bytes s (with_number 2 i f.discriminant_value s.bytes)) (omega arith)
member_switched_by false n f s = refl

-- ---- what stays well-formed ----

number_written : (width offset n : ℕ) (s : StructTree) → (offset + 1) * width ≤ length s.bytes → IsWellFormed (struct_tree s) → IsWellFormed (struct_tree (with_bytes s (with_number width offset n s.bytes)))
number_written width offset n s inside h = of_same_size s _ h (IsElement_with_number _ _ s width offset n inside (own_size s h))

bit_written : (i : ℕ) (bit : Bool) (s : StructTree) → IsWellFormed (struct_tree s) → IsWellFormed (struct_tree (with_bytes s (with_bit i bit s.bytes)))
bit_written i bit s h = of_same_size s _ h (IsElement_with_bit _ _ s i bit (own_size s h))

pointer_written : (i : ℕ) (t : Tree) (s : StructTree) → IsWellFormed t → IsWellFormed (struct_tree s) → IsWellFormed (struct_tree (with_pointer_tree s i t))
pointer_written i t s k h = of_same_size s _ h (IsElement_with_pointer_tree _ _ s i t (own_size s h) k)

module _ (n : Node) (s : StructTree) (size : HasAtLeast (node_size n) s) where
  switched_size : (q : Bool) (d : ℕ) → (q ≡ true → 16 * (n.discriminant_offset + 1) ≤ 64 * n.data_word_count) →
      length (elim q as (λ _. StructTree) [ true ↦ switch n d s | false ↦ s ]).bytes ≡ length s.bytes
  switched_size true d inside = length_with_number 2 n.discriminant_offset d s.bytes (omega (arith, inside refl, size.0))
  switched_size false d inside = refl

  switched_formed : (q : Bool) (d : ℕ) → (q ≡ true → 16 * (n.discriminant_offset + 1) ≤ 64 * n.data_word_count) →
      IsWellFormed (struct_tree s) → IsWellFormed (struct_tree (elim q as (λ _. StructTree) [ true ↦ switch n d s | false ↦ s ]))
  switched_formed true d inside h = number_written 2 n.discriminant_offset d s (omega (arith, inside refl, size.0)) h
  switched_formed false d inside h = h

  pub switch_formed : (f : TypedField) → LiesInNode n f → IsWellFormed (struct_tree s) → IsWellFormed (struct_tree (switched_struct n f.field s))
  switch_formed f lies h = switched_formed (is_member f.field) f.field.discriminant_value (λ e. lies.discriminant e) h

  pub switch_size : (f : TypedField) → LiesInNode n f → length (switched_struct n f.field s).bytes ≡ length s.bytes
  switch_size f lies = switched_size (is_member f.field) f.field.discriminant_value (λ e. lies.discriminant e)

content_formed : (t : SchemaType) (o : ℕ) (c : Content) (s : StructTree) → Suits t c → IsFormed c → (o + 1) * width t ≤ 8 * length s.bytes → IsWellFormed (struct_tree s) → IsWellFormed (struct_tree (with_content s o t c))
content_formed VoidType o (Bits n) s fits g inside h = h
content_formed BoolType o (Bits n) s fits g inside h = bit_written o (n == 1) s h
content_formed (IntType k) o (Bits n) s fits g inside h = number_written k o n s (omega (arith, inside)) h
content_formed (UIntType k) o (Bits n) s fits g inside h = number_written k o n s (omega (arith, inside)) h
content_formed (EnumType e) o (Bits n) s fits g inside h = number_written 2 o n s (omega (arith, inside)) h
content_formed TextType o (Bits n) s fits g inside h = absurd (true≢false fits.0)
content_formed DataType o (Bits n) s fits g inside h = absurd (true≢false fits.0)
content_formed (StructType b r) o (Bits n) s fits g inside h = absurd (true≢false fits.0)
content_formed (ListType e) o (Bits n) s fits g inside h = absurd (true≢false fits.0)
content_formed AnyPointerType o (Bits n) s fits g inside h = absurd (true≢false fits.0)
content_formed t o (At x) s fits g inside h = pointer_written o x s g h

pub slot_formed : (n : Node) (f : TypedField) (o : ℕ) (d : Value) (s : StructTree) → f.field.kind ≡ Slot o d → HasAtLeast (node_size n) s → LiesInNode n f → (c : Content) → Suits f.type c → IsFormed c →
    IsWellFormed (struct_tree s) → IsWellFormed (struct_tree (with_content (switched_struct n f.field s) o f.type c))
slot_formed n f o d s kind size lies c fits g h =
    let slot : LiesInside n (Slot o d) f.type = subst (λ k. LiesInside n k f.type) kind lies.slot in
    content_formed f.type o c (switched_struct n f.field s) fits g (omega (arith, slot.0, size.0, switch_size n s size f lies)) (switch_formed n s size f lies h)
