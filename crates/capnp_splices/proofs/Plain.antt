-- Elements of lists of pointers and of numbers.
use Rattle.std.proofs.Common.{◌≡◌, ◌≢◌, ℕ, ◌+◌, ◌*◌, ◌/◌, ◌<◌, ◌≤◌, not, nat_lt, replicate, refl, sym, ap, subst, ◌∙◌, arith}
use Rattle.std.proofs.Math.Nat.{mul-div_cancel_left}
use Rattle.capnp_wire.specs.Edits.{zero_list}
use Rattle.capnp_wire.specs.ElementSizes.{element_size_of}
use Rattle.capnp_wire.specs.Locate.{words_past_format}
use Rattle.capnp_wire.specs.Reading.{element_pointer, list_length}
use Rattle.capnp_wire.specs.Tree.{Tree, Null, Struct, Voids, Bits, Numbers, Pointers, Composite, FaultLeaf}
use Rattle.capnp_wire.specs.declared.size.ElementSize.{ElementSize}
use Rattle.capnp_wire.specs.declared.size.ElementSize.TheVariants as size
use Rattle.capnp_wire.specs.declared.size.StructSize.{StructSize}
use Rattle.capnp_arena.specs.Made.{size_number, width_of}
use Rattle.capnp_splices.specs.Facts.Carried.{length_of_bytes}
use Rattle.capnp_splices.specs.Facts.Inside.{picked_has}
use Rattle.capnp_splices.specs.Splices.{Element, HasRoomFor, Splice, is_past_format, number_of, picked, pointer_of, spliced_count, spliced_numbers}

-- ---- pointers ----

size_differs : {A : Type 0} (a b : ElementSize) (m n : ℕ) → size_number a ≡ m → size_number b ≡ n → m ≢ n → a ≡ b → A
size_differs a b m n p q h e = absurd (h (sym p ∙ (ap size_number e ∙ q)))

-- an element of a list of pointers has the same levels whatever are left
pub plain_pointer : (t : Tree) (i levels : ℕ) → element_size_of t ≡ size.Pointer → element_pointer t i levels ≡ element_pointer t i 1
plain_pointer Null i levels h = refl
plain_pointer (Struct bytes ps) i levels h = refl
plain_pointer (Voids n) i levels h = refl
plain_pointer (Bits bs) i levels h = refl
plain_pointer (Numbers w bytes) i levels h = refl
plain_pointer (Pointers ps) i levels h = refl
plain_pointer (Composite d p es) i levels h = size_differs size.InlineComposite size.Pointer 7 6 refl refl (λ e. omega (arith, e)) h
plain_pointer (FaultLeaf k) i levels h = refl

pub picked_pointer : (s : Splice) (i levels : ℕ) (e : Element) → s.at + s.removed ≤ list_length s.old → i < spliced_count s → element_size_of s.old ≡ size.Pointer → element_size_of s.added ≡ size.Pointer → e ≡ picked s i
    → element_pointer e.list e.index levels ≡ pointer_of (picked s i)
picked_pointer s i levels e within inside old added at =
    ap (λ (x : Element). element_pointer x.list x.index levels) at
    ∙ picked_has (λ x. element_pointer x.list x.index levels ≡ pointer_of x) s i within inside (λ j h. plain_pointer s.old j levels old) (λ j h. plain_pointer s.added j levels added)

-- ---- numbers ----

-- a new list of numbers is all zero
pub new_numbers : (z : ElementSize) (w n : ℕ) → w ≡ width_of z → 0 < w → zero_list z n ≡ Numbers w (replicate (w * n) 0)
new_numbers size.Byte w n e h = ap (λ k. Numbers 1 (replicate k 0)) {x = n} {y = 1 * n} (omega arith) ∙ ap (λ k. Numbers k (replicate (k * n) 0)) {x = 1} {y = w} (sym e)
new_numbers size.TwoBytes w n e h = ap (λ k. Numbers k (replicate (k * n) 0)) {x = 2} {y = w} (sym e)
new_numbers size.FourBytes w n e h = ap (λ k. Numbers k (replicate (k * n) 0)) {x = 4} {y = w} (sym e)
new_numbers size.EightBytes w n e h = ap (λ k. Numbers k (replicate (k * n) 0)) {x = 8} {y = w} (sym e)
new_numbers size.Void w n e h = absurd (omega (arith, e, h))
new_numbers size.Bit w n e h = absurd (omega (arith, e, h))
new_numbers size.Pointer w n e h = absurd (omega (arith, e, h))
new_numbers size.InlineComposite w n e h = absurd (omega (arith, e, h))

-- numbers are no structs
pub no_structs : (z : ElementSize) (w : ℕ) → w ≡ width_of z → 0 < w → z ≢ size.InlineComposite
no_structs z w e h is = omega (arith, e, h, ap width_of is)

pub numbers_past : (w : ℕ) (s : Splice) → 0 < w → is_past_format (spliced_numbers w s) ≡ not (nat_lt (spliced_count s) words_past_format)
numbers_past w s h =
    ap (λ n. not (nat_lt n words_past_format))
    (ap (λ k. k / w) (length_of_bytes w (λ i. number_of w (picked s i)) 0 (spliced_count s)) ∙ mul-div_cancel_left (spliced_count s) h)

-- ---- structs ----

-- a size that has room for the elements of both lists has it for each that is picked
pub picked_room : (size : StructSize) (s : Splice) (i : ℕ) (e : Element) → s.at + s.removed ≤ list_length s.old → i < spliced_count s → HasRoomFor size s.old → HasRoomFor size s.added → e ≡ picked s i → HasRoomFor size e.list
picked_room size s i e within inside old added at =
    subst (λ (x : Element). HasRoomFor size x.list) (sym at) (picked_has (λ x. HasRoomFor size x.list) s i within inside (λ j h. old) (λ j h. added))
