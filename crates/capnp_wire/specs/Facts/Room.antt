-- In a well-formed list that is read as elements of a size, each of them is there to be written.
use mathlib.Core.Bool.{true≢false}
use Rattle.std.proofs.Common.{Result, Ok, Err, cond, ◌==◌, ◌≡◌, ℕ, ◌+◌, ◌*◌, ◌/◌, ◌<◌, ◌≤◌, refl, sym, ◌∙◌, arith, Bool, true, false, length}
use Rattle.std.proofs.lemmas.Bool.Decides.{nat_tests}
use Rattle.capnp_wire.specs.Tree.{Tree, Null, Struct, Voids, Bits, Numbers, Pointers, Composite, FaultLeaf, nth_struct}
use Rattle.capnp_wire.specs.Reading.{as_list, is_null_tree, list_length, reads_bits, reads_numbers, reads_pointers, reads_structs, reads_voids}
use Rattle.capnp_wire.specs.Elements.{HasBit, HasNumber, HasPointer, reads_list}
use Rattle.capnp_wire.specs.Steps.WellFormed.{IsElement}
use Rattle.capnp_wire.specs.WellFormed.{IsWellFormed}
use Rattle.capnp_wire.specs.declared.size.ElementSize.{ElementSize}
use Rattle.capnp_wire.specs.declared.size.ElementSize.TheVariants.{Void, Bit, Byte, TwoBytes, FourBytes, EightBytes, Pointer, InlineComposite}
use Rattle.capnp_device.specs.declared.error.ErrorKind.{ErrorKind}
use Rattle.capnp_device.specs.declared.error.ErrorKind.TheVariants as kind
use Rattle.capnp_wire.specs.Facts.Rows.{IsElement_nth_struct}

-- ---- what a list is read as ----

read_so : (deep reads : Bool) (t u : Tree) → cond deep (Err kind.TooDeep) (cond reads (Ok t) (Err kind.WrongElementSize)) ≡ Ok u → reads ≡ true
read_so true reads t u e = cc
read_so false true t u e = refl
read_so false false t u e = cc

no_list : (deep : Bool) (u : Tree) → cond {A = Result Tree ErrorKind} deep (Err kind.TooDeep) (Err kind.WrongPointerKind) ≡ Ok u → ⊥
no_list true u e = cc
no_list false u e = cc

-- what was read as a list, and isn't null, is one of such elements
pub reads_list_as_list : (size : ElementSize) (t : Tree) (levels : ℕ) (u : Tree) → is_null_tree t ≡ false → as_list size t levels ≡ Ok u → reads_list size t ≡ true
reads_list_as_list size Null levels u n e = absurd (true≢false n)
reads_list_as_list size (Struct bytes ps) levels u n e = absurd (no_list (levels == 0) u e)
reads_list_as_list size (Voids c) levels u n e = read_so (levels == 0) (reads_voids size) (Voids c) u e
reads_list_as_list size (Bits bs) levels u n e = read_so (levels == 0) (reads_bits size) (Bits bs) u e
reads_list_as_list size (Numbers w bytes) levels u n e = read_so (levels == 0) (reads_numbers size w) (Numbers w bytes) u e
reads_list_as_list size (Pointers ps) levels u n e = read_so (levels == 0) (reads_pointers size) (Pointers ps) u e
reads_list_as_list size (Composite d p es) levels u n e = read_so (levels == 0) (reads_structs size d p) (Composite d p es) u e
reads_list_as_list size (FaultLeaf k) levels u n e = cc

-- ---- bits and pointers ----

pub HasBit_there : (t : Tree) (i : ℕ) → reads_list Bit t ≡ true → i < list_length t → HasBit t i
HasBit_there Null i r a = absurd (true≢false (sym r))
HasBit_there (Struct bytes ps) i r a = absurd (true≢false (sym r))
HasBit_there (Voids n) i r a = absurd (true≢false (sym r))
HasBit_there (Bits bs) i r a = a
HasBit_there (Numbers w bytes) i r a = absurd (true≢false (sym r))
HasBit_there (Pointers ps) i r a = absurd (true≢false (sym r))
HasBit_there (Composite d p es) i r a = absurd (true≢false (sym r))
HasBit_there (FaultLeaf k) i r a = absurd (true≢false (sym r))

pub HasPointer_there : (t : Tree) (i : ℕ) → reads_list Pointer t ≡ true → IsWellFormed t → i < list_length t → HasPointer t i
HasPointer_there Null i r h a = absurd (true≢false (sym r))
HasPointer_there (Struct bytes ps) i r h a = absurd (true≢false (sym r))
HasPointer_there (Voids n) i r h a = absurd (true≢false (sym r))
HasPointer_there (Bits bs) i r h a = absurd (true≢false (sym r))
HasPointer_there (Numbers w bytes) i r h a = absurd (true≢false (sym r))
HasPointer_there (Pointers ps) i r h a = a
HasPointer_there (Composite d p es) i r h a =
    let e : IsElement d p (nth_struct es i) = IsElement_nth_struct d p es i h.4 a in
    let some : 0 < p = grind (arith, nat_tests, r) in
    (a, omega (arith, e.2, some))
HasPointer_there (FaultLeaf k) i r h a = absurd (true≢false (sym r))

-- ---- numbers ----

inside_row : (i width count : ℕ) → i < count → (i + 1) * width ≤ width * count
inside_row i width count h = grind (arith, h)

-- where just numbers of a width are asked
module _ (size : ElementSize) (width : ℕ) (small : width ≤ 8) (numbers : (w : ℕ) → reads_numbers size w ≡ true → w ≡ width) (structs : (d p : ℕ) → reads_structs size d p ≡ true → 0 < d) (voids : reads_voids size ≡ false) (bits : reads_bits size ≡ false) (pointers : reads_pointers size ≡ false) where
  number_there : (t : Tree) (i : ℕ) → reads_list size t ≡ true → IsWellFormed t → i < list_length t → HasNumber width t i
  number_there Null i r h a = absurd (true≢false (sym r))
  number_there (Struct bytes ps) i r h a = absurd (true≢false (sym r))
  number_there (Voids n) i r h a = absurd (true≢false (sym r ∙ voids))
  number_there (Bits bs) i r h a = absurd (true≢false (sym r ∙ bits))
  number_there (Numbers w bytes) i r h a =
      let same : w ≡ width = numbers w r in
      let row : (i + 1) * w ≤ w * (length bytes / w) = inside_row i w (length bytes / w) a in
      let inside : (i + 1) * w ≤ length bytes = omega (arith, row, h.2) in
      rw (← same) inside
  number_there (Pointers ps) i r h a = absurd (true≢false (sym r ∙ pointers))
  number_there (Composite d p es) i r h a =
      let e : IsElement d p (nth_struct es i) = IsElement_nth_struct d p es i h.4 a in
      (a, omega (arith, small, e.1, structs d p r))
  number_there (FaultLeaf k) i r h a = absurd (true≢false (sym r))

same_width : (k w width : ℕ) → (width == k) ≡ true → (w == k) ≡ true → w ≡ width
same_width k w width a b = grind (arith, nat_tests, a, b)

width_is : (k width : ℕ) → (width == k) ≡ true → k ≤ 8 → width ≤ 8
width_is k width a b = grind (arith, nat_tests, a, b)

pub HasNumber_there : (size : ElementSize) (width : ℕ) (t : Tree) (i : ℕ) → reads_voids size ≡ false → reads_numbers size width ≡ true → reads_list size t ≡ true → IsWellFormed t → i < list_length t → HasNumber width t i
HasNumber_there Void width t i v n r h a = absurd (true≢false v)
HasNumber_there Bit width t i v n r h a = absurd (true≢false (sym n))
HasNumber_there Byte width t i v n r h a =
    number_there Byte width (width_is 1 width n (omega arith)) (λ w q. same_width 1 w width n q) (λ d p q. grind (arith, nat_tests, q)) refl refl refl t i r h a
HasNumber_there TwoBytes width t i v n r h a =
    number_there TwoBytes width (width_is 2 width n (omega arith)) (λ w q. same_width 2 w width n q) (λ d p q. grind (arith, nat_tests, q)) refl refl refl t i r h a
HasNumber_there FourBytes width t i v n r h a =
    number_there FourBytes width (width_is 4 width n (omega arith)) (λ w q. same_width 4 w width n q) (λ d p q. grind (arith, nat_tests, q)) refl refl refl t i r h a
HasNumber_there EightBytes width t i v n r h a =
    number_there EightBytes width (width_is 8 width n (omega arith)) (λ w q. same_width 8 w width n q) (λ d p q. grind (arith, nat_tests, q)) refl refl refl t i r h a
HasNumber_there Pointer width t i v n r h a = absurd (true≢false (sym n))
HasNumber_there InlineComposite width t i v n r h a = absurd (true≢false v)
