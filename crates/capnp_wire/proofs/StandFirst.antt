-- In a list that is read as numbers or pointers, an element stands first in that element read as a struct.
use Rattle.std.proofs.Common.{ℕ, zero, suc, ◌*◌, ◌<◌, ◌≡◌, refl, List, [], Bool, true, false, cond, ◌==◌, drop, take, arith, ap, sym, subst, ◌∙◌}
use Rattle.std.proofs.lemmas.Bool.{eqb-true}
use Rattle.std.proofs.lemmas.List.{take-take}
use Rattle.capnp_wire.specs.StandFirst.{NumbersStandFirst, PointersStandFirst, number_width}
use Rattle.capnp_wire.specs.Reading.{cut_pointer, element_number, element_struct, reads_numbers}
use Rattle.capnp_wire.specs.Slot.{little_endian, number_at}
use Rattle.capnp_wire.specs.Tree.{Tree, Trees, Null, Struct, Voids, Bits, Numbers, Pointers, Composite, FaultLeaf, NoTrees, MoreTrees, nth_struct, nth_tree, only_tree}
use Rattle.capnp_wire.specs.declared.fault.Fault.TheVariants as fault
use Rattle.capnp_wire.specs.declared.size.ElementSize.{ElementSize}
use Rattle.capnp_wire.specs.declared.size.ElementSize.TheVariants as size

clash : false ≡ true → ⊥
clash e = cc

-- bytes that are cut out spell the number that they spell where they stand
cut_out : (k i : ℕ) (bytes : List ℕ) → number_at k i bytes ≡ number_at k 0 (element_struct (Numbers k bytes) i).bytes
cut_out k i bytes =
    let xs = take k (drop (i * k) bytes) in
    let start : 0 * k ≡ 0 = omega arith in
    sym (ap (λ (n : ℕ). little_endian (take k (drop n xs))) start ∙ ap little_endian (take-take k k (drop (i * k) bytes) (omega arith)))

of_width : (k w i : ℕ) (bytes : List ℕ) → (w == k) ≡ true → element_number k (Numbers w bytes) i ≡ number_at k 0 (element_struct (Numbers w bytes) i).bytes
of_width k w i bytes h = subst (λ (v : ℕ). element_number k (Numbers v bytes) i ≡ number_at k 0 (element_struct (Numbers v bytes) i).bytes) (sym (eqb-true w k h)) (cut_out k i bytes)

numbers : (s : ElementSize) (w : ℕ) (bytes : List ℕ) → reads_numbers s w ≡ true → (i : ℕ) → element_number (number_width s) (Numbers w bytes) i ≡ number_at (number_width s) 0 (element_struct (Numbers w bytes) i).bytes
numbers size.Void w bytes h i = refl
numbers size.Bit w bytes h i = refl
numbers size.Byte w bytes h i = of_width 1 w i bytes h
numbers size.TwoBytes w bytes h i = of_width 2 w i bytes h
numbers size.FourBytes w bytes h i = of_width 4 w i bytes h
numbers size.EightBytes w bytes h i = of_width 8 w i bytes h
numbers size.Pointer w bytes h i = refl
numbers size.InlineComposite w bytes h i = refl

-- a struct of size zero spells zero
nothing : (s : ElementSize) → 0 ≡ number_at (number_width s) 0 []
nothing size.Void = refl
nothing size.Bit = refl
nothing size.Byte = refl
nothing size.TwoBytes = refl
nothing size.FourBytes = refl
nothing size.EightBytes = refl
nothing size.Pointer = refl
nothing size.InlineComposite = refl

pub numbers_stand_first : NumbersStandFirst
numbers_stand_first s Null h i = absurd (clash h)
numbers_stand_first s (Struct bytes ps) h i = absurd (clash h)
numbers_stand_first s (Voids n) h i = nothing s
numbers_stand_first s (Bits bs) h i = nothing s
numbers_stand_first s (Numbers w bytes) h i = numbers s w bytes h i
numbers_stand_first s (Pointers ps) h i = nothing s
numbers_stand_first s (Composite d p es) h i = refl
numbers_stand_first s (FaultLeaf k) h i = absurd (clash h)

only_first : (ps : Trees) (i : ℕ) → nth_tree ps i ≡ nth_tree (only_tree ps i) 0
only_first NoTrees i = refl
only_first (MoreTrees t ts) zero = refl
only_first (MoreTrees t ts) (suc i) = only_first ts i

some_left : (levels : ℕ) → 0 < levels → (levels == 0) ≡ false
some_left levels h = grind arith

-- where a level is left nothing is cut
uncut : (t : Tree) (levels : ℕ) → 0 < levels → cut_pointer levels t ≡ t
uncut Null levels h = refl
uncut t levels h = ap (λ (q : Bool). cond q (FaultLeaf fault.TooDeep) t) (some_left levels h)

pub pointers_stand_first : PointersStandFirst
pointers_stand_first Null h i levels left = absurd (clash h)
pointers_stand_first (Struct bytes ps) h i levels left = absurd (clash h)
pointers_stand_first (Voids n) h i levels left = absurd (clash h)
pointers_stand_first (Bits bs) h i levels left = absurd (clash h)
pointers_stand_first (Numbers w bytes) h i levels left = absurd (clash h)
pointers_stand_first (Pointers ps) h i levels left = only_first ps i
pointers_stand_first (Composite d p es) h i levels left = uncut (nth_tree (nth_struct es i).pointers 0) levels left
pointers_stand_first (FaultLeaf k) h i levels left = absurd (clash h)
