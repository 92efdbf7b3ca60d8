-- A list of items stays one while they are filled.
use Rattle.std.proofs.Common.{◌≡◌, ℕ, ◌<◌, ◌*◌, ◌^◌, ap, arith, subst, sym, ◌∙◌, List, length}
use Rattle.capnp_wire.specs.Tree.{Tree, Composite, StructTree, nth_struct, struct_count, tree_count}
use Rattle.capnp_wire.specs.Edits.{zero_struct, zero_structs}
use Rattle.capnp_wire.specs.Elements.{HasStruct, with_struct_element}
use Rattle.capnp_wire.specs.Reading.{element_struct}
use Rattle.capnp_wire.specs.WellFormed.{IsWellFormed}
use Rattle.capnp_wire.specs.Steps.WellFormed.{IsElement}
use Rattle.capnp_wire.specs.declared.size.StructSize.{StructSize}
use Rattle.capnp_wire.specs.Facts.Lists.{IsWellFormed_zero_structs}
use Rattle.capnp_wire.specs.Facts.Rows.{IsElement_nth_struct, struct_count_structs_from, struct_count_with_struct}
use Rattle.capnp_arena.specs.Facts.Places.{data_of, pointers_of}
use Rattle.capnp_arena.specs.Forest.{Planted, struct_from}
use Rattle.capnp_arena.specs.Shape.{StructIn}
use Rattle.capnp_bench.specs.Steps.Items.{AreItems}

pub there : (count : ℕ) (t : Tree) (i : ℕ) → AreItems count t → i < count → HasStruct t i
there count (Composite d p es) i h a = omega (arith, h.3, a)
there count t i h a = absurd h

-- the sections of an item
sections : (count : ℕ) (t : Tree) (i : ℕ) (s : StructTree) → s ≡ element_struct t i → AreItems count t → i < count → (length s.bytes ≡ 16) × (tree_count s.pointers ≡ 2)
sections count (Composite d p es) i s e h a =
    let inside : i < struct_count es = omega (arith, h.3, a) in
    let x : IsElement d p (nth_struct es i) = IsElement_nth_struct d p es i h.0.4 inside in
    subst (λ (y : StructTree). (length y.bytes ≡ 16) × (tree_count y.pointers ≡ 2)) (sym e) (x.1 ∙ ap (λ n. 8 * n) h.1, x.2 ∙ h.2)
sections count t i s e h a = absurd h

pub size : (count : ℕ) (t : Tree) (i : ℕ) (bytes : List ℕ) (start d p : ℕ) → struct_from bytes start d p ≡ element_struct t i → Planted bytes (StructIn start d p) → AreItems count t → i < count → (d ≡ 2) × (p ≡ 2)
size count t i bytes start d p e planted h a =
    let s = sections count t i (struct_from bytes start d p) e h a in
    let n = data_of bytes start d p planted in
    let m = pointers_of bytes start d p in
    (omega (arith, s.0, n), sym m ∙ s.1)

pub still : (count : ℕ) (t u : Tree) (i : ℕ) (s : StructTree) → u ≡ with_struct_element i s t → AreItems count t → IsWellFormed u → AreItems count u
still count (Composite d p es) u i s e h formed =
    subst (AreItems count) (sym e) (subst IsWellFormed e formed, h.1, h.2, struct_count_with_struct es i s ∙ h.3)
still count t u i s e h formed = absurd h

pub new : (count : ℕ) (size : StructSize) (t : Tree) → t ≡ zero_structs size count → size.data_words ≡ 2 → size.pointers ≡ 2 → count * 4 < 2 ^ 29 → AreItems count t
new count size t e a b c =
    subst (AreItems count) (sym e)
    (IsWellFormed_zero_structs size count (omega (arith, a)) (omega (arith, b)) (omega (arith, c)) (rw (a, b) c), a, b, struct_count_structs_from (λ _. zero_struct size) 0 count)
