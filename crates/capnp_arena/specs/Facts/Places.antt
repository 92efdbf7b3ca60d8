-- Structs by their places: their sizes, and calls at their pointers.
use Rattle.std.proofs.Common.{◌≡◌, ℕ, ◌*◌, ◌+◌, ◌<◌, inl, refl, sym, subst, arith, List, length, ◌∙◌, ap}
use Rattle.std.proofs.lemmas.List.{length-drop, length-take-le}
use Rattle.capnp_wire.specs.Edits.{with_pointer_tree}
use Rattle.capnp_wire.specs.Facts.Indexed.{tree_count_from}
use Rattle.capnp_wire.specs.Tree.{tree_count}
use Rattle.capnp_arena.specs.Built.{LeavesIn, built_at, place_words}
use Rattle.capnp_arena.specs.Facts.Calls.{one_by_one, parts_one_by_one}
use Rattle.capnp_arena.specs.Facts.Laws.{IsInPointer, in_pointer}
use Rattle.capnp_arena.specs.Forest.{Changes, Forest, PartChanges, Planted, struct_from, tree}
use Rattle.capnp_arena.specs.Segment.{segment}
use Rattle.capnp_arena.specs.Shape.{Shape, StructIn}
use Rattle.capnp_arena.specs.declared.arena.Arena.{Arena}
use Rattle.capnp_arena.specs.declared.arena.Place.{Place}

pub pointers_of : (bytes : List ℕ) (a d p : ℕ) → tree_count (struct_from bytes a d p).pointers ≡ p
pointers_of bytes a d p = tree_count_from (tree bytes) (a + d) p

pub data_of : (bytes : List ℕ) (a d p : ℕ) → Planted bytes (StructIn a d p) → length (struct_from bytes a d p).bytes ≡ 8 * d
data_of bytes a d p f = let e = length-drop (8 * a) bytes in length-take-le (8 * d) _ (omega (arith, f.ends, e))

pub unchanged : (old new : List ℕ) (s : Shape) → new ≡ old → PartChanges s old new
unchanged old new s e = subst (PartChanges s old) (sym e) (record {
  longer = omega arith;
  stays = λ k l o. refl;
  grows = λ k o. inl o;
  tags = λ k t. refl;
})

-- a call at a pointer of a struct
pub pointer_leaves : (old : Arena) (p : Place) (i at : ℕ) → Planted (segment old) (place_words p) → i < tree_count (built_at old p).pointers → at ≡ p.start + p.data_words + i
    → (new : List ℕ) → Forest new at → Changes at (segment old) new → LeavesIn p i old at new
pointer_leaves old p i at f l w new g c =
    let z : IsInPointer (segment old) new p.start p.data_words p.pointers i = in_pointer (segment old) new p.start p.data_words p.pointers i f (omega (arith, l, pointers_of (segment old) p.start p.data_words p.pointers)) (subst (Forest new) w g) (subst (λ k. Changes k (segment old) new) w c) in
    record { planted = z.planted; changes = z.changes; struct = z.struct ∙ ap (λ k. with_pointer_tree (built_at old p) i (tree new k)) (sym w) }

-- one call after another, in a struct and at a pointer
pub then : {s : Shape} {a b c : List ℕ} → PartChanges s a b → PartChanges s b c → PartChanges s a c
then {s} {a} {b} {c} x y = parts_one_by_one a b c s x y

pub at_then : {w : ℕ} {a b c : List ℕ} → Changes w a b → Changes w b c → Changes w a c
at_then {w} {a} {b} {c} x y = one_by_one a b c w x y
