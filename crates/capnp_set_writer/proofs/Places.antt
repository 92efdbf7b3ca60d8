-- Structs by their places: new ones, and what a call in one leaves at the pointer to it.
use Rattle.std.proofs.Common.{◌≡◌, ℕ, ◌*◌, inl, refl, ap, sym, arith, List, length, ◌∙◌}
use Rattle.std.proofs.lemmas.List.{length-replicate}
use Rattle.capnp_wire.specs.Edits.{nulls, zero_struct}
use Rattle.capnp_wire.specs.Facts.Rows.{tree_count_nulls}
use Rattle.capnp_wire.specs.Place.{struct_tree}
use Rattle.capnp_wire.specs.Tree.{StructTree, Tree, tree_count}
use Rattle.capnp_wire.specs.declared.size.StructSize.{StructSize}
use Rattle.capnp_arena.specs.Built.{IsBuilt, built_at, place_words}
use Rattle.capnp_arena.specs.Facts.Laws.{IsInStruct, in_struct, struct_is, struct_planted}
use Rattle.capnp_arena.specs.Facts.Places.{at_then, data_of, pointers_of}
use Rattle.capnp_arena.specs.Forest.{Changes, Forest, tree}
use Rattle.capnp_arena.specs.Frame.{LeavesPointer, LeavesStruct}
use Rattle.capnp_arena.specs.Segment.{segment}
use Rattle.capnp_arena.specs.Shape.{shape_at}
use Rattle.capnp_arena.specs.declared.arena.Arena.{Arena}
use Rattle.capnp_arena.specs.declared.arena.Place.{Place}
use Rattle.capnp_set_writer.specs.Trees.{zeros}
use Rattle.capnp_set_writer.specs.Steps.Writes.{IsNew, blank}

-- where nothing has changed
pub changes_none : (w : ℕ) (bytes : List ℕ) → Changes w bytes bytes
changes_none w bytes = record {
  longer = omega arith;
  stays = λ k l n o. refl;
  grows = λ k o. inl o;
}

-- a blank struct has its place's sections
pub new_by_tree : (a : Arena) (p : Place) (d q : ℕ) → IsBuilt a p → built_at a p ≡ blank d q → IsNew d q a p
new_by_tree a p d q f e =
    let words : 8 * p.data_words ≡ 8 * d = sym (data_of (segment a) p.start p.data_words p.pointers f) ∙ (ap (λ (s : StructTree). length s.bytes) e ∙ length-replicate (8 * d) 0) in
    record {
      planted = f;
      is = e;
      data_words = omega (arith, words);
      pointers = sym (pointers_of (segment a) p.start p.data_words p.pointers) ∙ (ap (λ (s : StructTree). tree_count s.pointers) e ∙ tree_count_nulls q);
    }

blank_of : (d q : ℕ) (size : StructSize) → size.data_words ≡ d → size.pointers ≡ q → zero_struct size ≡ blank d q
blank_of d q size a b =
    ap (λ n. record { bytes = zeros (8 * n); pointers = nulls size.pointers }) a ∙ ap (λ n. record { bytes = zeros (8 * d); pointers = nulls n }) b

-- a struct that was made at a pointer
pub new_struct : (a : Arena) (at : ℕ) (p : Place) (d q : ℕ) (size : StructSize) → Forest (segment a) at → shape_at (segment a) at ≡ place_words p
    → tree (segment a) at ≡ struct_tree (zero_struct size) → size.data_words ≡ d → size.pointers ≡ q → IsNew d q a p
new_struct a at p d q size f e t x y =
    new_by_tree a p d q (struct_planted (segment a) at p.start p.data_words p.pointers f e) (struct_is (segment a) at p.start p.data_words p.pointers (zero_struct size) f e t ∙ blank_of d q size x y)

-- A pointer that had another target leads to this tree now, and nothing else has changed.
pub record IsMade (at : ℕ) (t : Tree) (old new : Arena) : Type 0 where
  pub frame : LeavesPointer at old new
  pub tree : tree (segment new) at ≡ t

-- a call in the struct that was made
pub made : (o : Arena) {m n : Arena} (at : ℕ) (p : Place) {s : StructTree} → Forest (segment m) at → shape_at (segment m) at ≡ place_words p → Changes at (segment o) (segment m) → LeavesStruct p m n → built_at n p ≡ s
    → IsMade at (struct_tree s) o n
made o {m} {n} at p f e c g q =
    let z : IsInStruct (segment m) (segment n) at p.start p.data_words p.pointers = in_struct (segment m) (segment n) at p.start p.data_words p.pointers f e g.planted g.changes in
    record { frame = record { forest = z.forest; changes = at_then c z.changes }; tree = z.tree ∙ ap struct_tree q }
