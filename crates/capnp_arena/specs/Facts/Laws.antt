-- What calls in a struct mean for the pointer that leads to it.
use Rattle.std.proofs.Common.{◌≡◌, ℕ, ◌+◌, ◌<◌, ◌∙◌, sym, subst, arith, ap, List}
use Rattle.capnp_wire.specs.Edits.{struct_in, with_pointer_tree}
use Rattle.capnp_wire.specs.Place.{struct_tree}
use Rattle.capnp_wire.specs.Tree.{StructTree}
use Rattle.capnp_arena.specs.Shape.{IsPointerOf, StructIn, shape_at}
use Rattle.capnp_arena.specs.Forest.{Changes, Forest, PartChanges, Planted, struct_from, tree}
use Rattle.capnp_arena.specs.Facts.Calls.{inner_changes, inner_planted, outer_changes, outer_forest, outer_shape, planted}
use Rattle.capnp_arena.specs.Facts.Structs.{pointer_changed, tree_struct}

-- the struct that a pointer leads to
pub struct_planted : (bytes : List ℕ) (at a d p : ℕ) → Forest bytes at → shape_at bytes at ≡ StructIn a d p → Planted bytes (StructIn a d p)
struct_planted bytes at a d p f e = subst (Planted bytes) e (planted bytes at f)

-- after a call in that struct
pub record IsInStruct (old new : List ℕ) (at a d p : ℕ) : Type 0 where
  pub forest : Forest new at
  pub place : shape_at new at ≡ StructIn a d p
  pub changes : Changes at old new
  pub tree : tree new at ≡ struct_tree (struct_from new a d p)

pub in_struct : (old new : List ℕ) (at a d p : ℕ) → Forest old at → shape_at old at ≡ StructIn a d p → Planted new (StructIn a d p) → PartChanges (StructIn a d p) old new → IsInStruct old new at a d p
in_struct old new at a d p f e g c =
    let g2 : Planted new (shape_at old at) = subst (Planted new) (sym e) g in
    let c2 : PartChanges (shape_at old at) old new = subst (λ s. PartChanges s old new) (sym e) c in
    let s : shape_at new at ≡ StructIn a d p = outer_shape old new at f g2 c2 ∙ e in
    let h : Forest new at = outer_forest old new at f g2 c2 in
    record { forest = h; place = s; changes = outer_changes old new at f g2 c2; tree = tree_struct new at a d p h s }

-- after a call at one of a struct's pointers
pub record IsInPointer (old new : List ℕ) (a d p i : ℕ) : Type 0 where
  pub planted : Planted new (StructIn a d p)
  pub changes : PartChanges (StructIn a d p) old new
  pub struct : struct_from new a d p ≡ with_pointer_tree (struct_from old a d p) i (tree new (a + d + i))

pub in_pointer : (old new : List ℕ) (a d p i : ℕ) → Planted old (StructIn a d p) → i < p → Forest new (a + d + i) → Changes (a + d + i) old new → IsInPointer old new a d p i
in_pointer old new a d p i f l g c =
    let q : IsPointerOf (StructIn a d p) (a + d + i) = (omega arith, omega (arith, l)) in
    record {
      planted = inner_planted old new (StructIn a d p) (a + d + i) f q g c;
      changes = inner_changes old new (StructIn a d p) (a + d + i) f q g c;
      struct = pointer_changed old new a d p i f l g c;
    }

-- a struct by its tree
pub struct_is : (bytes : List ℕ) (at a d p : ℕ) (s : StructTree) → Forest bytes at → shape_at bytes at ≡ StructIn a d p → tree bytes at ≡ struct_tree s → struct_from bytes a d p ≡ s
struct_is bytes at a d p s f e t = ap struct_in (sym (tree_struct bytes at a d p f e) ∙ t)
