-- An element that is started anew can be handed out.
use Rattle.std.proofs.Common.{ℕ, zero, suc, ◌<◌, ◌≡◌, refl, true, ap, arith, sym, subst, ◌∙◌}
use Rattle.capnp_wire.specs.Elements.{HasPointer, with_pointer_element, with_struct}
use Rattle.capnp_wire.specs.Edits.{with_pointer_tree}
use Rattle.capnp_wire.specs.Facts.Rows.{struct_count_with_struct, tree_count_with_tree}
use Rattle.capnp_records.specs.Facts.ListValues.{cut_same}
use Rattle.capnp_wire.specs.Reading.{element_pointer}
use Rattle.capnp_wire.specs.Tree as tree
use Rattle.capnp_wire.specs.Tree.{StructTree, Structs, Tree, nth_struct, nth_tree, struct_count, tree_count}
use Rattle.capnp_schema.specs.Schema.{Schemas}
use Rattle.capnp_schema.specs.Types.{SchemaType, TextType, DataType, ListType, is_pointer}
use Rattle.capnp_records.specs.Facts.Pointers.{nth_tree_put_same}
use Rattle.capnp_records.specs.Writes.Contents.{initn_tree}
use Rattle.capnp_records.specs.Writes.ElementEnds.{HasElementThere, InitnContent, element_written}
use Rattle.capnp_records.specs.Writes.Slots.{At}

-- ---- the pointer of an element ----

nth_struct_put_same : (es : Structs) (j : ℕ) (s : StructTree) → j < struct_count es → nth_struct (with_struct es j s) j ≡ s
nth_struct_put_same tree.NoStructs j s a = absurd (omega (arith, a))
nth_struct_put_same (tree.MoreStructs bytes ps es) zero s a = refl
nth_struct_put_same (tree.MoreStructs bytes ps es) (suc j) s a = nth_struct_put_same es j s (omega (arith, a))

pub pointer_here : (x : Tree) (j : ℕ) (y : Tree) → HasPointer x j → element_pointer (with_pointer_element j y x) j 1 ≡ y
pointer_here (tree.Pointers ps) j y there = nth_tree_put_same ps j y there
pointer_here (tree.Composite d p es) j y there =
    cut_same (nth_tree (nth_struct (with_struct es j (with_pointer_tree (nth_struct es j) 0 y)) j).pointers 0)
    ∙ (ap (λ (s : StructTree). nth_tree s.pointers 0) (nth_struct_put_same es j (with_pointer_tree (nth_struct es j) 0 y) there.0)
    ∙ nth_tree_put_same (nth_struct es j).pointers 0 y there.1)
pointer_here x j y there = absurd there

pub pointer_stays : (x : Tree) (j : ℕ) (y : Tree) → HasPointer x j → HasPointer (with_pointer_element j y x) j
pointer_stays (tree.Pointers ps) j y there = subst (λ (n : ℕ). j < n) (sym (tree_count_with_tree ps j y)) there
pointer_stays (tree.Composite d p es) j y there = (
  subst (λ (n : ℕ). j < n) (sym (struct_count_with_struct es j (with_pointer_tree (nth_struct es j) 0 y))) there.0,
  subst (λ (s : StructTree). 0 < tree_count s.pointers) (sym (nth_struct_put_same es j (with_pointer_tree (nth_struct es j) 0 y) there.0))
      (subst (λ (n : ℕ). 0 < n) (sym (tree_count_with_tree (nth_struct es j).pointers 0 y)) there.1),
)
pointer_stays x j y there = absurd there

-- ---- by type ----

-- a list whose element of a type was started anew with a size: the element stands behind its pointer
pub record IsStarted (set : Schemas) (t : SchemaType) (n j : ℕ) (new : Tree) : Type 0 where
  pub pointer : is_pointer t ≡ true
  pub there : HasPointer new j
  pub is : element_pointer new j 1 ≡ initn_tree set t n

started : (set : Schemas) (t : SchemaType) (n j : ℕ) (old : Tree) → HasPointer old j → is_pointer t ≡ true → IsStarted set t n j (with_pointer_element j (initn_tree set t n) old)
started set t n j old there p = record { pointer = p; there = pointer_stays old j (initn_tree set t n) there; is = pointer_here old j (initn_tree set t n) there }

pub element_started : (set : Schemas) (t : SchemaType) (n j : ℕ) (old new : Tree) → HasElementThere t old j → InitnContent set n t (At (initn_tree set t n)) → new ≡ element_written t old j (At (initn_tree set t n)) → IsStarted set t n j new
element_started set TextType n j old new room h e = subst (IsStarted set TextType n j) (sym e) (started set TextType n j old room refl)
element_started set DataType n j old new room h e = subst (IsStarted set DataType n j) (sym e) (started set DataType n j old room refl)
element_started set (ListType t) n j old new room h e = subst (IsStarted set (ListType t) n j) (sym e) (started set (ListType t) n j old room refl)
element_started set t n j old new room h e = absurd h
