-- What a struct at a pointer is refused with, by the pointer's target.
use Rattle.std.proofs.Common.{◌≡◌, ℕ, zero, suc, ◌+◌, ◌-◌, ◌*◌, ◌≤◌, refl, sym, ap, subst, ◌∙◌, arith, List, ◌++◌, length, replicate, Option, Some, None, max}
use Rattle.std.proofs.lemmas.List.{append-nil}
use Rattle.capnp_device.specs.declared.error.Error.{Error}
use Rattle.capnp_device.specs.declared.error.ErrorKind.{ErrorKind}
use Rattle.capnp_device.specs.declared.error.ErrorKind.TheVariants.{OutOfMemory, WrongPointerKind}
use Rattle.capnp_wire.specs.Edits.{HasAtLeast, HoldsStruct, IsDueRefusal, append_trees, extended_struct, nulls, struct_in, struct_refusal, zero_struct}
use Rattle.capnp_wire.specs.Facts.Rows.{tree_count_trees_from}
use Rattle.capnp_wire.specs.Place.{list_tree, struct_tree, tree_with_level}
use Rattle.capnp_wire.specs.Tree.{MoreTrees, NoTrees, Null, Tree, Trees, empty_struct, tree_count}
use Rattle.capnp_wire.specs.declared.size.StructSize.{StructSize}
use Rattle.capnp_arena.specs.Forest.{Forest, struct_from, tree}
use Rattle.capnp_arena.specs.Shape.{CompositeIn, ListIn, NoShape, StructIn, end_of, shape_at, word_count}
use Rattle.capnp_arena.specs.Steps.Shape.{shape_target}
use Rattle.capnp_arena.proofs.Counted.{ends_at}
use Rattle.capnp_arena.proofs.Extensions.{larger_extended}
use Rattle.capnp_arena.specs.Facts.Forests.{tree_step}
use Rattle.capnp_arena.specs.Facts.Structs.{tree_composite, tree_list, tree_struct, two_parts}
use Rattle.capnp_arena.proofs.Written.{length_part}

none_some : {A : Type 0} {a : A} → None ≡ Some a → ⊥
none_some h = cc

some_same : {A : Type 0} {a b : A} → Some a ≡ Some b → a ≡ b
some_same h = cc

-- nothing is due: memory was refused
pub none_due : (e : Error) (due : Option ErrorKind) → due ≡ None → e.kind ≡ OutOfMemory → IsDueRefusal e due
none_due e due n h = ((λ other. absurd (other h)), (λ kind q. absurd (none_some (sym n ∙ q))))

-- what is due was said
pub some_due : (e : Error) (due : Option ErrorKind) (k : ErrorKind) → due ≡ Some k → e.kind ≡ k → IsDueRefusal e due
some_due e due k n h = ((λ other. n ∙ ap Some (sym h)), (λ kind q. h ∙ some_same (sym n ∙ q)))

list_due : (f : ℕ → Tree) (bytes : List ℕ) (start size n : ℕ) → struct_refusal (list_tree f bytes start size n) ≡ Some WrongPointerKind
list_due f bytes start zero n = refl
list_due f bytes start (suc zero) n = refl
list_due f bytes start (suc (suc zero)) n = refl
list_due f bytes start (suc (suc (suc zero))) n = refl
list_due f bytes start (suc (suc (suc (suc zero)))) n = refl
list_due f bytes start (suc (suc (suc (suc (suc zero))))) n = refl
list_due f bytes start (suc (suc (suc (suc (suc (suc size)))))) n = refl

list_holds : (f : ℕ → Tree) (bytes : List ℕ) (start size n : ℕ) (s : StructSize) → HoldsStruct s (list_tree f bytes start size n) → ⊥
list_holds f bytes start zero n s h = h
list_holds f bytes start (suc zero) n s h = h
list_holds f bytes start (suc (suc zero)) n s h = h
list_holds f bytes start (suc (suc (suc zero))) n s h = h
list_holds f bytes start (suc (suc (suc (suc zero)))) n s h = h
list_holds f bytes start (suc (suc (suc (suc (suc zero))))) n s h = h
list_holds f bytes start (suc (suc (suc (suc (suc (suc size)))))) n s h = h

zero_parts : (size : StructSize) → extended_struct size empty_struct ≡ zero_struct size
zero_parts size = two_parts (extended_struct size empty_struct) (zero_struct size) (ap (λ n. replicate {A = ℕ} n 0) {x = 8 * size.data_words - 0} {y = 8 * size.data_words} (omega arith)) (ap nulls {x = size.pointers - 0} {y = size.pointers} (omega arith))

module _ (bytes : List ℕ) (w : ℕ) (f : Forest bytes w) where
  -- ---- a null ----

  module _ (e : shape_at bytes w ≡ NoShape) where
    pub null_is : tree bytes w ≡ Null
    null_is = tree_step bytes w f ∙ ap (λ s. tree_with_level tree tree (shape_target bytes s)) e

    pub null_due : struct_refusal (tree bytes w) ≡ None
    null_due = ap struct_refusal null_is

    pub null_holds : (size : StructSize) → HoldsStruct size (tree bytes w) → ⊥
    null_holds size h = subst (HoldsStruct size) null_is h

    pub null_extended : (size : StructSize) → struct_tree (zero_struct size) ≡ struct_tree (extended_struct size (struct_in (tree bytes w)))
    null_extended size = ap struct_tree (sym (zero_parts size) ∙ ap (λ t. extended_struct size (struct_in t)) (sym null_is))

  -- ---- lists ----

  pub list_at_due : (a size n : ℕ) → shape_at bytes w ≡ ListIn a size n → struct_refusal (tree bytes w) ≡ Some WrongPointerKind
  list_at_due a size n e = ap struct_refusal (tree_list bytes w a size n f e) ∙ list_due (tree bytes) bytes a size n

  pub list_at_holds : (a size n : ℕ) (s : StructSize) → shape_at bytes w ≡ ListIn a size n → HoldsStruct s (tree bytes w) → ⊥
  list_at_holds a size n s e h = list_holds (tree bytes) bytes a size n s (subst (HoldsStruct s) (tree_list bytes w a size n f e) h)

  pub composite_due : (tag n d p : ℕ) → shape_at bytes w ≡ CompositeIn tag n d p → struct_refusal (tree bytes w) ≡ Some WrongPointerKind
  composite_due tag n d p e = ap struct_refusal (tree_composite bytes w tag n d p f e)

  pub composite_holds : (tag n d p : ℕ) (s : StructSize) → shape_at bytes w ≡ CompositeIn tag n d p → HoldsStruct s (tree bytes w) → ⊥
  composite_holds tag n d p s e h = subst (HoldsStruct s) (tree_composite bytes w tag n d p f e) h

  -- ---- structs ----

  module _ (a d p : ℕ) (e : shape_at bytes w ≡ StructIn a d p) where
    pub struct_due : struct_refusal (tree bytes w) ≡ None
    struct_due = ap struct_refusal (tree_struct bytes w a d p f e)

    data_length : length (struct_from bytes a d p).bytes ≡ 8 * d
    data_length = let l : end_of (StructIn a d p) ≤ word_count bytes = ends_at bytes w f (StructIn a d p) e in length_part bytes a (8 * d) (omega (arith, l))

    pub struct_holds : (size : StructSize) → HoldsStruct size (tree bytes w) → (size.data_words ≤ d) × (size.pointers ≤ p)
    struct_holds size h =
        let g : HasAtLeast size (struct_from bytes a d p) = subst (HoldsStruct size) (tree_struct bytes w a d p f e) h in
        (omega (arith, g.0, data_length), omega (arith, g.1, tree_count_trees_from (tree bytes) (a + d) p))

    pub struct_in_is : struct_in (tree bytes w) ≡ struct_from bytes a d p
    struct_in_is = ap struct_in (tree_struct bytes w a d p f e)

    -- one that is large enough
    pub struct_stays : (size : StructSize) → size.data_words ≤ d → size.pointers ≤ p → tree bytes w ≡ struct_tree (extended_struct size (struct_in (tree bytes w)))
    struct_stays size l m =
        tree_struct bytes w a d p f e
        ∙ ap struct_tree (sym (two_parts (extended_struct size (struct_from bytes a d p)) (struct_from bytes a d p)
        (ap (λ n. (struct_from bytes a d p).bytes ++ replicate n 0) {x = 8 * size.data_words - length (struct_from bytes a d p).bytes} {y = 0} (omega (arith, l, data_length)) ∙ append-nil (struct_from bytes a d p).bytes)
        (ap (λ n. append_trees (struct_from bytes a d p).pointers (nulls n)) {x = size.pointers - tree_count (struct_from bytes a d p).pointers} {y = 0} (omega (arith, m, tree_count_trees_from (tree bytes) (a + d) p)) ∙ no_more (struct_from bytes a d p).pointers))
        ∙ ap (extended_struct size) (sym struct_in_is))
      where
        no_more : (ts : Trees) → append_trees ts NoTrees ≡ ts
        no_more NoTrees = refl
        no_more (MoreTrees t ts) = ap (MoreTrees t) (no_more ts)

    -- one that grew
    pub struct_grown : (size larger : StructSize) → larger.data_words ≡ max size.data_words d → larger.pointers ≡ max size.pointers p → struct_tree (extended_struct larger (struct_from bytes a d p)) ≡ struct_tree (extended_struct size (struct_in (tree bytes w)))
    struct_grown size larger q r = ap struct_tree (larger_extended size larger (struct_from bytes a d p) d p data_length (tree_count_trees_from (tree bytes) (a + d) p) q r ∙ ap (extended_struct size) (sym struct_in_is))
