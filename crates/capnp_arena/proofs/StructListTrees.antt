-- What a list becomes that becomes one of structs, by its pointer's target.
use Rattle.std.proofs.Common.{◌≡◌, ℕ, zero, suc, ◌+◌, ◌-◌, ◌*◌, ◌^◌, ◌<◌, ◌≤◌, cond, false, true, nat_lt, refl, rules, sym, ap, subst, ◌∙◌, arith, List, ◌++◌, length, replicate, max, None, Some}
use Rattle.std.proofs.Math.Nat.{max-eq_right}
use Rattle.std.proofs.lemmas.List.{append-nil}
use Rattle.capnp_device.specs.declared.error.ErrorKind.TheVariants.{SizePastFormat, WrongElementSize, WrongPointerKind}
use Rattle.capnp_wire.specs.Edits.{append_trees, extended_struct, nulls}
use Rattle.capnp_wire.specs.Facts.Rows.{tree_count_trees_from}
use Rattle.capnp_wire.specs.Place.{list_tree}
use Rattle.capnp_wire.specs.Reading.{element_struct, empty_list, is_null_tree, list_length}
use Rattle.capnp_wire.specs.Elements.{or_empty}
use Rattle.capnp_wire.specs.declared.size.ElementSize.TheVariants.{InlineComposite}
use Rattle.capnp_wire.specs.StructLists.{HoldsStructs, as_structs, grown_size, past_format, struct_list, struct_list_refusal}
use Rattle.capnp_wire.specs.Tree.{Composite, MoreTrees, NoTrees, StructTree, Tree, Trees, structs_from, tree_count}
use Rattle.capnp_wire.specs.declared.size.StructSize.{StructSize}
use Rattle.capnp_arena.specs.Forest.{Forest, struct_from, tree}
use Rattle.capnp_arena.specs.Steps.Grown.{kind_pointers, kind_words}
use Rattle.capnp_arena.specs.Shape.{CompositeIn, ListIn, NoShape, Points, StructIn, shape_at, word_count}
use Rattle.capnp_arena.proofs.Counted.{ends_at}
use Rattle.capnp_arena.specs.Facts.Forests.{points}
use Rattle.capnp_arena.specs.Facts.Levels.{structs_same}
use Rattle.capnp_arena.proofs.ListsRead.{plain_count, struct_is_element, structs_count}
use Rattle.capnp_arena.proofs.PartLists.{plain_pointers, plain_words}
use Rattle.capnp_arena.proofs.Refusals.{null_is}
use Rattle.capnp_arena.specs.Facts.Shapes.{element_end}
use Rattle.capnp_arena.specs.Facts.Structs.{tree_composite, tree_list, tree_struct, two_parts}
use Rattle.capnp_arena.proofs.Written.{length_part}

-- sizes by their two numbers
pub two_sizes : (s t : StructSize) → s.data_words ≡ t.data_words → s.pointers ≡ t.pointers → s ≡ t
two_sizes s t e h = ap (λ x. record { data_words = x; pointers = s.pointers }) e ∙ ap (λ x. record { data_words = t.data_words; pointers = x }) h

-- ---- lists that are not of structs ----

plain_list_tree : (f : ℕ → Tree) (bytes : List ℕ) (a size n : ℕ) (s : StructSize) → (size ≡ 1 → ⊥) → struct_list s (list_tree f bytes a size n) ≡ as_structs (grown_size s (list_tree f bytes a size n)) (list_tree f bytes a size n)
plain_list_tree f bytes a zero n s h = refl
plain_list_tree f bytes a (suc zero) n s h = absurd (h refl)
plain_list_tree f bytes a (suc (suc zero)) n s h = refl
plain_list_tree f bytes a (suc (suc (suc zero))) n s h = refl
plain_list_tree f bytes a (suc (suc (suc (suc zero)))) n s h = refl
plain_list_tree f bytes a (suc (suc (suc (suc (suc zero))))) n s h = refl
plain_list_tree f bytes a (suc (suc (suc (suc (suc (suc size)))))) n s h = refl

plain_due : (f : ℕ → Tree) (bytes : List ℕ) (a size n : ℕ) (s : StructSize) → (size ≡ 1 → ⊥) → struct_list_refusal s (list_tree f bytes a size n) ≡ past_format (list_length (list_tree f bytes a size n)) (grown_size s (list_tree f bytes a size n))
plain_due f bytes a zero n s h = refl
plain_due f bytes a (suc zero) n s h = absurd (h refl)
plain_due f bytes a (suc (suc zero)) n s h = refl
plain_due f bytes a (suc (suc (suc zero))) n s h = refl
plain_due f bytes a (suc (suc (suc (suc zero)))) n s h = refl
plain_due f bytes a (suc (suc (suc (suc (suc zero))))) n s h = refl
plain_due f bytes a (suc (suc (suc (suc (suc (suc size)))))) n s h = refl

plain_holds : (f : ℕ → Tree) (bytes : List ℕ) (a size n : ℕ) (s : StructSize) → HoldsStructs s (list_tree f bytes a size n) → ⊥
plain_holds f bytes a zero n s h = h
plain_holds f bytes a (suc zero) n s h = h
plain_holds f bytes a (suc (suc zero)) n s h = h
plain_holds f bytes a (suc (suc (suc zero))) n s h = h
plain_holds f bytes a (suc (suc (suc (suc zero)))) n s h = h
plain_holds f bytes a (suc (suc (suc (suc (suc zero))))) n s h = h
plain_holds f bytes a (suc (suc (suc (suc (suc (suc size)))))) n s h = h

module _ (bytes : List ℕ) (w : ℕ) (f : Forest bytes w) where
  module _ (a size n : ℕ) (e : shape_at bytes w ≡ ListIn a size n) where
    module _ (s larger : StructSize) (h : size ≡ 1 → ⊥) (q : larger.data_words ≡ max s.data_words (kind_words size)) (r : larger.pointers ≡ max s.pointers (kind_pointers size)) where
      plain_larger : larger ≡ grown_size s (tree bytes w)
      plain_larger =
          two_sizes larger (grown_size s (list_tree (tree bytes) bytes a size n)) (q ∙ ap (max s.data_words) (sym (plain_words (tree bytes) bytes a size n))) (r ∙ ap (max s.pointers) (sym (plain_pointers (tree bytes) bytes a size n)))
          ∙ ap (grown_size s) (sym (tree_list bytes w a size n f e))

      pub plain_becomes : as_structs larger (tree bytes w) ≡ struct_list s (tree bytes w)
      plain_becomes =
          ap (λ z. as_structs z (tree bytes w)) plain_larger
          ∙ ap (λ t. as_structs (grown_size s t) t) (tree_list bytes w a size n f e)
          ∙ sym (plain_list_tree (tree bytes) bytes a size n s h)
          ∙ ap (struct_list s) (sym (tree_list bytes w a size n f e))

      pub plain_refusal : past_format n larger ≡ struct_list_refusal s (tree bytes w)
      plain_refusal =
          ap (λ k. past_format k larger) (sym (plain_count bytes w f a size n e))
          ∙ ap (past_format (list_length (tree bytes w))) plain_larger
          ∙ ap (λ t. past_format (list_length t) (grown_size s t)) (tree_list bytes w a size n f e)
          ∙ sym (plain_due (tree bytes) bytes a size n s h)
          ∙ ap (struct_list_refusal s) (sym (tree_list bytes w a size n f e))

    pub plain_holds_none : (s : StructSize) → HoldsStructs s (tree bytes w) → ⊥
    plain_holds_none s h = plain_holds (tree bytes) bytes a size n s (subst (HoldsStructs s) (tree_list bytes w a size n f e) h)

  -- bits
  pub bits_due : (a n : ℕ) (s : StructSize) → shape_at bytes w ≡ ListIn a 1 n → struct_list_refusal s (tree bytes w) ≡ Some WrongElementSize
  bits_due a n s e = ap (struct_list_refusal s) (tree_list bytes w a 1 n f e)

  -- a struct
  pub struct_list_due : (a d p : ℕ) (s : StructSize) → shape_at bytes w ≡ StructIn a d p → struct_list_refusal s (tree bytes w) ≡ Some WrongPointerKind
  struct_list_due a d p s e = ap (struct_list_refusal s) (tree_struct bytes w a d p f e)

  pub struct_holds_none : (a d p : ℕ) (s : StructSize) → shape_at bytes w ≡ StructIn a d p → HoldsStructs s (tree bytes w) → ⊥
  struct_holds_none a d p s e h = subst (HoldsStructs s) (tree_struct bytes w a d p f e) h

  -- ---- lists of structs ----

  module _ (tag n d p : ℕ) (e : shape_at bytes w ≡ CompositeIn tag n d p) where
    module _ (s larger : StructSize) (q : larger.data_words ≡ max s.data_words d) (r : larger.pointers ≡ max s.pointers p) where
      structs_larger : larger ≡ grown_size s (tree bytes w)
      structs_larger = two_sizes larger (record { data_words = max s.data_words d; pointers = max s.pointers p }) q r ∙ ap (grown_size s) (sym (tree_composite bytes w tag n d p f e))

      pub structs_become : as_structs larger (tree bytes w) ≡ struct_list s (tree bytes w)
      structs_become = ap (λ z. as_structs z (tree bytes w)) structs_larger ∙ ap (λ t. as_structs (grown_size s t) t) (tree_composite bytes w tag n d p f e) ∙ ap (struct_list s) (sym (tree_composite bytes w tag n d p f e))

      pub structs_refusal : past_format n larger ≡ struct_list_refusal s (tree bytes w)
      structs_refusal =
          ap (λ k. past_format k larger) (sym (structs_count bytes w f tag n d p e))
          ∙ ap (past_format (list_length (tree bytes w))) structs_larger
          ∙ ap (λ t. past_format (list_length t) (grown_size s t)) (tree_composite bytes w tag n d p f e)
          ∙ ap (struct_list_refusal s) (sym (tree_composite bytes w tag n d p f e))

    pub structs_hold : (s : StructSize) → HoldsStructs s (tree bytes w) → (s.data_words ≤ d) × (s.pointers ≤ p)
    structs_hold s h = subst (HoldsStructs s) (tree_composite bytes w tag n d p f e) h

-- a number of an element size
pub simple_small : (bytes : List ℕ) (w : ℕ) (f : Forest bytes w) (a size n : ℕ) → shape_at bytes w ≡ ListIn a size n → size < 7
simple_small bytes w f a size n e = let p : Points bytes w (ListIn a size n) = subst (Points bytes w) e (points bytes w f) in p.2

lt_true : (a b : ℕ) → a < b → nat_lt a b ≡ true
lt_true a b h = search rules

-- ---- what is large enough stays ----

no_more : (ts : Trees) → append_trees ts NoTrees ≡ ts
no_more NoTrees = refl
no_more (MoreTrees t ts) = ap (MoreTrees t) (no_more ts)

pub extended_same : (size : StructSize) (s : StructTree) → 8 * size.data_words ≤ length s.bytes → size.pointers ≤ tree_count s.pointers → extended_struct size s ≡ s
extended_same size s h k = two_parts (extended_struct size s) s
    (ap (λ n. s.bytes ++ replicate n 0) {x = 8 * size.data_words - length s.bytes} {y = 0} (omega (arith, h)) ∙ append-nil s.bytes)
    (ap (λ n. append_trees s.pointers (nulls n)) {x = size.pointers - tree_count s.pointers} {y = 0} (omega (arith, k)) ∙ no_more s.pointers)

module _ (bytes : List ℕ) (w : ℕ) (f : Forest bytes w) (tag n d p : ℕ) (e : shape_at bytes w ≡ CompositeIn tag n d p) where
  abbrev own : StructSize
  own = record { data_words = d; pointers = p }

  same_element : (i : ℕ) → i < n → struct_from bytes (tag + 1 + i * (d + p)) d p ≡ extended_struct own (element_struct (tree bytes w) i)
  same_element i l =
      let k : i * (d + p) + (d + p) ≤ n * (d + p) = element_end i n (d + p) l in
      let ends : tag + 1 + n * (d + p) ≤ word_count bytes = ends_at bytes w f (CompositeIn tag n d p) e in
      let long : length (struct_from bytes (tag + 1 + i * (d + p)) d p).bytes ≡ 8 * d = length_part bytes (tag + 1 + i * (d + p)) (8 * d) (omega (arith, k, ends)) in
      sym (extended_same own (struct_from bytes (tag + 1 + i * (d + p)) d p) (omega (arith, long)) (omega (arith, tree_count_trees_from (tree bytes) (tag + 1 + i * (d + p) + d) p)))
      ∙ ap (extended_struct own) (struct_is_element bytes w f tag n d p e i l)

  pub structs_stay : (s : StructSize) → s.data_words ≤ d → s.pointers ≤ p → tree bytes w ≡ struct_list s (tree bytes w)
  structs_stay s l m =
      tree_composite bytes w tag n d p f e
      ∙ ap (Composite d p) (structs_same (λ i. struct_from bytes (tag + 1 + i * (d + p)) d p) (λ i. extended_struct own (element_struct (tree bytes w) i)) 0 n (λ i x y. same_element i (omega (arith, y))))
      ∙ ap (λ k. Composite d p (structs_from (λ i. extended_struct own (element_struct (tree bytes w) i)) 0 k)) (sym (structs_count bytes w f tag n d p e))
      ∙ structs_become bytes w f tag n d p e s own (sym (max-eq_right l)) (sym (max-eq_right m))

  -- and it is within the format
  pub structs_within : (s : StructSize) → s.data_words ≤ d → s.pointers ≤ p → struct_list_refusal s (tree bytes w) ≡ None
  structs_within s l m =
      let h : Points bytes w (CompositeIn tag n d p) = subst (Points bytes w) e (points bytes w f) in
      sym (structs_refusal bytes w f tag n d p e s own (sym (max-eq_right l)) (sym (max-eq_right m))) ∙ ap (λ b. cond b None (Some SizePastFormat)) (lt_true (n * (d + p)) (2 ^ 29) h.5)

-- ---- a null stays one ----

module _ (bytes : List ℕ) (w : ℕ) (f : Forest bytes w) (e : shape_at bytes w ≡ NoShape) (s : StructSize) where
  pub null_stays : tree bytes w ≡ struct_list s (tree bytes w)
  null_stays = null_is bytes w f e ∙ sym (ap (struct_list s) (null_is bytes w f e))

  pub null_within : struct_list_refusal s (tree bytes w) ≡ None
  null_within = ap (struct_list_refusal s) (null_is bytes w f e)

  pub null_reads : empty_list InlineComposite ≡ or_empty InlineComposite (struct_list s (tree bytes w))
  null_reads = sym (ap (λ t. or_empty InlineComposite (struct_list s t)) (null_is bytes w f e))

-- what is no null is read as it is
pub list_reads : (bytes : List ℕ) (w : ℕ) (f : Forest bytes w) (tag n d p : ℕ) (u : Tree) → shape_at bytes w ≡ CompositeIn tag n d p → tree bytes w ≡ u → tree bytes w ≡ or_empty InlineComposite u
list_reads bytes w f tag n d p u e h =
    let some : is_null_tree u ≡ false = ap is_null_tree (sym h ∙ tree_composite bytes w tag n d p f e) in
    h ∙ sym (ap (λ b. cond b (empty_list InlineComposite) u) some)
