-- Worked rows of the definitions.
use Rattle.std.proofs.Common.{◌≡◌, ℕ, ◌-◌, ◌<◌, ◌≤◌, ◌^◌, inl, inr, refl, arith, sym, subst, List, [], ◌∷◌, ◌++◌, replicate}
use Rattle.capnp_wire.specs.Encoding.{list_word, spelled_number, struct_word}
use Rattle.capnp_wire.specs.Place.{tree_at, tree_below}
use Rattle.capnp_wire.specs.Tree.{MoreTrees, NoTrees, Null, Numbers, Struct}
use Rattle.capnp_arena.specs.Shape.{CompositeIn, IsPointerOf, IsWordWithin, ListIn, NoShape, Points, StructIn, shape_at}
use Rattle.capnp_arena.specs.Forest.{Below, Forest, Itself, Owns, tree}
use Rattle.capnp_arena.specs.Facts.Forests.{children_apart}

-- the root: a struct of a word and two pointers, the first to a text of two bytes, the second null
small : List ℕ
small = spelled_number 8 (struct_word 0 1 2) ++ (spelled_number 8 7 ++ (spelled_number 8 (list_word 1 2 3) ++ (spelled_number 8 0 ++ (97 ∷ 98 ∷ replicate 6 0))))

root_shape : shape_at small 0 ≡ StructIn 1 1 2
unfolding small shape_at
root_shape = refl

text_shape : shape_at small 2 ≡ ListIn 4 2 3
unfolding small shape_at
text_shape = refl

null_at_three : shape_at small 3 ≡ NoShape
unfolding small shape_at
null_at_three = refl

root_tree : tree small 0 ≡ Struct (7 ∷ replicate 7 0) (MoreTrees (Numbers 1 (97 ∷ 98 ∷ 0 ∷ [])) (MoreTrees Null NoTrees))
unfolding small tree tree_at tree_below
root_tree = refl

-- the pointers are as they were written
root_points : Points small 0 (StructIn 1 1 2)
unfolding small
root_points = inr (omega arith, omega arith, omega arith, omega arith, omega arith, omega arith, (omega arith, refl))

text_points : Points small 2 (ListIn 4 2 3)
unfolding small
text_points = (omega arith, omega arith, omega arith, omega arith, omega arith, (omega arith, refl))

-- the root owns its struct and the text, and not its own word
owns_data : Owns small 0 1
owns_data = Itself 0 1 (subst (λ s. IsWordWithin s 1) (sym root_shape) (omega arith, omega arith))

owns_text : Owns small 0 4
owns_text = Below 0 2 4 (subst (λ s. IsPointerOf s 2) (sym root_shape) (omega arith, omega arith)) (Itself 2 4 (subst (λ s. IsWordWithin s 4) (sym text_shape) (omega arith, omega arith)))

-- two pointers to one text: no forest
shared : List ℕ
shared = spelled_number 8 (struct_word 0 0 2) ++ (spelled_number 8 (list_word 1 2 3) ++ (spelled_number 8 (list_word 0 2 3) ++ (97 ∷ 98 ∷ replicate 6 0)))

shared_root : shape_at shared 0 ≡ StructIn 1 0 2
unfolding shared shape_at
shared_root = refl

shared_first : shape_at shared 1 ≡ ListIn 3 2 3
unfolding shared shape_at
shared_first = refl

shared_second : shape_at shared 2 ≡ ListIn 3 2 3
unfolding shared shape_at
shared_second = refl

is_pointer : (j : ℕ) → 1 ≤ j → j < 3 → IsPointerOf (shape_at shared 0) j
is_pointer j h l = subst (λ s. IsPointerOf s j) (sym shared_root) (omega (arith, h), omega (arith, l))

no_forest : Forest shared 0 → ⊥
no_forest f =
    let e : 1 ≡ 2 = children_apart shared 0 f 1 2 3 (is_pointer 1 (omega arith) (omega arith)) (is_pointer 2 (omega arith) (omega arith))
    (Itself 1 3 (subst (λ s. IsWordWithin s 3) (sym shared_first) (omega arith, omega arith))) (Itself 2 3 (subst (λ s. IsWordWithin s 3) (sym shared_second) (omega arith, omega arith))) in
    omega (arith, e)

-- a pointer to words before it is read, and is none that a builder writes
back : List ℕ
back = replicate 8 0 ++ spelled_number 8 (struct_word (2 ^ 30 - 2) 1 0)

back_shape : shape_at back 1 ≡ StructIn 0 1 0
unfolding back shape_at
back_shape = refl

no_back : Points back 1 (StructIn 0 1 0) → ⊥
no_back (inl z) = omega (arith, z.0)
no_back (inr z) = omega (arith, z.0)

-- a composite list of one struct, and its tag
list : List ℕ
list = spelled_number 8 (list_word 0 7 1) ++ (spelled_number 8 (struct_word 1 1 0) ++ spelled_number 8 5)

list_shape : shape_at list 0 ≡ CompositeIn 1 1 1 0
unfolding list shape_at
list_shape = refl

list_points : Points list 0 (CompositeIn 1 1 1 0)
unfolding list
list_points = (omega arith, omega arith, omega arith, omega arith, omega arith, omega arith, omega arith, (omega arith, refl), (omega arith, refl))
