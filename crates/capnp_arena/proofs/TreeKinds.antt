-- The kind of a tree by its pointer's target.
use Rattle.std.proofs.Common.{◌≡◌, ℕ, zero, suc, refl, ap, ◌∙◌, false, true, List}
use Rattle.capnp_wire.specs.Edits.{is_struct}
use Rattle.capnp_wire.specs.Place.{list_tree, tree_with_level}
use Rattle.capnp_wire.specs.Reading.{is_list, is_null_tree}
use Rattle.capnp_wire.specs.Tree.{Tree}
use Rattle.capnp_arena.specs.Forest.{Forest, tree}
use Rattle.capnp_arena.specs.Steps.Reads.{is_list_shape, is_no_shape, is_struct_shape}
use Rattle.capnp_arena.specs.Shape.{CompositeIn, ListIn, NoShape, Shape, StructIn, shape_at}
use Rattle.capnp_arena.specs.Steps.Shape.{shape_target}
use Rattle.capnp_arena.specs.Facts.Forests.{tree_step}

-- ---- a list that is not composite, whatever its elements are ----

list_not_null : (f : ℕ → Tree) (bytes : List ℕ) (start size n : ℕ) → is_null_tree (list_tree f bytes start size n) ≡ false
list_not_null f bytes start zero n = refl
list_not_null f bytes start (suc zero) n = refl
list_not_null f bytes start (suc (suc zero)) n = refl
list_not_null f bytes start (suc (suc (suc zero))) n = refl
list_not_null f bytes start (suc (suc (suc (suc zero)))) n = refl
list_not_null f bytes start (suc (suc (suc (suc (suc zero))))) n = refl
list_not_null f bytes start (suc (suc (suc (suc (suc (suc size)))))) n = refl

list_no_struct : (f : ℕ → Tree) (bytes : List ℕ) (start size n : ℕ) → is_struct (list_tree f bytes start size n) ≡ false
list_no_struct f bytes start zero n = refl
list_no_struct f bytes start (suc zero) n = refl
list_no_struct f bytes start (suc (suc zero)) n = refl
list_no_struct f bytes start (suc (suc (suc zero))) n = refl
list_no_struct f bytes start (suc (suc (suc (suc zero)))) n = refl
list_no_struct f bytes start (suc (suc (suc (suc (suc zero))))) n = refl
list_no_struct f bytes start (suc (suc (suc (suc (suc (suc size)))))) n = refl

list_list : (f : ℕ → Tree) (bytes : List ℕ) (start size n : ℕ) → is_list (list_tree f bytes start size n) ≡ true
list_list f bytes start zero n = refl
list_list f bytes start (suc zero) n = refl
list_list f bytes start (suc (suc zero)) n = refl
list_list f bytes start (suc (suc (suc zero))) n = refl
list_list f bytes start (suc (suc (suc (suc zero)))) n = refl
list_list f bytes start (suc (suc (suc (suc (suc zero))))) n = refl
list_list f bytes start (suc (suc (suc (suc (suc (suc size)))))) n = refl

level_null : (bytes : List ℕ) (s : Shape) → is_null_tree (tree_with_level tree tree (shape_target bytes s)) ≡ is_no_shape s
level_null bytes NoShape = refl
level_null bytes (StructIn a d p) = refl
level_null bytes (ListIn a size n) = list_not_null (tree bytes) bytes a size n
level_null bytes (CompositeIn tag n d p) = refl

level_struct : (bytes : List ℕ) (s : Shape) → is_struct (tree_with_level tree tree (shape_target bytes s)) ≡ is_struct_shape s
level_struct bytes NoShape = refl
level_struct bytes (StructIn a d p) = refl
level_struct bytes (ListIn a size n) = list_no_struct (tree bytes) bytes a size n
level_struct bytes (CompositeIn tag n d p) = refl

level_list : (bytes : List ℕ) (s : Shape) → is_list (tree_with_level tree tree (shape_target bytes s)) ≡ is_list_shape s
level_list bytes NoShape = refl
level_list bytes (StructIn a d p) = refl
level_list bytes (ListIn a size n) = list_list (tree bytes) bytes a size n
level_list bytes (CompositeIn tag n d p) = refl

pub null_is : (bytes : List ℕ) (w : ℕ) → Forest bytes w → is_null_tree (tree bytes w) ≡ is_no_shape (shape_at bytes w)
null_is bytes w f = ap is_null_tree (tree_step bytes w f) ∙ level_null bytes (shape_at bytes w)

pub struct_is : (bytes : List ℕ) (w : ℕ) → Forest bytes w → is_struct (tree bytes w) ≡ is_struct_shape (shape_at bytes w)
struct_is bytes w f = ap is_struct (tree_step bytes w f) ∙ level_struct bytes (shape_at bytes w)

pub list_is : (bytes : List ℕ) (w : ℕ) → Forest bytes w → is_list (tree bytes w) ≡ is_list_shape (shape_at bytes w)
list_is bytes w f = ap is_list (tree_step bytes w f) ∙ level_list bytes (shape_at bytes w)
