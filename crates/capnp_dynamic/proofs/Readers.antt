-- What stands at a pointer, by its tree: nothing, a struct, a list that is read; and a struct at a place.
use Rattle.std.proofs.Common.{ℕ, zero, suc, List, ◌≡◌, refl, Bool, true, false, IsOk, Ok, Err, Result, cond, ap, sym, ◌∙◌}
use Rattle.std.proofs.lemmas.Bool.{true≢false}
use Rattle.capnp_device.specs.declared.error.ErrorKind.{ErrorKind}
use Rattle.capnp_wire.specs.Elements.{or_empty}
use Rattle.capnp_wire.specs.Place.{list_tree, struct_tree, tree_with_level}
use Rattle.capnp_wire.specs.Reading.{empty_list, is_null_tree}
use Rattle.capnp_wire.specs.Tree as tree
use Rattle.capnp_wire.specs.Tree.{Tree}
use Rattle.capnp_wire.specs.declared.size.ElementSize.{ElementSize}
use Rattle.capnp_wire.specs.declared.size.ElementSize.TheVariants as size
use Rattle.capnp_arena.specs.Facts.Forests.{tree_step}
use Rattle.capnp_arena.specs.Facts.Structs.{tree_struct}
use Rattle.capnp_arena.specs.Forest.{Forest, struct_from, tree as tree_in}
use Rattle.capnp_arena.specs.Same.{IsCutOf}
use Rattle.capnp_arena.specs.Shape.{CompositeIn, ListIn, NoShape, Shape, StructIn, shape_at}
use Rattle.capnp_arena.specs.Steps.Shape.{shape_target}
use Rattle.capnp_builders.specs.Blobs.{bytes_in}

-- ---- nothing ----

list_not_null : (f : ℕ → Tree) (bytes : List ℕ) (start size n : ℕ) → is_null_tree (list_tree f bytes start size n) ≡ false
list_not_null f bytes start zero n = refl
list_not_null f bytes start (suc zero) n = refl
list_not_null f bytes start (suc (suc zero)) n = refl
list_not_null f bytes start (suc (suc (suc zero))) n = refl
list_not_null f bytes start (suc (suc (suc (suc zero)))) n = refl
list_not_null f bytes start (suc (suc (suc (suc (suc zero))))) n = refl
list_not_null f bytes start (suc (suc (suc (suc (suc (suc size)))))) n = refl

no_target : (bytes : List ℕ) (s : Shape) → is_null_tree (tree_with_level tree_in tree_in (shape_target bytes s)) ≡ true → s ≡ NoShape
no_target bytes NoShape e = refl
no_target bytes (StructIn a d p) e = absurd (true≢false (sym e))
no_target bytes (ListIn a size n) e = absurd (true≢false (sym e ∙ list_not_null (tree_in bytes) bytes a size n))
no_target bytes (CompositeIn tag n d p) e = absurd (true≢false (sym e))

pub no_shape : (bytes : List ℕ) (w : ℕ) → Forest bytes w → is_null_tree (tree_in bytes w) ≡ true → shape_at bytes w ≡ NoShape
no_shape bytes w f e = no_target bytes (shape_at bytes w) (sym (ap is_null_tree (tree_step bytes w f)) ∙ e)

-- ---- lists ----

pub or_empty_null : (s : ElementSize) (x : Tree) → is_null_tree x ≡ true → or_empty s x ≡ empty_list s
or_empty_null s x e = ap (λ (q : Bool). cond q (empty_list s) x) e

pub or_empty_list : (s : ElementSize) (x : Tree) → is_null_tree x ≡ false → or_empty s x ≡ x
or_empty_list s x e = ap (λ (q : Bool). cond q (empty_list s) x) e

pub empty_cut : (s : ElementSize) → IsCutOf (empty_list s) (empty_list s)
unfolding IsCutOf
empty_cut size.Void = refl
empty_cut size.Bit = refl
empty_cut size.Byte = refl
empty_cut size.TwoBytes = refl
empty_cut size.FourBytes = refl
empty_cut size.EightBytes = refl
empty_cut size.Pointer = (tree.NoTrees, refl, (refl, λ i. refl))
empty_cut size.InlineComposite = (tree.NoStructs, refl, (refl, λ i. (refl, (refl, λ j. refl))))

-- ---- structs ----

pub struct_here : (bytes : List ℕ) (w a d p : ℕ) → Forest bytes w → shape_at bytes w ≡ StructIn a d p → struct_tree (struct_from bytes a d p) ≡ tree_in bytes w
struct_here bytes w a d p f e = sym (tree_struct bytes w a d p f e)

-- ---- texts and data ----

pub bytes_there : (r : Result (List ℕ) ErrorKind) → IsOk r → r ≡ Ok (bytes_in r)
bytes_there (Ok bytes) h = refl
bytes_there (Err kind) h = absurd (true≢false (sym h))
