-- Trees that are read as data and as texts.
use Rattle.std.proofs.Common.{◌≡◌, ℕ, zero, suc, refl, ap, ◌∙◌, Err, List}
use Rattle.capnp_device.specs.declared.error.ErrorKind.TheVariants.{WrongElementSize}
use Rattle.capnp_wire.specs.Place.{bytes_at, list_tree}
use Rattle.capnp_wire.specs.Reading.{as_data, as_text}
use Rattle.capnp_wire.specs.Tree.{Numbers, Tree}
use Rattle.capnp_arena.specs.Forest.{Forest, tree}
use Rattle.capnp_arena.specs.Shape.{ListIn, shape_at}
use Rattle.capnp_arena.specs.Facts.Structs.{tree_list}

other_data : (f : ℕ → Tree) (bytes : List ℕ) (a size n : ℕ) → (size ≡ 2 → ⊥) → as_data (list_tree f bytes a size n) ≡ Err WrongElementSize
other_data f bytes a zero n h = refl
other_data f bytes a (suc zero) n h = refl
other_data f bytes a (suc (suc zero)) n h = absurd (h refl)
other_data f bytes a (suc (suc (suc zero))) n h = refl
other_data f bytes a (suc (suc (suc (suc zero)))) n h = refl
other_data f bytes a (suc (suc (suc (suc (suc zero))))) n h = refl
other_data f bytes a (suc (suc (suc (suc (suc (suc size)))))) n h = refl

other_text : (f : ℕ → Tree) (bytes : List ℕ) (a size n : ℕ) → (size ≡ 2 → ⊥) → as_text (list_tree f bytes a size n) ≡ Err WrongElementSize
other_text f bytes a zero n h = refl
other_text f bytes a (suc zero) n h = refl
other_text f bytes a (suc (suc zero)) n h = absurd (h refl)
other_text f bytes a (suc (suc (suc zero))) n h = refl
other_text f bytes a (suc (suc (suc (suc zero)))) n h = refl
other_text f bytes a (suc (suc (suc (suc (suc zero))))) n h = refl
other_text f bytes a (suc (suc (suc (suc (suc (suc size)))))) n h = refl

module _ (bytes : List ℕ) (w : ℕ) (f : Forest bytes w) (a size n : ℕ) (e : shape_at bytes w ≡ ListIn a size n) where
  pub no_data : (size ≡ 2 → ⊥) → as_data (tree bytes w) ≡ Err WrongElementSize
  no_data h = ap as_data (tree_list bytes w a size n f e) ∙ other_data (tree bytes) bytes a size n h

  pub no_text : (size ≡ 2 → ⊥) → as_text (tree bytes w) ≡ Err WrongElementSize
  no_text h = ap as_text (tree_list bytes w a size n f e) ∙ other_text (tree bytes) bytes a size n h

  pub bytes_here : size ≡ 2 → tree bytes w ≡ Numbers 1 (bytes_at bytes a n)
  bytes_here h = tree_list bytes w a size n f e ∙ ap (λ k. list_tree (tree bytes) bytes a k n) h
