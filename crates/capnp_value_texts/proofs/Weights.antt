-- What a text holds is less than the text.
use Rattle.std.proofs.Common.{ℕ, zero, suc, ◌+◌, ◌<◌, List, [], ◌∷◌, length, get_or, arith}
use Rattle.capnp_value_texts.specs.Seen.{shown_view}
use Rattle.capnp_value_texts.specs.Steps.Seen.{parts_view}
use Rattle.capnp_value_texts.specs.Written.{Fields, Items, Leaf, NoPart, Part, Parts, Written}
use Rattle.capnp_value_texts.proofs.Trees.{PartHeld}

abbrev mutual
  pub value_weight : Written → ℕ
  value_weight (Leaf place bs) = 0
  value_weight (Fields place ps) = 4 + parts_weight ps
  value_weight (Items place ps) = 4 + parts_weight ps

  pub parts_weight : Parts → ℕ
  parts_weight NoPart = 0
  parts_weight (Part place name v ps) = suc (value_weight v + parts_weight ps)

pub part_lighter : (ps : List PartHeld) (i : ℕ) (d : PartHeld) → i < length ps → value_weight (shown_view (get_or ps i d).1) < parts_weight (parts_view ps)
part_lighter [] i d h = absurd (omega arith)
part_lighter (p ∷ ps) zero d h = omega arith
part_lighter (p ∷ ps) (suc i) d h = omega (arith, part_lighter ps i d (omega arith))
