-- What the code's values stand for.
use Rattle.std.specs.Prelude.{List, [], ◌∷◌}
use Rattle.capnp_value_texts.specs.Written.{Fields, Items, Leaf, NoPart, Part, Parts, Written}
use Rattle.capnp_value_texts.specs.declared.parts.Name.{Name as NameRead}
use Rattle.capnp_value_texts.specs.declared.shown.Shown.{Shown, fold-Shown}
use Rattle.capnp_value_texts.specs.declared.shown.Shown.TheOpen.{Shown-F}

abbrev pub parts_of : List (NameRead × Written) → Parts
parts_of [] = NoPart
parts_of (p ∷ ps) = Part p.0.place p.0.bytes.now p.1 (parts_of ps)

-- one level, with what it holds already seen
abbrev pub view_step : Shown-F Written → Written
view_step (Shown-F.Leaf place bytes) = Leaf place bytes.now
view_step (Shown-F.Fields place parts) = Fields place (parts_of parts.items)
view_step (Shown-F.Items place parts) = Items place (parts_of parts.items)

abbrev pub shown_view : Shown → Written
shown_view = fold-Shown Written view_step
