-- Lists around a type stay around it when its numbers move.
use Rattle.std.proofs.Common.{ℕ, zero, suc, ◌≡◌, refl, ap}
use Rattle.capnp_schema.specs.Types.{SchemaType, ListType, lists_of}
use Rattle.capnp_joined_sets.specs.declared.moves.Moves.{Moves}
use Rattle.capnp_joined_sets.specs.Joined.{moved_type}
use Rattle.capnp_joined_sets.specs.Refusals.{TypeFits}

pub moved_inside : (by : Moves) (count : ℕ) (t : SchemaType) → moved_type by (lists_of count t) ≡ lists_of count (moved_type by t)
moved_inside by zero t = refl
moved_inside by (suc count) t = ap ListType (moved_inside by count t)

pub fits_inside : (by : Moves) (count : ℕ) (t : SchemaType) → TypeFits (moved_type by (lists_of count t)) → TypeFits (moved_type by t)
fits_inside by zero t fits = fits
fits_inside by (suc count) t fits = fits_inside by count t fits
