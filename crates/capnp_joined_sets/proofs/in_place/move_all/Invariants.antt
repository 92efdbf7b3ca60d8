-- So many entries have moved.
use Rattle.std.proofs.Common.{◌≡◌, map}
use Rattle.capnp_joined_sets.proofs.InPlace.{moved_to}
use Rattle.capnp_joined_sets.proofs.in_place.move_all.Given as goal

abbrev pub invariant-loop-entry : goal.invariant-loop-entry
invariant-loop-entry g l = map g.T.Moved.seen l.entries ≡ moved_to (g.T.Moved.moved l.moves) l.entry-index (map g.T.Moved.seen l.initial.entries)
