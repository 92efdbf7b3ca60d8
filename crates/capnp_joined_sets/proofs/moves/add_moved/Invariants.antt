-- Behind what was there stand the copies so far.
use Rattle.std.proofs.Common.{◌≡◌, ◌++◌, map, take}
use Rattle.capnp_joined_sets.proofs.moves.add_moved.Given as goal

abbrev pub invariant-loop-entry : goal.invariant-loop-entry
invariant-loop-entry g l = map g.T.Moved.seen l.out.items ≡ map g.T.Moved.seen l.initial.out.items ++ map (g.T.Moved.moved l.moves) (map g.T.Moved.seen (take l.entry-index l.entries))
