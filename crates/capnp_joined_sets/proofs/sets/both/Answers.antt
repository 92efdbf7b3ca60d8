-- A refused move of an entry, of the first list or the second, is of an entry in the joined list; so not all of that fit.
use Rattle.std.proofs.Common.{map}
use Rattle.std.proofs.lemmas.Result.{err_from_is_err_and}
use Rattle.capnp_joined_sets.specs.declared.moves.TheConstants.{NO_MOVES}
use Rattle.capnp_joined_sets.proofs.Refused.{of_first, of_second, of_whole}
use Rattle.capnp_joined_sets.proofs.sets.both.Goals as goal

pub returns-in_err-add_moved-clause-refused : goal.returns-in_err-add_moved-clause-refused
returns-in_err-add_moved-clause-refused g c =
    let p = err_from_is_err_and c.from_residual-in_err-add_moved.result c.from_residual-in_err-add_moved.ensures.1 in rw (p.1, p.2)
    (of_whole _ _ _ (of_first g.T.Moved.fits (map (g.T.Moved.moved NO_MOVES) (map g.T.Moved.seen c.args.older.now)) _) c.in_err-add_moved.ensures.refused)

pub returns-in_err-add_moved-2-clause-refused : goal.returns-in_err-add_moved-2-clause-refused
returns-in_err-add_moved-2-clause-refused g c =
    let p = err_from_is_err_and c.from_residual-in_err-add_moved-2.result c.from_residual-in_err-add_moved-2.ensures.1 in rw (p.1, p.2)
    (of_whole _ _ _ (of_second g.T.Moved.fits (map (g.T.Moved.moved NO_MOVES) (map g.T.Moved.seen c.args.older.now)) _) c.in_err-add_moved-2.ensures.refused)
