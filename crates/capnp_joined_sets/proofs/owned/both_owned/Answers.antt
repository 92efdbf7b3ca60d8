-- A refused move of an entry of the second list is of an entry in the joined list; so not all of that fit.
use Rattle.std.proofs.Common.{map}
use Rattle.std.proofs.lemmas.Result.{err_from_is_err_and}
use Rattle.capnp_joined_sets.proofs.Refused.{of_second, of_whole}
use Rattle.capnp_joined_sets.proofs.owned.both_owned.Goals as goal

pub returns-in_err-move_all-clause-refused : goal.returns-in_err-move_all-clause-refused
returns-in_err-move_all-clause-refused g c =
    let p = err_from_is_err_and c.from_residual.result c.from_residual.ensures.1 in rw (p.1, p.2)
    (of_whole _ _ _ (of_second g.T.Moved.fits (map g.T.Moved.seen c.args.older.items) _) (rw c.deref_mut.ensures.value at c.in_err-move_all.ensures.refused))
