use Rattle.std.proofs.Common.{arith}
use Rattle.std.proofs.lemmas.Result.{err_from_is_err_and}
use Rattle.capnp_joined_sets.proofs.Refused.{of_each, of_whole}
use Rattle.capnp_joined_sets.proofs.moves.add_moved.Goals as goal

pub returns-in_err-copy-clause-refused : goal.returns-in_err-copy-clause-refused
returns-in_err-copy-clause-refused g c =
    let p = err_from_is_err_and c.from_residual.result c.from_residual.ensures.1 in rw (p.1, p.2)
    (of_whole _ _ _ (of_each g.T.Moved.fits (g.T.Moved.moved c.args.moves) g.T.Moved.seen c.args.entries.now c.loop-entry.entry-index _ (omega arith) c.entry-item.is) c.in_err-copy.ensures.refused)
