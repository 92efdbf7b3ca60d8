-- Each entry is what it was until its turn comes, and moved afterwards.
use Rattle.std.proofs.Common.{◌+◌, ◌≡◌, suc, arith, ap, map, ◌∙◌}
use Rattle.std.proofs.lemmas.List.{length-map}
use Rattle.std.proofs.lemmas.Result.{err_from_is_err_and}
use Rattle.capnp_joined_sets.proofs.InPlace.{all_moved, moved_to, next_fits, one_more}
use Rattle.capnp_joined_sets.proofs.Refused.{of_whole}
use Rattle.capnp_joined_sets.proofs.in_place.move_all.Goals as goal

pub returns-in_err-move_on-clause-refused : goal.returns-in_err-move_on-clause-refused
returns-in_err-move_on-clause-refused g c =
    let p = err_from_is_err_and c.from_residual.result c.from_residual.ensures.1 in rw (p.1, p.2)
    (of_whole _ _ _ (next_fits g.T.Moved.fits g.T.Moved.seen (g.T.Moved.moved c.args.moves) c.loop-entry.entry-index c.loop-entry.entries (map g.T.Moved.seen c.args.entries.now) c.entry-item.result (omega arith) c.loop-entry.invariant) c.in_err-move_on.ensures.refused)

pub loop-entry-preserved : goal.loop-entry-preserved
loop-entry-preserved g c =
    let next : suc c.loop-entry.entry-index ≡ c.loop-entry.entry-index + 1 = omega arith in
    one_more g.T.Moved.seen (g.T.Moved.moved c.args.moves) c.loop-entry.entry-index c.loop-entry.entries (map g.T.Moved.seen c.args.entries.now) c.move_on.new.self c.entry-item.result (omega arith) c.loop-entry.invariant c.in_ok-move_on.ensures.moved
    ∙ ap (λ n. moved_to (g.T.Moved.moved c.args.moves) n (map g.T.Moved.seen c.args.entries.now)) next

pub returns-clause-moved : goal.returns-clause-moved
returns-clause-moved g c =
    let all = length-map c.args.entries.now g.T.Moved.seen in
    c.loop-entry.invariant ∙ all_moved (g.T.Moved.moved c.args.moves) c.loop-entry.entry-index (map g.T.Moved.seen c.args.entries.now) (omega arith)
