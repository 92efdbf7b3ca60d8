-- Each step tells the next reply, and where no reply is left all are told.
use Rattle.std.proofs.Common.{map, string_bytes}
use Rattle.capnp_patch.proofs.Told.{none_left, told_all, told_then}
use Rattle.capnp_patch.proofs.lines.get_lines.Goals as goal

pub loop-index-preserved : goal.loop-index-preserved
loop-index-preserved c =
    λ new rest. c.loop-index.invariant new (told_then c.loop-index.index (map (λ w. w.now) c.args.words.now) c.args.replies.now c.word_at.result.now c.index-replies-index.result _ _ new
    c.loop-index-test.true c.word_at.ensures c.index-replies-index.is c.in_ok-put_line.ensures.put rest)

pub returns-clause-lines : goal.returns-clause-lines
returns-clause-lines c =
    c.loop-index.invariant (string_bytes c.loop-index.lines)
    (told_all c.loop-index.index (map (λ w. w.now) c.args.words.now) _ _ (none_left c.args.replies.now c.loop-index.index c.loop-index-test.false))
