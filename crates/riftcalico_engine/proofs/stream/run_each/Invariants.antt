-- So many messages were answered to.
use Rattle.std.proofs.Common.{◌-◌, ◌<◌, ◌^◌}
use Rattle.riftcalico_engine.specs.Streams.{IsSoFar}
use Rattle.riftcalico_words.specs.RequestSeen.{task_seen}
use Rattle.riftcalico_engine.proofs.stream.run_each.Given as goal

abbrev pub invariant-loop-next : goal.invariant-loop-next
invariant-loop-next g l = record {
  so_far : IsSoFar g.R.Source.left g.R.Source.failures g.W.Sink.written g.W.Sink.failures g.F.Sink.written g.F.Sink.failures (task_seen l.fn.task) l.fn.job l.fn.going
      l.number l.initial.source l.source l.initial.sink l.sink l.initial.errors l.errors l.refused;
  small : l.number < 2 ^ 64;
}

abbrev pub decreases-loop-next : goal.decreases-loop-next
decreases-loop-next g l = 2 ^ 64 - l.number
