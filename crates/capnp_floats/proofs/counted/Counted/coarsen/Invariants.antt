use Rattle.capnp_floats.specs.Steps.Counting.{CountsTens, IsCounted, IsReached}
use Rattle.capnp_floats.proofs.counted.Counted.coarsen.Given as goal

abbrev pub invariant-growing : goal.invariant-growing
invariant-growing l = record {
  counted : IsCounted l.self;
  reached : IsReached l.self;
  counts : CountsTens l.fn.self l.self l.tens;
}
