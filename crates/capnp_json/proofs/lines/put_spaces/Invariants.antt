-- What was put, before the spaces that are left.
use Rattle.std.proofs.Common.{Some, ◌*◌, ◌-◌, replicate}
use Rattle.capnp_records.specs.Text.{line}
use Rattle.capnp_json.specs.Pieces.{said}
use Rattle.capnp_json.specs.Steps.Puts.{Leads}
use Rattle.capnp_json.proofs.lines.put_spaces.Given as goal

abbrev pub invariant-loop-step : goal.invariant-loop-step
invariant-loop-step l = Leads l.fn.out (said (line (Some l.depth))) l.out (said (replicate (2 * (l.depth - l.step)) 32))
