use Rattle.std.proofs.Common.{map, ◌-◌}
use Rattle.capnp_schema.specs.Schema.{seen_field}
use Rattle.capnp_schema.proofs.NameSearch.{Searching}
use Rattle.capnp_schema.proofs.names.find_counted.Given as goal

abbrev pub invariant-loop-low : goal.invariant-loop-low
invariant-loop-low l = Searching (map seen_field l.fields) l.by_name l.name l.low l.high l.count

abbrev pub decreases-loop-low : goal.decreases-loop-low
decreases-loop-low l = l.high - l.low
