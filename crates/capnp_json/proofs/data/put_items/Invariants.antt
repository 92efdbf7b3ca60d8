-- What was put, before the numbers that are left.
use Rattle.std.proofs.Common.{codes, drop, true, ◌==◌}
use Rattle.capnp_json.specs.Leaves.{byte_items}
use Rattle.capnp_json.specs.Pieces.{items_left}
use Rattle.capnp_json.specs.Steps.Puts.{Leads}
use Rattle.capnp_json.proofs.data.put_items.Given as goal

abbrev pub invariant-loop-index : goal.invariant-loop-index
invariant-loop-index l = Leads l.fn.out (items_left (codes "]") l.at true (byte_items l.bytes)) l.out (items_left (codes "]") l.at (l.index == 0) (byte_items (drop l.index l.bytes)))
