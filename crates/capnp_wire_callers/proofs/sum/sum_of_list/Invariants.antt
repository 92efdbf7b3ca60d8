use Rattle.std.proofs.Common.{◌≡◌, ◌≤◌, ◌*◌, ◌^◌}
use Rattle.capnp_wire.specs.Standing.{list_of}
use Rattle.capnp_wire_callers.specs.Sum.{sum_of_first}
use Rattle.capnp_wire_callers.proofs.sum.sum_of_list.Given as goal

-- the elements so far are summed, and each is below 2^32
abbrev pub invariant-loop-index : goal.invariant-loop-index
invariant-loop-index l = record { summed : l.total ≡ sum_of_first (list_of l.list) l.index; small : l.total ≤ l.index * 2 ^ 32 }
