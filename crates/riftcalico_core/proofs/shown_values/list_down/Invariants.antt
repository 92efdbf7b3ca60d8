-- Each turn goes one list down.
use Rattle.std.proofs.Common.{◌≡◌}
use Rattle.capnp_wire.specs.Standing.{list_levels, list_of}
use Rattle.riftcalico_core.specs.ShownSeen.{tree_down}
use Rattle.riftcalico_core.proofs.shown_values.list_down.Given as goal

abbrev pub invariant-loop : goal.invariant-loop
invariant-loop l = record {
  list : list_of l.now ≡ tree_down l.counter (list_of l.fn.list);
  levels : list_levels l.now ≡ 62;
}
