-- So far there are as many lists around the type as were counted.
use Rattle.std.proofs.Common.{◌≡◌}
use Rattle.capnp_base.specs.Types.{base_of, list_depth}
use Rattle.capnp_joined_sets.proofs.types.lists_around.Given as goal

abbrev pub invariant-loop : goal.invariant-loop
invariant-loop l = record { depth : list_depth l.outer ≡ l.counter; base : base_of l.outer ≡ base_of l.fn.inner }
