-- So many types are kept of those so far.
use Rattle.std.proofs.Common.{◌≤◌, ◌≡◌, map, take}
use Rattle.capnp_request.specs.Steps.Bindings.{seen_marked}
use Rattle.capnp_request.specs.Types.{without_untyped}
use Rattle.capnp_request.proofs.types.drop_untyped.Given as goal

abbrev pub invariant-loop-index : goal.invariant-loop-index
invariant-loop-index l = record {
  below : l.kept ≤ l.index;
  kept : without_untyped (map seen_marked (take l.index l.types.items)) ≡ map seen_marked (take l.kept l.types.items);
}
