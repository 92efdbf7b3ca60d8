-- So far there are as many empty lists as were counted.
use Rattle.std.proofs.Common.{[], ◌≡◌, map, replicate}
use Rattle.capnp_schema.specs.Types.{seen_type}
use Rattle.capnp_schema.proofs.making.no_types.Given as goal

abbrev pub invariant-loop : goal.invariant-loop
invariant-loop l = map (λ types. map seen_type types.items) l.lists.items ≡ replicate l.counter []
