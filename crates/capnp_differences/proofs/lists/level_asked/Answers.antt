use Rattle.std.proofs.Common.{arith}
use Rattle.capnp_schema.specs.Entries.{lists_seen}
use Rattle.capnp_schema.specs.Types.{seen_type}
use Rattle.capnp_differences.proofs.InsideLists.{none_asked}
use Rattle.capnp_differences.proofs.lists.level_asked.Goals as goal

-- Elements that are no structs ask for no level.
pub returns-in_default : goal.returns-in_default
returns-in_default c = record {
  level = none_asked (lists_seen c.args.schemas.now) (seen_type c.args.older) c.args.newer c.which.result c.which.ensures c.in_default.not-Struct;
  few = omega arith;
}
