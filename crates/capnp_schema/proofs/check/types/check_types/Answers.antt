use Rattle.capnp_schema.specs.Entries.{lists_seen}
use Rattle.capnp_schema.proofs.Checking.Types.{types_stand}
use Rattle.capnp_schema.proofs.check.types.check_types.Goals as goal

pub returns : goal.returns
returns c = types_stand (lists_seen c.args.lists.now) c.in_ok-check_fields.ensures c.in_ok-check_brand_types.ensures c.in_ok-check_enum_types.ensures
