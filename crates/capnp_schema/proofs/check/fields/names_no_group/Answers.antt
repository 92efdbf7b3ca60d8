use Rattle.capnp_schema.specs.Entries.{lists_seen}
use Rattle.capnp_schema.proofs.Checking.InnermostTypes.{struct_no_group, other_no_group}
use Rattle.capnp_schema.proofs.check.fields.names_no_group.Goals as goal

pub returns-in-Struct : goal.returns-in-Struct
returns-in-Struct c = struct_no_group (lists_seen c.args.lists.now) c.args.of.now c.in-Struct.schema c.is_group.result c.in-Struct.ensures c.is_group.ensures

pub returns-in_default : goal.returns-in_default
returns-in_default c = other_no_group (lists_seen c.args.lists.now) c.args.of.now c.innermost.result c.innermost.ensures c.in_default.not-Struct
