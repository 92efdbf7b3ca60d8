use Rattle.capnp_schema.specs.Entries.{lists_seen}
use Rattle.capnp_structs.proofs.TypesOfEnums.{plain_text}
use Rattle.capnp_structs.proofs.enums.enumerant_name.Goals as goal

pub returns-in_default : goal.returns-in_default
returns-in_default c = plain_text (lists_seen c.args.schemas.now) c.args.of c.which.result c.args.number c.which.ensures c.in_default.not-Enum
