use Rattle.std.proofs.Common.{refl}
use Rattle.capnp_schema.specs.Entries.{lists_seen}
use Rattle.capnp_schema.proofs.ByNumber.{is_struct}
use Rattle.capnp_schema.proofs.NamedTypes.{brand_of_field}
use Rattle.capnp_schema.proofs.schema.fields.Field.get_containing_struct.Goals as goal

pub returns-clause-stands : goal.returns-clause-stands
returns-clause-stands c = is_struct c.accepted_lists-lists.result.now c.args.self.now.schema.schemas.now c.args.self.now.schema c.accepted_lists-lists.ensures.is c.accepted_lists-lists.ensures.accepted refl
    (brand_of_field (lists_seen c.args.self.now.schema.schemas.now) c.args.self.now.schema.number c.args.self.now.index c.args.self.now.inside)
