use Rattle.std.proofs.Common.{refl}
use Rattle.capnp_schema.proofs.ByNumber.{is_struct}
use Rattle.capnp_schema.proofs.set.SchemaSet.struct_schema.Goals as goal

pub returns-clause-stands : goal.returns-clause-stands
returns-clause-stands c = is_struct c.accepted_lists-lists.result.now c.args.self.now _ c.accepted_lists-lists.ensures.is c.accepted_lists-lists.ensures.accepted refl
