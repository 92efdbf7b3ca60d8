use Rattle.capnp_schema.proofs.NamedTypes.{record_named}
use Rattle.capnp_schema.proofs.set.SchemaSet.field_record.Goals as goal

pub returns-clause-named : goal.returns-clause-named
returns-clause-named c = record_named c.self.inside.lists c.args.self.now c.self.view_is c.self.invariant.0 c.args.brand c.args.field c.field_at.result c.field_at.ensures
