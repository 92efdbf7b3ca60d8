use Rattle.capnp_schema.specs.Entries.{lists_seen}
use Rattle.capnp_schema.proofs.ByNumber.{discriminant_fits}
use Rattle.capnp_schema.proofs.LookUps.{accepted_seen}
use Rattle.capnp_schema.proofs.set.SchemaSet.node_record.Goals as goal

pub returns-in-Some-clause-discriminant : goal.returns-in-Some-clause-discriminant
returns-in-Some-clause-discriminant c = discriminant_fits (lists_seen c.args.self.now) (accepted_seen c.self.view_is c.self.invariant.0) c.args.brand

pub returns-in-None-clause-discriminant : goal.returns-in-None-clause-discriminant
returns-in-None-clause-discriminant c = discriminant_fits (lists_seen c.args.self.now) (accepted_seen c.self.view_is c.self.invariant.0) c.args.brand
