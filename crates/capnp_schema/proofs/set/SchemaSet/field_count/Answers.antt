-- An accepted set has few fields in each node by rule 3, so the count fits 16 bits; a brand
-- inside the set has the fields of its node.
use Rattle.std.proofs.Common.{◌<◌, ◌∙◌, ap, arith, length}
use Rattle.capnp_schema.specs.Schema.{brand_at, fields_of}
use Rattle.capnp_schema.specs.declared.lists.Lists.{Lists}
use Rattle.capnp_schema.specs.Entries.{lists_seen}
use Rattle.capnp_schema.proofs.FieldCounts.{few_fields, few_fields_of}
use Rattle.capnp_schema.proofs.LookUps.{accepted_seen, counted_fields}
use Rattle.capnp_schema.proofs.set.SchemaSet.field_count.Goals as goal

pub overflow_cast-result : goal.overflow_cast-result
overflow_cast-result c =
    let h : c.field_count.result < 65536 = (let few = few_fields_of (lists_seen c.self.inside.lists) c.self.invariant.0.rule3 c.args.brand in let e = c.field_count.ensures in omega arith) in
    omega arith

pub returns-clause-whole : goal.returns-clause-whole
returns-clause-whole c = λ h. c.field_count.ensures ∙ ap (λ (l : Lists). length (fields_of (lists_seen l) c.args.brand)) c.self.view_is ∙ counted_fields (lists_seen c.args.self.now) (accepted_seen c.self.view_is c.self.invariant.0) c.args.brand h

pub returns-clause-few : goal.returns-clause-few
returns-clause-few c = few_fields (lists_seen c.args.self.now) (accepted_seen c.self.view_is c.self.invariant.0).rule3.counts (brand_at (lists_seen c.args.self.now) c.args.brand).node
