-- What the table of group fields has is the group field.
use Rattle.std.proofs.Common.{ℕ, ◌∙◌, Option, List, ap, slice_get}
use Rattle.std.specs.Option.{option_flatten}
use Rattle.capnp_schema.specs.Entries.{lists_seen}
use Rattle.capnp_schema.proofs.GroupFieldTables.{inside_brand}
use Rattle.capnp_schema.proofs.LookUps.{accepted_seen, tables_seen}
use Rattle.capnp_schema.proofs.set.SchemaSet.group_field.Goals as goal

pub returns-clause-is : goal.returns-clause-is
returns-clause-is c =
    c.group_field_at.ensures
    ∙ (ap (λ (xs : List (Option (ℕ × ℕ))). option_flatten (slice_get xs c.args.brand)) c.deref.ensures.value
    ∙ (tables_seen c.self.view_is c.self.invariant.1).group_fields c.args.brand)

pub returns-clause-inside : goal.returns-clause-inside
returns-clause-inside c = inside_brand (lists_seen c.args.self.now) (accepted_seen c.self.view_is c.self.invariant.0) c.args.brand c.group_field_at.result (returns-clause-is c)
