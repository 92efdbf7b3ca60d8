-- Each table of the whole is what the function that made it promises: names and parents as given, members, non-union
-- fields, plans, group fields, and the empty records.
use Rattle.capnp_schema.proofs.tables.field_tables.Goals as goal

pub returns-clause-tables : goal.returns-clause-tables
returns-clause-tables c = record {
  by_name = c.requires.names;
  members = c.in_ok-members.ensures.tables;
  non_union = c.in_ok-non_union.ensures.tables;
  plans = c.in_ok-plans.ensures.plans;
  group_fields = c.in_ok-group_fields.ensures.fields;
  empty_node = c.new.ensures.node;
  empty_enum = c.new.ensures.enumeration;
}
