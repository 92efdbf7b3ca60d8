-- Each of rules 1, 4, 5 and 7 that the field breaks is the refusal's rule at its place; a field that passes all four stands.
use Rattle.std.proofs.Common.{◌<◌, arith}
use Rattle.capnp_device.specs.declared.error.SchemaTable.TheVariants.{Brand as InBrands}
use Rattle.capnp_schema.specs.Schema.{seen_node}
use Rattle.capnp_schema.specs.Entries.{lists_seen}
use Rattle.capnp_schema.specs.Steps.Entries.{seen_typed}
use Rattle.capnp_schema.proofs.FieldCounts.{index_fits}
use Rattle.capnp_schema.proofs.Checking.FieldWalk.{refused, breaks_names, breaks_inside, breaks_default, breaks_group, stands}
use Rattle.capnp_schema.proofs.check.fields.check_field.Goals as goal

pub overflow_cast-place : goal.overflow_cast-place
overflow_cast-place c = let h : c.args.i < 65536 = index_fits (lists_seen c.args.lists.now) c.args.brand c.args.i c.requires.rule3 c.requires.field_in in omega arith

pub returns-then-not-names_entry : goal.returns-then-not-names_entry
returns-then-not-names_entry c = refused (lists_seen c.args.lists.now) c.refusal.result.kind 1 InBrands c.args.brand c.args.i c.refusal.ensures
    (breaks_names (lists_seen c.args.lists.now) c.args.brand c.args.i (seen_typed c.in-Some-field_at.typed) c.requires.brand_in c.in-Some-field_at.ensures c.if-not-names_entry.ensures)

pub returns-then-not-is_inside : goal.returns-then-not-is_inside
returns-then-not-is_inside c = refused (lists_seen c.args.lists.now) c.refusal-then-not-is_inside.result.kind 4 InBrands c.args.brand c.args.i c.refusal-then-not-is_inside.ensures
    (breaks_inside (lists_seen c.args.lists.now) c.args.brand c.args.i (seen_typed c.in-Some-field_at.typed) c.requires.brand_in c.in-Some-field_at.ensures (seen_node c.in-Some.node.now) c.in-Some.ensures c.if-not-is_inside.ensures)

pub returns-then-not-has_default : goal.returns-then-not-has_default
returns-then-not-has_default c = refused (lists_seen c.args.lists.now) c.refusal-then-not-has_default.result.kind 5 InBrands c.args.brand c.args.i c.refusal-then-not-has_default.ensures
    (breaks_default (lists_seen c.args.lists.now) c.args.brand c.args.i (seen_typed c.in-Some-field_at.typed) c.requires.brand_in c.in-Some-field_at.ensures c.if-not-has_default.ensures)

pub returns-then-not-group_fits : goal.returns-then-not-group_fits
returns-then-not-group_fits c = refused (lists_seen c.args.lists.now) c.refusal-then-not-group_fits.result.kind 7 InBrands c.args.brand c.args.i c.refusal-then-not-group_fits.ensures
    (breaks_group (lists_seen c.args.lists.now) c.args.brand c.args.i (seen_typed c.in-Some-field_at.typed) c.requires.brand_in c.in-Some-field_at.ensures c.if-not-group_fits.ensures)

pub returns : goal.returns
returns c = stands (lists_seen c.args.lists.now) c.args.brand c.args.i (seen_typed c.in-Some-field_at.typed) c.requires.brand_in c.in-Some-field_at.ensures (seen_node c.in-Some.node.now) c.in-Some.ensures c.if-not-names_entry.ensures c.if-not-is_inside.ensures c.if-not-has_default.ensures c.if-not-group_fits.ensures
