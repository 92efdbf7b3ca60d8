-- The member that is found is the active one.
use Rattle.std.proofs.Common.{◌∙◌, subst, sym, Option}
use Rattle.capnp_schema.specs.FieldLists.{IsFound}
use Rattle.capnp_schema.specs.declared.schema.fields.Field.{Field}
use Rattle.capnp_records.specs.Part.{which_of}
use Rattle.capnp_dynamic_readers.specs.Handles.{schema_of}
use Rattle.capnp_dynamic_readers.specs.Seen.{record_seen}
use Rattle.capnp_json.proofs.ItemsJson.{active_found, member_hidden, nothing_found}
use Rattle.capnp_json.proofs.items.find_member.Goals as goal

pub returns-in_default : goal.returns-in_default
returns-in_default c = nothing_found c.args.reader (subst (λ (o : Option Field). IsFound (schema_of c.args.reader) (which_of (record_seen c.args.reader)) o) c.in_default.is c.active_member.ensures)

pub is_member_item-requires : goal.is_member_item-requires
is_member_item-requires c = active_found c.args.reader c.in-Some.member (subst (λ (o : Option Field). IsFound (schema_of c.args.reader) (which_of (record_seen c.args.reader)) o) c.in-Some.is c.active_member.ensures)

pub returns-then-not-is_member_item : goal.returns-then-not-is_member_item
returns-then-not-is_member_item c =
    let active = active_found c.args.reader c.in-Some.member (subst (λ (o : Option Field). IsFound (schema_of c.args.reader) (which_of (record_seen c.args.reader)) o) c.in-Some.is c.active_member.ensures) in
    member_hidden c.args.reader c.in-Some.member active (sym c.if-not-is_member_item.true ∙ c.is_member_item.ensures)

pub returns : goal.returns
returns c = record {
  active = active_found c.args.reader c.in-Some.member (subst (λ (o : Option Field). IsFound (schema_of c.args.reader) (which_of (record_seen c.args.reader)) o) c.in-Some.is c.active_member.ensures);
  shown = sym c.is_member_item.ensures ∙ c.if-not-is_member_item.false;
}
