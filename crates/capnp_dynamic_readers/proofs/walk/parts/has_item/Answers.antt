-- A field that is no union member is an item if it is there. A member is one if the union chose it and it is shown.
use Rattle.std.proofs.Common.{◌∙◌, sym, false, true}
use Rattle.capnp_schema.specs.FieldLists.{index_of}
use Rattle.capnp_dynamic_readers.specs.Handles.{schema_of}
use Rattle.capnp_dynamic_readers.specs.Steps.PartsRead.{field_in}
use Rattle.capnp_dynamic_readers.proofs.GroupSteps.{active_member, active_which, item_of_active, item_of_inactive, item_of_plain, member_from}
use Rattle.capnp_dynamic_readers.specs.Facts.ItemsShown.{belongs}
use Rattle.capnp_dynamic_readers.proofs.walk.parts.has_item.Goals as goal

pub is_field_there-requires-clause-non_union : goal.is_field_there-requires-clause-non_union
is_field_there-requires-clause-non_union c = member_from c.args.reader c.args.field c.requires.field _ false c.get_proto.ensures (sym c.is_member.ensures ∙ c.if-not-is_member.true)

pub returns-then-not-is_member : goal.returns-then-not-is_member
returns-then-not-is_member c =
    item_of_plain c.args.reader (field_in c.args.reader c.args.field) (index_of c.args.field) c.is_field_there.result
    (member_from c.args.reader c.args.field c.requires.field _ false c.get_proto.ensures (sym c.is_member.ensures ∙ c.if-not-is_member.true)) c.is_field_there.ensures

pub is_active-requires : goal.is_active-requires
is_active-requires c = belongs (schema_of c.args.reader) (index_of c.args.field) c.args.field c.requires.field

pub returns-then-not-is_active : goal.returns-then-not-is_active
returns-then-not-is_active c =
    let member = member_from c.args.reader c.args.field c.requires.field _ true c.get_proto.ensures (sym c.is_member.ensures ∙ c.if-not-is_member.false) in
    item_of_inactive c.args.reader (field_in c.args.reader c.args.field) (index_of c.args.field) member
    (active_member c.args.reader (field_in c.args.reader c.args.field) (index_of c.args.field) c.is_active.result member c.is_active.ensures ∙ c.if-not-is_active.true)

pub is_shown-requires : goal.is_shown-requires
is_shown-requires c =
    let member = member_from c.args.reader c.args.field c.requires.field _ true c.get_proto.ensures (sym c.is_member.ensures ∙ c.if-not-is_member.false) in (
      c.requires.field,
      active_which c.args.reader (index_of c.args.field)
          (active_member c.args.reader (field_in c.args.reader c.args.field) (index_of c.args.field) c.is_active.result member c.is_active.ensures ∙ c.if-not-is_active.false),
    )

pub returns : goal.returns
returns c =
    let member = member_from c.args.reader c.args.field c.requires.field _ true c.get_proto.ensures (sym c.is_member.ensures ∙ c.if-not-is_member.false) in
    item_of_active c.args.reader (field_in c.args.reader c.args.field) (index_of c.args.field) c.is_shown.result member
    (active_member c.args.reader (field_in c.args.reader c.args.field) (index_of c.args.field) c.is_active.result member c.is_active.ensures ∙ c.if-not-is_active.false) c.is_shown.ensures
