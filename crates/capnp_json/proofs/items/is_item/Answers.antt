-- Whether the field is a member decides: a member is no item here, and another field is one where it is there.
use Rattle.std.proofs.Common.{◌∙◌, sym, false, true}
use Rattle.capnp_dynamic_readers.specs.Steps.PartsRead.{field_in}
use Rattle.capnp_json.proofs.ItemsJson.{item_of_member, item_of_plain, member_from}
use Rattle.capnp_json.proofs.items.is_item.Goals as goal

pub is_field_there-requires-clause-non_union : goal.is_field_there-requires-clause-non_union
is_field_there-requires-clause-non_union c = member_from c.args.reader c.args.field c.requires.field _ false c.get_proto.ensures (sym c.is_member.ensures ∙ c.if-is_member.false)

pub returns-then-is_member : goal.returns-then-is_member
returns-then-is_member c = item_of_member c.args.reader (field_in c.args.reader c.args.field) (member_from c.args.reader c.args.field c.requires.field _ true c.get_proto.ensures (sym c.is_member.ensures ∙ c.if-is_member.true))

pub returns : goal.returns
returns c =
    item_of_plain c.args.reader (field_in c.args.reader c.args.field) c.is_field_there.result
    (member_from c.args.reader c.args.field c.requires.field _ false c.get_proto.ensures (sym c.is_member.ensures ∙ c.if-is_member.false)) c.is_field_there.ensures
