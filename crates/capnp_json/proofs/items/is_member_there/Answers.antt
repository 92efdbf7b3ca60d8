-- The member is a field of the reader's schema, so `has` answers, and what it answers is whether the active member is there.
use Rattle.std.proofs.Common.{◌∙◌}
use Rattle.capnp_schema.specs.FieldLists.{index_of}
use Rattle.capnp_dynamic_readers.specs.Facts.HasWhich.{ok_same}
use Rattle.capnp_dynamic_readers.specs.Handles.{schema_of}
use Rattle.capnp_dynamic_readers.specs.Facts.ItemsShown.{belongs}
use Rattle.capnp_json.proofs.ItemsJson.{member_has}
use Rattle.capnp_json.proofs.items.is_member_there.Goals as goal

pub has-requires : goal.has-requires
has-requires c = belongs (schema_of c.args.reader) (index_of c.args.member) c.args.member c.requires.field

pub returns : goal.returns
returns c = ok_same c.has.result c.in-Ok.is_there _ c.in-Ok.is c.has.ensures ∙ member_has c.args.reader c.args.member c.requires
