use Rattle.std.proofs.Common.{◌∙◌}
use Rattle.capnp_schema.specs.FieldLists.{index_of}
use Rattle.capnp_dynamic_readers.specs.Facts.ItemsShown.{plain_has}
use Rattle.capnp_dynamic_readers.specs.Facts.HasWhich.{ok_same}
use Rattle.capnp_dynamic_readers.proofs.walk.parts.is_field_there.Goals as goal

pub returns : goal.returns
returns c = ok_same c.has.result c.in-Ok.is_there _ c.in-Ok.is c.has.ensures ∙ plain_has c.args.reader (index_of c.args.field) c.requires.field.inside c.requires.non_union
