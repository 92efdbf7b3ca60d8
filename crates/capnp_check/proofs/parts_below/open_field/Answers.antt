use Rattle.capnp_check.proofs.OpenValues.{group_opened}
use Rattle.capnp_check.proofs.parts_below.open_field.Goals as goal

pub returns : goal.returns
returns c =
    group_opened c.args.left c.args.reader c.args.field c.requires.field c.new.result c.in-Some.group c.get_sections.result c.get_sections.ensures c.new.ensures.reader
    c.new.ensures.schema c.in-Some.ensures.number c.in-Some.ensures.down
