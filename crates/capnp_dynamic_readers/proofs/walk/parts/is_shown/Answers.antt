-- A member whose discriminant value is not zero is shown; the first is shown if the struct has it, and asking is never refused.
use Rattle.std.proofs.Common.{◌∙◌, arith}
use Rattle.capnp_schema.specs.FieldLists.{index_of}
use Rattle.capnp_dynamic_readers.specs.Facts.ItemsShown.{discriminant_in, member_has, shown_of_another, shown_of_first}
use Rattle.capnp_dynamic_readers.specs.Facts.HasWhich.{ok_same}
use Rattle.capnp_dynamic_readers.proofs.walk.parts.is_shown.Goals as goal

pub returns-then-get_proto-ne0 : goal.returns-then-get_proto-ne0
returns-then-get_proto-ne0 c = shown_of_another c.args.reader c.args.member c.get_proto.result.now.discriminant_value (discriminant_in c.args.reader c.args.member c.requires.0 _ c.get_proto.ensures) (λ e. omega (arith, c.if-get_proto-ne0.true, e))

pub returns : goal.returns
returns c =
    shown_of_first c.args.reader c.args.member c.get_proto.result.now.discriminant_value c.in-Ok.is_there (discriminant_in c.args.reader c.args.member c.requires.0 _ c.get_proto.ensures) (omega (arith, c.if-get_proto-ne0.false))
    (ok_same c.has.result c.in-Ok.is_there _ c.in-Ok.is c.has.ensures ∙ member_has c.args.reader (index_of c.args.member) c.requires.0.inside c.requires.1)
