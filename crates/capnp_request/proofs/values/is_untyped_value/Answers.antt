use Rattle.std.proofs.Common.{sym, ◌∙◌}
use Rattle.capnp_request.specs.Steps.Seen.{record_seen}
use Rattle.capnp_request.proofs.ValuesRead.{no_member, not_untyped}
use Rattle.capnp_request.proofs.values.is_untyped_value.Goals as goal

pub returns-else-member-eq-VALUE_UNTYPED : goal.returns-else-member-eq-VALUE_UNTYPED
returns-else-member-eq-VALUE_UNTYPED c = not_untyped (record_seen c.args.reader) c.in-Some.member (sym c.value_member.ensures ∙ c.in-Some.is) c.if-member-eq-VALUE_UNTYPED.false

pub returns-in-None : goal.returns-in-None
returns-in-None c = no_member (record_seen c.args.reader) (sym c.value_member.ensures ∙ c.in-None.is)
