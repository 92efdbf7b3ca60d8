-- What is given is the value's source.
use Rattle.std.proofs.Common.{subst}
use Rattle.capnp_arena.specs.Built.{built_at}
use Rattle.capnp_records.specs.Call.{Set, Source}
use Rattle.capnp_call.specs.Steps.Ends.{FieldDoes}
use Rattle.capnp_call.specs.Seen.{reply_seen}
use Rattle.capnp_call.proofs.end.set_field.Goals as goal

pub returns-in-Some-clause-does : goal.returns-in-Some-clause-does
returns-in-Some-clause-does c =
    subst (λ (s : Source). FieldDoes c.args.field (Set s) (built_at c.args.arena.now c.args.place) (reply_seen c.set_to.result) (built_at c.set_to.new.arena c.args.place)) c.in-Some.ensures c.set_to.ensures.does
