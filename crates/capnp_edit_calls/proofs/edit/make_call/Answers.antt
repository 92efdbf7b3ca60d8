-- The call is what the walk of its path is.
use Rattle.std.proofs.Common.{refl, subst}
use Rattle.capnp_arena.specs.Built.{built_at}
use Rattle.capnp_schema.specs.StructHandles.{number_of, set_of}
use Rattle.capnp_records.specs.Call.{Call}
use Rattle.capnp_records.specs.Writes.TreeEnds.{TreeStep}
use Rattle.capnp_call.specs.Seen.{reply_seen}
use Rattle.capnp_call.proofs.Making.{call_made}
use Rattle.capnp_edit_calls.proofs.edit.make_call.Goals as goal

pub returns-clause-made : goal.returns-clause-made
returns-clause-made c =
    let set = set_of c.args.schema in
    let b = number_of c.args.schema in
    let old = built_at c.args.arena.now c.args.place in
    let new = built_at c.walk.new.arena c.args.place in
    subst (λ (k : Call). TreeStep set b old k (reply_seen c.walk.result) new) c.call_along-call.ensures (call_made set b c.call_along-call.result _ old c.walk.result new refl c.walk.ensures.walks)
