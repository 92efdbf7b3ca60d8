-- What is asked at an index is asked by the act there.
use Rattle.std.proofs.Common.{None, Some, ap, length, refl, sym, ◌∙◌}
use Rattle.std.proofs.lemmas.Option.{slice_get_past, slice_get_read}
use Rattle.capnp_edit_calls.specs.ActsSeen.{act_seen}
use Rattle.capnp_schema.specs.StructHandles.{number_of, set_of}
use Rattle.riftcalico_core.specs.Replies.{asked_call}
use Rattle.riftcalico_core.proofs.CallsGiven.{seen_at}
use Rattle.riftcalico_core.proofs.replies.asked_at.Goals as goal

pub returns-in-Some : goal.returns-in-Some
returns-in-Some c =
    let acts = c.args.acts.now in
    let found = c.in-Some.ensures.lookup in
    let inside = found.3 in
    ap Some c.ask_act.ensures ∙ sym (seen_at (asked_call (set_of c.args.schema) (number_of c.args.schema)) act_seen acts c.args.index (Some c.in-Some.act.now) (slice_get_read acts (length acts) c.args.index c.in-Some.act.now refl inside.0 found.1))

pub returns-in-None : goal.returns-in-None
returns-in-None c =
    let acts = c.args.acts.now in
    let found = c.in-None.ensures.lookup in
    sym (seen_at (asked_call (set_of c.args.schema) (number_of c.args.schema)) act_seen acts c.args.index None (slice_get_past acts c.args.index found.3))
