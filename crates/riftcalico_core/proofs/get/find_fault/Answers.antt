-- What the search found, and its note.
use Rattle.std.proofs.Common.{sym}
use Rattle.capnp_call.specs.Seen.{path_seen}
use Rattle.riftcalico_core.proofs.NotShown.{not_shown}
use Rattle.riftcalico_core.proofs.get.find_fault.Goals as goal

pub returns-in_default-clause-found : goal.returns-in_default-clause-found
returns-in_default-clause-found c = let number = rw c.in_default.is at c.in_ok-refusal.ensures.number in λ i. sym (number i)

pub returns-clause-found : goal.returns-clause-found
returns-clause-found c =
    let number = rw c.in-Some.is at c.in_ok-refusal.ensures.number in
    let place = rw c.in-Some.is at c.in_ok-refusal.ensures.place in
    not_shown c.args.schema (path_seen c.args.steps.now) c.args.message.now c.in_ok-note_fault.field-0 c.in-Some.refusal c.in_ok-note_fault.ensures.error c.in_ok-note_fault.ensures.note number place
