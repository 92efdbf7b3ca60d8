-- A text that is refused with another kind, or not at all, is not refused with this one.
use Rattle.riftcalico_core.proofs.NewerBlamed.{not_refused, refused_else}
use Rattle.riftcalico_core.proofs.diff.find_kind.Goals as goal

pub returns-else-is_same_kind-clause-found : goal.returns-else-is_same_kind-clause-found
returns-else-is_same_kind-clause-found c =
    refused_else c.args.schema c.args.message.now c.in-Some.fault c.args.kind (rw c.in-Some.is at c.in_ok-fault.ensures.found) (c.is_same_kind.ensures.other c.if-is_same_kind.false)

pub returns-in-None-clause-found : goal.returns-in-None-clause-found
returns-in-None-clause-found c = not_refused c.args.schema c.args.message.now c.args.kind (rw c.in-None.is at c.in_ok-fault.ensures.found)
