-- The list that was found is the one that is counted.
use Rattle.capnp_callers.proofs.named.count_named.Goals as goal

pub returns : goal.returns
returns c = (c.in_ok-list_named.field-0, c.in_ok-list_named.ensures.value, c.len.ensures)
