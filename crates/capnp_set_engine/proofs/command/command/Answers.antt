use Rattle.capnp_set_engine.proofs.command.command.Goals as goal

pub returns-in_default-clause-usage : goal.returns-in_default-clause-usage
returns-in_default-clause-usage g c = λ _. rw c.as_bytes.ensures.value at c.tell.ensures
