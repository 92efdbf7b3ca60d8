-- What is given at once is given, and what is not is refused.
use Rattle.capnp_slots.proofs.Stored.{none_given, some_given}
use Rattle.capnp_slots.proofs.primitive.number_given.Goals as goal

pub returns-in-Some : goal.returns-in-Some
returns-in-Some c = λ set. some_given _ _ c.in-Some.number (c.in-Some.ensures set)

pub returns-in-None : goal.returns-in-None
returns-in-None c = λ set. none_given _ _ c.refusal_at.result c.refusal_at.ensures (c.in-None.ensures set)
