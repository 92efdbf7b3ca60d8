use Rattle.capnp_compatible.proofs.named.add_some.Goals as goal

pub returns-in-Some-clause-only : goal.returns-in-Some-clause-only
returns-in-Some-clause-only c = rw c.in-Some.is (c.add.ensures.only)
