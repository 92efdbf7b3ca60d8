use Rattle.capnp_show_engine.proofs.command.show_built_in.Goals as goal

pub returns-clause-beginning : goal.returns-clause-beginning
returns-clause-beginning g c = rw c.in_ok-schemas.ensures.set at c.show.ensures.beginning

pub returns-clause-shown : goal.returns-clause-shown
returns-clause-shown g c = rw c.in_ok-schemas.ensures.set at c.show.ensures.shown

pub returns-clause-refused : goal.returns-clause-refused
returns-clause-refused g c = rw c.in_ok-schemas.ensures.set at c.show.ensures.refused
