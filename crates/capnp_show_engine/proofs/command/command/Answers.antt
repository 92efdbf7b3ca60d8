-- What is shown or refused over an opener of files is so over the runtime's files, since each
-- file that the opener gives is some file of the system.
use Rattle.capnp_show_engine.proofs.SomeFiles.{refused, shown}
use Rattle.capnp_show_engine.proofs.command.command.Goals as goal

pub returns-clause-shown : goal.returns-clause-shown
returns-clause-shown g c = λ h.
    let s = c.command_over.ensures.shown h in
    (s.0, s.1, shown _ _ _ _ s.0 _ _ _ _ s.2)

pub returns-clause-refused : goal.returns-clause-refused
returns-clause-refused g c = λ h.
    let s = c.command_over.ensures.refused h in
    (s.0, s.1, s.2, s.3, refused _ _ _ _ _ _ s.0 s.1 _ _ _ _ _ _ _ _ s.4, s.5)
