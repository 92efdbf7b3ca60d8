-- One value that is appended is a list of one.
use Rattle.std.proofs.Common.{List, [], ◌∷◌, IfErr, IfOk, ◌≢◌, subst, sym}
use Rattle.capnp_device.specs.declared.error.Error.{Error}
use Rattle.capnp_device.specs.declared.error.ErrorKind.TheVariants.{OutOfMemory}
use Rattle.capnp_arena.specs.Message.{message_tree}
use Rattle.capnp_arena.specs.declared.arena.Arena.{Arena}
use Rattle.capnp_schema.specs.Entries.{lists_seen}
use Rattle.capnp_schema.specs.Types.{seen_type}
use Rattle.capnp_slots.specs.SetValues.{source_of}
use Rattle.capnp_edits.specs.Changes.{AreListed, AreRefused, IsAdded, IsAddedRefusal, one, one_refused}
use Rattle.capnp_edits.specs.EditsSeen.{edit_seen}
use Rattle.capnp_edits.specs.declared.edit.Edit.{Edit as EditOf}
use Rattle.capnp_edits.proofs.Results.{if_err, if_ok}
use Rattle.capnp_edits.proofs.edit.list_added.Goals as goal

pub returns-in-Append-clause-added : goal.returns-in-Append-clause-added
returns-in-Append-clause-added c =
    subst (λ (d : EditOf). IfOk c.list_one.result (λ (m : Arena). IsAdded (lists_seen c.args.schemas.now) (seen_type c.args.element) (edit_seen d) c.args.length (message_tree m))) (sym c.in-Append.is)
    (if_ok c.list_one.result (λ m h. one (source_of c.in-Append.value) (message_tree m) h) c.list_one.ensures.made)

pub returns-in-Append-clause-cause : goal.returns-in-Append-clause-cause
returns-in-Append-clause-cause c =
    subst (λ (d : EditOf). IfErr c.list_one.result (λ (e : Error). e.kind ≢ OutOfMemory → IsAddedRefusal (lists_seen c.args.schemas.now) (seen_type c.args.element) (edit_seen d) c.args.length e.kind)) (sym c.in-Append.is)
    (if_err c.list_one.result (λ e h other. one_refused (source_of c.in-Append.value) e.kind (h other)) c.list_one.ensures.cause)
