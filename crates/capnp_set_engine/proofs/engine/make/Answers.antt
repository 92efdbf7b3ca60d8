-- The records accepted as a set are those converted, so message, reading and notes are of this set.
-- A set that can't be written is refused with the writer's cause.
use Rattle.std.proofs.Common.{◌≡◌, subst}
use Rattle.std.proofs.lemmas.Result.{err_from_is_err_and}
use Rattle.capnp_schema.specs.Entries.{lists_seen}
use Rattle.capnp_schema.specs.Schema.{Schemas}
use Rattle.capnp_set_writer.specs.Message.{set_message}
use Rattle.capnp_set_engine.proofs.Made.{unwritable}
use Rattle.capnp_set_engine.proofs.engine.make.Goals as goal

pub returns-in_err-message-clause-refused : goal.returns-in_err-message-clause-refused
returns-in_err-message-clause-refused c =
    let p = err_from_is_err_and c.from_residual-in_err-message.result c.from_residual-in_err-message.ensures.1 in rw (p.1, p.2)
    (λ _. unwritable c.args.converted (lists_seen c.in_ok-schemas.schemas) _ c.in_ok-schemas.ensures.set c.in_ok-schemas.ensures.accepted c.in_err-message.ensures.cause c.in_err-message.ensures.unknown c.in_err-message.ensures.past)

pub returns-clause-made : goal.returns-clause-made
returns-clause-made c = record {
  accepted = c.in_ok-schemas.ensures.accepted;
  written = subst (λ (set : Schemas). c.in_ok-message.message.items ≡ set_message set) c.in_ok-schemas.ensures.set c.in_ok-message.ensures.written;
  read = rw c.in_ok-schemas.ensures.set at c.in_ok-message.ensures.read;
  noted = rw c.in_ok-schemas.ensures.set at (rw c.as_slice.ensures.value at c.in_ok-lines.ensures.lines);
}
