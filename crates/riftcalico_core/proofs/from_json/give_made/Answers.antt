-- The message that was made is its own witness: its root, its bounds and its output are those of the arena.
use Rattle.std.proofs.Common.{IfOk, Result, refl, sym, subst}
use Rattle.capnp_device.specs.declared.error.Error.{Error}
use Rattle.capnp_arena.specs.Message.{message_tree}
use Rattle.riftcalico_core.specs.Outputs.{IsMessageOutput}
use Rattle.riftcalico_core.specs.declared.answer.Output.{Output}
use Rattle.riftcalico_core.proofs.from_json.give_made.Goals as goal

pub returns-clause-made : goal.returns-clause-made
returns-clause-made c = record {
  root = message_tree c.args.message;
  is = c.requires.root;
  within = record { message = c.args.message; is = c.requires.message; tree = refl; few = c.requires.within };
  output = subst (IsMessageOutput c.args.job.packed (message_tree c.args.message)) (sym c.answer_quietly.ensures.output)
      (subst (λ (r : Result Output Error). IfOk r (IsMessageOutput c.args.job.packed (message_tree c.args.message))) c.in_ok-output.ensures.value c.get_output.ensures.output);
  quiet = c.answer_quietly.ensures.quiet;
}
