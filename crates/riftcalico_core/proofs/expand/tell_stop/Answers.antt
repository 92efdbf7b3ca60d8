-- The last step is told, with its kind and what it is done at.
use Rattle.std.proofs.Common.{arith, refl}
use Rattle.capnp_patch.specs.declared.reach.RefusedStep.{RefusedStep}
use Rattle.riftcalico_core.proofs.expand.tell_stop.Goals as goal

pub returns-in-Ok-clause-told : goal.returns-in-Ok-clause-told
returns-in-Ok-clause-told c = λ memory.
    let step : RefusedStep = record { error = c.from-error.result; index = c.saturating_sub.result; within = c.args.refused.now.within } in
    record {
      kind = c.from-error.ensures;
      step = step;
      step_kind = c.from-error.ensures;
      last = omega (arith, c.saturating_sub.ensures, c.len.ensures);
      within = refl;
      told = rw c.deref.ensures.value at c.in-Ok.ensures.note;
    }
