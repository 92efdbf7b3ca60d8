-- The refusal, with what it blames.
use Rattle.std.proofs.Common.{subst, sym, ◌≢◌}
use Rattle.capnp_device.specs.declared.error.Error.{Error}
use Rattle.capnp_device.specs.declared.error.ErrorKind.TheVariants.{OutOfMemory}
use Rattle.riftcalico_core.specs.Comparisons.{IsNotTold}
use Rattle.riftcalico_core.proofs.compare.answer_compare.Goals as goal

pub returns-in-Err-clause-refused : goal.returns-in-Err-clause-refused
returns-in-Err-clause-refused c =
    λ memory. record {
      cause = subst (λ (e : Error). e.kind ≢ OutOfMemory → IsNotTold c.args.job.now e) (sym c.get_fault.ensures.error) c.in-Err.ensures.refused memory;
      note = c.get_fault.ensures.note;
    }
