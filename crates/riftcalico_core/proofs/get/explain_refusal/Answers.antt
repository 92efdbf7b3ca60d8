-- A text that is refused is found to be.
use Rattle.capnp_call.specs.Seen.{path_seen}
use Rattle.capnp_patch.specs.Gets.{got_text}
use Rattle.capnp_schema.specs.StructHandles.{number_of, set_of}
use Rattle.riftcalico_core.proofs.Told.{not_both}
use Rattle.riftcalico_core.proofs.get.explain_refusal.Goals as goal

pub returns-in-Ok-None-clause-shown : goal.returns-in-Ok-None-clause-shown
returns-in-Ok-None-clause-shown c =
    λ memory. not_both c.args.error.kind (got_text (set_of c.args.job.now.schema) (number_of c.args.job.now.schema) (path_seen c.args.steps.now) c.args.job.now.indented c.args.message.now)
    ((rw c.in-Ok-None.field-0-is at c.in-Ok-None.ensures.found) c.args.job.now.indented) (c.requires.refused (rw c.get_fault-in-Ok-None.ensures.error at memory))
