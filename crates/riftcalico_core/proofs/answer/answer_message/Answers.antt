-- A refusal with what it blames.
use Rattle.std.proofs.Common.{IfErr, subst, sym, ◌≢◌}
use Rattle.capnp_device.specs.declared.error.ErrorKind.TheVariants.{OutOfMemory}
use Rattle.riftcalico_core.specs.Answers.{IsNoMessageAnswer, IsNotConverted, IsUnpatched}
use Rattle.riftcalico_core.specs.Room.{IsPastLimit}
use Rattle.riftcalico_core.specs.declared.fault.Blamed.TheVariants.{Input, «Output»}
use Rattle.riftcalico_core.specs.declared.job.Job.{Job}
use Rattle.riftcalico_core.proofs.Blamed.{blamed_so}
use Rattle.riftcalico_core.proofs.answer.answer_message.Goals as goal

pub returns-in-Patch-clause-refused : goal.returns-in-Patch-clause-refused
returns-in-Patch-clause-refused c =
    subst (λ (x : Job). IfErr c.blame.result (λ f. f.error.kind ≢ OutOfMemory → IsNoMessageAnswer x c.args.message.now f)) (sym c.in-Patch.is)
    (blamed_so c.answer_patch.result c.blame.result Input (λ e. IsUnpatched c.in-Patch.job.limit c.args.message.now e.kind) c.answer_patch.ensures.refused c.blame.ensures.refused)

pub returns-in-New-clause-refused : goal.returns-in-New-clause-refused
returns-in-New-clause-refused c =
    subst (λ (x : Job). IfErr c.blame-in-New.result (λ f. f.error.kind ≢ OutOfMemory → IsNoMessageAnswer x c.args.message.now f)) (sym c.in-New.is)
    (blamed_so c.answer_new.result c.blame-in-New.result «Output» (λ e. IsPastLimit c.in-New.job.limit e.kind) c.answer_new.ensures.refused c.blame-in-New.ensures.refused)

pub returns-in-FromJson-clause-refused : goal.returns-in-FromJson-clause-refused
returns-in-FromJson-clause-refused c = subst (λ (x : Job). IfErr c.answer_from_json.result (λ f. f.error.kind ≢ OutOfMemory → IsNoMessageAnswer x c.args.message.now f)) (sym c.in-FromJson.is) c.answer_from_json.ensures.refused

pub returns-in-Convert-clause-refused : goal.returns-in-Convert-clause-refused
returns-in-Convert-clause-refused c =
    subst (λ (x : Job). IfErr c.blame-in-Convert.result (λ f. f.error.kind ≢ OutOfMemory → IsNoMessageAnswer x c.args.message.now f)) (sym c.in-Convert.is)
    (blamed_so c.answer_convert.result c.blame-in-Convert.result Input (λ e. IsNotConverted c.in-Convert.strict c.in-Convert.limit c.args.message.now e) c.answer_convert.ensures.refused c.blame-in-Convert.ensures.refused)

pub returns-in-Get-clause-refused : goal.returns-in-Get-clause-refused
returns-in-Get-clause-refused c = subst (λ (x : Job). IfErr c.answer_get.result (λ f. f.error.kind ≢ OutOfMemory → IsNoMessageAnswer x c.args.message.now f)) (sym c.in-Get.is) c.answer_get.ensures.refused

pub returns-in-Json-clause-refused : goal.returns-in-Json-clause-refused
returns-in-Json-clause-refused c = subst (λ (x : Job). IfErr c.answer_json.result (λ f. f.error.kind ≢ OutOfMemory → IsNoMessageAnswer x c.args.message.now f)) (sym c.in-Json.is) c.answer_json.ensures.refused

pub returns-in-Compatible-clause-refused : goal.returns-in-Compatible-clause-refused
returns-in-Compatible-clause-refused c = subst (λ (x : Job). IfErr c.answer_compare.result (λ f. f.error.kind ≢ OutOfMemory → IsNoMessageAnswer x c.args.message.now f)) (sym c.in-Compatible.is) c.answer_compare.ensures.refused
