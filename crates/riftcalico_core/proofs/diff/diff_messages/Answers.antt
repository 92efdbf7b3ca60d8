-- The changes that were found are those between the two roots, and what is told of them is the answer.
use Rattle.std.proofs.Common.{List, subst}
use Rattle.capnp_diffs.specs.declared.change.Change.{Change as FoundChange}
use Rattle.riftcalico_core.specs.Diffs.{IsLine, IsLineless, IsToldOrPut}
use Rattle.riftcalico_core.specs.Lines.{IsFirstOf}
use Rattle.riftcalico_core.proofs.DiffsAnswered.{diff_answered, not_found, one_lineless}
use Rattle.riftcalico_core.proofs.diff.diff_messages.Goals as goal

pub returns-in-Err-find_changes-clause-refused : goal.returns-in-Err-find_changes-clause-refused
returns-in-Err-find_changes-clause-refused c = λ memory.
    not_found c.args.job.now c.args.old.now c.args.new.now c.requires.newer c.in-Ok.root c.in-Ok-read_root.root c.in-Ok-read_root.ensures.schema c.in-Ok.ensures.root c.in-Ok-read_root.ensures.root
    c.in-Err-find_changes.error.kind c.in-Err-find_changes.ensures.refused c.explain_changes.result (c.explain_changes.ensures.kind memory) (c.explain_changes.ensures.told memory)

pub returns-in-Ok-answer_changes-clause-answer : goal.returns-in-Ok-answer_changes-clause-answer
returns-in-Ok-answer_changes-clause-answer c =
    let j = c.args.job.now in
    let found = c.in-Ok-find_changes.ensures in
    diff_answered j c.args.old.now c.args.new.now c.requires.newer c.in-Ok.root c.in-Ok-read_root.root c.in-Ok-find_changes.changes.items c.in-Ok-read_root.ensures.schema c.in-Ok.ensures.record c.in-Ok-read_root.ensures.record found.found found.told found.ready
    c.in-Ok-answer_changes.answer (subst (λ (cs : List FoundChange). IsToldOrPut j.schema j.limit cs c.in-Ok-answer_changes.answer) c.deref.ensures.value c.in-Ok-answer_changes.ensures.answer)

pub returns-clause-refused : goal.returns-clause-refused
returns-clause-refused c = λ memory.
    let j = c.args.job.now in
    let found = c.in-Ok-find_changes.ensures in
    let f = c.in-Err-answer_changes.fault in
    one_lineless j c.args.old.now c.args.new.now c.requires.newer c.in-Ok.root c.in-Ok-read_root.root c.in-Ok-find_changes.changes.items c.in-Ok-read_root.ensures.schema c.in-Ok.ensures.record c.in-Ok-read_root.ensures.record found.found found.told found.ready
    f c.in-Err-answer_changes.ensures.blamed (subst (λ (cs : List FoundChange). IsFirstOf (IsLine j.schema) (λ left x. IsLineless left j.schema x f) j.limit cs) c.deref.ensures.value (c.in-Err-answer_changes.ensures.refused memory))
