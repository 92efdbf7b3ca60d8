-- A part of the newer message can't be read, or none of either.
use Rattle.std.proofs.Common.{subst, sym}
use Rattle.capnp_device.specs.declared.error.ErrorKind.{ErrorKind}
use Rattle.riftcalico_core.specs.Diffs.{IsRefusedElse}
use Rattle.riftcalico_core.proofs.NewerBlamed.{newer_unread, no_place}
use Rattle.riftcalico_core.proofs.diff.explain_changes.Goals as goal

pub returns-in-Ok-Some-find_kind-clause-told : goal.returns-in-Ok-Some-find_kind-clause-told
returns-in-Ok-Some-find_kind-clause-told c = λ memory.
    let found = rw c.in-Ok-Some-find_kind.field-0-is at c.in-Ok-Some-find_kind.ensures.found in
    newer_unread c.args.schema c.args.old.now c.args.new.now c.in-Ok-Some-find_kind.fault c.blame_newer.result
    (subst (λ (k : ErrorKind). IsRefusedElse c.args.schema c.args.old.now k) (sym found.1) (rw c.in-Ok-None.field-0-is at c.in-Ok-None.ensures.found))
    found.0 c.blame_newer.ensures.error c.blame_newer.ensures.note c.blame_newer.ensures.blamed

pub returns-in-Ok-None-find_kind-clause-told : goal.returns-in-Ok-None-find_kind-clause-told
returns-in-Ok-None-find_kind-clause-told c = λ memory.
    let plain = c.get_fault-in-Ok-None-find_kind.ensures in
    no_place c.args.schema c.args.old.now c.args.new.now c.args.error c.get_fault-in-Ok-None-find_kind.result
    (rw c.in-Ok-None.field-0-is at c.in-Ok-None.ensures.found) (rw c.in-Ok-None-find_kind.field-0-is at c.in-Ok-None-find_kind.ensures.found)
    plain.error plain.note plain.blamed
