-- At the end all characters were yielded.
use Rattle.std.proofs.Common.{◌++◌, ◌∙◌, ap, map-id, string_bytes, sym}
use Rattle.std.proofs.lemmas.Iterator.{YieldsList-from_chars}
use Rattle.std.proofs.lemmas.Iterator.Consumers.{YieldsList-end}
use Rattle.capnp_patch.specs.Lines.{told_chars}
use Rattle.capnp_patch.proofs.Told.{chars_next}
use Rattle.capnp_patch.proofs.lines.put_word.Goals as goal

pub loop-c-preserved : goal.loop-c-preserved
loop-c-preserved c = chars_next (string_bytes c.args.out.now) (string_bytes c.loop-c.out) _ c.loop-c.yielded c.in-Some.c c.loop-c.invariant c.in_ok-put_char.ensures.put

pub returns-clause-put : goal.returns-clause-put
returns-clause-put c =
    let end = YieldsList-end (YieldsList-from_chars c.args.word.now c.utf8.word cc) c.loop-c.yielded _ c.loop-c.yielded_by _ _ c.in-None.is c.next.ensures.steps in
    c.loop-c.invariant ∙ ap (λ cs. string_bytes c.args.out.now ++ told_chars cs) (sym (map-id c.loop-c.yielded) ∙ end.0)
