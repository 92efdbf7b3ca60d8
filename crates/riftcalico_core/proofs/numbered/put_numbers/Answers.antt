-- One line more, and at the end all lines.
use Rattle.std.proofs.Common.{map, ap, sym, ◌∙◌, ◌∷◌, [], string_bytes}
use Rattle.std.proofs.lemmas.Iterator.Consumers.{YieldsList-end}
use Rattle.std.proofs.lemmas.Iterator.Splits.{YieldsList-from_lines}
use Rattle.std.proofs.lemmas.List.{map-append}
use Rattle.riftcalico_core.specs.Numbered.{each_numbered}
use Rattle.riftcalico_core.proofs.NumberedLines.{next_numbered}
use Rattle.riftcalico_core.proofs.numbered.put_numbers.Goals as goal

pub loop-line-preserved : goal.loop-line-preserved
loop-line-preserved c =
    next_numbered c.args.number (string_bytes c.loop-line.text) (string_bytes c.put_line.new.text) (map (λ x. x.now) c.loop-line.yielded) c.in-Some.line.now c.loop-line.invariant c.in_ok-put_line.ensures.put
    ∙ ap (each_numbered c.args.number) (sym (map-append (λ x. x.now) c.loop-line.yielded (c.in-Some.line ∷ [])))

pub returns-clause-lines : goal.returns-clause-lines
returns-clause-lines c =
    let t = YieldsList-end (YieldsList-from_lines c.args.lines.now cc) c.loop-line.yielded _ c.loop-line.yielded_by _ _ c.in-None.is c.next.ensures.steps in
    c.loop-line.invariant ∙ ap (each_numbered c.args.number) t.0
