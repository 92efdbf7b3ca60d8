-- One line more, and at the end all lines.
use Rattle.std.proofs.Common.{List, ℕ, map, ap, sym, ◌∙◌, ◌∷◌, [], string_bytes}
use Rattle.std.proofs.lemmas.Iterator.Consumers.{YieldsList-end}
use Rattle.std.proofs.lemmas.Iterator.Splits.{YieldsList-from_lines}
use Rattle.std.proofs.lemmas.List.{map-append}
use Rattle.std.specs.Str.Lines.{lines}
use Rattle.riftcalico_core.specs.Near.{near_note}
use Rattle.riftcalico_core.proofs.NearNames.{near_next}
use Rattle.riftcalico_core.proofs.near.get_near_structs.Goals as goal

pub loop-name-preserved : goal.loop-name-preserved
loop-name-preserved c =
    near_next c.args.asked.now (string_bytes c.loop-name.note) (string_bytes c.put_near.new.note) (map (λ x. x.now) c.loop-name.yielded) c.in-Some.name.now c.loop-name.invariant c.in_ok-put_near.ensures.put
    ∙ ap (near_note c.args.asked.now) (sym (map-append (λ x. x.now) c.loop-name.yielded (c.in-Some.name ∷ [])))

pub returns-clause-near : goal.returns-clause-near
returns-clause-near c =
    let t = YieldsList-end (YieldsList-from_lines c.deref.result.now cc) c.loop-name.yielded _ c.loop-name.yielded_by _ _ c.in-None.is c.next.ensures.steps in
    c.loop-name.invariant ∙ (ap (near_note c.args.asked.now) t.0 ∙ ap (λ (text : List ℕ). near_note c.args.asked.now (lines text)) (c.deref.ensures ∙ c.in_ok-names.ensures.text))
