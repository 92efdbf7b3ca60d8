-- The line up to its end.
use Rattle.std.proofs.Common.{◌++◌, ◌∷◌, [], List, ℕ, ap, arith, codes, decimal, ◌∙◌}
use Rattle.std.proofs.lemmas.List.{take_more_set}
use Rattle.capnp_show_engine.proofs.Digits.{few_digits}
use Rattle.capnp_show_engine.proofs.line.put_refusal.Goals as goal

pub put_number-end-requires : goal.put_number-end-requires
put_number-end-requires c = omega (arith, few_digits c.number.result (omega arith))

pub bounds-line-end : goal.bounds-line-end
bounds-line-end c = omega (arith, few_digits c.number.result (omega arith))

pub returns-clause-end : goal.returns-clause-end
returns-clause-end c = omega (arith, few_digits c.number.result (omega arith))

pub returns-clause-put : goal.returns-clause-put
returns-clause-put c =
    take_more_set c.put_number-end.new.line c.put_number-end.result 10 (omega (arith, few_digits c.number.result (omega arith)))
    ∙ (ap (λ (ds : List ℕ). ds ++ 10 ∷ []) c.put_number-end.ensures.put ∙ ap (λ (n : ℕ). codes "refused: " ++ decimal n ++ 10 ∷ []) c.number.ensures)
