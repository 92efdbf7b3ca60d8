use Rattle.std.proofs.Common.{arith, ◌≡◌, ◌<◌, length, refl, sym, true, false, get_or, subst, List, Bool}
use Rattle.capnp_schema.specs.Entries.{lists_seen}
use Rattle.capnp_schema.proofs.Checking.TourGroups.{rules_of_clear}
use Rattle.capnp_schema.proofs.check.tour.tour_all.Goals as goal

pub returns-then-all_set-clause-apart : goal.returns-then-all_set-clause-apart
returns-then-all_set-clause-apart c = λ _. rules_of_clear (lists_seen c.args.lists.now) (λ b lt. c.loop-brand.invariant.done.clear b
    (let n = c.loop-brand.invariant.done.counted in let long = c.deref.ensures.len in subst (λ (xs : List Bool). get_or xs b false ≡ true) c.deref.ensures.value (c.if-all_set.ensures.yes refl b (subst (λ (xs : List Bool). b < length xs) (sym c.deref.ensures.value) (omega arith)))))
