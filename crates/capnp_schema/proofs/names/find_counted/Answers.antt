-- The search keeps that the name is in no place outside the halves left, which the sorted table gives at each comparison.
-- Each comparison halves what is left, so the count has few digits.
use Rattle.std.proofs.Common.{◌≡◌, ◌<◌, zero, suc, refl, ℕ, sym, ap, ◌∙◌, arith}
use Rattle.std.specs.Cmp.Lexicographic.{slice_cmp}
use Rattle.std.specs.Ordering.{nat_cmp}
use Rattle.capnp_schema.proofs.NameSearch.{few_halves, found, absent, left, right}
use Rattle.capnp_schema.proofs.SeenNames.{seen_count}
use Rattle.capnp_schema.proofs.names.find_counted.Goals as goal

pub compare_counted-requires : goal.compare_counted-requires
compare_counted-requires c = few_halves _ _ (c.loop-low.invariant.digits (omega arith)) (let n = seen_count c.args.fields.now in omega arith)

pub returns-in-Equal-clause-found : goal.returns-in-Equal-clause-found
returns-in-Equal-clause-found c = found _ _ _ c.requires.table _ (omega arith) (ap (λ n. slice_cmp nat_cmp n c.args.name.now) (sym c.name_of.ensures) ∙ sym c.in-Equal.ensures.order)

pub loop-low-preserved-in-Less : goal.loop-low-preserved-in-Less
loop-low-preserved-in-Less c = rw c.compare_counted.ensures.counted (right _ _ _ c.requires.table _ _ _ c.loop-low.invariant c.loop-low-test.true (ap (λ n. slice_cmp nat_cmp n c.args.name.now) (sym c.name_of.ensures) ∙ sym c.in-Less.ensures.order))

pub loop-low-preserved : goal.loop-low-preserved
loop-low-preserved c = rw c.compare_counted.ensures.counted (left _ _ _ c.requires.table _ _ _ c.loop-low.invariant c.loop-low-test.true (ap (λ n. slice_cmp nat_cmp n c.args.name.now) (sym c.name_of.ensures) ∙ sym c.in-Greater.ensures.order))

pub returns-clause-found : goal.returns-clause-found
returns-clause-found c = absent _ _ _ c.requires.table _ _ _ c.loop-low.invariant c.loop-low-test.false

pub returns-clause-some : goal.returns-clause-some
returns-clause-some c = λ some. after_some c.loop-low.count (λ h. absurd (let s = c.loop-low.invariant.started h in let n = seen_count c.args.fields.now in omega arith))
  where
    after_some : (n : ℕ) → (n ≡ 0 → 0 < n) → 0 < n
    after_some zero h = h refl
    after_some (suc n) h = omega arith
