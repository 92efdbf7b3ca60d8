-- Each turn counts in units of ten, while a natural of these lies in the interval. Where none does, no multiple of ten did.
use Rattle.std.proofs.Common.{rules, arith, subst, sym, ◌≡◌, ◌+◌, true, false}
use Rattle.std.proofs.lemmas.Bool.{not-true, not-false}
use Rattle.capnp_floats.specs.declared.counted.Counted.{Counted}
use Rattle.capnp_floats.specs.Shortest.{reaches}
use Rattle.capnp_floats.specs.Steps.Counting.{CountsTens, IsCounted, tenfold}
use Rattle.capnp_floats.proofs.Counting.{counts_none, counts_more, none_coarser, tenfold_counted}
use Rattle.capnp_floats.proofs.counted.Counted.coarsen.Goals as goal

pub growing-init : goal.growing-init
growing-init c = record { counted = c.requires.counted; reached = c.requires.reached; counts = counts_none c.args.self.now }

pub returns-then-not-is_reached-clause-coarse : goal.returns-then-not-is_reached-clause-coarse
returns-then-not-is_reached-clause-coarse c =
    let e : c.coarser-next.result ≡ tenfold c.growing.self = c.coarser-next.ensures in
    let f : c.is_reached.result ≡ false = first_of (search rules, grind arith, search (rules, not-true, not-false)) in
    none_coarser c.growing.self
    (subst (λ (t : Counted). reaches t.has_ends t.below t.rest ≡ false) e (c.is_reached.ensures.down f))
    (subst (λ (t : Counted). reaches t.has_ends (t.rest + t.above) t.one ≡ false) e (c.is_reached.ensures.up f))

pub growing-preserved : goal.growing-preserved
growing-preserved c =
    let e : c.coarser-next.result ≡ tenfold c.growing.self = c.coarser-next.ensures in
    let t : c.is_reached.result ≡ true = first_of (search rules, grind arith, search (rules, not-true, not-false)) in
    record {
      counted = subst (λ (t : Counted). IsCounted t) (sym e) (tenfold_counted c.growing.self c.growing.invariant.counted (omega arith));
      reached = c.is_reached.ensures.yes t;
      counts = subst (λ (t : Counted). CountsTens c.args.self.now t (c.growing.tens + 1)) (sym e) (counts_more c.args.self.now c.growing.self c.growing.tens c.growing.invariant.counts);
    }
