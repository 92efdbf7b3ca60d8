-- With no bit of the fraction the sign decides which infinity is said; a refusal to put that text is one to put the float.
use Rattle.std.proofs.Common.{List, subst, sym, ℕ, ◌==◌, ◌∙◌}
use Rattle.capnp_floats.specs.Floats.{fraction}
use Rattle.capnp_floats.specs.Layout.{is_negative}
use Rattle.capnp_json.specs.Pieces.{said}
use Rattle.capnp_json.specs.Steps.Puts.{IsStopped}
use Rattle.capnp_json.proofs.FiniteFloats.{negative_is, positive_is}
use Rattle.capnp_json.proofs.Puts.{err_map}
use Rattle.capnp_json.proofs.floats.put_infinite.Goals as goal

pub returns-then-is_negative-clause-stopped : goal.returns-then-is_negative-clause-stopped
returns-then-is_negative-clause-stopped c =
    err_map c.put-then-is_negative.result
    (λ why. subst (λ (z : List ℕ). IsStopped c.args.out.now (said z) why)
    (negative_is (fraction c.args.width c.args.bits == 0) (is_negative c.args.width c.args.bits) (sym c.has_no_fraction.ensures ∙ c.if-not-has_no_fraction.false) (sym c.is_negative.ensures ∙ c.if-is_negative.true)))
    c.put-then-is_negative.ensures.stopped

pub returns-clause-stopped : goal.returns-clause-stopped
returns-clause-stopped c =
    err_map c.put-2.result
    (λ why. subst (λ (z : List ℕ). IsStopped c.args.out.now (said z) why)
    (positive_is (fraction c.args.width c.args.bits == 0) (is_negative c.args.width c.args.bits) (sym c.has_no_fraction.ensures ∙ c.if-not-has_no_fraction.false) (sym c.is_negative.ensures ∙ c.if-is_negative.false)))
    c.put-2.ensures.stopped
