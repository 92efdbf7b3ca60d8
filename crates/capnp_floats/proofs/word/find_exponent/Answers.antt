-- The walk keeps that no byte before the index is an exponent's mark; so the one found is
-- the first, and else the length is answered.
use Rattle.std.proofs.Common.{arith, rules, sym, length, get_or, ◌≡◌, true}
use Rattle.std.proofs.lemmas.List.Sums.{position_or_len_is}
use Rattle.capnp_floats.specs.Words.{is_exponent_mark}
use Rattle.capnp_floats.proofs.word.find_exponent.Goals as goal

pub returns-then-is_exponent_mark-clause-place : goal.returns-then-is_exponent_mark-clause-place
returns-then-is_exponent_mark-clause-place c =
    let e : is_exponent_mark (get_or c.args.word.now c.loop-index.index 0) ≡ true = first_of (search rules, grind arith) in
    sym (position_or_len_is is_exponent_mark c.args.word.now c.loop-index.index 0 (omega arith) c.loop-index.invariant (λ h. e))

pub returns-clause-place : goal.returns-clause-place
returns-clause-place c =
    sym (position_or_len_is is_exponent_mark c.args.word.now (length c.args.word.now) 0 (omega arith) (λ k h. c.loop-index.invariant k (omega arith)) (λ h. absurd (omega arith)))
