-- The walk keeps that no byte before the index is a point; so the one found is the first,
-- and past all bytes the length is answered.
use Rattle.std.proofs.Common.{arith, sym, length, get_or, eq-eqb, ◌≡◌, true}
use Rattle.std.proofs.lemmas.List.Sums.{position_or_len_is}
use Rattle.capnp_floats.specs.Words.{is_point}
use Rattle.capnp_floats.proofs.word.find_point.Goals as goal

pub returns-then-word-index-eq46 : goal.returns-then-word-index-eq46
returns-then-word-index-eq46 c =
    let e : is_point (get_or c.args.word.now c.loop-index.index 0) ≡ true = eq-eqb _ 46 (omega arith) in
    sym (position_or_len_is is_point c.args.word.now c.loop-index.index 0 (omega arith) c.loop-index.invariant (λ h. e))

pub returns : goal.returns
returns c =
    sym (position_or_len_is is_point c.args.word.now (length c.args.word.now) 0 (omega arith) (λ k h. c.loop-index.invariant k (omega arith)) (λ h. absurd (omega arith)))
