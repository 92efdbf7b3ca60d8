-- While one is reached it is at most the bound, so ten times it fits.
-- It is at least 2 to the number of tens, so these are fewer than 1152.
use Rattle.std.proofs.Common.{arith, rules, ◌<◌, ◌≤◌, ◌≡◌, ◌+◌, ◌*◌, ◌^◌, ◌∙◌, ap, true}
use Rattle.std.proofs.lemmas.Nat.{pow_pos}
use Rattle.capnp_floats.specs.Naturals.{room}
use Rattle.capnp_floats.specs.Shortest.{reaches}
use Rattle.capnp_floats.proofs.Naturals.{few_factors}
use Rattle.capnp_floats.proofs.Reaching.{reached}
use Rattle.capnp_floats.proofs.Going.{ten_more, two_more}
use Rattle.capnp_floats.proofs.search.raise.Goals as goal

pub overflow_add-tens : goal.overflow_add-tens
overflow_add-tens c =
    let s : 100 * c.raising.one < room = c.raising.invariant.small in
    let h : c.raising.tens < 1152 = few_factors c.raising.tens c.raising.one c.raising.invariant.many (omega arith) in
    omega arith

pub raising-preserved : goal.raising-preserved
raising-preserved c =
    let t : reaches c.args.has_ends c.args.high.now c.raising.one ≡ true = search rules in
    let r : c.raising.one ≤ c.args.high.now = reached c.args.has_ends c.args.high.now c.raising.one t in
    let h : 1000 * c.args.high.now < room = c.requires.high_small in
    record {
      value = c.multiply.ensures ∙ ap (λ z. z * 10) c.raising.invariant.value ∙ ten_more c.args.one.now c.raising.tens;
      small = omega arith;
      many = let m : 2 ^ (c.raising.tens + 1) ≤ c.raising.one * 10 = two_more c.raising.one c.raising.tens c.raising.invariant.many in omega arith;
    }

pub raising-smaller : goal.raising-smaller
raising-smaller c =
    let t : reaches c.args.has_ends c.args.high.now c.raising.one ≡ true = search rules in
    let r : c.raising.one ≤ c.args.high.now = reached c.args.has_ends c.args.high.now c.raising.one t in
    let p : 0 < 2 ^ c.raising.tens = pow_pos c.raising.tens in
    let m : 2 ^ c.raising.tens ≤ c.raising.one = c.raising.invariant.many in
    omega arith

pub returns-clause-few : goal.returns-clause-few
returns-clause-few c =
    let s : 100 * c.raising.one < room = c.raising.invariant.small in
    few_factors c.raising.tens c.raising.one c.raising.invariant.many (omega arith)
