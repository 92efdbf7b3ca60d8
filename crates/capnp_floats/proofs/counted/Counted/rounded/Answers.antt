-- Where one bound alone lies in the interval, it is the answer.
-- Where both do, the rest and what is left of one say which is nearer, and on a tie the even one is taken.
use Rattle.std.proofs.Common.{arith, rules}
use Rattle.std.proofs.lemmas.Bool.{not-true, not-false}
use Rattle.capnp_floats.proofs.Counting.{floor_alone, floor_nearer, ceiling_alone, ceiling_nearer, even_nearest}
use Rattle.capnp_floats.proofs.counted.Counted.rounded.Goals as goal

pub returns-then-not-is_up : goal.returns-then-not-is_up
returns-then-not-is_up c = floor_alone c.args.self.now c.requires.counted c.requires.reached c.requires.coarse
    (first_of (search rules, grind arith, search (rules, not-true, not-false)))

pub returns-then-not-is_down : goal.returns-then-not-is_down
returns-then-not-is_down c = ceiling_alone c.args.self.now c.requires.counted c.requires.coarse
    (first_of (search rules, grind arith, search (rules, not-true, not-false)))
    (first_of (search rules, grind arith, search (rules, not-true, not-false)))

pub returns-then-self-other : goal.returns-then-self-other
returns-then-self-other c = floor_nearer c.args.self.now c.requires.counted c.requires.coarse
    (first_of (search rules, grind arith, search (rules, not-true, not-false))) (omega arith)

pub returns-then-other-self : goal.returns-then-other-self
returns-then-other-self c = ceiling_nearer c.args.self.now c.requires.counted c.requires.coarse
    (first_of (search rules, grind arith, search (rules, not-true, not-false))) (omega arith)

pub returns : goal.returns
returns c = even_nearest c.args.self.now c.requires.counted c.requires.coarse
    (first_of (search rules, grind arith, search (rules, not-true, not-false)))
    (first_of (search rules, grind arith, search (rules, not-true, not-false))) (omega arith)
