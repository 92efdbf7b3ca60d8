-- Where one bound alone lies in the interval, it is the answer.
-- Where both do, twice the rest against one says which is nearer, and on a tie the even one is taken.
use Rattle.std.proofs.Common.{arith, rules, ltb, ◌+◌, ◌≡◌, ◌≤◌, ◌<◌, true, false}
use Rattle.std.proofs.lemmas.Bool.{ltb-true, ltb-false, not-true, not-false}
use Rattle.capnp_floats.proofs.Going.{end_floor_alone, end_floor_nearer, end_floor_even, end_ceiling_alone, end_ceiling_nearer, end_ceiling_odd}
use Rattle.capnp_floats.proofs.search.Search.rounded.Goals as goal

pub returns-then-not-is_up : goal.returns-then-not-is_up
returns-then-not-is_up c = end_floor_alone c.args.self.now c.requires.going c.requires.done
    (first_of (search rules, grind arith, search (rules, not-true, not-false)))

pub returns-then-not-is_down : goal.returns-then-not-is_down
returns-then-not-is_down c = end_ceiling_alone c.args.self.now c.requires.going
    (first_of (search rules, grind arith, search (rules, not-true, not-false)))
    (first_of (search rules, grind arith, search (rules, not-true, not-false)))

pub returns-then-is_below : goal.returns-then-is_below
returns-then-is_below c =
    let e : c.sum-twice.result ≡ c.args.self.now.rest + c.args.self.now.rest = c.sum-twice.ensures in
    let t : ltb c.sum-twice.result c.args.self.now.one ≡ true = first_of (search rules, grind arith) in
    let l : c.sum-twice.result < c.args.self.now.one = ltb-true _ _ t in
    end_floor_nearer c.args.self.now c.requires.going (first_of (search rules, grind arith, search (rules, not-true, not-false))) (omega arith)

pub returns-then-is_below-2 : goal.returns-then-is_below-2
returns-then-is_below-2 c =
    let e : c.sum-twice.result ≡ c.args.self.now.rest + c.args.self.now.rest = c.sum-twice.ensures in
    let t : ltb c.args.self.now.one c.sum-twice.result ≡ true = first_of (search rules, grind arith) in
    let l : c.args.self.now.one < c.sum-twice.result = ltb-true _ _ t in
    end_ceiling_nearer c.args.self.now c.requires.going (first_of (search rules, grind arith, search (rules, not-true, not-false))) (omega arith)

pub returns-then-self-eq0 : goal.returns-then-self-eq0
returns-then-self-eq0 c =
    let e : c.sum-twice.result ≡ c.args.self.now.rest + c.args.self.now.rest = c.sum-twice.ensures in
    let t : ltb c.sum-twice.result c.args.self.now.one ≡ false = first_of (search rules, grind arith) in
    let u : ltb c.args.self.now.one c.sum-twice.result ≡ false = first_of (search rules, grind arith) in
    let l : c.args.self.now.one ≤ c.sum-twice.result = ltb-false _ _ t in
    let m : c.sum-twice.result ≤ c.args.self.now.one = ltb-false _ _ u in
    end_floor_even c.args.self.now c.requires.going (first_of (search rules, grind arith, search (rules, not-true, not-false))) (omega arith) (omega arith)

pub returns-else-self-eq0 : goal.returns-else-self-eq0
returns-else-self-eq0 c =
    let e : c.sum-twice.result ≡ c.args.self.now.rest + c.args.self.now.rest = c.sum-twice.ensures in
    let t : ltb c.sum-twice.result c.args.self.now.one ≡ false = first_of (search rules, grind arith) in
    let u : ltb c.args.self.now.one c.sum-twice.result ≡ false = first_of (search rules, grind arith) in
    let l : c.args.self.now.one ≤ c.sum-twice.result = ltb-false _ _ t in
    let m : c.sum-twice.result ≤ c.args.self.now.one = ltb-false _ _ u in
    end_ceiling_odd c.args.self.now c.requires.going (first_of (search rules, grind arith, search (rules, not-true, not-false))) (omega arith) (omega arith)
