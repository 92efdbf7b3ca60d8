-- At the count nothing is left to come; below it the number at the index is the first of
-- what is left, which is one fewer afterwards.
use Rattle.std.proofs.Common.{ap, arith, length, ◌<◌}
use Rattle.capnp_wire.specs.Found.{found_tree}
use Rattle.capnp_wire.specs.Numbers.{items_left}
use Rattle.capnp_wire.specs.Facts.ElementValues.{elements_from_first, elements_from_none}
use Rattle.capnp_wire.proofs.numbers.NumberIterIterator.next.Goals as goal

pub returns-then-self-clause-steps : goal.returns-then-self-clause-steps
unfolding items_left
returns-then-self-clause-steps g c =
    let s = c.args.self.now in
    let none = elements_from_none g.T.PrimitiveElement.of_number g.T.PrimitiveElement.width (found_tree s.found) s.index s.count c.if-self.true in
    (none, none)

pub returns-clause-steps : goal.returns-clause-steps
unfolding items_left
returns-clause-steps g c =
    let s = c.args.self.now in
    let inside : s.index < s.count = omega (arith, c.if-self.false, s.in_order) in
    elements_from_first g.T.PrimitiveElement.of_number g.T.PrimitiveElement.width (found_tree s.found) s.index s.count c.number_inside-number.result inside c.number_inside-number.ensures

pub returns-clause-goes : goal.returns-clause-goes
returns-clause-goes g c =
    let less = ap length (returns-clause-steps g c) in
    record { on = λ _. (tt, tt, omega (arith, less)); keeps = tt; rests = λ _. tt }
