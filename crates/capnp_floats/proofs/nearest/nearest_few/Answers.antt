-- No digits are 0; above 400 tenths they are too little for any number but 0, above 400 tens past the range.
-- Between these, the number chosen is nearest if it is in range.
use Rattle.std.proofs.Common.{arith, lit<}
use Rattle.capnp_floats.specs.Shortest.{tens, tenths}
use Rattle.capnp_floats.proofs.Answering.{few_found, few_past}
use Rattle.capnp_floats.proofs.Appending.{capped_more}
use Rattle.capnp_floats.proofs.Nearing.{tiny_is_zero, vast_is_past, zero_is_zero}
use Rattle.capnp_floats.proofs.nearest.nearest_few.Goals as goal

pub returns-then-digits-eq0-clause-found : goal.returns-then-digits-eq0-clause-found
returns-then-digits-eq0-clause-found c = λ k x y. zero_is_zero c.args.width c.args.digits k (omega arith)

pub returns-then-down-gt400-clause-found : goal.returns-then-down-gt400-clause-found
returns-then-down-gt400-clause-found c = λ k x y. tiny_is_zero c.args.width c.args.digits k (omega arith) (capped_more c.args.down (tenths k) 400 (omega arith) (lit< tt) y)

pub returns-then-up-gt400-clause-past : goal.returns-then-up-gt400-clause-past
returns-then-up-gt400-clause-past c = λ k x y. vast_is_past c.args.width c.args.digits k (omega arith) (capped_more c.args.up (tens k) 400 (omega arith) (lit< tt) x)

pub returns-clause-found : goal.returns-clause-found
returns-clause-found c =
    few_found c.args.width c.args.digits c.args.up c.args.down c.chosen_few.result c.in_range.result (omega arith) (omega arith) c.chosen_few.ensures c.in_range.ensures.some

pub returns-clause-past : goal.returns-clause-past
returns-clause-past c =
    few_past c.args.width c.args.digits c.args.up c.args.down c.chosen_few.result c.in_range.result (omega arith) (omega arith) c.chosen_few.ensures c.in_range.ensures.none
