-- Digits that are all kept are the natural in front.
-- Above 1150 tenths they are nearest to 0; else the number chosen is nearest if it is in range.
use Rattle.std.proofs.Common.{arith, lit<, subst, sym}
use Rattle.capnp_floats.specs.Shortest.{tenths}
use Rattle.capnp_floats.specs.Nearest.{IsNearest}
use Rattle.capnp_floats.proofs.Answering.{whole_found, whole_past}
use Rattle.capnp_floats.proofs.Cutting.{whole_few, whole_is_tiny}
use Rattle.capnp_floats.proofs.Appending.{capped_more, holds_whole}
use Rattle.capnp_floats.proofs.nearest.nearest_whole.Goals as goal

pub returns-then-down-gt1150-clause-found : goal.returns-then-down-gt1150-clause-found
returns-then-down-gt1150-clause-found c = λ n k a x y.
    subst (λ z. IsNearest c.args.width z k 0) (sym (holds_whole c.args.digits.now n c.requires.whole a))
    (whole_is_tiny c.args.width c.args.digits.now.front k (whole_few c.args.digits.now c.requires.fits) (capped_more c.args.down (tenths k) 1150 (omega arith) (lit< tt) y))

pub chosen-bits-requires-clause-digits : goal.chosen-bits-requires-clause-digits
chosen-bits-requires-clause-digits c = whole_few c.args.digits.now c.requires.fits

pub returns-clause-found : goal.returns-clause-found
returns-clause-found c =
    whole_found c.args.width c.args.digits.now c.args.up c.args.down c.chosen-bits.result c.in_range.result c.requires.whole (omega arith) (omega arith) c.chosen-bits.ensures c.in_range.ensures.some

pub returns-clause-past : goal.returns-clause-past
returns-clause-past c =
    whole_past c.args.width c.args.digits.now c.args.up c.args.down c.chosen-bits.result c.in_range.result c.requires.whole (omega arith) (omega arith) c.chosen-bits.ensures c.in_range.ensures.none
