-- Digits beyond 800 with no more tenths than digits cut are past the range; with over 1149 tenths more they are nearest to 0.
-- Between these, the cut digits choose as all digits do.
use Rattle.std.proofs.Common.{arith, ◌+◌, ◌≡◌}
use Rattle.capnp_floats.specs.Shortest.{tenths}
use Rattle.capnp_floats.proofs.Answering.{cut_is_found, cut_is_not}
use Rattle.capnp_floats.proofs.Cutting.{cut_is_past, cut_is_tiny}
use Rattle.capnp_floats.proofs.Appending.{capped_is, capped_more}
use Rattle.capnp_floats.proofs.nearest.nearest_cut.Goals as goal

pub returns-then-down-cut-clause-past : goal.returns-then-down-cut-clause-past
returns-then-down-cut-clause-past c = λ n k a y.
    let e : c.args.down ≡ tenths k = capped_is c.args.down (tenths k) (omega arith) y in
    cut_is_past c.args.width c.args.digits.now n k c.requires.fits a c.requires.cut (omega arith)

pub returns-then-tenths-gt1149-clause-found : goal.returns-then-tenths-gt1149-clause-found
returns-then-tenths-gt1149-clause-found c = λ n k a y.
    cut_is_tiny c.args.width c.args.digits.now n k c.requires.fits a (capped_more c.args.down (tenths k) (c.args.digits.now.cut + 1149) (omega arith) (omega arith) y)

pub returns-clause-found : goal.returns-clause-found
returns-clause-found c =
    cut_is_found c.args.width c.args.digits.now c.args.down c.cut_digits-number.result c.chosen-bits.result c.in_range.result c.requires.fits c.requires.cut (omega arith) (omega arith)
    c.cut_digits-number.ensures.value c.chosen-bits.ensures c.in_range.ensures.some

pub returns-clause-past : goal.returns-clause-past
returns-clause-past c =
    cut_is_not c.args.width c.args.digits.now c.args.down c.cut_digits-number.result c.chosen-bits.result c.in_range.result c.requires.fits c.requires.cut (omega arith) (omega arith)
    c.cut_digits-number.ensures.value c.chosen-bits.ensures c.in_range.ensures.none
