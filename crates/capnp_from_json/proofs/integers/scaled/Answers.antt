-- With as many tens as tenths or more, zeros go behind the natural.
-- A natural past 64 bits stays so, and so does any but 0 with 20 zeros or more.
use Rattle.std.proofs.Common.{◌-◌, ◌*◌, ◌^◌, arith, sym, ap, ◌∙◌}
use Rattle.capnp_from_json.specs.Integers.{in_word}
use Rattle.capnp_from_json.proofs.Digits.{held_is}
use Rattle.capnp_from_json.proofs.Scaling.{few_zeros, front_not_held, many_zeros}
use Rattle.capnp_from_json.proofs.integers.scaled.Goals as goal

pub returns-in_default : goal.returns-in_default
returns-in_default c = λ d u v e some h. front_not_held d c.args.up c.args.down u v some h (omega arith) (sym c.in_default.is ∙ e)

pub returns-then-zeros-ge20 : goal.returns-then-zeros-ge20
returns-then-zeros-ge20 c = λ d u v e some h. many_zeros d c.args.up c.args.down u v some h (omega arith) (omega arith)

pub returns : goal.returns
returns c = λ d u v e some h.
    c.with_zeros.ensures ∙ ap (λ z. in_word (z * 10 ^ (c.args.up - c.args.down))) (held_is c.in-Some.front d (sym c.in-Some.is ∙ e))
    ∙ few_zeros d c.args.up c.args.down u v some h (omega arith) (omega arith)
