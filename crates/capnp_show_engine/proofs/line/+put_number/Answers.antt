-- A digit after those before it.
use Rattle.std.proofs.Common.{◌<◌, ◌^◌, arith}
use Rattle.capnp_show_engine.proofs.Digits.{digit_after, digit_put, one_digit, one_more}
use Rattle.capnp_show_engine.proofs.line.+put_number.Goals as goal

pub bounds-line-place : goal.bounds-line-place
bounds-line-place t c = omega (arith, one_digit c.args.number c.if-number-lt10.true)

pub returns-then-number-lt10-clause-end : goal.returns-then-number-lt10-clause-end
returns-then-number-lt10-clause-end t c = omega (arith, one_digit c.args.number c.if-number-lt10.true)

pub returns-then-number-lt10-clause-put : goal.returns-then-number-lt10-clause-put
returns-then-number-lt10-clause-put t c =
    digit_put c.args.line.now c.args.place c.args.number (omega (arith, one_digit c.args.number c.if-number-lt10.true)) c.if-number-lt10.true

pub put_number-last-requires : goal.put_number-last-requires
put_number-last-requires t c =
    let small : c.args.number < 2 ^ 64 = omega arith in
    (omega (arith, c.decreases), omega (arith, one_more c.args.number c.if-number-lt10.false small))

pub bounds-line-last : goal.bounds-line-last
bounds-line-last t c =
    let small : c.args.number < 2 ^ 64 = omega arith in
    omega (arith, one_more c.args.number c.if-number-lt10.false small)

pub returns-clause-end : goal.returns-clause-end
returns-clause-end t c =
    let small : c.args.number < 2 ^ 64 = omega arith in
    omega (arith, one_more c.args.number c.if-number-lt10.false small)

pub returns-clause-put : goal.returns-clause-put
returns-clause-put t c =
    let small : c.args.number < 2 ^ 64 = omega arith in
    digit_after c.args.line.now c.put_number-last.new.line c.args.place c.put_number-last.result c.args.number
    (omega (arith, one_more c.args.number c.if-number-lt10.false small)) c.if-number-lt10.false small c.put_number-last.ensures.put
