-- The number's text is ASCII and not empty, and of at most 20 digits, since the number is below 2^64; so it can be laid out.
use Rattle.std.proofs.Common.{ℕ, List, IsAscii, decimal, length, subst, sym, ◌≡◌, ◌<◌, ◌≤◌, ◌^◌, rules, arith}
use Rattle.std.proofs.lemmas.Fmt.{IsAscii-decimal, decimal_nonempty, length-decimal-le}
use Rattle.capnp_floats.proofs.text.put_decimal.Goals as goal

pub put_digits-requires-clause-ascii : goal.put_digits-requires-clause-ascii
put_digits-requires-clause-ascii c =
    let e : c.as_bytes.result.now ≡ decimal c.args.decimal.digits = first_of (search rules, grind arith) in
    subst IsAscii (sym e) (IsAscii-decimal c.args.decimal.digits (search rules))

pub put_digits-requires-clause-some : goal.put_digits-requires-clause-some
put_digits-requires-clause-some c =
    let e : c.as_bytes.result.now ≡ decimal c.args.decimal.digits = first_of (search rules, grind arith) in
    subst (λ (z : List ℕ). 0 < length z) (sym e) (decimal_nonempty c.args.decimal.digits (search rules))

pub put_digits-requires-clause-few : goal.put_digits-requires-clause-few
put_digits-requires-clause-few c =
    let e : c.as_bytes.result.now ≡ decimal c.args.decimal.digits = first_of (search rules, grind arith) in
    let f : c.args.decimal.digits < 2 ^ 64 = search rules in
    let g : length (decimal c.args.decimal.digits) ≤ 20 = length-decimal-le 20 c.args.decimal.digits (omega arith) (omega arith) f in
    subst (λ (z : List ℕ). length z < 4294967296) (sym e) (omega arith)
