use Rattle.std.proofs.Common.{arith, lit<, ◌≡◌, ◌≤◌, ◌*◌, ◌^◌, ◌%◌}
use Rattle.std.proofs.Math.Nat.{pow-le-pow_right}
use Rattle.std.proofs.lemmas.Nat.{one_shl}
use Rattle.capnp_floats.proofs.moderate.power_of_two.Goals as goal

pub returns-clause-small : goal.returns-clause-small
returns-clause-small c =
    let e : 1 * 2 ^ c.args.twos % 2 ^ 128 ≡ 2 ^ c.args.twos = one_shl c.args.twos 128 (omega arith) in
    let p : 2 ^ c.args.twos ≤ 2 ^ 89 = pow-le-pow_right {n = 2} (lit< tt) {i = c.args.twos} {j = 89} c.requires in
    omega arith
