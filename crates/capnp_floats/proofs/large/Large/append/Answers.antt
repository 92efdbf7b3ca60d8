use Rattle.std.proofs.Common.{arith, ap, ◌*◌, ◌+◌, ◌^◌, ◌≡◌, length}
use Rattle.capnp_floats.specs.Naturals.{natural_of}
use Rattle.capnp_floats.proofs.Naturals.{none_carried_large}
use Rattle.capnp_floats.proofs.large.Large.append.Goals as goal

pub returns : goal.returns
returns c =
    let k : natural_of c.self.inside.row * 10 ≡ c.args.self.now * 10 = ap (λ z. z * 10) c.self.view_is in
    let e : natural_of c.scale.new.row + 2 ^ (32 * length c.self.inside.row) * c.scale.result ≡ c.args.self.now * 10 + c.args.digit = omega (arith, c.scale.ensures.value) in
    none_carried_large (natural_of c.scale.new.row) (length c.self.inside.row) c.scale.result _ e (omega arith) c.requires
