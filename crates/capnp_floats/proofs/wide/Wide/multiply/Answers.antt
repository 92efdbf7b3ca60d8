use Rattle.std.proofs.Common.{arith, ap, ◌*◌, ◌+◌, ◌^◌, ◌≡◌, length}
use Rattle.capnp_floats.specs.Naturals.{natural_of}
use Rattle.capnp_floats.proofs.Naturals.{none_carried}
use Rattle.capnp_floats.proofs.wide.Wide.multiply.Goals as goal

pub returns : goal.returns
returns c =
    let k : natural_of c.self.inside.row * c.args.factor ≡ c.args.self.now * c.args.factor = ap (λ z. z * c.args.factor) c.self.view_is in
    let e : natural_of c.scale.new.row + 2 ^ (32 * length c.self.inside.row) * c.scale.result ≡ c.args.self.now * c.args.factor = omega (arith, c.scale.ensures.value) in
    none_carried (natural_of c.scale.new.row) (length c.self.inside.row) c.scale.result _ e (omega arith) c.requires
