-- The rows' sum is the naturals', with what was carried. As the sum fits the room of the row, nothing was carried.
use Rattle.std.proofs.Common.{arith, ◌*◌, ◌+◌, ◌^◌, ◌≡◌, length}
use Rattle.capnp_floats.specs.Naturals.{natural_of}
use Rattle.capnp_floats.proofs.Naturals.{none_carried}
use Rattle.capnp_floats.proofs.wide.Wide.sum.Goals as goal

pub returns : goal.returns
returns c =
    let v : natural_of c.self.inside.row ≡ c.args.self.now = c.self.view_is in
    let w : natural_of c.other.inside.row ≡ c.args.other.now = c.other.view_is in
    let e : natural_of c.add.new.row + 2 ^ (32 * length c.self.inside.row) * c.add.result ≡ c.args.self.now + c.args.other.now = omega (arith, c.add.ensures.value) in
    none_carried (natural_of c.add.new.row) (length c.self.inside.row) c.add.result _ e (omega arith) c.requires
