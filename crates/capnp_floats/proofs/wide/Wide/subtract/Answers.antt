-- The rows' difference is the naturals', with what was lent.
-- As the other is not the larger and what is left fits the row, nothing was lent.
use Rattle.std.proofs.Common.{arith, ◌*◌, ◌+◌, ◌^◌, ◌≡◌, length}
use Rattle.capnp_floats.specs.Naturals.{natural_of}
use Rattle.capnp_floats.proofs.Naturals.{none_lent}
use Rattle.capnp_floats.proofs.wide.Wide.subtract.Goals as goal

pub returns : goal.returns
returns c =
    let v : natural_of c.self.inside.row ≡ c.args.self.now = c.self.view_is in
    let w : natural_of c.other.inside.row ≡ c.args.other.now = c.other.view_is in
    let e : natural_of c.subtract.new.row + c.args.other.now ≡ c.args.self.now + 2 ^ (32 * length c.self.inside.row) * c.subtract.result = omega (arith, c.subtract.ensures.value) in
    none_lent (natural_of c.subtract.new.row) c.args.other.now c.args.self.now (2 ^ (32 * length c.self.inside.row)) c.subtract.result e c.subtract.ensures.less c.requires
