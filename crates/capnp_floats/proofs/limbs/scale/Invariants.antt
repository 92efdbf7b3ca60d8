use Rattle.std.proofs.Common.{◌≡◌, ◌+◌, ◌*◌, ◌^◌, ◌≤◌, ℕ, take, get_or}
use Rattle.capnp_floats.specs.Naturals.{natural_of}
use Rattle.capnp_floats.proofs.limbs.scale.Given as goal

abbrev pub invariant-loop-i : goal.invariant-loop-i
invariant-loop-i l = record {
  value : natural_of (take l.i l.row) + 2 ^ (32 * l.i) * l.carry ≡ natural_of (take l.i l.fn.row) * l.factor + l.fn.more;
  rest : (k : ℕ) → l.i ≤ k → get_or l.row k 0 ≡ get_or l.fn.row k 0;
}
