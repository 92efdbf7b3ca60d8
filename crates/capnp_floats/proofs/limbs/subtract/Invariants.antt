use Rattle.std.proofs.Common.{◌≡◌, ◌+◌, ◌*◌, ◌^◌, ◌<◌, ◌≤◌, ℕ, take, get_or}
use Rattle.capnp_floats.specs.Naturals.{natural_of}
use Rattle.capnp_floats.proofs.limbs.subtract.Given as goal

abbrev pub invariant-loop-i : goal.invariant-loop-i
invariant-loop-i l = record {
  value : natural_of (take l.i l.row) + natural_of (take l.i l.other) ≡ natural_of (take l.i l.fn.row) + 2 ^ (32 * l.i) * l.lent;
  rest : (k : ℕ) → l.i ≤ k → get_or l.row k 0 ≡ get_or l.fn.row k 0;
  few : l.lent ≤ 1;
  less : natural_of (take l.i l.row) < 2 ^ (32 * l.i);
}
