use Rattle.std.proofs.Common.{◌≡◌, ◌+◌, ◌*◌, ◌-◌, length}
use Rattle.capnp_packed.specs.Packing.{goes_on_packed, run_length, words_passing}
use Rattle.capnp_packed.proofs.pack.count_run.Given as goal

abbrev pub invariant-loop-count : goal.invariant-loop-count
invariant-loop-count l = record {
  words : l.count + words_passing (goes_on_packed l.fn.zeros) (255 - l.count) l.left ≡ run_length l.fn.zeros l.fn.bytes;
  inside : 8 * l.count + length l.left ≡ length l.fn.bytes;
}
