use Rattle.std.proofs.Common.{◌≡◌, ◌≤◌, ◌-◌, ◌+◌, take, length}
use Rattle.capnp_packed.specs.Unpacking.{bytes_under, tag_bits, word_under}
use Rattle.capnp_packed.proofs.Pieces.{after}
use Rattle.capnp_packed.proofs.unpack.read_word.Given as goal

-- The bytes that are read stand before those under the bits that are left.
abbrev pub invariant-loop-i : goal.invariant-loop-i
invariant-loop-i l = record {
  reads : after (take l.i l.word) (bytes_under (tag_bits (8 - l.i) l.bits) l.rest) ≡ word_under l.fn.tag l.fn.bytes;
  whole : length l.word ≡ 8;
  shorter : length l.rest ≤ length l.fn.bytes;
  few : length l.fn.bytes ≤ length l.rest + l.i;
}
