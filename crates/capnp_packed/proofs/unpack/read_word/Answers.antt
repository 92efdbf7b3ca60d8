-- The bytes that are read stand before those under the bits that are left.
use Rattle.std.proofs.Common.{refl, arith, rules}
use Rattle.capnp_packed.proofs.Pieces.{byte_read, word_read, word_start}
use Rattle.capnp_packed.proofs.unpack.read_word.Goals as goal

pub loop-i-init : goal.loop-i-init
loop-i-init c = record { reads = word_start c.args.tag c.args.bytes.now; whole = refl; shorter = omega arith; few = omega arith }

pub loop-i-preserved : goal.loop-i-preserved
loop-i-preserved c = record {
  reads = byte_read c.loop-i.i c.loop-i.bits c.loop-i.word c.in_ok-byte.byte c.loop-i.rest.now c.in_ok-byte.behind.now _ (search rules)
      c.loop-i.invariant.whole c.in_ok-byte.ensures.byte c.loop-i.invariant.reads;
  whole = search rules;
  shorter = omega (arith, c.in_ok-byte.ensures.shorter, c.loop-i.invariant.shorter);
  few = omega (arith, c.in_ok-byte.ensures.few, c.loop-i.invariant.few);
}

pub returns-clause-word : goal.returns-clause-word
returns-clause-word c = word_read c.args.tag c.loop-i.i c.loop-i.bits c.loop-i.word c.loop-i.rest.now c.args.bytes.now c.loop-i.invariant.whole
    (search rules) c.loop-i.invariant.reads
