-- What was appended stands before the packed form of what is left.
use Rattle.std.proofs.Common.{◌++◌, sym, ap, ◌∙◌, arith, rules}
use Rattle.std.proofs.lemmas.List.{append-nil}
use Rattle.capnp_packed.specs.Unpacking.{unpacked_bytes}
use Rattle.capnp_packed.proofs.RoundTrip.{left_packed, left_whole, packed_none, round_trip}
use Rattle.capnp_packed.proofs.pack.pack.Goals as goal

pub loop-left-preserved : goal.loop-left-preserved
loop-left-preserved c = record {
  bytes = left_packed c.loop-left.out.items c.append_piece.new.out.items c.loop-left.left.now c.part.result.now c.rest-behind.result.now c.rest-left.result.now _
      c.in_ok-count.count (search rules) c.part.ensures c.rest-behind.ensures c.in_ok-count.ensures.words c.rest-left.ensures c.in_ok-count.ensures.bytes
      c.loop-left.invariant.bytes;
  whole = left_whole c.loop-left.left.now c.part.result.now c.rest-behind.result.now c.rest-left.result.now c.in_ok-count.count (search rules)
      c.rest-behind.ensures c.in_ok-count.ensures.words c.rest-left.ensures c.loop-left.invariant.whole;
}

pub returns-clause-packed : goal.returns-clause-packed
returns-clause-packed c =
    sym (append-nil c.loop-left.out.items)
    ∙ ap (λ x. c.loop-left.out.items ++ x) (sym (packed_none c.loop-left.left.now (let w = c.loop-left.invariant.whole in let f = c.loop-left-test.false in omega (arith, w, f))))
    ∙ c.loop-left.invariant.bytes

pub returns-clause-back : goal.returns-clause-back
returns-clause-back c = ap unpacked_bytes (returns-clause-packed c) ∙ round_trip c.args.bytes.now c.requires.whole
