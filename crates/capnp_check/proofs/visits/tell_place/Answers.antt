-- The loop keeps that the steps and words told, with those of the frames left, are all; at the end no frame is left.
use Rattle.std.proofs.Common.{ap, arith, string_bytes, ◌++◌}
use Rattle.capnp_check.proofs.FramesTold.{open_there, place_above, steps_done, steps_next, steps_of, words_done, words_next, words_of}
use Rattle.capnp_check.proofs.visits.tell_place.Goals as goal

pub loop-index-init : goal.loop-index-init
loop-index-init c = record {
  path = ap (λ xs. xs ++ steps_of c.args.frames.now.items) c.new-path.ensures.items;
  words = λ set are. ap (λ xs. xs ++ words_of set c.args.frames.now.items) c.new-words.ensures.bytes;
}

pub loop-index-preserved : goal.loop-index-preserved
loop-index-preserved c =
    let size = c.args.frames.now.ok.0 in
    record {
      path =
          steps_next c.args.frames.now.items c.loop-index.index c.index.result.now (omega (arith, c.loop-index-test.true, c.len-index-end.ensures, size)) c.index.ensures c.loop-index.path.items c.put_last.new.path.items
          c.in_ok-put_last.ensures.path c.loop-index.invariant.path;
      words = λ set are.
          words_next c.args.frames.now.items c.loop-index.index c.index.result.now (omega (arith, c.loop-index-test.true, c.len-index-end.ensures, size)) c.index.ensures set (string_bytes c.loop-index.words) (string_bytes c.put_last.new.words)
          (c.in_ok-put_last.ensures.words set (open_there c.args.frames.now.items c.loop-index.index c.index.result.now (omega (arith, c.loop-index-test.true, c.len-index-end.ensures, size)) c.index.ensures set are)) (c.loop-index.invariant.words set are);
    }

pub returns-clause-place : goal.returns-clause-place
returns-clause-place c =
    let size = c.args.frames.now.ok.0 in
    λ set are.
    place_above set c.args.frames.now.items c.loop-index.path.items (string_bytes c.loop-index.words) c.args.kind
    (steps_done c.args.frames.now.items c.loop-index.index c.loop-index.path.items (omega (arith, c.loop-index-test.false, c.len-index-end.ensures, size)) c.loop-index.invariant.path)
    (words_done set c.args.frames.now.items c.loop-index.index (string_bytes c.loop-index.words) (omega (arith, c.loop-index-test.false, c.len-index-end.ensures, size)) (c.loop-index.invariant.words set are))
