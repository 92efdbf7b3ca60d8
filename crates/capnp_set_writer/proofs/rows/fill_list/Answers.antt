-- The first so many elements have their parts.
use Rattle.std.proofs.Common.{arith}
use Rattle.std.proofs.lemmas.Result.{err_from_is_err_and}
use Rattle.capnp_arena.specs.Facts.Frames.{pointer_after}
use Rattle.capnp_set_writer.proofs.Places.{changes_none}
use Rattle.capnp_set_writer.proofs.Trees.{element_blank, element_filled, element_there, kept_more, one_of_all, refused_up, whole_filled}
use Rattle.capnp_set_writer.proofs.rows.fill_list.Goals as goal

pub loop-index-init : goal.loop-index-init
loop-index-init g c = record { frame = record { forest = c.requires.forest; changes = changes_none _ _ }; filled_so = c.requires.new; kept = λ k a d. absurd (omega arith); fits = λ k a d. absurd (omega arith) }

pub put_element-requires : goal.put_element-requires
put_element-requires g c = record {
  forest = c.loop-index.invariant.frame.forest;
  there = element_there g.T.Part.tree g.T.Part.seen g.T.Part.data_words g.T.Part.pointers c.args.parts.now c.loop-index.index c.loop-index-test.true _ c.loop-index.invariant.filled_so;
  blank = element_blank g.T.Part.tree g.T.Part.seen g.T.Part.data_words g.T.Part.pointers c.args.parts.now c.loop-index.index c.loop-index-test.true _ c.loop-index.invariant.filled_so;
}

pub loop-index-preserved : goal.loop-index-preserved
loop-index-preserved g c = record {
  frame = pointer_after c.loop-index.invariant.frame.changes c.in_ok-put_element.ensures.frame;
  filled_so = element_filled g.T.Part.tree g.T.Part.seen g.T.Part.data_words g.T.Part.pointers c.args.parts.now c.loop-index.index c.loop-index-test.true _ c.loop-index.invariant.filled_so c.index-parts-index.result _ c.index-parts-index.is c.in_ok-put_element.ensures.written;
  kept = kept_more g.T.Part.kept g.T.Part.seen c.args.parts.now c.loop-index.index c.index-parts-index.result c.loop-index-test.true c.index-parts-index.is c.in_ok-put_element.ensures.kept c.loop-index.invariant.kept;
  fits = kept_more g.T.Part.fits g.T.Part.seen c.args.parts.now c.loop-index.index c.index-parts-index.result c.loop-index-test.true c.index-parts-index.is c.in_ok-put_element.ensures.fits c.loop-index.invariant.fits;
}

pub returns-clause-written : goal.returns-clause-written
returns-clause-written g c = whole_filled g.T.Part.tree g.T.Part.seen g.T.Part.data_words g.T.Part.pointers c.args.parts.now c.loop-index.index _ (omega arith) c.loop-index.invariant.filled_so

pub returns-in_err-put_element-clause-cause : goal.returns-in_err-put_element-clause-cause
returns-in_err-put_element-clause-cause g c =
    let p = err_from_is_err_and c.from_residual.result c.from_residual.ensures.1 in
    rw (p.1, p.2) (refused_up _ c.in_err-put_element.ensures.cause
    (one_of_all g.T.Part.has_kinds g.T.Part.seen c.args.parts.now c.loop-index.index c.index-parts-index.result c.loop-index-test.true c.index-parts-index.is)
    (one_of_all g.T.Part.fits g.T.Part.seen c.args.parts.now c.loop-index.index c.index-parts-index.result c.loop-index-test.true c.index-parts-index.is))
