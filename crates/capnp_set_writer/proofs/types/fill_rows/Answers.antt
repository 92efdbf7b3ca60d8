-- The first so many pointers lead to their lists.
use Rattle.std.proofs.Common.{All, arith, map, Vec, Global, List}
use Rattle.std.proofs.lemmas.Result.{err_from_is_err_and}
use Rattle.capnp_arena.specs.Facts.Frames.{pointer_after}
use Rattle.capnp_base.specs.declared.introspect.«Type».{«Type» as TypeHandle}
use Rattle.capnp_schema.specs.Types.{SchemaType, seen_type}
use Rattle.capnp_set_writer.specs.Kept.{TypeKept}
use Rattle.capnp_set_writer.specs.Limits.{TypesFit}
use Rattle.capnp_set_writer.specs.Trees.{types_tree}
use Rattle.capnp_set_writer.proofs.Places.{changes_none}
use Rattle.capnp_set_writer.proofs.Trees.{kept_more, one_of_all, refused_up, row_filled, row_there, whole_rows}
use Rattle.capnp_set_writer.proofs.types.fill_rows.Goals as goal

abbrev seen_row : Vec TypeHandle Global → List SchemaType
seen_row row = map seen_type row.items

pub loop-index-init : goal.loop-index-init
loop-index-init c = record { frame = record { forest = c.requires.forest; changes = changes_none _ _ }; filled_so = c.requires.new; kept = λ k a d. absurd (omega arith); fits = λ k a d. absurd (omega arith) }

pub put_row-requires-clause-there : goal.put_row-requires-clause-there
put_row-requires-clause-there c = row_there types_tree seen_row c.args.rows.now c.loop-index.index _ c.loop-index.invariant.filled_so c.loop-index-test.true

pub loop-index-preserved : goal.loop-index-preserved
loop-index-preserved c = record {
  frame = pointer_after c.loop-index.invariant.frame.changes c.in_ok-put_row.ensures.frame;
  filled_so = row_filled types_tree seen_row c.args.rows.now c.loop-index.index _ c.loop-index.invariant.filled_so c.loop-index-test.true c.index-rows-index.result _ c.index-rows-index.is (rw c.as_slice.ensures.value at c.in_ok-put_row.ensures.written);
  kept = kept_more (All TypeKept) seen_row c.args.rows.now c.loop-index.index c.index-rows-index.result c.loop-index-test.true c.index-rows-index.is (rw c.as_slice.ensures.value at c.in_ok-put_row.ensures.kept) c.loop-index.invariant.kept;
  fits = kept_more TypesFit seen_row c.args.rows.now c.loop-index.index c.index-rows-index.result c.loop-index-test.true c.index-rows-index.is (rw c.as_slice.ensures.value at c.in_ok-put_row.ensures.fits) c.loop-index.invariant.fits;
}

pub returns-clause-written : goal.returns-clause-written
returns-clause-written c = whole_rows types_tree seen_row c.args.rows.now c.loop-index.index _ c.loop-index.invariant.filled_so (omega arith)

pub returns-in_err-put_row-clause-cause : goal.returns-in_err-put_row-clause-cause
returns-in_err-put_row-clause-cause c =
    let p = err_from_is_err_and c.from_residual.result c.from_residual.ensures.1 in
    rw (p.1, p.2) (refused_up _ (rw c.as_slice.ensures.value at c.in_err-put_row.ensures.cause) (λ k. k)
    (one_of_all TypesFit seen_row c.args.rows.now c.loop-index.index c.index-rows-index.result c.loop-index-test.true c.index-rows-index.is))
