-- Where a step leads, and the rest of the path from there.
use Rattle.std.proofs.Common.{◌+◌, ap, arith, drop, refl, sym, ◌∙◌}
use Rattle.capnp_call.specs.Seen.{path_seen}
use Rattle.capnp_patch.specs.Gets.{Reached, value_part_seen, path_read}
use Rattle.capnp_patch.proofs.Paths.{from_start, path_done, path_from, refused_here, refused_later}
use Rattle.capnp_patch.proofs.reach.walk_path.Goals as goal

pub loop-index-init : goal.loop-index-init
loop-index-init c = record { read = λ set is. refl; refused = λ set is k kind w h. from_start set (path_seen c.args.path.now) (value_part_seen c.args.value) k kind w h; typed = λ set is. is; count = omega arith }

pub overflow_sub-left : goal.overflow_sub-left
overflow_sub-left c = omega (arith, c.loop-index-test.true, c.loop-index.invariant.count)

pub loop-index-preserved : goal.loop-index-preserved
loop-index-preserved c =
    let path = c.args.path.now in
    let i = c.loop-index.index in
    let before = c.loop-index.invariant in
    record {
      read = λ set is.
          ap (λ (r : Reached). path_read set (path_seen (drop (i + 1) path)) r) (c.in-Ok.ensures.read set (before.typed set is)) ∙
          (sym (path_from set path i _ _ c.step_at.result (value_part_seen c.loop-index.reached) (omega (arith, c.loop-index-test.true)) (omega (arith, c.loop-index-test.true, before.count)) c.step_at.ensures) ∙ before.read set is);
      refused = λ set is.
          refused_later set path i _ _ c.step_at.result (value_part_seen c.loop-index.reached) (omega (arith, c.loop-index-test.true)) (omega (arith, c.loop-index-test.true, before.count)) c.step_at.ensures
          (path_seen path) (value_part_seen c.args.value) (before.refused set is) (value_part_seen c.in-Ok.next) (c.in-Ok.ensures.read set (before.typed set is));
      typed = λ set is. c.in-Ok.ensures.typed set (before.typed set is);
      count = omega (arith, c.loop-index-test.true, before.count);
    }

pub returns-in-Err-clause-read : goal.returns-in-Err-clause-read
returns-in-Err-clause-read c =
    let path = c.args.path.now in
    let i = c.loop-index.index in
    let before = c.loop-index.invariant in
    λ set is.
    ap (λ (r : Reached). path_read set (path_seen (drop (i + 1) path)) r) (c.in-Err.ensures.read set (before.typed set is)) ∙
    (sym (path_from set path i _ _ c.step_at.result (value_part_seen c.loop-index.reached) (omega (arith, c.loop-index-test.true)) (omega (arith, c.loop-index-test.true, before.count)) c.step_at.ensures) ∙ before.read set is)

pub returns-in-Err-clause-step : goal.returns-in-Err-clause-step
returns-in-Err-clause-step c =
    let before = c.loop-index.invariant in
    λ set is.
    refused_here set c.args.path.now c.loop-index.index _ _ c.step_at.result (value_part_seen c.loop-index.reached) (omega (arith, c.loop-index-test.true)) (omega (arith, c.loop-index-test.true, before.count))
    c.step_at.ensures (path_seen c.args.path.now) (value_part_seen c.args.value) (before.refused set is) c.in-Err.error.kind c.get_within.result (c.in-Err.ensures.read set (before.typed set is))
    (c.get_within.ensures set (before.typed set is))

pub returns-clause-read : goal.returns-clause-read
returns-clause-read c =
    λ set is. sym (path_done set c.args.path.now c.loop-index.index (value_part_seen c.loop-index.reached) (omega (arith, c.loop-index-test.false))) ∙ c.loop-index.invariant.read set is

pub returns-clause-typed : goal.returns-clause-typed
returns-clause-typed c = λ set is. c.loop-index.invariant.typed set is
