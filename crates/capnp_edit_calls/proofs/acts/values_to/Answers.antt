-- Another act appends another value.
use Rattle.std.proofs.Common.{List, arith, subst, sym, take, ◌+◌}
use Rattle.capnp_call.specs.Seen.{path_seen}
use Rattle.capnp_dynamic_readers.specs.declared.dynamic_value.Reader.{Reader as DynamicValue}
use Rattle.capnp_edit_calls.specs.ActsMade.{AreAppends}
use Rattle.capnp_edit_calls.specs.ChangesSeen.{sources_of}
use Rattle.capnp_edit_calls.proofs.Appending.{gathered_more}
use Rattle.capnp_edit_calls.proofs.acts.values_to.Goals as goal

pub loop-index-preserved : goal.loop-index-preserved
loop-index-preserved c =
    let path = path_seen c.args.path.now in
    let i = c.loop-index.index in
    let acts = c.args.acts.now in
    record {
      count = omega (arith, c.in_ok-push-in-Some.ensures.len, c.loop-index.invariant.count);
      appends = subst (λ (vs : List DynamicValue). AreAppends path (sources_of vs) (take (i + 1) acts)) (sym c.in_ok-push-in-Some.ensures.items)
          (gathered_more path c.loop-index.values.items acts i c.in-Some.value c.index-acts-index.result (omega (arith, c.loop-index-test.true)) c.index-acts-index.is c.loop-index.invariant.appends c.in-Some.ensures);
    }
