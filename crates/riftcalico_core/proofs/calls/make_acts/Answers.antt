-- Each act has its own value, and is one more of those that were read.
use Rattle.std.proofs.Common.{List, ◌+◌, ◌++◌, ◌-◌, ◌≡◌, ◌∙◌, ap, arith, drop, map, subst, sym, take}
use Rattle.capnp_slots.specs.SetValues.{source_of}
use Rattle.capnp_edit_calls.specs.ActsSeen.{act_seen}
use Rattle.capnp_edit_calls.specs.ChangesSeen.{sources_of}
use Rattle.capnp_edit_calls.specs.declared.acts.Act.{Act}
use Rattle.riftcalico_core.specs.CallsSeen.{given_source, read_act_seen}
use Rattle.riftcalico_core.proofs.CallsGiven.{acted_more, one_given}
use Rattle.riftcalico_core.proofs.calls.make_acts.Goals as goal

pub make_act-requires : goal.make_act-requires
make_act-requires c =
    let i = c.loop-index.index in
    let one : i + 1 - i ≡ 1 = omega arith in
    ap (λ k. sources_of (take k (drop i c.args.values.now))) one
    ∙ one_given source_of given_source c.args.values.now c.args.read.now i c.index-read-index.result c.requires (omega (arith, c.loop-index-test.true)) c.index-read-index.is

pub loop-index-preserved : goal.loop-index-preserved
loop-index-preserved c =
    let read = c.args.read.now in
    let i = c.loop-index.index in
    subst (λ (acts : List Act). map act_seen acts ++ map read_act_seen (drop (i + 1) read) ≡ map read_act_seen read) (sym c.in_ok-push.ensures.items)
    (acted_more act_seen read_act_seen c.loop-index.acts.items read i c.make_act.result c.index-read-index.result (omega (arith, c.loop-index-test.true)) c.index-read-index.is c.make_act.ensures c.loop-index.invariant)
