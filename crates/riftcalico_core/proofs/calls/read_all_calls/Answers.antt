-- One more call is read, or it is the first that can't be.
use Rattle.std.proofs.Common.{List, [], drop, rules, subst, sym, ◌+◌, ◌≡◌}
use Rattle.std.proofs.lemmas.List.{drop_all}
use Rattle.capnp_records.specs.Run.{root_type}
use Rattle.capnp_schema.specs.StructHandles.{number_of, set_of}
use Rattle.capnp_words.specs.Seen.{call_text_seen}
use Rattle.riftcalico_core.specs.Calls.{IsCallRead}
use Rattle.riftcalico_core.specs.CallsSeen.{read_act_seen}
use Rattle.riftcalico_core.specs.declared.calls.ReadCall.{ReadCall}
use Rattle.riftcalico_core.proofs.EachRead.{Goes, begins, ends, goes_on, stops}
use Rattle.riftcalico_core.proofs.calls.read_all_calls.Goals as goal

pub loop-index-init : goal.loop-index-init
loop-index-init c =
    let is = IsCallRead (set_of c.args.schema) (root_type (set_of c.args.schema) (number_of c.args.schema)) in
    let none : c.new-calls.result.items ≡ [] = search rules in
    subst (λ (calls : List ReadCall). Goes is call_text_seen read_act_seen c.args.words.now c.args.words.now 0 calls) (sym none) (begins is call_text_seen read_act_seen c.args.words.now)

pub loop-index-preserved : goal.loop-index-preserved
loop-index-preserved c =
    let is = IsCallRead (set_of c.args.schema) (root_type (set_of c.args.schema) (number_of c.args.schema)) in
    let i = c.loop-index.index in
    subst (λ (calls : List ReadCall). Goes is call_text_seen read_act_seen c.args.words.now (drop (i + 1) c.args.words.now) (i + 1) calls) (sym c.in_ok-push-in-Ok.ensures.items)
    (goes_on is call_text_seen read_act_seen c.args.words.now i c.index-words-index.result c.loop-index.calls.items c.in-Ok.call c.loop-index-test.true c.index-words-index.is
    (rw (c.in-Ok.is) at c.in_ok-call.ensures.read) c.loop-index.invariant)

pub returns-in-Err-clause-read : goal.returns-in-Err-clause-read
returns-in-Err-clause-read c =
    stops (IsCallRead (set_of c.args.schema) (root_type (set_of c.args.schema) (number_of c.args.schema))) call_text_seen read_act_seen c.args.words.now c.loop-index.index c.index-words-index.result
    c.loop-index.calls.items c.in-Err.place c.loop-index-test.true c.index-words-index.is (rw (c.in-Err.is) at c.in_ok-call.ensures.read) c.loop-index.invariant

pub returns-clause-read : goal.returns-clause-read
returns-clause-read c =
    ends (IsCallRead (set_of c.args.schema) (root_type (set_of c.args.schema) (number_of c.args.schema))) call_text_seen read_act_seen c.args.words.now (drop c.loop-index.index c.args.words.now) c.loop-index.index
    c.loop-index.calls.items (drop_all c.loop-index.index c.args.words.now c.loop-index-test.false) c.loop-index.invariant
