-- What was written is as one of the five kinds of output is, whole or not; behind the whole its lines were told.
use Rattle.std.specs.Prelude.{⊤}
use Rattle.std.proofs.Common.{◌≡◌, ◌∙◌, List, ℕ, Result, Ok, Err, inl, inr, refl, subst, sym}
use Rattle.capnp_arena.specs.Message.{message_tree}
use Rattle.capnp_device.specs.declared.error.Error.{Error}
use Rattle.capnp_show_engine.specs.Command.{IsTold}
use Rattle.riftcalico_core.specs.declared.answer.Answer.{Answer}
use Rattle.riftcalico_core.specs.declared.answer.Output.{Output}
use Rattle.riftcalico_core.specs.declared.fault.Fault.{Fault}
use Rattle.riftcalico_engine.proofs.OutputsPut.{IsOfTree, IsPutOrNot, bytes_put, joined, message_put, nothing_put}
use Rattle.riftcalico_engine.specs.Outputs.{IsAnsweredWith, IsNotPut}
use Rattle.riftcalico_engine.specs.declared.ended.Ended.TheVariants as ended
use Rattle.riftcalico_engine.proofs.answering.put_answer.Goals as goal
use Rattle.riftcalico_engine.proofs.answering.put_answer.Goals.{in-Bytes, in-Fixed, in-Message, in-Nothing, in-Text}

pub returns-in-Ok-written : goal.returns-in-Ok-written
returns-in-Ok-written g c =
    let o = c.in-Ok.answer.output in
    let put : IsPutOrNot g.W.Sink.written g.W.Sink.failures o c.args.sink.now c.match-output-2.sink c.match-output-2.written =
    elim c.match-output-2.branch as (λ _. IsPutOrNot g.W.Sink.written g.W.Sink.failures o c.args.sink.now c.match-output-2.sink c.match-output-2.written) [
      | in-Nothing w ↦ joined g.W.Sink.written g.W.Sink.failures o _ _ _ _ _ w.sink-is w.written-is (nothing_put g.W.Sink.written g.W.Sink.failures o _ _ w.in-Nothing.is)
      | in-Fixed w ↦ joined g.W.Sink.written g.W.Sink.failures o _ _ _ _ _ w.sink-is w.written-is
          (let e = w.write_all-written.ensures in bytes_put g.W.Sink.written g.W.Sink.failures o _ _ _ _ _ w.in-Fixed.is w.as_bytes.ensures.value e.whole e.kind e.failed e.beginning)
      | in-Text w ↦ joined g.W.Sink.written g.W.Sink.failures o _ _ _ _ _ w.sink-is w.written-is
          (let e = w.write_all-written-in-Text.ensures in bytes_put g.W.Sink.written g.W.Sink.failures o _ _ _ _ _ w.in-Text.is w.as_bytes-in-Text.ensures.value e.whole e.kind e.failed e.beginning)
      | in-Bytes w ↦ joined g.W.Sink.written g.W.Sink.failures o _ _ _ _ _ w.sink-is w.written-is
          (let e = w.write_all-written-in-Bytes.ensures in bytes_put g.W.Sink.written g.W.Sink.failures o _ _ _ _ _ w.in-Bytes.is w.deref.ensures.value e.whole e.kind e.failed e.beginning)
      | in-Message w ↦ joined g.W.Sink.written g.W.Sink.failures o _ _ _ _ _ w.sink-is w.written-is
          (let e = w.write_message_to-written.ensures in message_put g.W.Sink.written g.W.Sink.failures o _ _ _ _ (subst (λ (y : Output). IsOfTree g.W.Sink.written g.W.Sink.failures y (message_tree w.in-Message.message)) (sym w.in-Message.is) refl) e.written e.held e.read e.kind e.nothing e.failed e.beginning)
    ] in
    let whole = subst (λ (r : Result ⊤ Error). IsPutOrNot g.W.Sink.written g.W.Sink.failures o c.args.sink.now c.match-output-2.sink r) c.in-Ok-written.is put in
    let told = subst (λ (line : List ℕ). IsTold line (g.F.Sink.written c.args.errors.now) (g.F.Sink.written c.tell.new.errors) (g.F.Sink.failures c.args.errors.now) (g.F.Sink.failures c.tell.new.errors))
    (c.as_bytes-in-Ok-written.ensures.value ∙ c.in-Ok-number_lines.ensures.lines) c.tell.ensures in
    subst (λ (a : Result Answer Fault). IsAnsweredWith g.W.Sink.written g.W.Sink.failures g.F.Sink.written g.F.Sink.failures a c.args.message c.args.sink.now c.match-output-2.sink c.args.errors.now c.tell.new.errors (Ok (ended.Answered c.in-Ok.answer.refused)))
    (sym c.in-Ok.is) (inr (refl, whole, told))

pub returns : goal.returns
returns g c =
    let o = c.in-Ok.answer.output in
    let put : IsPutOrNot g.W.Sink.written g.W.Sink.failures o c.args.sink.now c.match-output-2.sink c.match-output-2.written =
    elim c.match-output-2.branch as (λ _. IsPutOrNot g.W.Sink.written g.W.Sink.failures o c.args.sink.now c.match-output-2.sink c.match-output-2.written) [
      | in-Nothing w ↦ joined g.W.Sink.written g.W.Sink.failures o _ _ _ _ _ w.sink-is w.written-is (nothing_put g.W.Sink.written g.W.Sink.failures o _ _ w.in-Nothing.is)
      | in-Fixed w ↦ joined g.W.Sink.written g.W.Sink.failures o _ _ _ _ _ w.sink-is w.written-is
          (let e = w.write_all-written.ensures in bytes_put g.W.Sink.written g.W.Sink.failures o _ _ _ _ _ w.in-Fixed.is w.as_bytes.ensures.value e.whole e.kind e.failed e.beginning)
      | in-Text w ↦ joined g.W.Sink.written g.W.Sink.failures o _ _ _ _ _ w.sink-is w.written-is
          (let e = w.write_all-written-in-Text.ensures in bytes_put g.W.Sink.written g.W.Sink.failures o _ _ _ _ _ w.in-Text.is w.as_bytes-in-Text.ensures.value e.whole e.kind e.failed e.beginning)
      | in-Bytes w ↦ joined g.W.Sink.written g.W.Sink.failures o _ _ _ _ _ w.sink-is w.written-is
          (let e = w.write_all-written-in-Bytes.ensures in bytes_put g.W.Sink.written g.W.Sink.failures o _ _ _ _ _ w.in-Bytes.is w.deref.ensures.value e.whole e.kind e.failed e.beginning)
      | in-Message w ↦ joined g.W.Sink.written g.W.Sink.failures o _ _ _ _ _ w.sink-is w.written-is
          (let e = w.write_message_to-written.ensures in message_put g.W.Sink.written g.W.Sink.failures o _ _ _ _ (subst (λ (y : Output). IsOfTree g.W.Sink.written g.W.Sink.failures y (message_tree w.in-Message.message)) (sym w.in-Message.is) refl) e.written e.held e.read e.kind e.nothing e.failed e.beginning)
    ] in
    let cut = subst (λ (r : Result ⊤ Error). IsPutOrNot g.W.Sink.written g.W.Sink.failures o c.args.sink.now c.match-output-2.sink r) c.in-Err-written.is put in
    let x = c.refuse-in-Err-written.ensures in
    let why = subst (λ (e : Error). IsNotPut o (c.match-output-2.sink ≡ c.args.sink.now) (g.W.Sink.written c.args.sink.now) (g.W.Sink.written c.match-output-2.sink)
    (g.W.Sink.failures c.args.sink.now) (g.W.Sink.failures c.match-output-2.sink) e.kind) (sym x.error) cut in
    subst (λ (a : Result Answer Fault). IsAnsweredWith g.W.Sink.written g.W.Sink.failures g.F.Sink.written g.F.Sink.failures a c.args.message c.args.sink.now c.match-output-2.sink c.args.errors.now c.args.errors.now (Err c.refuse-in-Err-written.result))
    (sym c.in-Ok.is) (inl ((x.message, (x.blamed, why)), refl))
