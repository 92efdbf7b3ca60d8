-- One message after another, and each end.
use Rattle.std.proofs.Common.{Some, true, arith, ap, inr, refl, ◌∙◌}
use Rattle.riftcalico_engine.specs.declared.told.Told.TheVariants as told
use Rattle.riftcalico_words.specs.RequestSeen.{task_seen}
use Rattle.riftcalico_core.specs.Answers.{IsBlamed, IsMessageAnswer, IsNoMessageAnswer}
use Rattle.riftcalico_engine.proofs.Answered.{answered_by}
use Rattle.riftcalico_engine.proofs.StreamSteps.{at_next, next_so_far, none_so_far, or_true, quiet_on, stop_end, telling_on, unread_end}
use Rattle.riftcalico_engine.proofs.stream.run_each.Goals as goal
use Rattle.riftcalico_engine.proofs.stream.run_each.Goals.{in-Quietly, in-Telling-Line, in-Telling-Number}

pub loop-next-init : goal.loop-next-init
loop-next-init g c = record {
  so_far = none_so_far g.R.Source.left g.R.Source.failures g.W.Sink.written g.W.Sink.failures g.F.Sink.written g.F.Sink.failures (task_seen c.args.task.now) c.args.job.now c.args.going c.args.source.now c.args.sink.now c.args.errors.now;
  small = omega arith;
}

pub returns-in_default : goal.returns-in_default
returns-in_default g c =
    let none = c.in_default.ensures in
    let small = c.loop-next.invariant.small in
    record {
      at = c.loop-next.source;
      sink = c.loop-next.sink;
      errors = c.loop-next.errors;
      number = c.loop-next.number;
      refused = c.loop-next.refused;
      before = c.loop-next.invariant.so_far;
      end = inr (inr (inr (omega (arith, none, small), (c.refuse.ensures.message, (c.refuse.ensures.blamed, ap (λ e. e.kind) c.refuse.ensures.error ∙ c.from-error.ensures)), refl, refl, refl)));
    }

pub returns-in-Err : goal.returns-in-Err
returns-in-Err g c =
    let more = c.in-Some.ensures in
    let refused = rw c.reads_texts.ensures at c.in-Err.ensures.refused in
    record {
      at = c.loop-next.source;
      sink = c.loop-next.sink;
      errors = c.loop-next.errors;
      number = c.loop-next.number;
      refused = c.loop-next.refused;
      before = c.loop-next.invariant.so_far;
      end = unread_end g.R.Source.left g.R.Source.failures g.W.Sink.written g.W.Sink.failures g.F.Sink.written g.F.Sink.failures c.args.job.now c.args.going c.loop-next.number c.in-Some.next c.loop-next.refused c.loop-next.source c.try_read_next.new.source c.loop-next.sink c.loop-next.errors
          c.refuse-in-Err.result c.in-Err.error (omega (arith, more)) c.refuse-in-Err.ensures.message c.refuse-in-Err.ensures.blamed c.refuse-in-Err.ensures.error refused c.in-Err.ensures.failed;
    }

pub returns-in-Ends : goal.returns-in-Ends
returns-in-Ends g c =
    let more = c.in-Some.ensures in
    let job = c.args.job.now in
    let given = c.deref.result.now in
    let message = rw c.in-Ok-Some.field-0-is at c.in-Ok-Some.ensures.message in
    let read = rw c.reads_texts.ensures at message in
    let answered = answered_by g.W.Sink.written g.W.Sink.failures g.F.Sink.written g.F.Sink.failures (IsMessageAnswer job given) (IsNoMessageAnswer job given) (IsBlamed job) c.answer_message-answer.result (Some c.in-Some.next)
    c.loop-next.sink c.put_answer-ran.new.sink c.loop-next.errors c.put_answer-ran.new.errors c.put_answer-ran.result c.answer_message-answer.ensures.answer c.answer_message-answer.ensures.refused c.answer_message-answer.ensures.blamed c.put_answer-ran.ensures in
    record {
      at = c.loop-next.source;
      sink = c.loop-next.sink;
      errors = c.loop-next.errors;
      number = c.loop-next.number;
      refused = c.loop-next.refused;
      before = c.loop-next.invariant.so_far;
      end = stop_end g.R.Source.left g.R.Source.failures g.W.Sink.written g.W.Sink.failures g.F.Sink.written g.F.Sink.failures job c.args.going c.loop-next.number c.in-Some.next c.loop-next.refused c.loop-next.source c.try_read_next.new.source c.loop-next.sink c.put_answer-ran.new.sink
          c.loop-next.errors c.put_answer-ran.new.errors c.put_answer-ran.new.errors c.in-Ok-Some.message.items given c.put_answer-ran.result c.in-Ends.ran (omega (arith, more))
          read c.deref.ensures.value answered c.in-Ends.ensures.0 c.in-Ends.ensures.1 refl;
    }

pub loop-next-preserved : goal.loop-next-preserved
loop-next-preserved g c =
    let more = c.in-Some.ensures in
    let job = c.args.job.now in
    let given = c.deref.result.now in
    let message = rw c.in-Ok-Some.field-0-is at c.in-Ok-Some.ensures.message in
    let read = rw c.reads_texts.ensures at message in
    let answered = answered_by g.W.Sink.written g.W.Sink.failures g.F.Sink.written g.F.Sink.failures (IsMessageAnswer job given) (IsNoMessageAnswer job given) (IsBlamed job) c.answer_message-answer.result (Some c.in-Some.next)
    c.loop-next.sink c.put_answer-ran.new.sink c.loop-next.errors c.put_answer-ran.new.errors c.put_answer-ran.result c.answer_message-answer.ensures.answer c.answer_message-answer.ensures.refused c.answer_message-answer.ensures.blamed c.put_answer-ran.ensures in
    let task = task_seen c.args.task.now in
    let whole = rw c.deref.ensures.value at answered in
    let joined = at_next g.R.Source.left g.R.Source.failures g.W.Sink.written g.W.Sink.failures g.F.Sink.written g.F.Sink.failures task job c.args.going c.in-Some.next c.args.source.now c.try_read_next.new.source c.args.sink.now c.put_answer-ran.new.sink c.args.errors.now in
    elim c.match-go_on.branch [
      | in-Quietly w ↦ record {
        so_far = joined _ _ _ _ w.errors-is (w.refused-is ∙ w.either-refused.ensures)
            (next_so_far g.R.Source.left g.R.Source.failures g.W.Sink.written g.W.Sink.failures g.F.Sink.written g.F.Sink.failures task job c.args.going c.loop-next.number c.in-Some.next c.args.source.now c.loop-next.source c.try_read_next.new.source
            c.args.sink.now c.loop-next.sink c.put_answer-ran.new.sink c.args.errors.now c.loop-next.errors c.put_answer-ran.new.errors c.put_answer-ran.new.errors c.loop-next.refused w.in-Quietly.one
            c.in-Ok-Some.message.items c.put_answer-ran.result (omega (arith, more)) c.loop-next.invariant.so_far read whole (quiet_on g.F.Sink.written g.F.Sink.failures task c.args.going c.put_answer-ran.result c.put_answer-ran.new.errors w.in-Quietly.one w.in-Quietly.ensures.0 w.in-Quietly.ensures.1));
        small = omega (arith, more);
      }
      | in-Telling-Line w ↦ let is = rw w.in-Telling-Line.field-0-is at w.in-Telling-Line.ensures in
          let line = rw w.as_bytes.ensures.value at w.tell.ensures in
          let said = rw w.in-Telling-Line.field-0-is at line in record {
            so_far = joined _ _ _ _ w.errors-is (w.refused-is ∙ or_true c.loop-next.refused)
                (next_so_far g.R.Source.left g.R.Source.failures g.W.Sink.written g.W.Sink.failures g.F.Sink.written g.F.Sink.failures task job c.args.going c.loop-next.number c.in-Some.next c.args.source.now c.loop-next.source c.try_read_next.new.source
                c.args.sink.now c.loop-next.sink c.put_answer-ran.new.sink c.args.errors.now c.loop-next.errors c.put_answer-ran.new.errors w.tell.new.errors c.loop-next.refused true
                c.in-Ok-Some.message.items c.put_answer-ran.result (omega (arith, more)) c.loop-next.invariant.so_far read whole (telling_on g.F.Sink.written g.F.Sink.failures task c.args.going c.put_answer-ran.result (told.Line w.in-Telling-Line.line) c.put_answer-ran.new.errors w.tell.new.errors is.0 is.1 said));
            small = omega (arith, more);
          }
      | in-Telling-Number w ↦ let is = rw w.in-Telling-Number.field-0-is at w.in-Telling-Number.ensures in
          let said = rw w.in-Telling-Number.field-0-is at w.report.ensures in record {
            so_far = joined _ _ _ _ w.errors-is (w.refused-is ∙ or_true c.loop-next.refused)
                (next_so_far g.R.Source.left g.R.Source.failures g.W.Sink.written g.W.Sink.failures g.F.Sink.written g.F.Sink.failures task job c.args.going c.loop-next.number c.in-Some.next c.args.source.now c.loop-next.source c.try_read_next.new.source
                c.args.sink.now c.loop-next.sink c.put_answer-ran.new.sink c.args.errors.now c.loop-next.errors c.put_answer-ran.new.errors w.report.new.errors c.loop-next.refused true
                c.in-Ok-Some.message.items c.put_answer-ran.result (omega (arith, more)) c.loop-next.invariant.so_far read whole (telling_on g.F.Sink.written g.F.Sink.failures task c.args.going c.put_answer-ran.result (told.Number w.in-Telling-Number.kind) c.put_answer-ran.new.errors w.report.new.errors is.0 is.1 said));
            small = omega (arith, more);
          }
    ]
