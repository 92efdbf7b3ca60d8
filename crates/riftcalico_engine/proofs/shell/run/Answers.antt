-- Each stage stops, or the next one begins; behind the last the messages were read and answered to.
use Rattle.std.proofs.Common.{Err, None, [], ap, subst, sym, ◌∙◌}
use Rattle.std.proofs.lemmas.Result.{err_from_is_err_and}
use Rattle.std.specs.Option.{option_map}
use Rattle.capnp_packed.specs.Sources.{unpack_failures}
use Rattle.capnp_packed.specs.Unpacking.{unpacked_bytes}
use Rattle.capnp_schema.specs.Entries.{lists_seen}
use Rattle.riftcalico_core.specs.Answers.{IsAnswer, IsBlamed, IsNoAnswer}
use Rattle.riftcalico_core.specs.Faults.{task_set_file}
use Rattle.riftcalico_core.specs.Jobs.{IsJob}
use Rattle.riftcalico_core.specs.Plans.{Plan, calls_file, compatible_plan}
use Rattle.riftcalico_core.specs.PlansSeen.{plan_seen}
use Rattle.riftcalico_core.specs.Whole.{whole_plan_seen}
use Rattle.riftcalico_engine.proofs.Answered.{answered_by, whole_answered, whole_blamed, whole_refused}
use Rattle.riftcalico_engine.proofs.AskedFiles.{both_asked, first_asked}
use Rattle.riftcalico_engine.proofs.ByKind.{by_read}
use Rattle.riftcalico_engine.proofs.RunStages.{IsPlanned, calls_unread, job_run, jobless_run, set_unread, setless_run, under_run, unplanned_run}
use Rattle.riftcalico_engine.proofs.StreamsAlike.{run_seen}
use Rattle.riftcalico_engine.proofs.Ways.{each_run, packed_run, unread_run, whole_run, whole_unread}
use Rattle.riftcalico_engine.specs.Streams.{Unread}
use Rattle.riftcalico_words.specs.RequestSeen.{task_seen}
use Rattle.riftcalico_words.specs.Tasks.{task_messages}
use Rattle.riftcalico_engine.proofs.shell.run.Goals as goal

pub returns-in_err-calls-clause-ran : goal.returns-in_err-calls-clause-ran
returns-in_err-calls-clause-ran g c =
    let err = err_from_is_err_and c.from_residual.result c.from_residual.ensures.1 in
    rw (err.1, err.2) (calls_unread g.O.Opener.opens g.O.File.Source.left g.O.File.Source.failures g.R.Source.left g.R.Source.failures g.W.Sink.written g.W.Sink.failures g.F.Sink.written g.F.Sink.failures (task_seen c.args.task.now) c.args.opener.now c.read_file.new.opener c.args.source.now c.args.sink.now c.args.errors.now _ (rw c.get_calls_file.ensures at c.in_err-calls.ensures.unread))

pub returns-in_err-calls-clause-opened : goal.returns-in_err-calls-clause-opened
returns-in_err-calls-clause-opened g c =
    first_asked g.O.Opener.opens (calls_file (task_seen c.args.task.now)) (task_set_file (task_seen c.args.task.now)) c.args.opener.now c.read_file.new.opener (rw c.get_calls_file.ensures at c.read_file.ensures.opened)

pub returns-in-Err-clause-ran : goal.returns-in-Err-clause-ran
returns-in-Err-clause-ran g c =
    unplanned_run g.O.Opener.opens g.O.File.Source.left g.O.File.Source.failures g.R.Source.left g.R.Source.failures g.W.Sink.written g.W.Sink.failures g.F.Sink.written g.F.Sink.failures (task_seen c.args.task.now) c.args.opener.now c.read_file.new.opener c.in_ok-calls.calls.items c.args.source.now c.args.sink.now c.args.errors.now c.in-Err.ran (rw c.get_calls_file.ensures at c.in_ok-calls.ensures.read) c.in-Err.ensures.stopped

pub returns-in-Err-clause-opened : goal.returns-in-Err-clause-opened
returns-in-Err-clause-opened g c =
    first_asked g.O.Opener.opens (calls_file (task_seen c.args.task.now)) (task_set_file (task_seen c.args.task.now)) c.args.opener.now c.read_file.new.opener (rw c.get_calls_file.ensures at c.read_file.ensures.opened)

pub returns-in_err-bytes-clause-ran : goal.returns-in_err-bytes-clause-ran
returns-in_err-bytes-clause-ran g c =
    let t = task_seen c.args.task.now in
    let calls = c.in_ok-calls.calls.items in
    let read = rw c.get_calls_file.ensures at c.in_ok-calls.ensures.read in
    let p = plan_seen c.in-Ok.plan in
    let planned : IsPlanned g.O.Opener.opens g.O.File.Source.left g.O.File.Source.failures g.R.Source.left g.R.Source.failures g.W.Sink.written g.W.Sink.failures g.F.Sink.written g.F.Sink.failures t c.args.opener.now c.read_file.new.opener calls p = record { calls_read = read; plan_is = c.in-Ok.ensures.plan } in
    let err = err_from_is_err_and c.from_residual-in_err-bytes.result c.from_residual-in_err-bytes.ensures.1 in
    rw (err.1, err.2) (set_unread g.O.Opener.opens g.O.File.Source.left g.O.File.Source.failures g.R.Source.left g.R.Source.failures g.W.Sink.written g.W.Sink.failures g.F.Sink.written g.F.Sink.failures t c.args.opener.now c.read_file.new.opener c.read_file-2.new.opener calls p c.args.source.now c.args.sink.now c.args.errors.now _ planned (rw c.get_set_file-file.ensures at c.in_err-bytes.ensures.unread))

pub returns-in_err-bytes-clause-opened : goal.returns-in_err-bytes-clause-opened
returns-in_err-bytes-clause-opened g c =
    both_asked g.O.Opener.opens (calls_file (task_seen c.args.task.now)) (task_set_file (task_seen c.args.task.now)) c.args.opener.now c.read_file.new.opener c.read_file-2.new.opener (rw c.get_calls_file.ensures at c.read_file.ensures.opened) (rw c.get_set_file-file.ensures at c.read_file-2.ensures.opened)

pub returns-in_err-schemas-clause-ran : goal.returns-in_err-schemas-clause-ran
returns-in_err-schemas-clause-ran g c =
    let t = task_seen c.args.task.now in
    let calls = c.in_ok-calls.calls.items in
    let read = rw c.get_calls_file.ensures at c.in_ok-calls.ensures.read in
    let p = plan_seen c.in-Ok.plan in
    let planned : IsPlanned g.O.Opener.opens g.O.File.Source.left g.O.File.Source.failures g.R.Source.left g.R.Source.failures g.W.Sink.written g.W.Sink.failures g.F.Sink.written g.F.Sink.failures t c.args.opener.now c.read_file.new.opener calls p = record { calls_read = read; plan_is = c.in-Ok.ensures.plan } in
    let bytes = c.in_ok-bytes.bytes.items in
    let set_read = rw c.get_set_file-file.ensures at c.in_ok-bytes.ensures.read in
    let none = rw c.deref.ensures.value at c.in_err-schemas.ensures.refused in
    let err = err_from_is_err_and c.from_residual-in_err-schemas.result c.from_residual-in_err-schemas.ensures.1 in
    rw (err.1, err.2) (setless_run g.O.Opener.opens g.O.File.Source.left g.O.File.Source.failures g.R.Source.left g.R.Source.failures g.W.Sink.written g.W.Sink.failures g.F.Sink.written g.F.Sink.failures t c.args.opener.now c.read_file.new.opener c.read_file-2.new.opener calls bytes p c.args.source.now c.args.sink.now c.args.errors.now _ planned set_read (rw c.get_set_file-file.ensures at none))

pub returns-in_err-schemas-clause-opened : goal.returns-in_err-schemas-clause-opened
returns-in_err-schemas-clause-opened g c =
    both_asked g.O.Opener.opens (calls_file (task_seen c.args.task.now)) (task_set_file (task_seen c.args.task.now)) c.args.opener.now c.read_file.new.opener c.read_file-2.new.opener (rw c.get_calls_file.ensures at c.read_file.ensures.opened) (rw c.get_set_file-file.ensures at c.read_file-2.ensures.opened)

pub returns-in-Err-find_task_job-clause-ran : goal.returns-in-Err-find_task_job-clause-ran
returns-in-Err-find_task_job-clause-ran g c =
    let t = task_seen c.args.task.now in
    let calls = c.in_ok-calls.calls.items in
    let read = rw c.get_calls_file.ensures at c.in_ok-calls.ensures.read in
    let p = plan_seen c.in-Ok.plan in
    let planned : IsPlanned g.O.Opener.opens g.O.File.Source.left g.O.File.Source.failures g.R.Source.left g.R.Source.failures g.W.Sink.written g.W.Sink.failures g.F.Sink.written g.F.Sink.failures t c.args.opener.now c.read_file.new.opener calls p = record { calls_read = read; plan_is = c.in-Ok.ensures.plan } in
    let bytes = c.in_ok-bytes.bytes.items in
    let set_read = rw c.get_set_file-file.ensures at c.in_ok-bytes.ensures.read in
    let set = lists_seen c.in_ok-schemas.schemas in
    let found = rw c.deref.ensures.value at c.in_ok-schemas.ensures.set in
    let made = rw c.get_set_file-file.ensures at found in
    under_run g.O.Opener.opens g.O.File.Source.left g.O.File.Source.failures g.R.Source.left g.R.Source.failures g.W.Sink.written g.W.Sink.failures g.F.Sink.written g.F.Sink.failures t c.args.opener.now c.read_file.new.opener c.read_file-2.new.opener calls bytes p set c.args.source.now c.args.source.now c.args.sink.now c.args.sink.now c.args.errors.now c.args.errors.now c.in-Err-find_task_job.ran planned set_read made
    (jobless_run g.R.Source.left g.R.Source.failures g.W.Sink.written g.W.Sink.failures g.F.Sink.written g.F.Sink.failures t p set c.args.source.now c.args.sink.now c.args.errors.now c.in-Err-find_task_job.ran c.in-Err-find_task_job.ensures.stopped)

pub returns-in-Err-find_task_job-clause-opened : goal.returns-in-Err-find_task_job-clause-opened
returns-in-Err-find_task_job-clause-opened g c =
    both_asked g.O.Opener.opens (calls_file (task_seen c.args.task.now)) (task_set_file (task_seen c.args.task.now)) c.args.opener.now c.read_file.new.opener c.read_file-2.new.opener (rw c.get_calls_file.ensures at c.read_file.ensures.opened) (rw c.get_set_file-file.ensures at c.read_file-2.ensures.opened)

pub returns-in_default-clause-ran : goal.returns-in_default-clause-ran
returns-in_default-clause-ran g c =
    let t = task_seen c.args.task.now in
    let calls = c.in_ok-calls.calls.items in
    let read = rw c.get_calls_file.ensures at c.in_ok-calls.ensures.read in
    let p = plan_seen c.in-Ok.plan in
    let planned : IsPlanned g.O.Opener.opens g.O.File.Source.left g.O.File.Source.failures g.R.Source.left g.R.Source.failures g.W.Sink.written g.W.Sink.failures g.F.Sink.written g.F.Sink.failures t c.args.opener.now c.read_file.new.opener calls p = record { calls_read = read; plan_is = c.in-Ok.ensures.plan } in
    let bytes = c.in_ok-bytes.bytes.items in
    let set_read = rw c.get_set_file-file.ensures at c.in_ok-bytes.ensures.read in
    let set = lists_seen c.in_ok-schemas.schemas in
    let found = rw c.deref.ensures.value at c.in_ok-schemas.ensures.set in
    let made = rw c.get_set_file-file.ensures at found in
    let j = c.in-Ok-find_task_job.job in
    let is_job = c.in-Ok-find_task_job.ensures.job in
    let way = sym c.get_way.ensures in
    under_run g.O.Opener.opens g.O.File.Source.left g.O.File.Source.failures g.R.Source.left g.R.Source.failures g.W.Sink.written g.W.Sink.failures g.F.Sink.written g.F.Sink.failures t c.args.opener.now c.read_file.new.opener c.read_file-2.new.opener calls bytes p set c.args.source.now c.args.source.now c.args.sink.now c.put_answer.new.sink c.args.errors.now c.put_answer.new.errors c.put_answer.result planned set_read made
    (job_run g.R.Source.left g.R.Source.failures g.W.Sink.written g.W.Sink.failures g.F.Sink.written g.F.Sink.failures t p set j c.args.source.now c.args.source.now c.args.sink.now c.put_answer.new.sink c.args.errors.now c.put_answer.new.errors c.put_answer.result c.in-Ok-find_task_job.ensures.apart is_job
    (unread_run g.R.Source.left g.R.Source.failures g.W.Sink.written g.W.Sink.failures g.F.Sink.written g.F.Sink.failures (task_messages t) t j c.args.source.now c.args.sink.now c.put_answer.new.sink c.args.errors.now c.put_answer.new.errors c.put_answer.result (way ∙ c.in-Unread.is)
    (answered_by g.W.Sink.written g.W.Sink.failures g.F.Sink.written g.F.Sink.failures (IsAnswer j []) (IsNoAnswer j []) (IsBlamed j) c.get_answer.result None c.args.sink.now c.put_answer.new.sink c.args.errors.now c.put_answer.new.errors c.put_answer.result c.get_answer.ensures.answer c.get_answer.ensures.refused c.get_answer.ensures.blamed c.put_answer.ensures)))

pub returns-in_default-clause-opened : goal.returns-in_default-clause-opened
returns-in_default-clause-opened g c =
    both_asked g.O.Opener.opens (calls_file (task_seen c.args.task.now)) (task_set_file (task_seen c.args.task.now)) c.args.opener.now c.read_file.new.opener c.read_file-2.new.opener (rw c.get_calls_file.ensures at c.read_file.ensures.opened) (rw c.get_set_file-file.ensures at c.read_file-2.ensures.opened)

pub returns-in-Ok-read_all-clause-ran : goal.returns-in-Ok-read_all-clause-ran
returns-in-Ok-read_all-clause-ran g c =
    let t = task_seen c.args.task.now in
    let calls = c.in_ok-calls.calls.items in
    let read = rw c.get_calls_file.ensures at c.in_ok-calls.ensures.read in
    let p = plan_seen c.in-Ok.plan in
    let planned : IsPlanned g.O.Opener.opens g.O.File.Source.left g.O.File.Source.failures g.R.Source.left g.R.Source.failures g.W.Sink.written g.W.Sink.failures g.F.Sink.written g.F.Sink.failures t c.args.opener.now c.read_file.new.opener calls p = record { calls_read = read; plan_is = c.in-Ok.ensures.plan } in
    let bytes = c.in_ok-bytes.bytes.items in
    let set_read = rw c.get_set_file-file.ensures at c.in_ok-bytes.ensures.read in
    let set = lists_seen c.in_ok-schemas.schemas in
    let found = rw c.deref.ensures.value at c.in_ok-schemas.ensures.set in
    let made = rw c.get_set_file-file.ensures at found in
    let j = c.in-Ok-find_task_job.job in
    let is_job = c.in-Ok-find_task_job.ensures.job in
    let way = sym c.get_way.ensures in
    let heard = answered_by g.W.Sink.written g.W.Sink.failures g.F.Sink.written g.F.Sink.failures (IsAnswer j c.deref-in-Ok-read_all.result.now) (IsNoAnswer j c.deref-in-Ok-read_all.result.now) (IsBlamed j) c.get_answer-in-Ok-read_all.result None c.args.sink.now c.put_answer-in-Ok-read_all.new.sink c.args.errors.now c.put_answer-in-Ok-read_all.new.errors c.put_answer-in-Ok-read_all.result c.get_answer-in-Ok-read_all.ensures.answer c.get_answer-in-Ok-read_all.ensures.refused c.get_answer-in-Ok-read_all.ensures.blamed c.put_answer-in-Ok-read_all.ensures in
    let answered = rw c.deref-in-Ok-read_all.ensures.value at heard in
    under_run g.O.Opener.opens g.O.File.Source.left g.O.File.Source.failures g.R.Source.left g.R.Source.failures g.W.Sink.written g.W.Sink.failures g.F.Sink.written g.F.Sink.failures t c.args.opener.now c.read_file.new.opener c.read_file-2.new.opener calls bytes p set c.args.source.now c.read_all.new.source c.args.sink.now c.put_answer-in-Ok-read_all.new.sink c.args.errors.now c.put_answer-in-Ok-read_all.new.errors c.put_answer-in-Ok-read_all.result planned set_read made
    (job_run g.R.Source.left g.R.Source.failures g.W.Sink.written g.W.Sink.failures g.F.Sink.written g.F.Sink.failures t p set j c.args.source.now c.read_all.new.source c.args.sink.now c.put_answer-in-Ok-read_all.new.sink c.args.errors.now c.put_answer-in-Ok-read_all.new.errors c.put_answer-in-Ok-read_all.result c.in-Ok-find_task_job.ensures.apart is_job
    (whole_run g.R.Source.left g.R.Source.failures g.W.Sink.written g.W.Sink.failures g.F.Sink.written g.F.Sink.failures (task_messages t) t j c.args.source.now c.read_all.new.source c.args.sink.now c.put_answer-in-Ok-read_all.new.sink c.args.errors.now c.put_answer-in-Ok-read_all.new.errors c.put_answer-in-Ok-read_all.result c.in-Ok-read_all.input.items (way ∙ c.in-Whole.is) (c.in-Ok-read_all.ensures.whole, c.in-Ok-read_all.ensures.to_end) answered))

pub returns-in-Ok-read_all-clause-opened : goal.returns-in-Ok-read_all-clause-opened
returns-in-Ok-read_all-clause-opened g c =
    both_asked g.O.Opener.opens (calls_file (task_seen c.args.task.now)) (task_set_file (task_seen c.args.task.now)) c.args.opener.now c.read_file.new.opener c.read_file-2.new.opener (rw c.get_calls_file.ensures at c.read_file.ensures.opened) (rw c.get_set_file-file.ensures at c.read_file-2.ensures.opened)

pub returns-in-Whole-clause-ran : goal.returns-in-Whole-clause-ran
returns-in-Whole-clause-ran g c =
    let t = task_seen c.args.task.now in
    let calls = c.in_ok-calls.calls.items in
    let read = rw c.get_calls_file.ensures at c.in_ok-calls.ensures.read in
    let p = plan_seen c.in-Ok.plan in
    let planned : IsPlanned g.O.Opener.opens g.O.File.Source.left g.O.File.Source.failures g.R.Source.left g.R.Source.failures g.W.Sink.written g.W.Sink.failures g.F.Sink.written g.F.Sink.failures t c.args.opener.now c.read_file.new.opener calls p = record { calls_read = read; plan_is = c.in-Ok.ensures.plan } in
    let bytes = c.in_ok-bytes.bytes.items in
    let set_read = rw c.get_set_file-file.ensures at c.in_ok-bytes.ensures.read in
    let set = lists_seen c.in_ok-schemas.schemas in
    let found = rw c.deref.ensures.value at c.in_ok-schemas.ensures.set in
    let made = rw c.get_set_file-file.ensures at found in
    let j = c.in-Ok-find_task_job.job in
    let is_job = c.in-Ok-find_task_job.ensures.job in
    let way = sym c.get_way.ensures in
    under_run g.O.Opener.opens g.O.File.Source.left g.O.File.Source.failures g.R.Source.left g.R.Source.failures g.W.Sink.written g.W.Sink.failures g.F.Sink.written g.F.Sink.failures t c.args.opener.now c.read_file.new.opener c.read_file-2.new.opener calls bytes p set c.args.source.now c.read_all.new.source c.args.sink.now c.args.sink.now c.args.errors.now c.args.errors.now (Err c.refuse.result) planned set_read made
    (job_run g.R.Source.left g.R.Source.failures g.W.Sink.written g.W.Sink.failures g.F.Sink.written g.F.Sink.failures t p set j c.args.source.now c.read_all.new.source c.args.sink.now c.args.sink.now c.args.errors.now c.args.errors.now (Err c.refuse.result) c.in-Ok-find_task_job.ensures.apart is_job
    (whole_unread g.R.Source.left g.R.Source.failures g.W.Sink.written g.W.Sink.failures g.F.Sink.written g.F.Sink.failures (task_messages t) t j c.args.source.now c.read_all.new.source c.args.sink.now c.args.errors.now (Err c.refuse.result) (way ∙ c.in-Whole.is) (c.refuse.ensures.message, (c.refuse.ensures.blamed, rw c.refuse.ensures.error (by_read c.in-Err-read_all.error.kind c.in-Err-read_all.ensures.kinds c.in-Err-read_all.ensures.failed)))))

pub returns-in-Whole-clause-opened : goal.returns-in-Whole-clause-opened
returns-in-Whole-clause-opened g c =
    both_asked g.O.Opener.opens (calls_file (task_seen c.args.task.now)) (task_set_file (task_seen c.args.task.now)) c.args.opener.now c.read_file.new.opener c.read_file-2.new.opener (rw c.get_calls_file.ensures at c.read_file.ensures.opened) (rw c.get_set_file-file.ensures at c.read_file-2.ensures.opened)

pub returns-in-Each-clause-ran : goal.returns-in-Each-clause-ran
returns-in-Each-clause-ran g c =
    let t = task_seen c.args.task.now in
    let calls = c.in_ok-calls.calls.items in
    let read = rw c.get_calls_file.ensures at c.in_ok-calls.ensures.read in
    let p = plan_seen c.in-Ok.plan in
    let planned : IsPlanned g.O.Opener.opens g.O.File.Source.left g.O.File.Source.failures g.R.Source.left g.R.Source.failures g.W.Sink.written g.W.Sink.failures g.F.Sink.written g.F.Sink.failures t c.args.opener.now c.read_file.new.opener calls p = record { calls_read = read; plan_is = c.in-Ok.ensures.plan } in
    let bytes = c.in_ok-bytes.bytes.items in
    let set_read = rw c.get_set_file-file.ensures at c.in_ok-bytes.ensures.read in
    let set = lists_seen c.in_ok-schemas.schemas in
    let found = rw c.deref.ensures.value at c.in_ok-schemas.ensures.set in
    let made = rw c.get_set_file-file.ensures at found in
    let j = c.in-Ok-find_task_job.job in
    let is_job = c.in-Ok-find_task_job.ensures.job in
    let way = sym c.get_way.ensures in
    under_run g.O.Opener.opens g.O.File.Source.left g.O.File.Source.failures g.R.Source.left g.R.Source.failures g.W.Sink.written g.W.Sink.failures g.F.Sink.written g.F.Sink.failures t c.args.opener.now c.read_file.new.opener c.read_file-2.new.opener calls bytes p set c.args.source.now c.run_each.new.source c.args.sink.now c.run_each.new.sink c.args.errors.now c.run_each.new.errors c.run_each.result planned set_read made
    (job_run g.R.Source.left g.R.Source.failures g.W.Sink.written g.W.Sink.failures g.F.Sink.written g.F.Sink.failures t p set j c.args.source.now c.run_each.new.source c.args.sink.now c.run_each.new.sink c.args.errors.now c.run_each.new.errors c.run_each.result c.in-Ok-find_task_job.ensures.apart is_job
    (each_run g.R.Source.left g.R.Source.failures g.W.Sink.written g.W.Sink.failures g.F.Sink.written g.F.Sink.failures (task_messages t) t j c.in-Each.going c.args.source.now c.run_each.new.source c.args.sink.now c.run_each.new.sink c.args.errors.now c.run_each.new.errors c.run_each.result (way ∙ c.in-Each.is) c.run_each.ensures))

pub returns-in-Each-clause-opened : goal.returns-in-Each-clause-opened
returns-in-Each-clause-opened g c =
    both_asked g.O.Opener.opens (calls_file (task_seen c.args.task.now)) (task_set_file (task_seen c.args.task.now)) c.args.opener.now c.read_file.new.opener c.read_file-2.new.opener (rw c.get_calls_file.ensures at c.read_file.ensures.opened) (rw c.get_set_file-file.ensures at c.read_file-2.ensures.opened)

pub returns-clause-ran : goal.returns-clause-ran
returns-clause-ran g c =
    let t = task_seen c.args.task.now in
    let calls = c.in_ok-calls.calls.items in
    let read = rw c.get_calls_file.ensures at c.in_ok-calls.ensures.read in
    let p = plan_seen c.in-Ok.plan in
    let planned : IsPlanned g.O.Opener.opens g.O.File.Source.left g.O.File.Source.failures g.R.Source.left g.R.Source.failures g.W.Sink.written g.W.Sink.failures g.F.Sink.written g.F.Sink.failures t c.args.opener.now c.read_file.new.opener calls p = record { calls_read = read; plan_is = c.in-Ok.ensures.plan } in
    let bytes = c.in_ok-bytes.bytes.items in
    let set_read = rw c.get_set_file-file.ensures at c.in_ok-bytes.ensures.read in
    let set = lists_seen c.in_ok-schemas.schemas in
    let found = rw c.deref.ensures.value at c.in_ok-schemas.ensures.set in
    let made = rw c.get_set_file-file.ensures at found in
    let j = c.in-Ok-find_task_job.job in
    let is_job = c.in-Ok-find_task_job.ensures.job in
    let way = sym c.get_way.ensures in
    let u = c.new-unpacked.result in
    let new = c.new-unpacked.ensures in
    let start : Unread = record { left = option_map unpacked_bytes (g.R.Source.left c.args.source.now); failures = 0 } in
    let run = run_seen _ _ g.W.Sink.written g.W.Sink.failures g.F.Sink.written g.F.Sink.failures t j c.in-Packed.going u c.run_each-in-Packed.new.source c.args.sink.now c.run_each-in-Packed.new.sink c.args.errors.now c.run_each-in-Packed.new.errors c.run_each-in-Packed.result start
    (ap (λ l. record { left = l; failures = unpack_failures u }) new.left ∙ ap (λ n. record { left = option_map unpacked_bytes (g.R.Source.left c.args.source.now); failures = n }) new.failures)
    c.run_each-in-Packed.ensures in
    under_run g.O.Opener.opens g.O.File.Source.left g.O.File.Source.failures g.R.Source.left g.R.Source.failures g.W.Sink.written g.W.Sink.failures g.F.Sink.written g.F.Sink.failures t c.args.opener.now c.read_file.new.opener c.read_file-2.new.opener calls bytes p set c.args.source.now _ c.args.sink.now c.run_each-in-Packed.new.sink c.args.errors.now c.run_each-in-Packed.new.errors c.run_each-in-Packed.result planned set_read made
    (job_run g.R.Source.left g.R.Source.failures g.W.Sink.written g.W.Sink.failures g.F.Sink.written g.F.Sink.failures t p set j c.args.source.now _ c.args.sink.now c.run_each-in-Packed.new.sink c.args.errors.now c.run_each-in-Packed.new.errors c.run_each-in-Packed.result c.in-Ok-find_task_job.ensures.apart is_job
    (packed_run g.R.Source.left g.R.Source.failures g.W.Sink.written g.W.Sink.failures g.F.Sink.written g.F.Sink.failures (task_messages t) t j c.in-Packed.going c.args.source.now _ c.args.sink.now c.run_each-in-Packed.new.sink c.args.errors.now c.run_each-in-Packed.new.errors c.run_each-in-Packed.result (way ∙ c.in-Packed.is) run))

pub returns-clause-opened : goal.returns-clause-opened
returns-clause-opened g c =
    both_asked g.O.Opener.opens (calls_file (task_seen c.args.task.now)) (task_set_file (task_seen c.args.task.now)) c.args.opener.now c.read_file.new.opener c.read_file-2.new.opener (rw c.get_calls_file.ensures at c.read_file.ensures.opened) (rw c.get_set_file-file.ensures at c.read_file-2.ensures.opened)

pub returns-in-Unread-clause-ran : goal.returns-in-Unread-clause-ran
returns-in-Unread-clause-ran g c =
    let t = task_seen c.args.task.now in
    let calls = c.in_ok-calls.calls.items in
    let read = rw c.get_calls_file.ensures at c.in_ok-calls.ensures.read in
    let p = plan_seen c.in-Ok.plan in
    let planned : IsPlanned g.O.Opener.opens g.O.File.Source.left g.O.File.Source.failures g.R.Source.left g.R.Source.failures g.W.Sink.written g.W.Sink.failures g.F.Sink.written g.F.Sink.failures t c.args.opener.now c.read_file.new.opener calls p = record { calls_read = read; plan_is = c.in-Ok.ensures.plan } in
    let bytes = c.in_ok-bytes.bytes.items in
    let set_read = rw c.get_set_file-file.ensures at c.in_ok-bytes.ensures.read in
    let set = lists_seen c.in_ok-schemas.schemas in
    let found = rw c.deref.ensures.value at c.in_ok-schemas.ensures.set in
    let made = rw c.get_set_file-file.ensures at found in
    let j = c.in-Ok-find_task_job.job in
    let is_job = c.in-Ok-find_task_job.ensures.job in
    let way = sym c.get_way.ensures in
    let is_whole : IsJob (compatible_plan (whole_plan_seen c.in-Some.whole)) set j = subst (λ (q : Plan). IsJob q set j) c.in-Some.ensures.plan is_job in
    under_run g.O.Opener.opens g.O.File.Source.left g.O.File.Source.failures g.R.Source.left g.R.Source.failures g.W.Sink.written g.W.Sink.failures g.F.Sink.written g.F.Sink.failures t c.args.opener.now c.read_file.new.opener c.read_file-2.new.opener calls bytes p set c.args.source.now c.args.source.now c.args.sink.now c.put_answer-in-Unread.new.sink c.args.errors.now c.put_answer-in-Unread.new.errors c.put_answer-in-Unread.result planned set_read made
    (job_run g.R.Source.left g.R.Source.failures g.W.Sink.written g.W.Sink.failures g.F.Sink.written g.F.Sink.failures t p set j c.args.source.now c.args.source.now c.args.sink.now c.put_answer-in-Unread.new.sink c.args.errors.now c.put_answer-in-Unread.new.errors c.put_answer-in-Unread.result c.in-Ok-find_task_job.ensures.apart is_job
    (unread_run g.R.Source.left g.R.Source.failures g.W.Sink.written g.W.Sink.failures g.F.Sink.written g.F.Sink.failures (task_messages t) t j c.args.source.now c.args.sink.now c.put_answer-in-Unread.new.sink c.args.errors.now c.put_answer-in-Unread.new.errors c.put_answer-in-Unread.result (way ∙ c.in-Unread.is)
    (answered_by g.W.Sink.written g.W.Sink.failures g.F.Sink.written g.F.Sink.failures (IsAnswer j []) (IsNoAnswer j []) (IsBlamed j) c.answer_whole.result None c.args.sink.now c.put_answer-in-Unread.new.sink c.args.errors.now c.put_answer-in-Unread.new.errors c.put_answer-in-Unread.result
    (whole_answered c.in-Some.whole set j is_whole c.answer_whole.result c.answer_whole.ensures.answer) (whole_refused c.in-Some.whole set j is_whole c.answer_whole.result c.answer_whole.ensures.refused)
    (whole_blamed c.in-Some.whole set j is_whole c.answer_whole.result c.answer_whole.ensures.blamed) c.put_answer-in-Unread.ensures)))

pub returns-in-Unread-clause-opened : goal.returns-in-Unread-clause-opened
returns-in-Unread-clause-opened g c =
    both_asked g.O.Opener.opens (calls_file (task_seen c.args.task.now)) (task_set_file (task_seen c.args.task.now)) c.args.opener.now c.read_file.new.opener c.read_file-2.new.opener (rw c.get_calls_file.ensures at c.read_file.ensures.opened) (rw c.get_set_file-file.ensures at c.read_file-2.ensures.opened)
