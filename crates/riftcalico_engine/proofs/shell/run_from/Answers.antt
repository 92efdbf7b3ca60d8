-- What was done from the file that is named, or from the source, is what is done for the task.
use Rattle.riftcalico_core.specs.Faults.{old_file}
use Rattle.riftcalico_engine.proofs.OlderFiles.{none_named, old_named, older_asked, older_run, source_asked, source_run}
use Rattle.riftcalico_engine.specs.Runs.{task_paths}
use Rattle.riftcalico_words.specs.RequestSeen.{task_seen}
use Rattle.riftcalico_engine.proofs.shell.run_from.Goals as goal

pub returns-in-Some-clause-ran : goal.returns-in-Some-clause-ran
returns-in-Some-clause-ran g c =
    older_run g.O.Opener.opens g.O.File.Source.left g.O.File.Source.failures g.R.Source.left g.R.Source.failures g.W.Sink.written g.W.Sink.failures g.F.Sink.written g.F.Sink.failures (old_file (task_seen c.args.task.now)) c.in-Some.path.now (task_seen c.args.task.now) c.args.opener.now c.run_older.new.opener c.args.source.now c.args.sink.now c.run_older.new.sink c.args.errors.now c.run_older.new.errors c.run_older.result
    (old_named c.get_old_file.result (old_file (task_seen c.args.task.now)) c.in-Some.path c.get_old_file.ensures c.in-Some.is) c.run_older.ensures.ran

pub returns-in-Some-clause-opened : goal.returns-in-Some-clause-opened
returns-in-Some-clause-opened g c =
    older_asked g.O.Opener.opens (old_file (task_seen c.args.task.now)) c.in-Some.path.now (task_paths (task_seen c.args.task.now)) c.args.opener.now c.run_older.new.opener (old_named c.get_old_file.result (old_file (task_seen c.args.task.now)) c.in-Some.path c.get_old_file.ensures c.in-Some.is) c.run_older.ensures.opened

pub returns-in-None-clause-ran : goal.returns-in-None-clause-ran
returns-in-None-clause-ran g c =
    source_run g.O.Opener.opens g.O.File.Source.left g.O.File.Source.failures g.R.Source.left g.R.Source.failures g.W.Sink.written g.W.Sink.failures g.F.Sink.written g.F.Sink.failures (old_file (task_seen c.args.task.now)) (task_seen c.args.task.now) c.args.opener.now c.run.new.opener c.args.source.now c.run.new.source c.args.sink.now c.run.new.sink c.args.errors.now c.run.new.errors c.run.result
    (none_named c.get_old_file.result (old_file (task_seen c.args.task.now)) c.get_old_file.ensures c.in-None.is) c.run.ensures.ran

pub returns-in-None-clause-opened : goal.returns-in-None-clause-opened
returns-in-None-clause-opened g c =
    source_asked g.O.Opener.opens (old_file (task_seen c.args.task.now)) (task_paths (task_seen c.args.task.now)) c.args.opener.now c.run.new.opener (none_named c.get_old_file.result (old_file (task_seen c.args.task.now)) c.get_old_file.ensures c.in-None.is) c.run.ensures.opened
