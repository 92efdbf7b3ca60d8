-- The file was opened, and what was done was done from it; or it couldn't be.
use Rattle.riftcalico_engine.proofs.OlderFiles.{opened_asked, unopened_asked}
use Rattle.riftcalico_engine.specs.Runs.{task_paths}
use Rattle.riftcalico_words.specs.RequestSeen.{task_seen}
use Rattle.riftcalico_engine.proofs.shell.run_older.Goals as goal

pub returns-in-Ok-clause-opened : goal.returns-in-Ok-clause-opened
returns-in-Ok-clause-opened g c =
    opened_asked g.O.Opener.opens c.args.path.now (task_paths (task_seen c.args.task.now)) c.args.opener.now c.open.new.self c.run.new.opener c.open.result c.open.ensures c.run.ensures.opened

pub returns-in-Err-clause-opened : goal.returns-in-Err-clause-opened
returns-in-Err-clause-opened g c =
    unopened_asked g.O.Opener.opens c.args.path.now (task_paths (task_seen c.args.task.now)) c.args.opener.now c.open.new.self c.open.result c.open.ensures
