-- The file that is named was asked for.
use Rattle.riftcalico_engine.proofs.AskedFiles.{file_asked}
use Rattle.riftcalico_engine.proofs.shell.read_file.Goals as goal

pub returns-in_default-open-clause-opened : goal.returns-in_default-open-clause-opened
returns-in_default-open-clause-opened g c =
    file_asked g.O.Opener.opens c.args.file c.in-Some.path c.args.opener.now c.open.new.self c.open.result c.in-Some.is c.open.ensures

pub returns-clause-opened : goal.returns-clause-opened
returns-clause-opened g c =
    file_asked g.O.Opener.opens c.args.file c.in-Some.path c.args.opener.now c.open.new.self c.open.result c.in-Some.is c.open.ensures

pub returns-in-Ok-read_all-clause-opened : goal.returns-in-Ok-read_all-clause-opened
returns-in-Ok-read_all-clause-opened g c =
    file_asked g.O.Opener.opens c.args.file c.in-Some.path c.args.opener.now c.open.new.self c.open.result c.in-Some.is c.open.ensures
