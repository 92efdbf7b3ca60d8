-- The one file that is opened.
use Rattle.capnp_show_engine.specs.Facts.Opening.{one_asked}
use Rattle.capnp_show_engine.proofs.with_set.show_with_file.Goals as goal

pub returns-in_default-clause-opened : goal.returns-in_default-clause-opened
returns-in_default-clause-opened g c = one_asked g.O.Opener.opens c.args.path.now c.args.opener.now c.open.new.self c.open.result c.open.ensures

pub returns-clause-opened : goal.returns-clause-opened
returns-clause-opened g c = one_asked g.O.Opener.opens c.args.path.now c.args.opener.now c.open.new.self c.open.result c.open.ensures
