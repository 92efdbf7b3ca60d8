use Rattle.capnp_json.proofs.LineSteps.{no_line}
use Rattle.capnp_json.proofs.lines.put_line.Goals as goal

pub returns-in-None-clause-put : goal.returns-in-None-clause-put
returns-in-None-clause-put c = no_line c.args.at c.args.out.now c.in-None.is
