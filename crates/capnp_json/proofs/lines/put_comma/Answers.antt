-- The comma leads on to the line behind it; what stops one of them stops the whole.
use Rattle.std.proofs.Common.{[], ◌∷◌}
use Rattle.capnp_records.specs.Text.{line}
use Rattle.capnp_json.proofs.LineSteps.{behind_put, behind_stopped}
use Rattle.capnp_json.proofs.Puts.{two_first}
use Rattle.capnp_json.proofs.lines.put_comma.Goals as goal

pub returns-in-Err-clause-stopped : goal.returns-in-Err-clause-stopped
returns-in-Err-clause-stopped c = two_first c.args.out.now (44 ∷ []) (line c.args.at) c.in-Err.why c.in-Err.ensures.stopped

pub returns-clause-put : goal.returns-clause-put
returns-clause-put c = behind_put c.args.out.now c.put.new.self c.put_line.new.out (44 ∷ []) (line c.args.at) c.put_line.result c.in_default.ensures.put c.put_line.ensures.put

pub returns-clause-stopped : goal.returns-clause-stopped
returns-clause-stopped c = behind_stopped c.args.out.now c.put.new.self c.put_line.new.out (44 ∷ []) (line c.args.at) c.put_line.result c.in_default.ensures.put c.put_line.ensures.stopped
