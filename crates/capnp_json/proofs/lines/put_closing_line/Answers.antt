-- The line one bracket further out leads on to the closing bracket; what stops one of them stops the whole.
use Rattle.std.proofs.Common.{Option, subst, ℕ}
use Rattle.capnp_records.specs.Text.{line}
use Rattle.capnp_json.specs.Pieces.{said, shallower}
use Rattle.capnp_json.specs.Steps.Puts.{IsPut, IsStopped}
use Rattle.capnp_json.proofs.LineSteps.{behind_put, behind_stopped}
use Rattle.capnp_json.proofs.Puts.{two_first}
use Rattle.capnp_json.proofs.lines.put_closing_line.Goals as goal

pub returns-in-Err-clause-stopped : goal.returns-in-Err-clause-stopped
returns-in-Err-clause-stopped c =
    two_first c.args.out.now (line (shallower c.args.at)) c.args.closing.now c.in-Err.why
    (subst (λ (z : Option ℕ). IsStopped c.args.out.now (said (line z)) c.in-Err.why) c.one_shallower.ensures c.in-Err.ensures.stopped)

pub returns-clause-put : goal.returns-clause-put
returns-clause-put c =
    behind_put c.args.out.now c.put_line.new.out c.put.new.self (line (shallower c.args.at)) c.args.closing.now c.put.result
    (subst (λ (z : Option ℕ). IsPut c.args.out.now (said (line z)) c.put_line.new.out) c.one_shallower.ensures c.in_default.ensures.put) c.put.ensures.put

pub returns-clause-stopped : goal.returns-clause-stopped
returns-clause-stopped c =
    behind_stopped c.args.out.now c.put_line.new.out c.put.new.self (line (shallower c.args.at)) c.args.closing.now c.put.result
    (subst (λ (z : Option ℕ). IsPut c.args.out.now (said (line z)) c.put_line.new.out) c.one_shallower.ensures c.in_default.ensures.put) c.put.ensures.stopped
