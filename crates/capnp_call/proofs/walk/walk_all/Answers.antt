-- A step leads on, or the call is refused there.
use Rattle.std.proofs.Common.{arith}
use Rattle.capnp_arena.specs.Segment.{segment}
use Rattle.capnp_call.proofs.Hopping.{onward_end, onward_refused, onward_start, onward_step}
use Rattle.capnp_call.proofs.walk.walk_all.Goals as goal

pub loop-step-init : goal.loop-step-init
loop-step-init c = record {
  stands = record { stands = c.requires.stands; planted = c.requires.standing.planted; room = c.requires.standing.room };
  onward = onward_start c.args.place c.args.schema (segment c.args.arena.now) c.args.path.now;
}

pub loop-step-preserved : goal.loop-step-preserved
loop-step-preserved c = record {
  stands = c.in-Ok.ensures.stands;
  onward = onward_step c.args.place c.args.schema (segment c.args.arena.now) c.args.path.now c.loop-step.at c.in-Ok.next (segment c.loop-step.arena) (segment c.hop.new.arena) c.loop-step.step-index _
      (omega (arith, c.loop-step-test.true)) c.loop-step.invariant.onward c.in-Ok.ensures;
}

pub returns-in-Err : goal.returns-in-Err
returns-in-Err c =
    onward_refused c.args.place c.args.schema (segment c.args.arena.now) c.args.path.now c.loop-step.at (segment c.loop-step.arena) (segment c.hop.new.arena) c.loop-step.step-index _ c.in-Err.error.kind (omega (arith, c.loop-step-test.true)) c.loop-step.invariant.onward c.in-Err.ensures c.args.end

pub returns : goal.returns
returns c =
    onward_end c.args.place c.args.schema (segment c.args.arena.now) c.args.path.now c.loop-step.at (segment c.loop-step.arena) (segment c.end_at.new.arena) c.loop-step.step-index c.args.end c.end_at.new.reply (omega (arith, c.loop-step-test.false)) c.loop-step.invariant.onward c.end_at.ensures
