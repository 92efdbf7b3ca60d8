-- The steps so far and those of the rest are the steps of the word.
-- A dot cuts off one step more; without a dot the rest is the last step, or its fault.
use Rattle.std.proofs.Common.{length, ap, arith, rules, lit<}
use Rattle.capnp_words.specs.Paths.{is_dot, steps_at}
use Rattle.capnp_words.specs.Seen.{steps_seen}
use Rattle.capnp_words.proofs.PathSteps.{goes_on, stops, ends, ends_refused, lengths_around}
use Rattle.capnp_words.proofs.path.parse_steps.Goals as goal

pub returns-in-Err-clause-read : goal.returns-in-Err-clause-read
returns-in-Err-clause-read c =
    let b = c.in-Some.ensures.byte (lit< tt) (λ w o h. h) in
    stops (steps_seen c.loop-part.steps.items) c.in-Err.fault c.loop-part.at c.loop-part.rest.now (steps_at c.args.place c.args.word.now) c.loop-part.invariant.read b.2 (search rules)

pub returns-in-Err-2-clause-read : goal.returns-in-Err-2-clause-read
returns-in-Err-2-clause-read c =
    let b = c.in_default.ensures.byte (lit< tt) (λ w o h. h) in
    ends_refused (steps_seen c.loop-part.steps.items) c.in-Err-2.fault c.loop-part.at c.loop-part.rest.now (steps_at c.args.place c.args.word.now) c.loop-part.invariant.read (search rules) (search rules)

pub returns-clause-read : goal.returns-clause-read
returns-clause-read c =
    let b = c.in_default.ensures.byte (lit< tt) (λ w o h. h) in
    let e = ends c.loop-part.steps.items c.in-Ok-2.step c.loop-part.at c.loop-part.rest.now (steps_at c.args.place c.args.word.now) c.loop-part.invariant.read (search rules) (search rules) in
    search (rules, e)

pub loop-part-preserved : goal.loop-part-preserved
loop-part-preserved c =
    let b = c.in-Some.ensures.byte (lit< tt) (λ w o h. h) in
    let e = goes_on c.loop-part.steps.items c.in-Ok.step c.loop-part.at c.loop-part.rest.now (steps_at c.args.place c.args.word.now) c.loop-part.invariant.read b.2 (search rules) in
    record {
      read = search (rules, e);
      text = search rules;
      room = omega (arith, ap length b.0, ap length b.1, lengths_around is_dot c.loop-part.rest.now b.2);
    }
