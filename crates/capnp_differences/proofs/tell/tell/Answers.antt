-- Whether there is a cause decides: with it one difference is pushed, in its turn; without
-- it nothing is told, and the order stays.
use Rattle.capnp_differences.proofs.Tellings.{told_none, told_some}
use Rattle.capnp_differences.proofs.Turns.{turn_none, turn_some}
use Rattle.capnp_differences.proofs.tell.tell.Goals as goal

pub returns-in_ok-push-in-Some-clause-told : goal.returns-in_ok-push-in-Some-clause-told
returns-in_ok-push-in-Some-clause-told c = told_some c.args.pair c.args.field c.args.told.now.items c.push.new.self.items c.args.cause c.in-Some.found c.in-Some.is c.in_ok-push-in-Some.ensures.items

pub returns-in-None-clause-told : goal.returns-in-None-clause-told
returns-in-None-clause-told c = told_none c.args.pair c.args.field c.args.told.now.items c.args.cause c.in-None.is

pub returns-in_ok-push-in-Some-clause-turn : goal.returns-in_ok-push-in-Some-clause-turn
returns-in_ok-push-in-Some-clause-turn c = turn_some c.args.pair c.args.field c.args.cause c.args.told.now.items c.push.new.self.items c.in-Some.found c.in-Some.is c.in_ok-push-in-Some.ensures.items

pub returns-in-None-clause-turn : goal.returns-in-None-clause-turn
returns-in-None-clause-turn c = turn_none c.args.pair c.args.field c.args.cause c.args.told.now.items c.in-None.is
