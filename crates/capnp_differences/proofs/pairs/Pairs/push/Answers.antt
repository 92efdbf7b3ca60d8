use Rattle.capnp_differences.proofs.Keys.{keys_more}
use Rattle.capnp_differences.proofs.pairs.Pairs.push.Goals as goal

pub invariant_of-self-in-Ok : goal.invariant_of-self-in-Ok
invariant_of-self-in-Ok c = rw c.in_ok-push.ensures.items (keys_more _ c.self.inside.keys c.insert.new.self c.self.invariant c.args.pair c.in-Ok.ensures.updates)
