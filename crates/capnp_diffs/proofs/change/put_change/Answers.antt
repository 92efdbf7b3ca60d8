use Rattle.std.proofs.Common.{refl}
use Rattle.capnp_diffs.proofs.Added.{one_added}
use Rattle.capnp_diffs.proofs.change.put_change.Goals as goal

pub returns-clause-added : goal.returns-clause-added
returns-clause-added c = λ set ready.
    one_added set c.args.path.now c.args.last c.args.op c.args.out.now.items c.push.new.self.items (record { path = c.in_ok-path.path; last = c.args.last; op = c.args.op }) c.in_ok-push.ensures.items c.in_ok-path.ensures.items refl refl ready
