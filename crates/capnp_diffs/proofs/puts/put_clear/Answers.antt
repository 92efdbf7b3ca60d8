use Rattle.capnp_diffs.proofs.Whole.{ok_map}
use Rattle.capnp_diffs.proofs.puts.put_clear.Goals as goal

pub returns-clause-added : goal.returns-clause-added
returns-clause-added c = ok_map c.put_change.result (λ added set. added set tt) c.put_change.ensures.added
