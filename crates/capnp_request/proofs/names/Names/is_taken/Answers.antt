-- The holder that is kept for the name is the first with it, marked where another id had it since.
-- So the mark says whether the name is taken.
use Rattle.std.proofs.Common.{◌≡◌, rules}
use Rattle.std.specs.HashMap.{get}
use Rattle.capnp_request.specs.Steps.NamesMade.{one_more}
use Rattle.capnp_request.proofs.HoldersHeld.{eq, taken_now}
use Rattle.capnp_request.proofs.names.Names.is_taken.Goals as goal

pub returns-clause-taken : goal.returns-clause-taken
returns-clause-taken c = λ hs h.
    let same : c.in_ok-key.key.items ≡ c.args.dotted.now = search rules in
    let is : c.one_more-holder.result ≡ one_more c.args.id (get eq c.args.self.now.holders c.in_ok-key.key) = search rules in
    taken_now c.args.self.now hs c.args.id c.in_ok-key.key c.args.dotted.now _ h same is
