use Rattle.capnp_joined_sets.proofs.JoinedAccepted.{joined_accepted}
use Rattle.capnp_joined_sets.proofs.laws.joined_sets_are_accepted.Goals as goal

pub returns : goal.returns
returns c = joined_accepted
