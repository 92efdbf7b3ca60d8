use Rattle.capnp_joined_sets.proofs.BothSets.{short_fit}
use Rattle.capnp_joined_sets.proofs.laws.short_sets_fit.Goals as goal

pub returns : goal.returns
returns c = short_fit
