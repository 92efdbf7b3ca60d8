use Rattle.capnp_records.proofs.UpgradedTrees.{upgrades_hold}
use Rattle.capnp_records.proofs.laws.upgrade_law.Goals as goal

pub returns : goal.returns
returns c = upgrades_hold c.elements_stand_first.ensures.numbers
