-- By the edit's cases.
use Rattle.capnp_edits.proofs.EditedValues.{values_are_edited}
use Rattle.capnp_edits.proofs.laws.edit_law.Goals as goal

pub returns : goal.returns
returns c = values_are_edited
