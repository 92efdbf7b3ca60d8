-- By the laws of runs and of edits of lists.
use Rattle.capnp_edit_calls.proofs.EditedRecords.{edited_records}
use Rattle.capnp_edit_calls.proofs.laws.edited_law.Goals as goal

pub returns : goal.returns
returns c = edited_records c.overlay_law.ensures c.edit_law.ensures
