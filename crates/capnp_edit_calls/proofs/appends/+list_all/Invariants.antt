-- Each part has fewer values.
use Rattle.std.proofs.Common.{length}
use Rattle.capnp_edit_calls.proofs.appends.+list_all.Given as goal

abbrev pub decreases-list_all : goal.decreases-list_all
decreases-list_all l = length l.values.now
