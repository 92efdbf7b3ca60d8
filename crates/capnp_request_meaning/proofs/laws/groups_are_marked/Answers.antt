-- The law is a lemma over the definitions.
use Rattle.capnp_request_meaning.proofs.GroupsMarked.{groups_marked}
use Rattle.capnp_request_meaning.proofs.laws.groups_are_marked.Goals as goal

pub returns : goal.returns
returns c = groups_marked
