-- The laws are lemmas over the definitions.
use Rattle.capnp_request_meaning.proofs.GroupsNamed.{all_differ, groups_share, share_with_structs}
use Rattle.capnp_request_meaning.proofs.laws.group_names_differ.Goals as goal

pub returns-clause-groups : goal.returns-clause-groups
returns-clause-groups c = groups_share

pub returns-clause-structs : goal.returns-clause-structs
returns-clause-structs c = share_with_structs

pub returns-clause-all : goal.returns-clause-all
returns-clause-all c = all_differ
