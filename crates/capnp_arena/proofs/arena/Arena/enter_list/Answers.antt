-- Entering is getting the list: each claim is the one on what was got, told of the list or of the empty one of that size.
use Rattle.capnp_arena.proofs.EnteredLists.{entered_reads, entered_refused, entered_succeeds, entered_within}
use Rattle.capnp_arena.proofs.arena.Arena.enter_list.Goals as goal

pub returns-clause-reads : goal.returns-clause-reads
returns-clause-reads c = entered_reads c.args.size _ c.get_list.result c.get_list.ensures.read

pub returns-clause-within : goal.returns-clause-within
returns-clause-within c = entered_within c.args.size _ c.get_list.result c.get_list.ensures.read

pub returns-clause-cause : goal.returns-clause-cause
returns-clause-cause c = entered_refused c.args.size _ c.get_list.result c.get_list.ensures.read

pub returns-clause-succeeds : goal.returns-clause-succeeds
returns-clause-succeeds c = entered_succeeds c.args.size _ c.get_list.result c.get_list.ensures.read
