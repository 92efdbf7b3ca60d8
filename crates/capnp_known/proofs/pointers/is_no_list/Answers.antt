use Rattle.capnp_known.proofs.PointersSeen.{only_null}
use Rattle.capnp_known.proofs.pointers.is_no_list.Goals as goal

pub returns-in-Ok-get_struct-clause-null : goal.returns-in-Ok-get_struct-clause-null
returns-in-Ok-get_struct-clause-null c = λ _. only_null _ _ _ _ c.in-Ok.ensures c.in-Ok-get_struct.ensures.read
