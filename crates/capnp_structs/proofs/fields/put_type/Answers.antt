-- What opens the lists, what stands inside, and what closes them.
use Rattle.capnp_schema.specs.Entries.{lists_seen}
use Rattle.capnp_structs.proofs.TypesNamed.{type_put}
use Rattle.capnp_structs.proofs.fields.put_type.Goals as goal

pub returns-clause-put : goal.returns-clause-put
returns-clause-put c =
    type_put c.put_lists-2.result c.args.floats (lists_seen c.args.schemas.now) c.args.of _ _ _ _ c.in_ok-put_lists.ensures.put c.in_ok-put_innermost.ensures.put c.put_lists-2.ensures.put
