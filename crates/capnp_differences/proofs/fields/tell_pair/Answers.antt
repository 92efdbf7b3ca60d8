-- What differs in a pair is what differs in its union and then in its fields; the union's turns come before those of the fields.
use Rattle.capnp_schema.specs.Entries.{lists_seen}
use Rattle.capnp_schema.specs.Schema.{seen_node}
use Rattle.capnp_differences.proofs.Tellings.{pair_told}
use Rattle.capnp_differences.proofs.Turns.{orders_then}
use Rattle.capnp_differences.proofs.fields.tell_pair.Goals as goal

pub returns-clause-told : goal.returns-clause-told
returns-clause-told c = pair_told (lists_seen c.args.schemas.now) c.args.pair (seen_node c.node_of-older.result.now) (seen_node c.node_of-newer.result.now) c.args.told.now.items c.tell_union.new.told.items c.tell_fields.new.told.items
    c.node_of-older.ensures c.node_of-newer.ensures c.in_ok-tell_union.ensures.told c.in_ok-tell_fields.ensures.told

pub returns-clause-turn : goal.returns-clause-turn
returns-clause-turn c = orders_then c.args.told.now.items c.tell_union.new.told.items c.tell_fields.new.told.items c.args.pair 0 13 _ c.in_ok-tell_union.ensures.turn c.in_ok-tell_fields.ensures.turn
