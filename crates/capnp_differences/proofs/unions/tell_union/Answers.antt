-- The unions differ by their members or by the discriminant's place; both causes are told, and in the turn of the union.
use Rattle.capnp_schema.specs.Schema.{seen_node}
use Rattle.capnp_differences.proofs.Tellings.{union_told}
use Rattle.capnp_differences.proofs.Turns.{union_turns}
use Rattle.capnp_differences.proofs.unions.tell_union.Goals as goal

pub returns-clause-told : goal.returns-clause-told
returns-clause-told c = union_told c.args.pair (seen_node c.args.older.now) (seen_node c.args.newer.now) c.args.told.now.items c.tell.new.told.items c.tell-2.new.told.items
    c.members_change.result c.place_change.result c.members_change.ensures c.place_change.ensures c.in_ok-tell.ensures.told c.in_ok-tell-2.ensures.told

pub returns-clause-turn : goal.returns-clause-turn
returns-clause-turn c = union_turns c.args.pair (seen_node c.args.older.now) (seen_node c.args.newer.now) c.args.told.now.items c.tell.new.told.items c.tell-2.new.told.items
    c.members_change.result c.place_change.result c.members_change.ensures c.place_change.ensures c.in_ok-tell.ensures.turn c.in_ok-tell-2.ensures.turn
