-- The walk from the given pair compares all that this pair leads to; so what is told are its
-- differences, and none are told just where it is compatible.
use Rattle.capnp_schema.specs.Entries.{lists_seen}
use Rattle.capnp_schema.specs.StructHandles.{number_of, set_of}
use Rattle.capnp_differences.proofs.Explaining.{explained}
use Rattle.capnp_differences.proofs.walk.explain.Goals as goal

pub returns-clause-told : goal.returns-clause-told
returns-clause-told c =
    (explained (lists_seen c.get_set-schemas.result.now) (set_of c.args.older) c.from-one.result.number (number_of c.args.older) c.from-other.result.number (number_of c.args.newer) c.in_ok-pairs.pairs c.walk.new.pairs c.in_ok-told.told.items
    c.get_set-schemas.ensures c.from-one.ensures.0 c.from-other.ensures.0 c.in_ok-pairs.ensures.list c.in_ok-told.ensures.compared).told

pub returns-clause-none : goal.returns-clause-none
returns-clause-none c =
    (explained (lists_seen c.get_set-schemas.result.now) (set_of c.args.older) c.from-one.result.number (number_of c.args.older) c.from-other.result.number (number_of c.args.newer) c.in_ok-pairs.pairs c.walk.new.pairs c.in_ok-told.told.items
    c.get_set-schemas.ensures c.from-one.ensures.0 c.from-other.ensures.0 c.in_ok-pairs.ensures.list c.in_ok-told.ensures.compared).none
