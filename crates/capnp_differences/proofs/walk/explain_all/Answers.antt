-- The walk from the asked pairs compares all that they lead to, so what is told are their differences.
-- A pair from which none can be reached follows.
use Rattle.capnp_schema.specs.Entries.{lists_seen}
use Rattle.capnp_differences.proofs.Explaining.{all_follow, all_told, answered_as, compares_asked}
use Rattle.capnp_differences.proofs.Gathering.{gathered_brands}
use Rattle.capnp_differences.proofs.Noting.{are_notes}
use Rattle.capnp_differences.proofs.walk.explain_all.Goals as goal

pub walk-requires-clause-brands : goal.walk-requires-clause-brands
walk-requires-clause-brands c = gathered_brands (lists_seen c.args.schemas.now) c.args.asked.now c.in_ok-pairs.pairs _ c.in_ok-pairs.ensures.list c.requires.brands

pub returns-clause-told : goal.returns-clause-told
returns-clause-told c = all_told (lists_seen c.args.schemas.now) c.args.asked.now c.walk.new.pairs c.in_ok-told.told.items
    (compares_asked (lists_seen c.args.schemas.now) c.args.asked.now c.in_ok-pairs.pairs c.walk.new.pairs c.in_ok-told.told.items c.in_ok-pairs.ensures.list c.in_ok-told.ensures.compared)

pub returns-clause-none : goal.returns-clause-none
returns-clause-none c = all_follow (lists_seen c.args.schemas.now) c.args.asked.now c.walk.new.pairs c.in_ok-told.told.items
    (compares_asked (lists_seen c.args.schemas.now) c.args.asked.now c.in_ok-pairs.pairs c.walk.new.pairs c.in_ok-told.told.items c.in_ok-pairs.ensures.list c.in_ok-told.ensures.compared)

pub returns-clause-follows : goal.returns-clause-follows
returns-clause-follows c = answered_as (lists_seen c.args.schemas.now) c.args.asked.now c.walk.new.pairs c.in_ok-told.told.items
    (compares_asked (lists_seen c.args.schemas.now) c.args.asked.now c.in_ok-pairs.pairs c.walk.new.pairs c.in_ok-told.told.items c.in_ok-pairs.ensures.list c.in_ok-told.ensures.compared)
    c.deref.result.now c.in_ok-marked.marked c.in_ok-follows.follows.items c.deref.ensures.value c.in_ok-marked.ensures.reaching c.in_ok-follows.ensures.unmarked

pub returns-clause-notes : goal.returns-clause-notes
returns-clause-notes c = are_notes (lists_seen c.args.schemas.now) c.args.asked.now c.walk.new.pairs c.in_ok-told.told.items
    (compares_asked (lists_seen c.args.schemas.now) c.args.asked.now c.in_ok-pairs.pairs c.walk.new.pairs c.in_ok-told.told.items c.in_ok-pairs.ensures.list c.in_ok-told.ensures.compared)
    c.in_ok-notes.notes.items c.in_ok-notes.ensures.noted
