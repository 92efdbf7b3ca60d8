-- The last step names an element that is there, or one past the end, or a field.
use Rattle.std.proofs.Common.{arith, ap}
use Rattle.capnp_arena.specs.Forest.{tree}
use Rattle.capnp_arena.specs.Segment.{segment}
use Rattle.capnp_schema.specs.Entries.{lists_seen}
use Rattle.capnp_schema.specs.Types.{seen_type}
use Rattle.capnp_call.specs.Seen.{step_seen}
use Rattle.capnp_call.proofs.ListWalks.{ends_at_field, ends_element, ends_past}
use Rattle.capnp_call.proofs.list_end.do_last.Goals as goal

pub returns-in_default-clause-ends : goal.returns-in_default-clause-ends
returns-in_default-clause-ends c =
    ends_at_field (lists_seen c.args.schemas.now) (seen_type c.args.element) (tree (segment c.args.arena.now) c.args.at) c.requires.list c.requires.there c.args.end c.requires.names c.in_default.not-Element

pub returns-then-index-get_length-clause-ends : goal.returns-then-index-get_length-clause-ends
returns-then-index-get_length-clause-ends c =
    ends_past (lists_seen c.args.schemas.now) (seen_type c.args.element) (tree (segment c.args.arena.now) c.args.at) c.requires.list c.requires.there c.args.end c.in-Element.index c.requires.names c.in-Element.is
    (omega (arith, c.if-index-get_length.true, c.get_length.ensures))

pub returns-clause-ends : goal.returns-clause-ends
returns-clause-ends c =
    ends_element (lists_seen c.args.schemas.now) (seen_type c.args.element) (tree (segment c.args.arena.now) c.args.at) c.requires.list c.requires.there c.args.end c.in-Element.index c.do_element.result (tree (segment c.do_element.new.arena) c.args.at)
    c.requires.names (ap step_seen c.in-Element.is) (omega (arith, c.if-index-get_length.false, c.get_length.ensures)) c.do_element.ensures.does
