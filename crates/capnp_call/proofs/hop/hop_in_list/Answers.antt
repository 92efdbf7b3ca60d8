-- An element past the end, or one that is there.
use Rattle.std.proofs.Common.{◌∷◌, arith}
use Rattle.capnp_device.specs.declared.error.ErrorKind.TheVariants.{NoSuchElement}
use Rattle.capnp_arena.specs.Forest.{tree}
use Rattle.capnp_arena.specs.Segment.{segment}
use Rattle.capnp_schema.specs.Entries.{lists_seen}
use Rattle.capnp_schema.specs.Types.{seen_type}
use Rattle.capnp_call.proofs.Hopping.{list_refused, there_leads}
use Rattle.capnp_call.proofs.ListWalks.{element_past}
use Rattle.capnp_call.specs.declared.calls.Step.TheVariants as step
use Rattle.capnp_call.proofs.hop.hop_in_list.Goals as goal

pub returns-then-index-get_length : goal.returns-then-index-get_length
returns-then-index-get_length c = λ rest end.
    let set = lists_seen c.args.schemas.now in
    let e = seen_type c.args.element in
    list_refused c.args.word set e (step.Element c.args.index ∷ rest) end (segment c.args.arena.now) _ NoSuchElement c.requires.stands.forest c.from.ensures
    (element_past set e (tree (segment c.args.arena.now) c.args.word) c.requires.stands.list c.requires.there c.args.index rest end (omega (arith, c.if-index-get_length.true, c.get_length.ensures)))

pub returns : goal.returns
returns c =
    there_leads c.args.word (lists_seen c.args.schemas.now) (seen_type c.args.element) c.args.index c.hop_to_element.result (segment c.args.arena.now) (segment c.hop_to_element.new.arena) c.requires.stands.list c.requires.there
    (omega (arith, c.if-index-get_length.false, c.get_length.ensures)) c.hop_to_element.ensures
