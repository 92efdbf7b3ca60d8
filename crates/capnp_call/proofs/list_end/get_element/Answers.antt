-- The read of an element is the machine's, whatever levels the reader has.
use Rattle.std.proofs.Common.{ap, ◌∙◌}
use Rattle.capnp_arena.specs.Forest.{tree}
use Rattle.capnp_arena.specs.Segment.{segment}
use Rattle.capnp_wire.specs.Standing.{list_levels, list_of}
use Rattle.capnp_schema.specs.Entries.{lists_seen}
use Rattle.capnp_schema.specs.Types.{seen_type}
use Rattle.capnp_call.specs.Seen.{reply_seen}
use Rattle.capnp_call.proofs.ElementReads.{StandsIn, get_reads}
use Rattle.capnp_call.proofs.list_end.get_element.Goals as goal

pub returns : goal.returns
returns c =
    let set = lists_seen c.args.schemas.now in
    let e = seen_type c.args.element in
    let x = tree (segment c.args.arena.now) c.args.at in
    let y = list_of c.list_reader.result in
    let on : StandsIn c.new-reader.result set e y = record {
      set_is = c.new-reader.ensures.set;
      element_is = ap seen_type c.new-reader.ensures.element;
      list_is = ap list_of c.new-reader.ensures.reader;
      levels = ap list_levels c.new-reader.ensures.reader ∙ c.list_reader.ensures.levels;
    } in
    get_reads c.new-reader.result set e y x c.args.index c.get.result (reply_seen c.answer.result) on c.list_reader.ensures.cut c.requires.inside c.requires.entries c.get.ensures.value c.get.ensures.typed c.answer.ensures
