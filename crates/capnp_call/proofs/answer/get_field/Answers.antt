-- The read of a field is the machine's, whatever levels the reader has.
use Rattle.std.proofs.Common.{ap, ◌∙◌, sym}
use Rattle.capnp_arena.specs.Built.{built_at}
use Rattle.capnp_wire.specs.Standing.{struct_levels, struct_of}
use Rattle.capnp_schema.specs.FieldLists.{field_schema}
use Rattle.capnp_call.specs.Seen.{reply_seen}
use Rattle.capnp_call.proofs.FieldReads.{StandsOn, get_reads}
use Rattle.capnp_call.proofs.answer.get_field.Goals as goal

pub returns : goal.returns
returns c =
    let f = c.args.field in
    let s = built_at c.args.arena.now c.args.place in
    let x = struct_of c.get_struct_reader.result in
    let on : StandsOn c.new-reader.result (field_schema f) x = record {
      schema_is = c.new-reader.ensures.schema ∙ c.get_containing_struct.ensures.is;
      struct_is = ap struct_of c.new-reader.ensures.reader;
      levels = ap struct_levels c.new-reader.ensures.reader ∙ c.get_struct_reader.ensures.levels;
    } in
    get_reads c.new-reader.result f x s c.get.result (reply_seen c.answer.result) on c.get_struct_reader.ensures.cut f.inside c.get.ensures.value c.get.ensures.typed c.answer.ensures (sym c.is_inactive.ensures ∙ c.if-is_inactive.false)
