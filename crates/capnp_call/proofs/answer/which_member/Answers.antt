-- The active member is the same whatever levels the reader has.
use Rattle.std.proofs.Common.{ap, ◌∙◌, sym, Some}
use Rattle.capnp_arena.specs.Built.{built_at}
use Rattle.capnp_wire.specs.Standing.{struct_of}
use Rattle.capnp_records.specs.Call.{Member}
use Rattle.capnp_call.proofs.Found.{found_index, found_none}
use Rattle.capnp_call.proofs.Heads.{bytes_cut}
use Rattle.capnp_call.proofs.WhichLevels.{which_reads}
use Rattle.capnp_call.proofs.answer.which_member.Goals as goal

pub returns-in-Ok-Some : goal.returns-in-Ok-Some
returns-in-Ok-Some c =
    let which = which_reads c.new-reader.result c.args.schema (struct_of c.get_struct_reader.result) (built_at c.args.arena.now c.args.place) c.new-reader.ensures.schema (ap struct_of c.new-reader.ensures.reader) (bytes_cut _ _ c.get_struct_reader.ensures.cut) in
    ap Member (ap Some c.get_index.ensures ∙ sym (found_index _ _ c.in-Ok-Some.field-0 c.in-Ok-Some.field c.in-Ok-Some.ensures c.in-Ok-Some.field-0-is) ∙ which)

pub returns-in-Ok-None : goal.returns-in-Ok-None
returns-in-Ok-None c =
    let which = which_reads c.new-reader.result c.args.schema (struct_of c.get_struct_reader.result) (built_at c.args.arena.now c.args.place) c.new-reader.ensures.schema (ap struct_of c.new-reader.ensures.reader) (bytes_cut _ _ c.get_struct_reader.ensures.cut) in
    ap Member (sym (found_none _ _ c.in-Ok-None.field-0 c.in-Ok-None.ensures c.in-Ok-None.field-0-is) ∙ which)
