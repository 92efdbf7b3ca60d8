-- A list, something else, or nothing that can be read.
use Rattle.std.proofs.Common.{ap, subst, sym, ◌∙◌}
use Rattle.capnp_wire.specs.Standing.{struct_levels, struct_of}
use Rattle.capnp_wire.specs.Tree.{StructTree}
use Rattle.capnp_arena.specs.Built.{built_at}
use Rattle.capnp_arena.specs.Same.{IsStructCutOf}
use Rattle.capnp_schema.specs.StructHandles.{set_of}
use Rattle.capnp_call.specs.Seen.{path_seen}
use Rattle.capnp_edits.proofs.Results.{if_err}
use Rattle.capnp_edit_calls.proofs.Found.{StandsAt, found_in, not_found, other_found, root_is_of}
use Rattle.capnp_edit_calls.proofs.edit.find_list.Goals as goal

pub returns-in-Ok-clause-there : goal.returns-in-Ok-clause-there
returns-in-Ok-clause-there c =
    let s = built_at c.args.arena.now c.args.place in
    let on : StandsAt c.new-root.result c.args.schema s = record {
      schema_is = c.new-root.ensures.schema;
      levels = ap struct_levels c.new-root.ensures.reader ∙ c.get_struct_reader.ensures.levels;
      cut = subst (λ (x : StructTree). IsStructCutOf x s) (sym (ap struct_of c.new-root.ensures.reader)) c.get_struct_reader.ensures.cut;
      whole = λ below. ap struct_of c.new-root.ensures.reader ∙ c.get_struct_reader.ensures.parts below;
    } in
    let of = root_is_of c.new-root.result c.args.schema c.new-root.ensures.schema c.requires.stands in
    found_in c.args.schema s c.new-root.result (path_seen c.args.path.now) on c.in-Ok.value (c.in-Ok.ensures.read (set_of c.args.schema) of) (c.in-Ok.ensures.typed (set_of c.args.schema) of) c.list_in.result c.list_in.ensures.list

pub returns-in-Ok-clause-cause : goal.returns-in-Ok-clause-cause
returns-in-Ok-clause-cause c =
    let s = built_at c.args.arena.now c.args.place in
    let on : StandsAt c.new-root.result c.args.schema s = record {
      schema_is = c.new-root.ensures.schema;
      levels = ap struct_levels c.new-root.ensures.reader ∙ c.get_struct_reader.ensures.levels;
      cut = subst (λ (x : StructTree). IsStructCutOf x s) (sym (ap struct_of c.new-root.ensures.reader)) c.get_struct_reader.ensures.cut;
      whole = λ below. ap struct_of c.new-root.ensures.reader ∙ c.get_struct_reader.ensures.parts below;
    } in
    let of = root_is_of c.new-root.result c.args.schema c.new-root.ensures.schema c.requires.stands in
    if_err c.list_in.result (λ x other. other_found c.args.schema s c.new-root.result (path_seen c.args.path.now) on c.in-Ok.value (c.in-Ok.ensures.read (set_of c.args.schema) of) x.kind other) c.list_in.ensures.other

pub returns-in-Err-clause-cause : goal.returns-in-Err-clause-cause
returns-in-Err-clause-cause c =
    let s = built_at c.args.arena.now c.args.place in
    let on : StandsAt c.new-root.result c.args.schema s = record {
      schema_is = c.new-root.ensures.schema;
      levels = ap struct_levels c.new-root.ensures.reader ∙ c.get_struct_reader.ensures.levels;
      cut = subst (λ (x : StructTree). IsStructCutOf x s) (sym (ap struct_of c.new-root.ensures.reader)) c.get_struct_reader.ensures.cut;
      whole = λ below. ap struct_of c.new-root.ensures.reader ∙ c.get_struct_reader.ensures.parts below;
    } in
    let of = root_is_of c.new-root.result c.args.schema c.new-root.ensures.schema c.requires.stands in
    not_found c.args.schema s c.new-root.result (path_seen c.args.path.now) on c.in-Err.error (c.in-Err.ensures.read (set_of c.args.schema) of)
