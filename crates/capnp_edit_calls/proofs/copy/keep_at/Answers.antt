-- What is read is copied, or nothing is read.
use Rattle.std.proofs.Common.{Err, Ok, ap, subst, sym, ◌∙◌}
use Rattle.capnp_wire.specs.Standing.{struct_levels, struct_of}
use Rattle.capnp_wire.specs.Tree.{StructTree}
use Rattle.capnp_arena.specs.Built.{built_at}
use Rattle.capnp_arena.specs.Same.{IsStructCutOf}
use Rattle.capnp_schema.specs.StructHandles.{set_of}
use Rattle.capnp_call.specs.Seen.{path_seen}
use Rattle.capnp_edits.proofs.Results.{if_err, if_ok}
use Rattle.capnp_edit_calls.specs.Copies.{not_kept, not_read}
use Rattle.capnp_edit_calls.proofs.Found.{StandsAt, root_is_of, seen_at}
use Rattle.capnp_edit_calls.proofs.copy.keep_at.Goals as goal

pub returns-in-Ok-clause-kept : goal.returns-in-Ok-clause-kept
returns-in-Ok-clause-kept c =
    let s = built_at c.args.arena.now c.args.place in
    let on : StandsAt c.new-root.result c.args.schema s = record {
      schema_is = c.new-root.ensures.schema;
      levels = ap struct_levels c.new-root.ensures.reader ∙ c.get_struct_reader.ensures.levels;
      cut = subst (λ (x : StructTree). IsStructCutOf x s) (sym (ap struct_of c.new-root.ensures.reader)) c.get_struct_reader.ensures.cut;
      whole = λ below. ap struct_of c.new-root.ensures.reader ∙ c.get_struct_reader.ensures.parts below;
    } in
    let of = root_is_of c.new-root.result c.args.schema c.new-root.ensures.schema c.requires.stands in
    let seen = seen_at c.args.schema s c.new-root.result (path_seen c.args.from.now) on (Ok c.in-Ok.value) (c.in-Ok.ensures.read (set_of c.args.schema) of) in
    if_ok c.keep_value.result (λ k kept. record { value = c.in-Ok.value; seen = seen; is_kept = kept }) c.keep_value.ensures.kept

pub returns-in-Ok-clause-cause : goal.returns-in-Ok-clause-cause
returns-in-Ok-clause-cause c =
    let s = built_at c.args.arena.now c.args.place in
    let on : StandsAt c.new-root.result c.args.schema s = record {
      schema_is = c.new-root.ensures.schema;
      levels = ap struct_levels c.new-root.ensures.reader ∙ c.get_struct_reader.ensures.levels;
      cut = subst (λ (x : StructTree). IsStructCutOf x s) (sym (ap struct_of c.new-root.ensures.reader)) c.get_struct_reader.ensures.cut;
      whole = λ below. ap struct_of c.new-root.ensures.reader ∙ c.get_struct_reader.ensures.parts below;
    } in
    let of = root_is_of c.new-root.result c.args.schema c.new-root.ensures.schema c.requires.stands in
    let seen = seen_at c.args.schema s c.new-root.result (path_seen c.args.from.now) on (Ok c.in-Ok.value) (c.in-Ok.ensures.read (set_of c.args.schema) of) in
    if_err c.keep_value.result (λ x refused other. not_kept c.in-Ok.value x.kind seen (refused other)) c.keep_value.ensures.cause

pub returns-in-Err-clause-cause : goal.returns-in-Err-clause-cause
returns-in-Err-clause-cause c =
    let s = built_at c.args.arena.now c.args.place in
    let on : StandsAt c.new-root.result c.args.schema s = record {
      schema_is = c.new-root.ensures.schema;
      levels = ap struct_levels c.new-root.ensures.reader ∙ c.get_struct_reader.ensures.levels;
      cut = subst (λ (x : StructTree). IsStructCutOf x s) (sym (ap struct_of c.new-root.ensures.reader)) c.get_struct_reader.ensures.cut;
      whole = λ below. ap struct_of c.new-root.ensures.reader ∙ c.get_struct_reader.ensures.parts below;
    } in
    let of = root_is_of c.new-root.result c.args.schema c.new-root.ensures.schema c.requires.stands in
    λ other. not_read c.in-Err.error.kind (seen_at c.args.schema s c.new-root.result (path_seen c.args.from.now) on (Err c.in-Err.error) (c.in-Err.ensures.read (set_of c.args.schema) of))
