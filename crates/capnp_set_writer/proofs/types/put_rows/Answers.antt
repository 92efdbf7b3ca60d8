-- The list is new, of as many pointers.
use Rattle.std.proofs.Common.{arith, sym, ◌∙◌, map, Vec, Global, List}
use Rattle.std.proofs.lemmas.List.{length-map}
use Rattle.std.proofs.lemmas.Result.{err_from_is_err_and}
use Rattle.capnp_arena.specs.Facts.Frames.{pointer_after}
use Rattle.capnp_base.specs.declared.introspect.«Type».{«Type» as TypeHandle}
use Rattle.capnp_schema.specs.Types.{SchemaType, seen_type}
use Rattle.capnp_set_writer.specs.Limits.{TypeListsFit}
use Rattle.capnp_set_writer.specs.Trees.{types_tree}
use Rattle.capnp_set_writer.proofs.Trees.{if_err, new_rows, on_ok, refused_up, room_part_refused, size_refused}
use Rattle.capnp_set_writer.proofs.types.put_rows.Goals as goal

abbrev seen_row : Vec TypeHandle Global → List SchemaType
seen_row row = map seen_type row.items

pub fill_rows-requires-clause-new : goal.fill_rows-requires-clause-new
fill_rows-requires-clause-new c =
    new_rows c.in_ok-count.count (map types_tree (map seen_row c.args.rows.now)) _
    (c.in_ok-count.ensures.is ∙ sym (length-map (map seen_row c.args.rows.now) types_tree ∙ length-map c.args.rows.now seen_row)) c.in_ok-init_list.ensures.tree

pub returns-clause-fits : goal.returns-clause-fits
returns-clause-fits c = on_ok c.fill_rows.result
    (λ each. record {
      count = (
        omega (arith, c.in_ok-init_list.ensures.within, c.in_ok-count.ensures.is, length-map c.args.rows.now seen_row),
        omega (arith, c.in_ok-init_list.ensures.within, c.in_ok-count.ensures.is, length-map c.args.rows.now seen_row),
      );
      each = each;
    })
    c.fill_rows.ensures.fits

pub returns-clause-cause : goal.returns-clause-cause
returns-clause-cause c = if_err c.fill_rows.result (λ e h. refused_up e.kind h (λ k. k) (λ (f : TypeListsFit (map seen_row c.args.rows.now)). f.each)) c.fill_rows.ensures.cause

pub returns-in_err-count-clause-cause : goal.returns-in_err-count-clause-cause
returns-in_err-count-clause-cause c =
    let p = err_from_is_err_and c.from_residual.result c.from_residual.ensures.1 in
    rw (p.1, p.2) (size_refused _ c.in_err-count.ensures.cause
    (λ (f : TypeListsFit (map seen_row c.args.rows.now)). omega (arith, f.count.0, c.in_err-count.ensures.past, length-map c.args.rows.now seen_row)))

pub returns-in_err-init_list-clause-cause : goal.returns-in_err-init_list-clause-cause
returns-in_err-init_list-clause-cause c =
    let p = err_from_is_err_and c.from_residual-in_err-init_list.result c.from_residual-in_err-init_list.ensures.1 in
    rw (p.1, p.2) (room_part_refused _ _ c.in_err-init_list.ensures.cause
    (λ past (f : TypeListsFit (map seen_row c.args.rows.now)). omega (arith, past, f.count.0, c.in_ok-count.ensures.is, length-map c.args.rows.now seen_row)))

pub returns-clause-frame : goal.returns-clause-frame
returns-clause-frame c = on_ok c.fill_rows.result (λ h. pointer_after c.in_ok-init_list.ensures.changes h) c.fill_rows.ensures.frame
