-- The list is new, of as many structs of the parts' size.
use Rattle.std.proofs.Common.{arith, sym, ◌+◌, ◌∙◌, map}
use Rattle.std.proofs.lemmas.List.{length-map}
use Rattle.std.proofs.lemmas.Result.{err_from_is_err_and}
use Rattle.capnp_arena.specs.Facts.Frames.{pointer_after}
use Rattle.capnp_set_writer.specs.Limits.{ListFits}
use Rattle.capnp_set_writer.proofs.Trees.{if_err, long_list, new_filled, on_ok, parts_fit, refused_up, room_part_refused, size_refused}
use Rattle.capnp_set_writer.proofs.rows.put_list.Goals as goal

pub fill_list-requires-clause-new : goal.fill_list-requires-clause-new
fill_list-requires-clause-new g c =
    new_filled _ _ c.size.result _ (map g.T.Part.tree (map g.T.Part.seen c.args.parts.now)) _ c.size.ensures.data_words c.size.ensures.pointers
    (c.in_ok-count.ensures.is ∙ sym (length-map (map g.T.Part.seen c.args.parts.now) g.T.Part.tree ∙ length-map c.args.parts.now g.T.Part.seen)) c.in_ok-init_struct_list.ensures.tree

pub returns-clause-fits : goal.returns-clause-fits
returns-clause-fits g c = on_ok c.fill_list.result
    (λ each. parts_fit g.T.Part.seen c.args.parts.now c.in_ok-count.count c.size.result g.T.Part.data_words g.T.Part.pointers c.in_ok-count.ensures.is c.size.ensures.data_words c.size.ensures.pointers c.in_ok-init_struct_list.ensures.within.0 c.in_ok-init_struct_list.ensures.within.1 each)
    c.fill_list.ensures.fits

pub returns-clause-cause : goal.returns-clause-cause
returns-clause-cause g c = if_err c.fill_list.result (λ e h. refused_up e.kind h (λ k. k) (λ (f : ListFits (g.T.Part.data_words + g.T.Part.pointers) g.T.Part.fits (map g.T.Part.seen c.args.parts.now)). f.each)) c.fill_list.ensures.cause

pub returns-in_err-count-clause-cause : goal.returns-in_err-count-clause-cause
returns-in_err-count-clause-cause g c =
    let p = err_from_is_err_and c.from_residual.result c.from_residual.ensures.1 in
    rw (p.1, p.2) (size_refused _ c.in_err-count.ensures.cause
    (λ (f : ListFits (g.T.Part.data_words + g.T.Part.pointers) g.T.Part.fits (map g.T.Part.seen c.args.parts.now)). omega (arith, f.count.0, c.in_err-count.ensures.past, length-map c.args.parts.now g.T.Part.seen)))

pub returns-in_err-init_struct_list-clause-cause : goal.returns-in_err-init_struct_list-clause-cause
returns-in_err-init_struct_list-clause-cause g c =
    let p = err_from_is_err_and c.from_residual-in_err-init_struct_list.result c.from_residual-in_err-init_struct_list.ensures.1 in
    rw (p.1, p.2) (room_part_refused _ _ c.in_err-init_struct_list.ensures.cause
    (long_list g.T.Part.seen c.args.parts.now c.in_ok-count.count c.size.result g.T.Part.data_words g.T.Part.pointers c.in_ok-count.ensures.is c.size.ensures.data_words c.size.ensures.pointers))

pub returns-clause-frame : goal.returns-clause-frame
returns-clause-frame g c = on_ok c.fill_list.result (λ h. pointer_after c.in_ok-init_struct_list.ensures.changes h) c.fill_list.ensures.frame
