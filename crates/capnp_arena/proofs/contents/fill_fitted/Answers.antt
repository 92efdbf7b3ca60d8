-- The loop keeps that the pointers before `i` are filled and the rest spared; each pointer is one tree of the fitted row.
use Rattle.std.proofs.Common.{arith, ◌≡◌, sym, subst, ◌∙◌}
use Rattle.std.proofs.lemmas.Result.{err_from_is_err_and}
use Rattle.capnp_wire.specs.Facts.Parts.{IsWellFormed_nth_tree}
use Rattle.capnp_wire.specs.Found.{pointer_tree, pointer_trees}
use Rattle.capnp_wire.specs.Tree.{nth_tree}
use Rattle.capnp_wire.specs.WellFormed.{IsWellFormed}
use Rattle.capnp_arena.specs.Steps.Copies.{Spares, fitted_row}
use Rattle.capnp_arena.proofs.Copying.{pointer_kept, pointer_next, pointer_refused, row_begins, row_filled, row_sound}
use Rattle.capnp_arena.proofs.Replaced.{fitted_count, fitted_held, fitted_nth}
use Rattle.capnp_arena.proofs.contents.fill_fitted.Goals as goal

pub loop-i-init : goal.loop-i-init
loop-i-init c = row_begins _ _ _

pub fill_pointer-requires-clause-held : goal.fill_pointer-requires-clause-held
fill_pointer-requires-clause-held c = subst IsWellFormed (sym c.get_pointer.ensures) (IsWellFormed_nth_tree (pointer_trees c.args.pointers) c.loop-i.i c.requires.held)

pub fill_pointer-requires-clause-inside : goal.fill_pointer-requires-clause-inside
fill_pointer-requires-clause-inside c = omega (arith, c.loop-i-test.true, c.requires.inside, c.loop-i.invariant.kept.longer)

pub loop-i-preserved : goal.loop-i-preserved
loop-i-preserved c =
    let ts = fitted_row c.args.count (pointer_trees c.args.pointers) in
    let n = fitted_count c.args.count (pointer_trees c.args.pointers) in
    let is : pointer_tree c.get_pointer.result ≡ nth_tree (fitted_row c.args.count (pointer_trees c.args.pointers)) c.loop-i.i = c.get_pointer.ensures ∙ sym (fitted_nth c.args.count c.loop-i.i (pointer_trees c.args.pointers) c.loop-i-test.true) in
    pointer_next _ _ (fitted_row c.args.count (pointer_trees c.args.pointers)) _ _ c.loop-i.invariant _ (omega (arith, c.loop-i-test.true, n)) is _ c.loop-i.arena.whole (omega (arith, n, c.requires.inside, c.loop-i.invariant.kept.longer)) (fitted_held c.args.count (pointer_trees c.args.pointers) c.requires.held) c.in_ok-fill_pointer.ensures.sound c.in_ok-fill_pointer.ensures.copy c.in_ok-fill_pointer.ensures.kept

pub returns-in_err-fill_pointer-clause-cause : goal.returns-in_err-fill_pointer-clause-cause
returns-in_err-fill_pointer-clause-cause c =
    let n = fitted_count c.args.count (pointer_trees c.args.pointers) in
    let is : pointer_tree c.get_pointer.result ≡ nth_tree (fitted_row c.args.count (pointer_trees c.args.pointers)) c.loop-i.i = c.get_pointer.ensures ∙ sym (fitted_nth c.args.count c.loop-i.i (pointer_trees c.args.pointers) c.loop-i-test.true) in
    let p = err_from_is_err_and c.from_residual.result c.from_residual.ensures.1 in
    rw (p.1, p.2) (pointer_refused _ _ (fitted_row c.args.count (pointer_trees c.args.pointers)) _ _ c.loop-i.invariant _ (omega (arith, c.loop-i-test.true, n)) is _ c.in_err-fill_pointer.ensures.cause)

pub returns-in_err-fill_pointer-clause-kept : goal.returns-in_err-fill_pointer-clause-kept
returns-in_err-fill_pointer-clause-kept c =
    let n = fitted_count c.args.count (pointer_trees c.args.pointers) in
    let is : pointer_tree c.get_pointer.result ≡ nth_tree (fitted_row c.args.count (pointer_trees c.args.pointers)) c.loop-i.i = c.get_pointer.ensures ∙ sym (fitted_nth c.args.count c.loop-i.i (pointer_trees c.args.pointers) c.loop-i-test.true) in
    subst (λ k. Spares c.args.at k c.args.arena.now.bytes.items c.fill_pointer.new.arena.bytes.items) n (pointer_kept _ _ (fitted_row c.args.count (pointer_trees c.args.pointers)) _ _ c.loop-i.invariant _ (omega (arith, c.loop-i-test.true, n)) is _ c.fill_pointer.ensures.kept)

pub returns-clause-copy : goal.returns-clause-copy
returns-clause-copy c = row_filled _ _ _ _ _ c.loop-i.invariant (omega (arith, c.loop-i-test.false, fitted_count c.args.count (pointer_trees c.args.pointers)))

pub returns-clause-sound : goal.returns-clause-sound
returns-clause-sound c = row_sound _ _ _ _ _ c.loop-i.invariant (omega (arith, c.loop-i-test.false, fitted_count c.args.count (pointer_trees c.args.pointers)))

pub returns-clause-kept : goal.returns-clause-kept
returns-clause-kept c = subst (λ k. Spares c.args.at k c.args.arena.now.bytes.items c.loop-i.arena.bytes.items) (fitted_count c.args.count (pointer_trees c.args.pointers)) c.loop-i.invariant.kept
