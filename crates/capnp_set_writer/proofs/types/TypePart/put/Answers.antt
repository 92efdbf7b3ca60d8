-- The three numbers of a type are written one after another.
use Rattle.std.proofs.Common.{arith}
use Rattle.std.proofs.lemmas.Result.{err_from_is_err_and}
use Rattle.capnp_arena.specs.Facts.Places.{then}
use Rattle.capnp_set_writer.proofs.Layers.{type_kept, type_written}
use Rattle.capnp_set_writer.proofs.Trees.{size_refused}
use Rattle.capnp_set_writer.proofs.types.TypePart.put.Goals as goal

pub returns-clause-written : goal.returns-clause-written
returns-clause-written c =
    type_written c.args.self.now c.innermost-inner.result c.innermost-inner.ensures _ _ _ _ _ _ _ c.base_number.ensures c.in_ok-lists.ensures.count c.named_number.ensures.is
    c.requires.is c.set_number.ensures.tree c.set_number-2.ensures.tree c.set_number-3.ensures.tree

pub returns-clause-frame : goal.returns-clause-frame
returns-clause-frame c = record { planted = c.set_number-3.ensures.planted; changes = then (then c.set_number.ensures.changes c.set_number-2.ensures.changes) c.set_number-3.ensures.changes }

pub returns-clause-kept : goal.returns-clause-kept
returns-clause-kept c = type_kept c.args.self.now c.innermost-inner.result c.innermost-inner.ensures c.in_ok-lists.ensures.few c.named_number.ensures.bound

pub returns-in_err-lists-clause-cause : goal.returns-in_err-lists-clause-cause
returns-in_err-lists-clause-cause c =
    let p = err_from_is_err_and c.from_residual.result c.from_residual.ensures.1 in
    rw (p.1, p.2) (size_refused _ c.in_err-lists.ensures.refused (λ f. omega (arith, f, c.in_err-lists.ensures.past)))
