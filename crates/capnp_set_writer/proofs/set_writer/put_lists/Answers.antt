-- What refuses a list of a set refuses the set.
use Rattle.std.proofs.lemmas.Result.{err_from_is_err_and}
use Rattle.capnp_schema.specs.Entries.{lists_seen}
use Rattle.capnp_set_writer.specs.Limits.{SetFits, SetHasKinds}
use Rattle.capnp_arena.specs.Facts.Places.{then}
use Rattle.capnp_arena.specs.Facts.Frames.{struct_after}
use Rattle.capnp_set_writer.proofs.Trees.{if_err, on_ok, refused_up}
use Rattle.capnp_set_writer.proofs.set_writer.put_lists.Goals as goal

pub returns-in_err-put_parts-clause-cause : goal.returns-in_err-put_parts-clause-cause
returns-in_err-put_parts-clause-cause c =
    let p = err_from_is_err_and c.from_residual.result c.from_residual.ensures.1 in
    rw (p.1, p.2) (refused_up _ (rw c.nodes.ensures.is at c.in_err-put_parts.ensures.cause)
    (λ (k : SetHasKinds (lists_seen c.args.schemas.now)). k.nodes) (λ (f : SetFits (lists_seen c.args.schemas.now)). f.nodes))

pub returns-in_err-put_parts-2-clause-cause : goal.returns-in_err-put_parts-2-clause-cause
returns-in_err-put_parts-2-clause-cause c =
    let p = err_from_is_err_and c.from_residual-in_err-put_parts-2.result c.from_residual-in_err-put_parts-2.ensures.1 in
    rw (p.1, p.2) (refused_up _ (rw c.brands.ensures at c.in_err-put_parts-2.ensures.cause) (λ k i d a. tt) (λ (f : SetFits (lists_seen c.args.schemas.now)). f.brands))

pub returns-clause-cause : goal.returns-clause-cause
returns-clause-cause c = if_err c.put_parts-3.result
    (λ e h. refused_up e.kind h (λ (k : SetHasKinds (lists_seen c.args.schemas.now)). k.enums) (λ (f : SetFits (lists_seen c.args.schemas.now)). f.enums))
    (rw c.enums.ensures at c.put_parts-3.ensures.cause)

-- one call after another

pub returns-clause-frame : goal.returns-clause-frame
returns-clause-frame c = on_ok c.put_parts-3.result (λ h. struct_after (then c.in_ok-put_parts.ensures.frame.changes c.in_ok-put_parts-2.ensures.frame.changes) h) c.put_parts-3.ensures.frame
