-- What refuses a part of an enumerant refuses the enumerant.
use Rattle.std.proofs.lemmas.Result.{err_from_is_err_and}
use Rattle.capnp_schema.specs.Schema.{seen_enumerant}
use Rattle.capnp_set_writer.specs.Limits.{EnumerantFits, EnumerantHasKinds}
use Rattle.capnp_arena.specs.Facts.Frames.{struct_after}
use Rattle.capnp_set_writer.proofs.Trees.{if_err, on_ok, refused_up}
use Rattle.capnp_set_writer.proofs.entries.EnumerantRecordPart.put.Goals as goal

pub returns-in_err-put_name-clause-cause : goal.returns-in_err-put_name-clause-cause
returns-in_err-put_name-clause-cause c =
    let p = err_from_is_err_and c.from_residual.result c.from_residual.ensures.1 in
    rw (p.1, p.2) (refused_up _ (rw c.as_str.ensures.value at c.in_err-put_name.ensures.cause) (λ k. tt) (λ (f : EnumerantFits (seen_enumerant c.args.self.now)). f.name))

pub returns-clause-cause : goal.returns-clause-cause
returns-clause-cause c = if_err c.put_parts.result
    (λ e h. refused_up e.kind h (λ (k : EnumerantHasKinds (seen_enumerant c.args.self.now)). k) (λ (f : EnumerantFits (seen_enumerant c.args.self.now)). f.annotations))
    (rw c.as_slice.ensures.value at c.put_parts.ensures.cause)

-- one call after another

pub returns-clause-frame : goal.returns-clause-frame
returns-clause-frame c = on_ok c.put_parts.result (λ h. struct_after c.in_ok-put_name.ensures.frame.changes h) c.put_parts.ensures.frame
