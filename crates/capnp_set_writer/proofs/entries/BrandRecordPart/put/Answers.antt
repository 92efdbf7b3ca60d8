-- What each part of a brand keeps.
use Rattle.std.proofs.Common.{arith}
use Rattle.std.proofs.lemmas.Result.{err_from_is_err_and}
use Rattle.capnp_schema.specs.Schema.{seen_brand}
use Rattle.capnp_set_writer.specs.Limits.{BrandFits}
use Rattle.capnp_arena.specs.Facts.Places.{then}
use Rattle.capnp_arena.specs.Facts.Frames.{struct_after}
use Rattle.capnp_set_writer.proofs.Trees.{if_err, on_ok, refused_up}
use Rattle.capnp_set_writer.proofs.entries.BrandRecordPart.put.Goals as goal

pub returns-clause-kept : goal.returns-clause-kept
returns-clause-kept c = on_ok c.put_type_lists.result
    (λ children. record {
      node = omega arith;
      field_types = rw c.as_slice.ensures.value at c.in_ok-put_parts.ensures.kept;
      own = rw c.as_slice-2.ensures.value at c.in_ok-put_parts-2.ensures.kept;
      children = rw c.as_slice-3.ensures.value at children;
    })
    c.put_type_lists.ensures.kept

-- what refuses a part of a brand refuses the brand

pub returns-in_err-put_parts-clause-cause : goal.returns-in_err-put_parts-clause-cause
returns-in_err-put_parts-clause-cause c =
    let p = err_from_is_err_and c.from_residual.result c.from_residual.ensures.1 in
    rw (p.1, p.2) (refused_up _ (rw c.as_slice.ensures.value at c.in_err-put_parts.ensures.cause) (λ k i d a. tt) (λ (f : BrandFits (seen_brand c.args.self.now)). f.field_types))

pub returns-in_err-put_parts-2-clause-cause : goal.returns-in_err-put_parts-2-clause-cause
returns-in_err-put_parts-2-clause-cause c =
    let p = err_from_is_err_and c.from_residual-in_err-put_parts-2.result c.from_residual-in_err-put_parts-2.ensures.1 in
    rw (p.1, p.2) (refused_up _ (rw c.as_slice-2.ensures.value at c.in_err-put_parts-2.ensures.cause) (λ k i d a. tt) (λ (f : BrandFits (seen_brand c.args.self.now)). f.own))

pub returns-clause-cause : goal.returns-clause-cause
returns-clause-cause c = if_err c.put_type_lists.result
    (λ e h. refused_up e.kind h (λ k. tt) (λ (f : BrandFits (seen_brand c.args.self.now)). f.children))
    (rw c.as_slice-3.ensures.value at c.put_type_lists.ensures.cause)

-- one call after another

pub returns-clause-frame : goal.returns-clause-frame
returns-clause-frame c = on_ok c.put_type_lists.result (λ h. struct_after (then (then c.set_number.ensures.changes c.in_ok-put_parts.ensures.frame.changes) c.in_ok-put_parts-2.ensures.frame.changes) h) c.put_type_lists.ensures.frame
