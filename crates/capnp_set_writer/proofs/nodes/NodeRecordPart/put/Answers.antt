-- What refuses a part of a node refuses the node.
use Rattle.std.proofs.lemmas.Result.{err_from_is_err_and}
use Rattle.capnp_schema.specs.Schema.{seen_node}
use Rattle.capnp_set_writer.specs.Limits.{NodeHasForm, NodeHasKinds}
use Rattle.capnp_arena.specs.Facts.Places.{then}
use Rattle.capnp_arena.specs.Facts.Frames.{struct_after}
use Rattle.capnp_set_writer.proofs.Trees.{if_err, on_ok, refused_up}
use Rattle.capnp_set_writer.proofs.nodes.NodeRecordPart.put.Goals as goal

pub returns-in_err-put_name-clause-cause : goal.returns-in_err-put_name-clause-cause
returns-in_err-put_name-clause-cause c =
    let p = err_from_is_err_and c.from_residual.result c.from_residual.ensures.1 in
    rw (p.1, p.2) (refused_up _ (rw c.as_str.ensures.value at c.in_err-put_name.ensures.cause) (λ k. tt) (λ (f : NodeHasForm (seen_node c.args.self.now)). f.name))

pub returns-in_err-put_parts-clause-cause : goal.returns-in_err-put_parts-clause-cause
returns-in_err-put_parts-clause-cause c =
    let p = err_from_is_err_and c.from_residual-in_err-put_parts.result c.from_residual-in_err-put_parts.ensures.1 in
    rw (p.1, p.2) (refused_up _ (rw c.as_slice.ensures.value at c.in_err-put_parts.ensures.cause)
    (λ (k : NodeHasKinds (seen_node c.args.self.now)). k.annotations) (λ (f : NodeHasForm (seen_node c.args.self.now)). f.annotations))

pub returns-clause-cause : goal.returns-clause-cause
returns-clause-cause c = if_err c.put_parts-2.result
    (λ e h. refused_up e.kind h (λ (k : NodeHasKinds (seen_node c.args.self.now)). k.fields) (λ (f : NodeHasForm (seen_node c.args.self.now)). f.fields))
    (rw c.as_slice-2.ensures.value at c.put_parts-2.ensures.cause)

-- one call after another

pub returns-clause-frame : goal.returns-clause-frame
returns-clause-frame c = on_ok c.put_parts-2.result (λ h. struct_after (then (then c.put_sections.ensures.frame.changes c.in_ok-put_name.ensures.frame.changes) c.in_ok-put_parts.ensures.frame.changes) h) c.put_parts-2.ensures.frame
