-- Naming the ids of the queue from this position on is naming the files.
-- The id here names its struct, and new ones nested in its node go to the end.
use Rattle.std.proofs.Common.{ℕ, ◌≡◌, ◌<◌, ◌+◌, ◌-◌, ◌∙◌, ◌++◌, [], List, ap, arith, drop, length, rules, slice_get, sym, None, Some, Err}
use Rattle.std.proofs.lemmas.List.{append-nil}
use Rattle.std.proofs.lemmas.Result.{err_from_is_err_and}
use Rattle.capnp_device.specs.declared.error.ErrorKind.{ErrorKind}
use Rattle.capnp_request.specs.Steps.Seen.{record_seen}
use Rattle.capnp_request.specs.Steps.Done.{between}
use Rattle.capnp_request.specs.Steps.Met.{AreMet}
use Rattle.capnp_request.specs.Steps.Nodes.{nodes_of}
use Rattle.capnp_request.specs.Order.{name_roots, new_ids}
use Rattle.capnp_request.specs.Reading.{node_said}
use Rattle.capnp_request.specs.Scopes.{is_met}
use Rattle.capnp_request.proofs.RootsNamed.{at_id, behind_id, files_opened, files_refused, nested_in, nested_refused, none_met, queue_over, root_missing, root_named, root_refused, roots_begun, steps_over}
use Rattle.capnp_request.proofs.roots.number_roots.Goals as goal

pub returns-in_err-files-clause-done : goal.returns-in_err-files-clause-done
returns-in_err-files-clause-done c =
    let p = err_from_is_err_and c.from_residual.result c.from_residual.ensures.1 in
    rw (p.1, p.2) (λ is. files_refused (nodes_of c.args.context.nodes.now) c.args.context.strict _ (between c.args.entries.now) _ (c.in_err-files.ensures.said is))

pub returns-in_err-node-clause-done : goal.returns-in_err-node-clause-done
returns-in_err-node-clause-done c =
    let inv = c.loop-position.invariant in
    let inside : c.loop-position.position < length (nodes_of c.args.context.nodes.now) = omega arith in
    let here : slice_get c.loop-position.queue.items c.loop-position.position ≡ Some c.in-Some.id = ap (λ (xs : List ℕ). slice_get xs c.loop-position.position) (sym c.as_slice-waiting.ensures.value) ∙ (sym c.queued.ensures ∙ c.in-Some.is) in
    let p = err_from_is_err_and c.from_residual-in_err-node.result c.from_residual-in_err-node.ensures.1 in
    rw (p.1, p.2) (λ is. files_opened (nodes_of c.args.context.nodes.now) c.args.context.strict _ (between c.args.entries.now) c.in_ok-files.files.items c.in_ok-files.ensures.said ∙ (sym inv.3 ∙ (at_id (nodes_of c.args.context.nodes.now) c.args.context.strict (length (nodes_of c.args.context.nodes.now)) c.loop-position.position inv.0 c.loop-position.queue.items c.in-Some.id (between c.loop-position.entries) inside here ∙ (root_missing (nodes_of c.args.context.nodes.now) c.args.context.strict (length (nodes_of c.args.context.nodes.now) - (c.loop-position.position + 1)) inv.0 c.in-Some.id (drop (c.loop-position.position + 1) c.loop-position.queue.items) (between c.loop-position.entries) c.in_err-node.ensures.missing ∙ ap (λ (x : ErrorKind). Err x) (sym c.in_err-node.ensures.kinds)))))

pub returns-in_err-nested-clause-done : goal.returns-in_err-nested-clause-done
returns-in_err-nested-clause-done c =
    let inv = c.loop-position.invariant in
    let inside : c.loop-position.position < length (nodes_of c.args.context.nodes.now) = omega arith in
    let here : slice_get c.loop-position.queue.items c.loop-position.position ≡ Some c.in-Some.id = ap (λ (xs : List ℕ). slice_get xs c.loop-position.position) (sym c.as_slice-waiting.ensures.value) ∙ (sym c.queued.ensures ∙ c.in-Some.is) in
    let p = err_from_is_err_and c.from_residual-in_err-nested.result c.from_residual-in_err-nested.ensures.1 in
    rw (p.1, p.2) (λ is. files_opened (nodes_of c.args.context.nodes.now) c.args.context.strict _ (between c.args.entries.now) c.in_ok-files.files.items c.in_ok-files.ensures.said ∙ (sym inv.3 ∙ (at_id (nodes_of c.args.context.nodes.now) c.args.context.strict (length (nodes_of c.args.context.nodes.now)) c.loop-position.position inv.0 c.loop-position.queue.items c.in-Some.id (between c.loop-position.entries) inside here ∙ nested_refused (nodes_of c.args.context.nodes.now) c.args.context.strict (length (nodes_of c.args.context.nodes.now) - (c.loop-position.position + 1)) inv.0 c.in-Some.id (drop (c.loop-position.position + 1) c.loop-position.queue.items) (between c.loop-position.entries) (node_said (record_seen c.in_ok-node.node)) c.in_ok-node.ensures.read _ (nested_in (record_seen c.in_ok-node.node) ∙ c.in_err-nested.ensures.said is))))

pub returns-in_err-number_root-clause-done : goal.returns-in_err-number_root-clause-done
returns-in_err-number_root-clause-done c =
    let inv = c.loop-position.invariant in
    let inside : c.loop-position.position < length (nodes_of c.args.context.nodes.now) = omega arith in
    let here : slice_get c.loop-position.queue.items c.loop-position.position ≡ Some c.in-Some.id = ap (λ (xs : List ℕ). slice_get xs c.loop-position.position) (sym c.as_slice-waiting.ensures.value) ∙ (sym c.queued.ensures ∙ c.in-Some.is) in
    let p = err_from_is_err_and c.from_residual-in_err-number_root.result c.from_residual-in_err-number_root.ensures.1 in
    rw (p.1, p.2) (λ is. files_opened (nodes_of c.args.context.nodes.now) c.args.context.strict _ (between c.args.entries.now) c.in_ok-files.files.items c.in_ok-files.ensures.said ∙ (sym inv.3 ∙ (at_id (nodes_of c.args.context.nodes.now) c.args.context.strict (length (nodes_of c.args.context.nodes.now)) c.loop-position.position inv.0 c.loop-position.queue.items c.in-Some.id (between c.loop-position.entries) inside here ∙ root_refused (nodes_of c.args.context.nodes.now) c.args.context.strict (length (nodes_of c.args.context.nodes.now) - (c.loop-position.position + 1)) inv.0 c.in-Some.id (drop (c.loop-position.position + 1) c.loop-position.queue.items) (between c.loop-position.entries) (node_said (record_seen c.in_ok-node.node)) c.in_ok-node.ensures.read c.in_ok-nested.nested.items (nested_in (record_seen c.in_ok-node.node) ∙ c.in_ok-nested.ensures.said) _ (c.in_err-number_root.ensures.done is))))

pub loop-position-init : goal.loop-position-init
loop-position-init c =
    let none : AreMet c.new-met.result [] = none_met c.new-met.result c.new-met.ensures.empty in
    let no_ids : c.new-queue.result.items ≡ [] = search rules in
    let first : List ℕ = new_ids (nodes_of c.args.context.nodes.now) c.in_ok-files.files.items [] in
    let same : new_ids (nodes_of c.args.context.nodes.now) c.as_slice-listed.result.now [] ≡ first = ap (λ (xs : List ℕ). new_ids (nodes_of c.args.context.nodes.now) xs []) c.as_slice-listed.ensures.value in (
      first,
      λ id. c.in_ok-put_ids.ensures.met [] none id ∙ (ap (λ (xs : List ℕ). is_met (xs ++ []) id) same ∙ ap (λ (xs : List ℕ). is_met xs id) (append-nil first)),
      c.requires.numbers,
      roots_begun (nodes_of c.args.context.nodes.now) c.args.context.strict (between c.args.entries.now) _ c.new-queue.result.items first (c.in_ok-put_ids.ensures.queue [] none ∙ ap (λ (xs : List ℕ). c.new-queue.result.items ++ xs) same) no_ids,
    )

pub loop-position-preserved : goal.loop-position-preserved
loop-position-preserved c =
    let inv = c.loop-position.invariant in
    let inside : c.loop-position.position < length (nodes_of c.args.context.nodes.now) = omega arith in
    let here : slice_get c.loop-position.queue.items c.loop-position.position ≡ Some c.in-Some.id = ap (λ (xs : List ℕ). slice_get xs c.loop-position.position) (sym c.as_slice-waiting.ensures.value) ∙ (sym c.queued.ensures ∙ c.in-Some.is) in
    let more : List ℕ = new_ids (nodes_of c.args.context.nodes.now) c.in_ok-nested.nested.items inv.0 in
    let same : new_ids (nodes_of c.args.context.nodes.now) c.as_slice-inner.result.now inv.0 ≡ more = ap (λ (xs : List ℕ). new_ids (nodes_of c.args.context.nodes.now) xs inv.0) c.as_slice-inner.ensures.value in (
      more ++ inv.0,
      λ id. c.in_ok-put_ids-2.ensures.met inv.0 inv.1 id ∙ ap (λ (xs : List ℕ). is_met (xs ++ inv.0) id) same,
      c.in_ok-number_root.ensures.numbers,
      ap (λ (xs : List ℕ). name_roots (nodes_of c.args.context.nodes.now) c.args.context.strict (length (nodes_of c.args.context.nodes.now) - (c.loop-position.position + 1)) (more ++ inv.0) xs (between c.number_root.new.entries))
          (behind_id (nodes_of c.args.context.nodes.now) c.args.context.strict (length (nodes_of c.args.context.nodes.now)) c.loop-position.position inv.0 c.loop-position.queue.items c.in-Some.id (between c.loop-position.entries) inside here more _ (c.in_ok-put_ids-2.ensures.queue inv.0 inv.1 ∙ ap (λ (xs : List ℕ). c.loop-position.queue.items ++ xs) same))
          ∙ (sym (root_named (nodes_of c.args.context.nodes.now) c.args.context.strict (length (nodes_of c.args.context.nodes.now) - (c.loop-position.position + 1)) inv.0 c.in-Some.id (drop (c.loop-position.position + 1) c.loop-position.queue.items) (between c.loop-position.entries) (node_said (record_seen c.in_ok-node.node)) c.in_ok-node.ensures.read c.in_ok-nested.nested.items (nested_in (record_seen c.in_ok-node.node) ∙ c.in_ok-nested.ensures.said) (between c.number_root.new.entries) c.in_ok-number_root.ensures.done)
          ∙ (sym (at_id (nodes_of c.args.context.nodes.now) c.args.context.strict (length (nodes_of c.args.context.nodes.now)) c.loop-position.position inv.0 c.loop-position.queue.items c.in-Some.id (between c.loop-position.entries) inside here) ∙ inv.3)),
    )

pub returns-in_default-clause-done : goal.returns-in_default-clause-done
returns-in_default-clause-done c =
    let inv = c.loop-position.invariant in
    let none : slice_get c.loop-position.queue.items c.loop-position.position ≡ None = ap (λ (xs : List ℕ). slice_get xs c.loop-position.position) (sym c.as_slice-waiting.ensures.value) ∙ (sym c.queued.ensures ∙ c.in_default.is) in
    files_opened (nodes_of c.args.context.nodes.now) c.args.context.strict _ (between c.args.entries.now) c.in_ok-files.files.items c.in_ok-files.ensures.said
    ∙ (sym inv.3 ∙ queue_over (nodes_of c.args.context.nodes.now) c.args.context.strict (between c.loop-position.entries) (length (nodes_of c.args.context.nodes.now) - c.loop-position.position) c.loop-position.position inv.0 c.loop-position.queue.items none)

pub returns-clause-done : goal.returns-clause-done
returns-clause-done c =
    let inv = c.loop-position.invariant in
    let none : length (nodes_of c.args.context.nodes.now) - c.loop-position.position ≡ 0 = omega arith in
    files_opened (nodes_of c.args.context.nodes.now) c.args.context.strict _ (between c.args.entries.now) c.in_ok-files.files.items c.in_ok-files.ensures.said
    ∙ (sym inv.3 ∙ steps_over (nodes_of c.args.context.nodes.now) c.args.context.strict (between c.loop-position.entries) (length (nodes_of c.args.context.nodes.now) - c.loop-position.position) inv.0 (drop c.loop-position.position c.loop-position.queue.items) none)
