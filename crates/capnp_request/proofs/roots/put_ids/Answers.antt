-- The queue, before the new ones among the ids from this index on, is the whole queue.
-- An id is met after all where it is met now or among these.
use Rattle.std.proofs.Common.{◌<◌, ◌≤◌, ◌∙◌, ◌++◌, ◌∷◌, [], ap, arith, get_or, length, refl, sym}
use Rattle.std.proofs.lemmas.List.{append-nil}
use Rattle.capnp_request.specs.Steps.Nodes.{nodes_of}
use Rattle.capnp_request.specs.Order.{new_ids}
use Rattle.capnp_request.specs.Scopes.{is_met}
use Rattle.capnp_request.proofs.RootsNamed.{met_stays, none_new, put_more}
use Rattle.capnp_request.proofs.roots.put_ids.Goals as goal

pub loop-id-init : goal.loop-id-init
loop-id-init c = λ before h. (before, h, refl, λ id. refl)

pub loop-id-preserved : goal.loop-id-preserved
loop-id-preserved c = λ before h.
    let inv = c.loop-id.invariant before h in
    let inside : c.loop-id.id-index < length c.args.ids.now = omega arith in (
      new_ids (nodes_of c.args.nodes.now) (get_or c.args.ids.now c.loop-id.id-index 0 ∷ []) inv.0 ++ inv.0,
      c.in_ok-put_id.ensures.met inv.0 inv.1,
      put_more (nodes_of c.args.nodes.now) c.args.ids.now c.loop-id.id-index inv.0 _ _ _ inside inv.2 (c.in_ok-put_id.ensures.queue inv.0 inv.1),
      λ id. met_stays (nodes_of c.args.nodes.now) c.args.ids.now c.loop-id.id-index inv.0 id inside ∙ inv.3 id,
    )

pub returns-clause-queue : goal.returns-clause-queue
returns-clause-queue c = λ before h.
    let inv = c.loop-id.invariant before h in
    let past : length c.args.ids.now ≤ c.loop-id.id-index = omega arith in
    sym (append-nil c.loop-id.queue.items) ∙ (ap (λ xs. c.loop-id.queue.items ++ xs) (sym (none_new (nodes_of c.args.nodes.now) c.args.ids.now c.loop-id.id-index inv.0 past)) ∙ inv.2)

pub returns-clause-met : goal.returns-clause-met
returns-clause-met c = λ before h.
    let inv = c.loop-id.invariant before h in
    let past : length c.args.ids.now ≤ c.loop-id.id-index = omega arith in
    λ id. inv.1 id ∙ (ap (λ xs. is_met (xs ++ inv.0) id) (sym (none_new (nodes_of c.args.nodes.now) c.args.ids.now c.loop-id.id-index inv.0 past)) ∙ inv.3 id)
