-- The ids that were met: those of before, and the new ones so far.
use Rattle.std.proofs.Common.{ℕ, List, ◌≡◌, ◌++◌, drop}
use Rattle.capnp_request.specs.Steps.Met.{AreMet}
use Rattle.capnp_request.specs.Steps.Nodes.{nodes_of}
use Rattle.capnp_request.specs.Order.{new_ids}
use Rattle.capnp_request.specs.Scopes.{is_met}
use Rattle.capnp_request.proofs.roots.put_ids.Given as goal

abbrev pub invariant-loop-id : goal.invariant-loop-id
invariant-loop-id l = (before : List ℕ) → AreMet l.fn.met before → (ids : List ℕ) × AreMet l.met ids
    × (l.queue.items ++ new_ids (nodes_of l.nodes) (drop l.id-index l.ids) ids ≡ l.fn.queue.items ++ new_ids (nodes_of l.nodes) l.ids before)
    × ((id : ℕ) → is_met (new_ids (nodes_of l.nodes) (drop l.id-index l.ids) ids ++ ids) id ≡ is_met (new_ids (nodes_of l.nodes) l.ids before ++ before) id)
