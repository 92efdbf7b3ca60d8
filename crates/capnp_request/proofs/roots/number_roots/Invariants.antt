-- What is left are the nodes of the queue from the next one on.
use Rattle.std.proofs.Common.{ℕ, List, [], ◌≡◌, ◌-◌, drop, length}
use Rattle.capnp_request.specs.Steps.Done.{between}
use Rattle.capnp_request.specs.Steps.Met.{AreMet}
use Rattle.capnp_request.specs.Steps.Nodes.{nodes_of}
use Rattle.capnp_request.specs.Steps.Numbers.{AreNumbered}
use Rattle.capnp_request.specs.Order.{name_roots, new_ids}
use Rattle.capnp_request.proofs.roots.number_roots.Given as goal

abbrev pub invariant-loop-position : goal.invariant-loop-position
invariant-loop-position l = (met : List ℕ) × AreMet l.met met × AreNumbered l.entries
    × (name_roots (nodes_of l.context.nodes.now) l.context.strict (length (nodes_of l.context.nodes.now) - l.position) met (drop l.position l.queue.items) (between l.entries)
    ≡ name_roots (nodes_of l.context.nodes.now) l.context.strict (length (nodes_of l.context.nodes.now)) (new_ids (nodes_of l.context.nodes.now) l.files.items []) (new_ids (nodes_of l.context.nodes.now) l.files.items []) (between l.fn.entries))
