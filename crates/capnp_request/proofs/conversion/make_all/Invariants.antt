-- What is left of the definition's steps.
use Rattle.std.proofs.Common.{List, ◌≡◌, ◌+◌, suc, length}
use Rattle.capnp_request.specs.Steps.Done.{between}
use Rattle.capnp_request.specs.Names.{Holder}
use Rattle.capnp_request.specs.Steps.NamesMade.{AreHolders}
use Rattle.capnp_request.specs.Steps.Nodes.{nodes_of}
use Rattle.capnp_request.specs.Steps.Numbers.{AreNumbered}
use Rattle.capnp_request.specs.Order.{make_all, nothing_made}
use Rattle.capnp_request.specs.Steps.ProgressSeen.{made_of}
use Rattle.capnp_request.specs.Shapes.{AreBrandsOf}
use Rattle.capnp_request.proofs.conversion.make_all.Given as goal

abbrev pub invariant-loop-steps : goal.invariant-loop-steps
invariant-loop-steps l = AreNumbered l.entries × AreBrandsOf l.progress.made.nodes.items l.progress.made.brands.items
    × ((hs : List Holder) × AreHolders l.progress.names hs
    × (make_all (nodes_of l.context.nodes.now) l.context.strict l.steps (made_of l.progress hs) (between l.entries)
    ≡ make_all (nodes_of l.context.nodes.now) l.context.strict (65536 + suc (length (nodes_of l.context.nodes.now))) nothing_made (between l.fn.entries)))

abbrev pub decreases-loop-steps : goal.decreases-loop-steps
decreases-loop-steps l = l.steps
