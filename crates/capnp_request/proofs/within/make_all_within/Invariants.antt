-- What is left of the definition's steps, what those so far made, and what is left of the bytes.
use Rattle.std.proofs.Common.{ℕ, List, ◌≡◌, ◌+◌, suc, length}
use Rattle.capnp_request.specs.Steps.Done.{between}
use Rattle.capnp_request.specs.Names.{Holder}
use Rattle.capnp_request.specs.Steps.NamesMade.{AreHolders}
use Rattle.capnp_request.specs.Steps.Nodes.{nodes_of}
use Rattle.capnp_request.specs.Steps.Numbers.{AreNumbered}
use Rattle.capnp_request.specs.Order.{make_all, nothing_made}
use Rattle.capnp_request.specs.Steps.ProgressSeen.{made_of}
use Rattle.capnp_request.specs.Steps.Sizes.{made_bytes}
use Rattle.capnp_request.specs.Shapes.{AreBrandsOf}
use Rattle.capnp_request.specs.Within.{made_in}
use Rattle.capnp_request.proofs.within.make_all_within.Given as goal

abbrev pub invariant-loop-steps : goal.invariant-loop-steps
invariant-loop-steps l = AreNumbered l.entries × AreBrandsOf l.progress.made.nodes.items l.progress.made.brands.items × (l.left + made_bytes l.progress.made ≡ l.limit)
    × ((hs : List Holder) × AreHolders l.progress.names hs
    × (make_all (nodes_of l.context.nodes.now) l.context.strict l.steps (made_of l.progress hs) (between l.entries)
    ≡ make_all (nodes_of l.context.nodes.now) l.context.strict (65536 + suc (length (nodes_of l.context.nodes.now))) nothing_made (between l.fn.entries))
    × ((taken : ℕ) × ((k : ℕ) → made_in (nodes_of l.context.nodes.now) l.context.strict (k + taken) nothing_made (between l.fn.entries)
    ≡ made_in (nodes_of l.context.nodes.now) l.context.strict k (made_of l.progress hs) (between l.entries))))

abbrev pub decreases-loop-steps : goal.decreases-loop-steps
decreases-loop-steps l = l.steps
