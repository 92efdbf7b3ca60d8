-- The listing from the root is that of the message.
use Rattle.std.proofs.Common.{[], ap, subst}
use Rattle.capnp_call.specs.Seen.{path_seen}
use Rattle.capnp_schema.specs.StructHandles.{set_of}
use Rattle.capnp_queries.specs.Patterns.{Listing, root_listing}
use Rattle.capnp_queries.specs.PatternsSeen.{IsListed}
use Rattle.capnp_queries.proofs.patterns.list_paths.Goals as goal

pub returns-in-Ok : goal.returns-in-Ok
returns-in-Ok c =
    let set = set_of c.args.schema in
    let h = c.list_from.ensures set c.in-Ok.ensures.typed in
    let g = rw c.new.ensures.items at h in
    let k = rw c.new-in-Ok.ensures.items at g in
    record { listed = subst (λ (l : Listing). IsListed c.args.most [] set l c.list_from.result) (ap (root_listing set (path_seen c.args.pattern.now)) c.in-Ok.ensures.read) k }
