-- A default that is not copied is refused for itself.
use Rattle.std.proofs.Common.{sym}
use Rattle.capnp_arena.specs.Forest.{tree}
use Rattle.capnp_arena.specs.Segment.{segment}
use Rattle.capnp_builders.specs.Steps.Blobs.{as_blob}
use Rattle.capnp_builders.proofs.Taken.{refused_default}
use Rattle.capnp_builders.proofs.defaults.fill.Goals as goal

pub returns-in-Err-clause-cause : goal.returns-in-Err-clause-cause
returns-in-Err-clause-cause c =
    refused_default (as_blob c.args.is_text) (tree (segment c.args.arena.now) c.args.at) c.args.default c.in-Some.other c.in-Err.error (sym c.in-Some.ensures) c.in-Err.ensures.cause
