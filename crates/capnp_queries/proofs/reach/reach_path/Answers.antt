-- The root is refused, or a step from it, or the walk leads to what stands at the path.
use Rattle.std.proofs.Common.{ap, refl, sym, ◌∙◌}
use Rattle.capnp_schema.specs.StructHandles.{number_of, set_of}
use Rattle.capnp_call.specs.Seen.{path_seen}
use Rattle.capnp_patch.specs.Gets.{path_read, value_part_seen}
use Rattle.capnp_queries.proofs.Reaching.{no_root_at}
use Rattle.capnp_queries.proofs.reach.reach_path.Goals as goal

pub returns-in-Err-clause-reached : goal.returns-in-Err-clause-reached
returns-in-Err-clause-reached c = rw c.refuse_root.ensures (no_root_at (set_of c.args.schema) (number_of c.args.schema) (path_seen c.args.path.now) c.args.bytes.now c.in-Err.kind (sym c.in-Err.ensures.read))

pub returns-in-Ok-walk_path-clause-reached : goal.returns-in-Ok-walk_path-clause-reached
returns-in-Ok-walk_path-clause-reached c =
    c.in-Ok-walk_path.ensures.read (set_of c.args.schema) c.in-Ok.ensures.typed ∙ ap (path_read (set_of c.args.schema) (path_seen c.args.path.now)) c.in-Ok.ensures.read

pub returns-in-Ok-walk_path-clause-typed : goal.returns-in-Ok-walk_path-clause-typed
returns-in-Ok-walk_path-clause-typed c = c.in-Ok-walk_path.ensures.typed (set_of c.args.schema) c.in-Ok.ensures.typed

pub returns-in-Err-walk_path-clause-reached : goal.returns-in-Err-walk_path-clause-reached
returns-in-Err-walk_path-clause-reached c =
    c.in-Err-walk_path.ensures.read (set_of c.args.schema) c.in-Ok.ensures.typed ∙ ap (path_read (set_of c.args.schema) (path_seen c.args.path.now)) c.in-Ok.ensures.read

pub returns-in-Err-walk_path-clause-place : goal.returns-in-Err-walk_path-clause-place
returns-in-Err-walk_path-clause-place c = (value_part_seen c.in-Ok.value, sym c.in-Ok.ensures.read, refl, c.in-Err-walk_path.ensures.step (set_of c.args.schema) c.in-Ok.ensures.typed)
