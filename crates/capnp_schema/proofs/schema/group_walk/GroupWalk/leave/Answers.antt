-- What stands above a group is behind its field.
use Rattle.std.proofs.Common.{ℕ, ◌+◌, ◌-◌, ◌∷◌, ◌∙◌, ap, arith, sym}
use Rattle.capnp_schema.specs.Facts.GroupWalks.{frames_group, frames_outside, frames_start}
use Rattle.capnp_schema.specs.GroupWalks.{walk_brand, walk_depth, walk_set, frames_above}
use Rattle.capnp_schema.specs.Schema.{Schemas}
use Rattle.capnp_schema.specs.StructHandles.{number_of}
use Rattle.capnp_schema.proofs.schema.group_walk.GroupWalk.leave.Goals as goal

pub returns-then-self-eq0-clause-frames : goal.returns-then-self-eq0-clause-frames
returns-then-self-eq0-clause-frames c = frames_start (walk_set c.args.self) (walk_depth c.args.self) (walk_brand c.args.self) c.if-self-eq0.true

pub returns-in_default-clause-frames : goal.returns-in_default-clause-frames
returns-in_default-clause-frames c = frames_outside (walk_set c.args.self) (walk_depth c.args.self) (walk_brand c.args.self) (sym c.in_default.ensures.is)

pub returns-clause-frames : goal.returns-clause-frames
returns-clause-frames c =
    ap (λ (z : Schemas). (number_of c.struct_schema.result, c.in-Some.index + 1) ∷ frames_above z (walk_depth c.args.self - 1) (number_of c.struct_schema.result)) c.struct_schema.ensures.set
    ∙ (ap (λ (b : ℕ). (b, c.in-Some.index + 1) ∷ frames_above (walk_set c.args.self) (walk_depth c.args.self - 1) b) c.struct_schema.ensures.number
    ∙ sym (frames_group (walk_set c.args.self) (walk_depth c.args.self - 1) (walk_depth c.args.self) (walk_brand c.args.self) c.in-Some.brand c.in-Some.index (omega arith) (sym c.in-Some.ensures.is)))
