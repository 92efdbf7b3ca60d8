-- Layers of two kinds differ by the other kind. Of one kind, which is no list, only enums can differ, by fewer enumerants.
use Rattle.std.proofs.Common.{ap, ◌∙◌, Some, sym}
use Rattle.capnp_schema.specs.Entries.{lists_seen}
use Rattle.capnp_differences.specs.declared.differences.Cause.{Cause}
use Rattle.capnp_differences.proofs.LayerKinds.{one_kind, other_kinds}
use Rattle.capnp_differences.proofs.types.layer_change.Goals as goal

pub returns-then-kind : goal.returns-then-kind
returns-then-kind c = ap (λ (x : Cause). Some x) c.other_kind.ensures ∙ other_kinds c.args.became (lists_seen c.args.schemas.now) c.args.older c.args.newer (λ e. c.if-kind.true (c.kind.ensures ∙ (e ∙ sym c.kind-2.ensures)))

pub returns-in_default : goal.returns-in_default
returns-in_default c = one_kind c.args.became (lists_seen c.args.schemas.now) c.args.older c.args.newer (sym c.kind.ensures ∙ (c.if-kind.false ∙ c.kind-2.ensures)) c.requires c.in_default.not-Enum
