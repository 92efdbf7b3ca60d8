use Rattle.std.proofs.Common.{ap, sym, ◌∙◌}
use Rattle.capnp_request.proofs.TypesSeen.{is_any, not_any, untyped_is}
use Rattle.capnp_request.proofs.scopes.is_untyped.Goals as goal

pub returns-in-AnyPointer : goal.returns-in-AnyPointer
returns-in-AnyPointer c = ap is_any (sym c.in-AnyPointer.is) ∙ (ap is_any c.which.ensures ∙ sym (untyped_is c.args.t.standing))

pub returns-in_default : goal.returns-in_default
returns-in_default c = sym (not_any c.which.result c.in_default.not-AnyPointer) ∙ (ap is_any c.which.ensures ∙ sym (untyped_is c.args.t.standing))
