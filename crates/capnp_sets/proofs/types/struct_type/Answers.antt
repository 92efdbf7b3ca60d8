-- A struct type is its brand's number applied to the brand's node, and only the node can be refused.
use Rattle.std.proofs.Common.{ap, refl, sym, ◌∙◌, Ok}
use Rattle.std.proofs.lemmas.Result.{err_from_is_err_and}
use Rattle.capnp_base.specs.declared.introspect.«Type».{«Type» as TypeHandle}
use Rattle.capnp_schema.specs.Types.{seen_type}
use Rattle.capnp_sets.proofs.AppliedReads.{cause_right, made}
use Rattle.capnp_sets.proofs.types.struct_type.Goals as goal

pub returns-in_err-generic-clause-refused : goal.returns-in_err-generic-clause-refused
returns-in_err-generic-clause-refused c = let p = err_from_is_err_and c.from_residual.result c.from_residual.ensures.1 in rw (p.1, p.2) (cause_right _ _ _ c.in_err-generic.ensures.refused)

pub returns-clause-read : goal.returns-clause-read
returns-clause-read c = made refl c.in_ok-generic.ensures.read ∙ ap (λ (t : TypeHandle). Ok (seen_type t)) (sym c.from.ensures)
