-- Only the refusal is left: a name too long with the bindings of one scope of this part is too long with those of the rest.
use Rattle.std.proofs.Common.{◌∙◌, sym}
use Rattle.std.proofs.lemmas.Bool.{eq-eqb}
use Rattle.std.proofs.lemmas.Result.{err_from_is_err_and}
use Rattle.capnp_request.specs.Steps.NamesMade.{struct_names, texts}
use Rattle.capnp_request.proofs.NamesJoined.{scope_long}
use Rattle.capnp_request.proofs.names.append_part_bindings.Goals as goal

pub returns-in_err-append_bindings-clause-refused : goal.returns-in_err-append_bindings-clause-refused
returns-in_err-append_bindings-clause-refused c =
    let p = err_from_is_err_and c.from_residual.result c.from_residual.ensures.1 in
    rw (p.1, p.2) (scope_long (struct_names c.args.named.structs.now) (texts c.args.named.enums.now) c.args.scopes.now c.loop-scope.scope-index c.scope-item.result c.args.dots c.args.part c.loop-scope-test.true c.scope-item.is _ _ c.loop-scope.invariant _
    (eq-eqb _ _ (sym c.part_of_scope.ensures ∙ c.if-part_of_scope-part.true)) c.in_err-append_bindings.ensures.refused)
