-- What is appended, before the names from this index on, is the whole.
-- A name that is too long at a comma or a type stays so with the rest.
use Rattle.std.proofs.Common.{map}
use Rattle.std.proofs.lemmas.Result.{err_from_is_err_and}
use Rattle.capnp_request.specs.Steps.Bindings.{seen_marked}
use Rattle.capnp_request.specs.Steps.NamesMade.{struct_names, texts}
use Rattle.capnp_request.proofs.NamesJoined.{bound_long, comma_long, other_appended}
use Rattle.capnp_request.proofs.names.append_others.Goals as goal

pub returns-in_err-append-clause-refused : goal.returns-in_err-append-clause-refused
returns-in_err-append-clause-refused c =
    let p = err_from_is_err_and c.from_residual.result c.from_residual.ensures.1 in
    rw (p.1, p.2) (comma_long (struct_names c.args.named.structs.now) (texts c.args.named.enums.now) (map seen_marked c.args.types.now) c.loop-index.index c.args.parameters c.loop-index-test.true _ _ c.loop-index.invariant _ c.in_err-append.ensures.refused)

pub returns-in_err-append_bound-clause-refused : goal.returns-in_err-append_bound-clause-refused
returns-in_err-append_bound-clause-refused c =
    let p = err_from_is_err_and c.from_residual-in_err-append_bound.result c.from_residual-in_err-append_bound.ensures.1 in
    rw (p.1, p.2) (bound_long (struct_names c.args.named.structs.now) (texts c.args.named.enums.now) (map seen_marked c.args.types.now) c.loop-index.index c.args.parameters c.loop-index-test.true _ _ c.loop-index.invariant _ _ c.in_ok-append.ensures.appended c.in_err-append_bound.ensures.refused)

pub loop-index-preserved : goal.loop-index-preserved
loop-index-preserved c = other_appended (struct_names c.args.named.structs.now) (texts c.args.named.enums.now) (map seen_marked c.args.types.now) c.loop-index.index c.args.parameters c.loop-index-test.true _ _ c.loop-index.invariant _ _ c.in_ok-append.ensures.appended c.in_ok-append_bound.ensures.appended
