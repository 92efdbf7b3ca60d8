-- The name is three pieces: what opens the lists, the base, and what closes the lists.
-- A name too long with the first pieces is so with all.
use Rattle.std.proofs.lemmas.Result.{err_from_is_err_and}
use Rattle.capnp_base.specs.Types.{base_of, list_depth}
use Rattle.capnp_schema.specs.Types.{seen_base}
use Rattle.capnp_request.specs.Steps.NamesMade.{struct_names, texts}
use Rattle.capnp_request.proofs.NamesJoined.{first_long, joined, lists_name, second_long, third_long}
use Rattle.capnp_request.proofs.names.append_type.Goals as goal

pub returns-in_err-append_lists-clause-refused : goal.returns-in_err-append_lists-clause-refused
returns-in_err-append_lists-clause-refused c =
    let p = err_from_is_err_and c.from_residual.result c.from_residual.ensures.1 in
    rw (p.1, p.2) (first_long _ _ _ _ _ (lists_name (struct_names c.args.named.structs.now) (texts c.args.named.enums.now) c.args.bound.is_float (list_depth c.args.bound.standing) (seen_base (base_of c.args.bound.standing))) _ c.in_err-append_lists.ensures.refused)

pub returns-in_err-append_base-clause-refused : goal.returns-in_err-append_base-clause-refused
returns-in_err-append_base-clause-refused c =
    let p = err_from_is_err_and c.from_residual-in_err-append_base.result c.from_residual-in_err-append_base.ensures.1 in
    rw (p.1, p.2) (second_long _ _ _ _ _ (lists_name (struct_names c.args.named.structs.now) (texts c.args.named.enums.now) c.args.bound.is_float (list_depth c.args.bound.standing) (seen_base (base_of c.args.bound.standing))) _ _ c.in_ok-append_lists.ensures.appended c.in_err-append_base.ensures.refused)

pub returns-in_err-append_lists-2-clause-refused : goal.returns-in_err-append_lists-2-clause-refused
returns-in_err-append_lists-2-clause-refused c =
    let p = err_from_is_err_and c.from_residual-in_err-append_lists-2.result c.from_residual-in_err-append_lists-2.ensures.1 in
    rw (p.1, p.2) (third_long _ _ _ _ _ (lists_name (struct_names c.args.named.structs.now) (texts c.args.named.enums.now) c.args.bound.is_float (list_depth c.args.bound.standing) (seen_base (base_of c.args.bound.standing))) _ _ _ c.in_ok-append_lists.ensures.appended c.in_ok-append_base.ensures.appended c.in_err-append_lists-2.ensures.refused)

pub returns-clause-appended : goal.returns-clause-appended
returns-clause-appended c =
    joined _ _ _ _ _ (lists_name (struct_names c.args.named.structs.now) (texts c.args.named.enums.now) c.args.bound.is_float (list_depth c.args.bound.standing) (seen_base (base_of c.args.bound.standing))) _ _ _ c.in_ok-append_lists.ensures.appended c.in_ok-append_base.ensures.appended c.in_ok-append_lists-2.ensures.appended
