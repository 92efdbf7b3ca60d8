-- Parent, dot and field are three pieces of one name. A name that is too long with the dot is too long with the field.
use Rattle.std.proofs.Common.{[], ◌∷◌, ◌++◌, ◌≡◌, append_assoc, rules, sym}
use Rattle.std.proofs.lemmas.Result.{err_from_is_err_and}
use Rattle.capnp_request.proofs.NamesJoined.{joined, second_long, third_long}
use Rattle.capnp_request.proofs.names.with_dot.Goals as goal

pub returns-in_err-append-clause-refused : goal.returns-in_err-append-clause-refused
returns-in_err-append-clause-refused c =
    let same : c.in_ok-name.name.items ≡ c.args.parent.now = search rules in
    let p = err_from_is_err_and c.from_residual-in_err-append.result c.from_residual-in_err-append.ensures.1 in
    rw (p.1, p.2) (second_long [] c.args.parent.now (46 ∷ []) c.args.field.now (c.args.parent.now ++ 46 ∷ c.args.field.now) (sym (append_assoc c.args.parent.now (46 ∷ []) c.args.field.now)) _ _ same c.in_err-append.ensures.refused)

pub returns-in_err-append-2-clause-refused : goal.returns-in_err-append-2-clause-refused
returns-in_err-append-2-clause-refused c =
    let same : c.in_ok-name.name.items ≡ c.args.parent.now = search rules in
    let p = err_from_is_err_and c.from_residual-in_err-append-2.result c.from_residual-in_err-append-2.ensures.1 in
    rw (p.1, p.2) (third_long [] c.args.parent.now (46 ∷ []) c.args.field.now (c.args.parent.now ++ 46 ∷ c.args.field.now) (sym (append_assoc c.args.parent.now (46 ∷ []) c.args.field.now)) _ _ _ same c.in_ok-append.ensures.appended c.in_err-append-2.ensures.refused)

pub returns-clause-made : goal.returns-clause-made
returns-clause-made c =
    let same : c.in_ok-name.name.items ≡ c.args.parent.now = search rules in
    joined [] c.args.parent.now (46 ∷ []) c.args.field.now (c.args.parent.now ++ 46 ∷ c.args.field.now) (sym (append_assoc c.args.parent.now (46 ∷ []) c.args.field.now)) _ _ _ same c.in_ok-append.ensures.appended c.in_ok-append-2.ensures.appended
