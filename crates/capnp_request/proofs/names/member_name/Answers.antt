-- Whether the parent has the field decides: the group's name is then the parent's,
-- a dot and the field's, and otherwise no node is found.
use Rattle.std.proofs.Common.{◌≡◌, ◌∙◌, ap, refl, rules, slice_get, sym, Some, None}
use Rattle.std.proofs.lemmas.Option.{slice_get_past, slice_get_read}
use Rattle.std.proofs.lemmas.Result.{err_from_is_err_and}
use Rattle.capnp_device.specs.declared.error.ErrorKind.TheVariants.{NodeNotFound}
use Rattle.capnp_request.proofs.NamesJoined.{member_missing, member_named}
use Rattle.capnp_request.proofs.names.member_name.Goals as goal

pub returns-in_err-name-in-Some-clause-refused : goal.returns-in_err-name-in-Some-clause-refused
returns-in_err-name-in-Some-clause-refused c =
    let h = c.in-Some.ensures.lookup in
    let there : slice_get c.args.parent.now.body.fields.items c.args.field ≡ Some c.in-Some.member.now = ap (λ xs. slice_get xs c.args.field) (sym c.as_slice-fields.ensures.value) ∙ slice_get_read _ _ _ _ refl h.3.0 h.1 in
    let p = err_from_is_err_and c.from_residual.result c.from_residual.ensures.1 in
    rw (p.1, p.2) (λ is. member_named c.args.parent.now c.args.field c.in-Some.member.now _ _ there c.as_bytes.ensures.value c.as_bytes-in-Some.ensures.value ∙ c.in_err-name-in-Some.ensures.refused is)

pub returns-in_ok-name-in-Some-clause-read : goal.returns-in_ok-name-in-Some-clause-read
returns-in_ok-name-in-Some-clause-read c =
    let h = c.in-Some.ensures.lookup in
    let there : slice_get c.args.parent.now.body.fields.items c.args.field ≡ Some c.in-Some.member.now = ap (λ xs. slice_get xs c.args.field) (sym c.as_slice-fields.ensures.value) ∙ slice_get_read _ _ _ _ refl h.3.0 h.1 in
    member_named c.args.parent.now c.args.field c.in-Some.member.now _ _ there c.as_bytes.ensures.value c.as_bytes-in-Some.ensures.value ∙ c.in_ok-name-in-Some.ensures.read

pub returns-in-None-clause-refused : goal.returns-in-None-clause-refused
returns-in-None-clause-refused c = λ is.
    let h = c.in-None.ensures.lookup in
    let missing : slice_get c.args.parent.now.body.fields.items c.args.field ≡ None = ap (λ xs. slice_get xs c.args.field) (sym c.as_slice-fields.ensures.value) ∙ slice_get_past _ _ h.3 in
    let kind : c.from.result.kind ≡ NodeNotFound = search rules in
    member_missing c.args.parent.now c.args.field _ missing kind
