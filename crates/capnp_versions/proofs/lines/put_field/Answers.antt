-- Where the field is there its name stands behind a point.
use Rattle.std.proofs.Common.{string_bytes, ap, append_assoc, sym, ◌++◌, ◌∙◌, ◌∷◌, []}
use Rattle.std.proofs.lemmas.List.{append-nil}
use Rattle.capnp_versions.proofs.FieldNames.{none_named, some_named}
use Rattle.capnp_versions.proofs.lines.put_field.Goals as goal

pub returns-in_default-get-clause-put : goal.returns-in_default-get-clause-put
returns-in_default-get-clause-put c =
    let e = c.in_default-get.ensures.lookup in
    rw c.in-Some.is (sym (append-nil (string_bytes c.args.text.now)) ∙ ap (λ x. string_bytes c.args.text.now ++ x) (sym (none_named c.args.fields.now c.in-Some.index e.3)))

pub returns-clause-put : goal.returns-clause-put
returns-clause-put c =
    let e = c.in-Some-get.ensures.lookup in
    let name = some_named c.args.fields.now c.in-Some.index c.in-Some-get.record.now e.3.0 e.1 in
    let text = string_bytes c.args.text.now in
    rw c.in-Some.is (c.in_ok-push_str-2.ensures.bytes ∙ ap (λ x. x ++ c.as_str.result.now) c.in_ok-push_str.ensures.bytes ∙ append_assoc text (46 ∷ []) c.as_str.result.now
    ∙ ap (λ x. text ++ 46 ∷ x) c.as_str.ensures.value ∙ ap (λ x. text ++ x) (sym name))
