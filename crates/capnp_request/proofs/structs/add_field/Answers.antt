-- A plain field is what its term stands for, and nothing is noted of it. Another is made by its parts.
use Rattle.std.proofs.Common.{[], ◌∷◌, ◌++◌, ◌≡◌, ◌∙◌, ap, false, map, rules, sym, true}
use Rattle.std.proofs.lemmas.List.{append-nil}
use Rattle.std.proofs.lemmas.Result.{err_from_is_err_and}
use Rattle.capnp_request.specs.Steps.Bindings.{bounds}
use Rattle.capnp_request.specs.Steps.Nodes.{nodes_of}
use Rattle.capnp_request.specs.Steps.Numbers.{numbered_entries}
use Rattle.capnp_request.specs.StructsSeen.{seen_notes}
use Rattle.capnp_request.specs.declared.field_lists.FieldLists.{FieldLists}
use Rattle.capnp_request.proofs.structs.add_field.Goals as goal

pub returns-then-is_put-clause-done : goal.returns-then-is_put-clause-done
returns-then-is_put-clause-done c =
    let is : c.in_ok-is_put.is_put ≡ true = search rules in
    let put = c.in_ok-is_put.ensures.put is in (
      put.0,
      put.1,
      sym (ap (λ notes. seen_notes c.args.made.now.notes.items ++ notes) (put.2.notes c.args.number c.args.index) ∙ append-nil (seen_notes c.args.made.now.notes.items)),
      put.2.done (nodes_of c.args.context.nodes.now) c.args.context.strict (bounds c.args.inside.now) c.args.number c.args.index (numbered_entries c.args.entries.now),
    )

pub returns-in_err-converted-clause-refused : goal.returns-in_err-converted-clause-refused
returns-in_err-converted-clause-refused c =
    let p = err_from_is_err_and c.from_residual-in_err-converted.result c.from_residual-in_err-converted.ensures.1 in
    rw (p.1, p.2) (λ is. c.in_err-converted.ensures.done is)

pub returns-clause-done : goal.returns-clause-done
returns-clause-done c =
    let is : c.in_ok-is_put.is_put ≡ false = search rules in
    let same = c.in_ok-is_put.ensures.same is in
    let put = c.in_ok-put_field.ensures in
    let f = c.in_ok-converted.converted in (
      f,
      record {
        records = put.records ∙ ap (λ (lists : FieldLists). lists.records.items ++ f.record ∷ []) same;
        types = put.types ∙ ap (λ (lists : FieldLists). lists.types.items ++ f.field_type ∷ []) same;
        children = put.children ∙ ap (λ (lists : FieldLists). map (λ types. types.items) lists.annotation_types.items ++ f.annotation_types.items ∷ []) same;
      },
      c.in_ok-add_notes.ensures.added,
      c.in_ok-converted.ensures.done,
    )
