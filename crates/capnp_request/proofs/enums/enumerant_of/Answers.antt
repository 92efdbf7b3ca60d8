-- The name is read and copied, and then the annotations are made with nothing bound. Each refusal on this way is the enumerant's.
use Rattle.std.proofs.Common.{[], ◌∙◌, ap, refl}
use Rattle.std.proofs.lemmas.Result.{err_from_is_err_and}
use Rattle.capnp_request.specs.Steps.Seen.{record_seen}
use Rattle.capnp_request.specs.Conversion.{annotations_of}
use Rattle.capnp_request.specs.Steps.Done.{between}
use Rattle.capnp_request.specs.Steps.Nodes.{nodes_of}
use Rattle.capnp_request.specs.Reading.{enumerant_said}
use Rattle.capnp_request.proofs.EnumsMade.{annotations_on, enumerant_given, enumerant_pair, enumerant_refused, enumerant_unnamed, enumerant_unread, name_on}
use Rattle.capnp_request.proofs.StructsMade.{first_annotations, second_types}
use Rattle.capnp_request.proofs.enums.enumerant_of.Goals as goal

pub returns-in_err-text-clause-done : goal.returns-in_err-text-clause-done
returns-in_err-text-clause-done c =
    let p = err_from_is_err_and c.from_residual.result c.from_residual.ensures.1 in
    rw (p.1, p.2) (λ is. enumerant_unread (nodes_of c.args.context.nodes.now) c.args.context.strict (enumerant_said (record_seen c.args.enumerant)) (between c.args.entries.now) _ (name_on (record_seen c.args.enumerant) _ c.in_err-text.ensures.refused))

pub returns-in_err-name-clause-done : goal.returns-in_err-name-clause-done
returns-in_err-name-clause-done c =
    let p = err_from_is_err_and c.from_residual-in_err-name.result c.from_residual-in_err-name.ensures.1 in
    rw (p.1, p.2) (λ is. enumerant_unnamed (nodes_of c.args.context.nodes.now) c.args.context.strict (enumerant_said (record_seen c.args.enumerant)) (between c.args.entries.now) _ (name_on (record_seen c.args.enumerant) _ c.in_ok-text.ensures.read) _ (c.in_err-name.ensures.refused is))

pub returns-in_err-annotated-clause-done : goal.returns-in_err-annotated-clause-done
returns-in_err-annotated-clause-done c =
    let p = err_from_is_err_and c.from_residual-in_err-annotated.result c.from_residual-in_err-annotated.ensures.1 in
    rw (p.1, p.2) (λ is. enumerant_refused (nodes_of c.args.context.nodes.now) c.args.context.strict (enumerant_said (record_seen c.args.enumerant)) (between c.args.entries.now) _ (name_on (record_seen c.args.enumerant) _ c.in_ok-text.ensures.read) _ c.in_ok-name.ensures.read _ (ap (λ a. annotations_of (nodes_of c.args.context.nodes.now) c.args.context.strict [] a (between c.args.entries.now)) (annotations_on (record_seen c.args.enumerant)) ∙ c.in_err-annotated.ensures.done is))

pub returns-clause-done : goal.returns-clause-done
returns-clause-done c =
    enumerant_given (nodes_of c.args.context.nodes.now) c.args.context.strict (enumerant_said (record_seen c.args.enumerant)) (between c.args.entries.now) _ (name_on (record_seen c.args.enumerant) _ c.in_ok-text.ensures.read) _ c.in_ok-name.ensures.read _ _ (ap (λ a. annotations_of (nodes_of c.args.context.nodes.now) c.args.context.strict [] a (between c.args.entries.now)) (annotations_on (record_seen c.args.enumerant)) ∙ c.in_ok-annotated.ensures.done)
    ∙ enumerant_pair (record { «record» = record { name = c.in_ok-name.name; annotations = c.in_ok-annotated.annotated.0 }; annotation_types = c.in_ok-annotated.annotated.1 }) _ _ _ _ refl (first_annotations _ _ c.in_ok-annotated.ensures.typed) (second_types _ _ c.in_ok-annotated.ensures.typed)
