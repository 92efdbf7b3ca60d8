-- The enumerants come first and then the node's own annotations, as in the meaning, and either's refusal is the enum's.
-- Records and annotation types of the enumerants stand in two lists of one length.
use Rattle.std.proofs.Common.{[], ◌∙◌, ap, map, refl, string_bytes, sym, Ok}
use Rattle.std.proofs.lemmas.Result.{err_from_is_err_and}
use Rattle.capnp_schema.specs.Schema.{seen_enumerant}
use Rattle.capnp_request.specs.Steps.Seen.{record_seen}
use Rattle.capnp_request.specs.Conversion.{annotations_of}
use Rattle.capnp_request.specs.Steps.Done.{between}
use Rattle.capnp_request.specs.Steps.Nodes.{nodes_of}
use Rattle.capnp_request.specs.Reading.{enumerant_said, node_said}
use Rattle.capnp_request.specs.Steps.StructsSeen.{seen_enumerants}
use Rattle.capnp_request.specs.Terms.{EnumNode}
use Rattle.capnp_request.proofs.EnumsMade.{enum_given, enum_off, enum_seen, enumerant_types_seen, enumerants_counted, enumerants_refused, enumerants_seen, own_refused}
use Rattle.capnp_request.proofs.ListsSaid.{said_all}
use Rattle.capnp_request.proofs.StructsMade.{annotations_on, children_of, first_annotations, second_types}
use Rattle.capnp_request.proofs.enums.enum_of.Goals as goal

pub returns-in_err-members-clause-done : goal.returns-in_err-members-clause-done
returns-in_err-members-clause-done c =
    let p = err_from_is_err_and c.from_residual.result c.from_residual.ensures.1 in
    rw (p.1, p.2) (λ is. enum_off (nodes_of c.args.context.nodes.now) c.args.context.strict c.args.place.id (string_bytes c.args.display_name) (node_said (record_seen c.args.place.node)) (between c.args.entries.now) _ c.in_err-members.ensures.missing c.in_err-members.ensures.refused)

pub returns-in_err-made-clause-done : goal.returns-in_err-made-clause-done
returns-in_err-made-clause-done c =
    let p = err_from_is_err_and c.from_residual-in_err-made.result c.from_residual-in_err-made.ensures.1 in
    rw (p.1, p.2) (λ is. enumerants_refused (nodes_of c.args.context.nodes.now) c.args.context.strict c.args.place.id (string_bytes c.args.display_name) (node_said (record_seen c.args.place.node)) (between c.args.entries.now) _ (c.in_ok-members.ensures.read ∙ ap EnumNode (said_all c.in_ok-members.members 11 enumerant_said)) _ (c.in_err-made.ensures.done is))

pub returns-in_err-annotated-clause-done : goal.returns-in_err-annotated-clause-done
returns-in_err-annotated-clause-done c =
    let p = err_from_is_err_and c.from_residual-in_err-annotated.result c.from_residual-in_err-annotated.ensures.1 in
    rw (p.1, p.2) (λ is. own_refused (nodes_of c.args.context.nodes.now) c.args.context.strict c.args.place.id (string_bytes c.args.display_name) (node_said (record_seen c.args.place.node)) (between c.args.entries.now) _ (c.in_ok-members.ensures.read ∙ ap EnumNode (said_all c.in_ok-members.members 11 enumerant_said)) (seen_enumerants c.in_ok-made.made.items) (between c.enumerants_of.new.entries) c.in_ok-made.ensures.done _ (ap (λ a. annotations_of (nodes_of c.args.context.nodes.now) c.args.context.strict [] a (between c.enumerants_of.new.entries)) (annotations_on (record_seen c.args.place.node)) ∙ c.in_err-annotated.ensures.done is))

pub returns-clause-done : goal.returns-clause-done
returns-clause-done c =
    enum_given (nodes_of c.args.context.nodes.now) c.args.context.strict c.args.place.id (string_bytes c.args.display_name) (node_said (record_seen c.args.place.node)) (between c.args.entries.now) _ (c.in_ok-members.ensures.read ∙ ap EnumNode (said_all c.in_ok-members.members 11 enumerant_said)) (seen_enumerants c.in_ok-made.made.items) (between c.enumerants_of.new.entries) c.in_ok-made.ensures.done _ _ (ap (λ a. annotations_of (nodes_of c.args.context.nodes.now) c.args.context.strict [] a (between c.enumerants_of.new.entries)) (annotations_on (record_seen c.args.place.node)) ∙ c.in_ok-annotated.ensures.done)
    ∙ ap (λ e. Ok (e, between c.annotations_of.new.entries)) (enum_seen (record { id = c.args.place.id; display_name = c.args.display_name; annotations = c.in_ok-annotated.annotated.0; enumerants = c.in_ok-parts.parts.records; annotation_types = record { own = c.in_ok-annotated.annotated.1; children = c.in_ok-parts.parts.annotation_types } }) _ _ _ _ _ _ refl refl (first_annotations _ _ c.in_ok-annotated.ensures.typed)
    (enumerants_seen c.in_ok-made.made.items ∙ ap (map seen_enumerant) (sym c.in_ok-parts.ensures.records))
    (second_types _ _ c.in_ok-annotated.ensures.typed)
    (enumerant_types_seen c.in_ok-made.made.items ∙ sym (children_of _ _ c.in_ok-parts.ensures.types)))

pub returns-clause-children : goal.returns-clause-children
returns-clause-children c = enumerants_counted c.in_ok-made.made.items _ _ c.in_ok-parts.ensures.records c.in_ok-parts.ensures.types
