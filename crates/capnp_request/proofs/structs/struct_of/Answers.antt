-- The fields come first and then the node's annotations, as in the meaning, and either's refusal is the struct's.
-- Node and brand hold the fields' parts in the same order.
use Rattle.std.proofs.Common.{◌∙◌, ap, map, refl, string_bytes, sym}
use Rattle.std.proofs.lemmas.Result.{err_from_is_err_and}
use Rattle.capnp_schema.specs.Schema.{seen_field}
use Rattle.capnp_schema.specs.Types.{seen_type}
use Rattle.capnp_request.specs.Steps.Seen.{record_seen}
use Rattle.capnp_request.specs.Steps.Bindings.{bounds}
use Rattle.capnp_request.specs.Conversion.{annotations_of}
use Rattle.capnp_request.specs.Steps.Done.{between}
use Rattle.capnp_request.specs.Steps.Nodes.{nodes_of}
use Rattle.capnp_request.specs.Reading.{node_said, struct_said}
use Rattle.capnp_request.specs.Steps.StructsSeen.{seen_fields}
use Rattle.capnp_request.proofs.StructsMade.{annotations_on, brand_counted, brand_seen, children_of, children_seen, fields_seen, first_annotations, node_seen, second_types, struct_annotations_refused, struct_fields_refused, struct_given, struct_missing, three_seen, types_seen}
use Rattle.capnp_request.proofs.structs.struct_of.Goals as goal

pub returns-in_err-part-clause-done : goal.returns-in_err-part-clause-done
returns-in_err-part-clause-done c =
    let p = err_from_is_err_and c.from_residual.result c.from_residual.ensures.1 in
    rw (p.1, p.2) (λ is. struct_missing (nodes_of c.args.context.nodes.now) c.args.context.strict c.args.place.number c.args.place.id (bounds c.args.inside.now) (string_bytes c.args.display_name) (node_said (record_seen c.args.place.node)) (between c.args.entries.now) _ c.in_err-part.ensures.missing c.in_err-part.ensures.kinds)

pub returns-in_err-made-clause-done : goal.returns-in_err-made-clause-done
returns-in_err-made-clause-done c =
    let p = err_from_is_err_and c.from_residual-in_err-made.result c.from_residual-in_err-made.ensures.1 in
    rw (p.1, p.2) (λ is. struct_fields_refused (nodes_of c.args.context.nodes.now) c.args.context.strict c.args.place.number c.args.place.id (bounds c.args.inside.now) (string_bytes c.args.display_name) (node_said (record_seen c.args.place.node)) (between c.args.entries.now) (struct_said (record_seen c.in_ok-part.part)) c.in_ok-part.ensures.read _ (c.in_err-made.ensures.refused is))

pub returns-in_err-annotated-clause-done : goal.returns-in_err-annotated-clause-done
returns-in_err-annotated-clause-done c =
    let p = err_from_is_err_and c.from_residual-in_err-annotated.result c.from_residual-in_err-annotated.ensures.1 in
    rw (p.1, p.2) (λ is. struct_annotations_refused (nodes_of c.args.context.nodes.now) c.args.context.strict c.args.place.number c.args.place.id (bounds c.args.inside.now) (string_bytes c.args.display_name) (node_said (record_seen c.args.place.node)) (between c.args.entries.now) (struct_said (record_seen c.in_ok-part.part)) c.in_ok-part.ensures.read (seen_fields c.args.place.number 0 c.in_ok-made.ensures.done.0) (between c.fields_of.new.entries) c.in_ok-made.ensures.done.2 _ (ap (λ a. annotations_of (nodes_of c.args.context.nodes.now) c.args.context.strict (bounds c.args.inside.now) a (between c.fields_of.new.entries)) (annotations_on (record_seen c.args.place.node)) ∙ c.in_err-annotated.ensures.done is))

pub returns-clause-done : goal.returns-clause-done
returns-clause-done c =
    let body = c.body_of.ensures.parts in
    struct_given (nodes_of c.args.context.nodes.now) c.args.context.strict c.args.place.number c.args.place.id (bounds c.args.inside.now) (string_bytes c.args.display_name) (node_said (record_seen c.args.place.node)) (between c.args.entries.now) (struct_said (record_seen c.in_ok-part.part)) c.in_ok-part.ensures.read (seen_fields c.args.place.number 0 c.in_ok-made.ensures.done.0) (between c.fields_of.new.entries) c.in_ok-made.ensures.done.2 _ _ (ap (λ a. annotations_of (nodes_of c.args.context.nodes.now) c.args.context.strict (bounds c.args.inside.now) a (between c.fields_of.new.entries)) (annotations_on (record_seen c.args.place.node)) ∙ c.in_ok-annotated.ensures.done)
    ∙ three_seen _ _ _ _ _ _ _
    (node_seen (record { id = c.args.place.id; display_name = c.args.display_name; annotations = c.in_ok-annotated.annotated.0; body = c.body_of.result }) _ (record {
      id = refl;
      display_name = refl;
      annotations = first_annotations _ _ c.in_ok-annotated.ensures.typed;
      data_word_count = body.data_words;
      pointer_count = body.pointers;
      is_group = body.group;
      discriminant_count = body.discriminant_count;
      discriminant_offset = body.discriminant_offset;
      fields = fields_seen c.args.place.number 0 c.in_ok-made.ensures.done.0 ∙ ap (map seen_field) (sym (ap (λ v. v.items) c.body_of.ensures.fields ∙ c.in_ok-made.ensures.done.1.records));
    }))
    (brand_seen (record { node = c.args.place.number; field_types = c.in_ok-made.made.parts.types; annotation_types = record { own = c.in_ok-annotated.annotated.1; children = c.in_ok-made.made.parts.annotation_types } }) _ _ _ _ refl (types_seen c.args.place.number 0 c.in_ok-made.ensures.done.0 ∙ ap (map seen_type) (sym c.in_ok-made.ensures.done.1.types)) (second_types _ _ c.in_ok-annotated.ensures.typed)
    (children_seen c.args.place.number 0 c.in_ok-made.ensures.done.0 ∙ sym (children_of _ _ c.in_ok-made.ensures.done.1.children)))
    (sym c.in_ok-made.ensures.done.1.notes)

pub returns-clause-brand : goal.returns-clause-brand
returns-clause-brand c = brand_counted (record { id = c.args.place.id; display_name = c.args.display_name; annotations = c.in_ok-annotated.annotated.0; body = c.body_of.result }) (record { node = c.args.place.number; field_types = c.in_ok-made.made.parts.types; annotation_types = record { own = c.in_ok-annotated.annotated.1; children = c.in_ok-made.made.parts.annotation_types } }) c.args.place.number c.in_ok-made.ensures.done.0 refl c.in_ok-made.ensures.done.1.types (ap (λ v. v.items) c.body_of.ensures.fields ∙ c.in_ok-made.ensures.done.1.records) c.in_ok-annotated.ensures.typed c.in_ok-made.ensures.done.1.children
