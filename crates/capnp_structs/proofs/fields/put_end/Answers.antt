-- The member's number, the annotations of the field, and a line break.
use Rattle.std.proofs.Common.{ℕ, List, [], ◌∷◌, ◌∙◌, ap, string_bytes, sym}
use Rattle.capnp_schema.specs.Annotated.{TypedAnnotation}
use Rattle.capnp_schema.specs.AnnotationLists.{annotations_in, annotations_set}
use Rattle.capnp_schema.specs.FieldLists.{field_annotated, field_schema, index_of}
use Rattle.capnp_schema.specs.Plan.{plan_of}
use Rattle.capnp_schema.specs.Schema.{Field, Schemas, seen_annotations}
use Rattle.capnp_schema.specs.StructHandles.{number_of, set_of, struct_field}
use Rattle.capnp_records.specs.Text.{after, said_text}
use Rattle.capnp_structs.specs.Fields.{member_text}
use Rattle.capnp_structs.specs.Values.{annotations_text}
use Rattle.capnp_structs.proofs.AnnotationsSaid.{among_here}
use Rattle.capnp_structs.proofs.Appended.{end_put, on_ok}
use Rattle.capnp_structs.proofs.Stopped.{handed_on, made_long, stopped_front, stopped_led}
use Rattle.capnp_structs.proofs.TextsThere.{said_there}
use Rattle.capnp_structs.proofs.fields.put_end.Goals as goal

pub put_annotations-requires : goal.put_annotations-requires
put_annotations-requires c = record { recorded = c.in_ok-annotations.ensures.whole ∙ (sym (ap (λ (x : Field). x.annotations) c.get_proto-record.ensures) ∙ ap seen_annotations (sym c.as_slice.ensures.value)) }

pub returns-in_err-put_annotations-clause-stopped : goal.returns-in_err-put_annotations-clause-stopped
returns-in_err-put_annotations-clause-stopped c =
    let set : Schemas = set_of (field_schema c.args.field) in
    let xs : List TypedAnnotation = field_annotated c.args.field in
    let old : List ℕ = string_bytes c.args.out.now in
    let mid : List ℕ = string_bytes c.put_member.new.out in
    handed_on c.from_residual-in_err-put_annotations.result _ c.args.limit old _ c.from_residual-in_err-put_annotations.ensures.1
    (stopped_led c.args.limit (member_text (plan_of set (number_of (field_schema c.args.field)) (struct_field (field_schema c.args.field) (index_of c.args.field))).member) (after (annotations_text set xs) (said_text (10 ∷ []))) old mid _
    (rw c.plan.ensures.is at c.in_ok-put_member.ensures.put) (λ r. r)
    (stopped_front c.args.limit (annotations_text set xs) (said_text (10 ∷ [])) mid _ (said_there (10 ∷ [])) (λ r. r)
    (among_here c.args.limit (annotations_set c.in_ok-annotations.annotations) set (annotations_in c.in_ok-annotations.annotations) xs mid _ c.in_ok-annotations.ensures.set c.in_ok-annotations.ensures.typed c.in_err-put_annotations.ensures.stopped)))

pub returns-clause-put : goal.returns-clause-put
returns-clause-put c =
    on_ok c.check_length.result
    (λ _. end_put (set_of (field_schema c.args.field)) (number_of (field_schema c.args.field)) (index_of c.args.field) (annotations_set c.in_ok-annotations.annotations) (annotations_in c.in_ok-annotations.annotations) (string_bytes c.args.out.now)
    (string_bytes c.put_member.new.out) (string_bytes c.put_annotations.new.out) (string_bytes c.push_str.new.self) (rw c.plan.ensures.is at c.in_ok-put_member.ensures.put) c.in_ok-annotations.ensures.set c.in_ok-annotations.ensures.typed
    c.in_ok-put_annotations.ensures.put c.in_ok-push_str.ensures.bytes)
    c.check_length.ensures.within

pub returns-clause-stopped : goal.returns-clause-stopped
returns-clause-stopped c =
    made_long _ c.check_length.result c.args.limit (string_bytes c.args.out.now) (string_bytes c.push_str.new.self) _
    (end_put (set_of (field_schema c.args.field)) (number_of (field_schema c.args.field)) (index_of c.args.field) (annotations_set c.in_ok-annotations.annotations) (annotations_in c.in_ok-annotations.annotations) (string_bytes c.args.out.now)
    (string_bytes c.put_member.new.out) (string_bytes c.put_annotations.new.out) (string_bytes c.push_str.new.self) (rw c.plan.ensures.is at c.in_ok-put_member.ensures.put) c.in_ok-annotations.ensures.set c.in_ok-annotations.ensures.typed
    c.in_ok-put_annotations.ensures.put c.in_ok-push_str.ensures.bytes)
    c.check_length.ensures.too_long
