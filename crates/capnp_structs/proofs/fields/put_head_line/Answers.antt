-- The name, the annotations and a line break; nothing where there are none.
use Rattle.std.proofs.Common.{false, true, refl, ◌++◌, ◌∙◌, ◌≡◌, ap, append_assoc, codes, length, string_bytes, subst, sym, ℕ, List}
use Rattle.capnp_schema.specs.Annotated.{TypedAnnotation, struct_annotations}
use Rattle.capnp_schema.specs.AnnotationLists.{annotations_in, annotations_set}
use Rattle.capnp_schema.specs.Schema.{Node, Schemas, seen_annotations}
use Rattle.capnp_schema.specs.StructHandles.{number_of, set_of, struct_node}
use Rattle.capnp_structs.proofs.Appended.{annotations_here, no_line, some_line}
use Rattle.capnp_structs.proofs.Stopped.{handed_on, head_stopped}
use Rattle.capnp_structs.proofs.AnnotationsSaid.{among_here}
use Rattle.capnp_structs.proofs.fields.put_head_line.Goals as goal

pub put_annotations-requires : goal.put_annotations-requires
put_annotations-requires c = record { recorded = c.in_ok-annotations.ensures.whole ∙ (sym (ap (λ (x : Node). x.annotations) c.get_proto-node.ensures) ∙ ap seen_annotations (sym c.as_slice.ensures.value)) }

differ : false ≡ true → ⊥
differ e = cc e

head_put : (old p a n name : List ℕ) → p ≡ old ++ codes "struct " → a ≡ p ++ n → n ≡ name → a ≡ old ++ (codes "struct " ++ name)
head_put old p a n name before put is = put ∙ (ap (λ (ys : List ℕ). ys ++ n) before ∙ (append_assoc old (codes "struct ") n ∙ ap (λ (ys : List ℕ). old ++ (codes "struct " ++ ys)) is))

pub returns-then-is_empty-clause-put : goal.returns-then-is_empty-clause-put
returns-then-is_empty-clause-put c =
    no_line (set_of c.args.schema) (codes "struct " ++ (struct_node c.args.schema).display_name) (struct_annotations (set_of c.args.schema) (number_of c.args.schema)) (string_bytes c.args.out.now)
    (subst (λ (xs : List TypedAnnotation). length xs ≡ 0) c.in_ok-annotations.ensures.typed (c.if-is_empty.ensures.0 refl))

pub returns-clause-put : goal.returns-clause-put
returns-clause-put c =
    some_line (set_of c.args.schema) (codes "struct " ++ (struct_node c.args.schema).display_name) (struct_annotations (set_of c.args.schema) (number_of c.args.schema)) (string_bytes c.args.out.now) (string_bytes c.push_str-2.new.self)
    (string_bytes c.put_annotations.new.out) (string_bytes c.push_str-3.new.self) (λ none. differ (c.if-is_empty.ensures.1 (subst (λ (xs : List TypedAnnotation). length xs ≡ 0) (sym c.in_ok-annotations.ensures.typed) none)))
    (head_put _ _ _ c.as_str.result.now _ c.in_ok-push_str.ensures.bytes c.in_ok-push_str-2.ensures.bytes (c.as_str.ensures.value ∙ ap (λ (n : Node). n.display_name) c.get_proto-node.ensures))
    (annotations_here (annotations_set c.in_ok-annotations.annotations) (set_of c.args.schema) (annotations_in c.in_ok-annotations.annotations) (struct_annotations (set_of c.args.schema) (number_of c.args.schema)) _ _
    c.in_ok-annotations.ensures.set c.in_ok-annotations.ensures.typed c.in_ok-put_annotations.ensures.put)
    c.in_ok-push_str-3.ensures.bytes

pub returns-in_err-put_annotations-clause-stopped : goal.returns-in_err-put_annotations-clause-stopped
returns-in_err-put_annotations-clause-stopped c =
    let set : Schemas = set_of c.args.schema in
    let xs : List TypedAnnotation = struct_annotations set (number_of c.args.schema) in
    let mid : List ℕ = string_bytes c.push_str-2.new.self in
    handed_on c.from_residual-in_err-put_annotations.result _ c.args.limit (string_bytes c.args.out.now) _ c.from_residual-in_err-put_annotations.ensures.1
    (head_stopped c.args.limit set (codes "struct " ++ (struct_node c.args.schema).display_name) xs (string_bytes c.args.out.now) mid _
    (λ none. differ (c.if-is_empty.ensures.1 (subst (λ (xs : List TypedAnnotation). length xs ≡ 0) (sym c.in_ok-annotations.ensures.typed) none)))
    (head_put _ _ _ c.as_str.result.now _ c.in_ok-push_str.ensures.bytes c.in_ok-push_str-2.ensures.bytes (c.as_str.ensures.value ∙ ap (λ (n : Node). n.display_name) c.get_proto-node.ensures))
    (among_here c.args.limit (annotations_set c.in_ok-annotations.annotations) set (annotations_in c.in_ok-annotations.annotations) xs mid _ c.in_ok-annotations.ensures.set c.in_ok-annotations.ensures.typed c.in_err-put_annotations.ensures.stopped))
