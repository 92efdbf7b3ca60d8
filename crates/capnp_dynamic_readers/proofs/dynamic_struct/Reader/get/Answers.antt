-- A field's place, type and default are those of its schema, and the read at its place is that of its part.
use Rattle.std.proofs.Common.{◌≡◌, ap, subst, sym, IfOk, ◌∙◌}
use Rattle.capnp_wire.specs.Standing.{struct_levels, struct_of}
use Rattle.capnp_schema.specs.Accepted.{NamesEntries}
use Rattle.capnp_schema.specs.FieldLists.{index_of, field_schema as field_schema, typed_of}
use Rattle.capnp_schema.specs.Plan.{IsSlotPlace}
use Rattle.capnp_schema.specs.Schema.{Field, Schemas, TypedField, default_of, kind_default, seen_kind}
use Rattle.capnp_schema.specs.StructHandles.{IsStruct, number_of, set_of}
use Rattle.capnp_schema.specs.Types.{SchemaType, seen_variant}
use Rattle.capnp_schema.specs.declared.plan.Place.{Place}
use Rattle.capnp_schema.specs.declared.plan.SlotPlan.{SlotPlan}
use Rattle.capnp_schema.specs.declared.schema.structs.StructSchema.{StructSchema}
use Rattle.capnp_schema.specs.Facts.Layers.{seen_which}
use Rattle.capnp_records.specs.Record.{Left}
use Rattle.capnp_dynamic_readers.specs.Handles.{reader_of, schema_of}
use Rattle.capnp_dynamic_readers.specs.Steps.Planned.{IsSound, placed_read}
use Rattle.capnp_dynamic_readers.specs.Typed.{IsOf}
use Rattle.capnp_dynamic_readers.proofs.FieldHandles.{same_field, same_read}
use Rattle.capnp_dynamic_readers.proofs.PlacedReads.{field_placed, place_sound}
use Rattle.capnp_dynamic_readers.proofs.dynamic_struct.Reader.get.Goals as goal

sound_same : {set set' : Schemas} {t t' : SchemaType} {p p' : Place} → set' ≡ set → t' ≡ t → p' ≡ p → IsSound set t p → IsSound set' t' p'
sound_same {set = set} {t = t} {t' = t'} {p = p} {p' = p'} e f g h =
    subst (λ z. IsSound z t' p') (sym e) (subst (λ z. IsSound set z p') (sym f) (subst (λ z. IsSound set t z) (sym g) h))

named_same : {set set' : Schemas} {t t' : SchemaType} → set' ≡ set → t' ≡ t → NamesEntries set t → NamesEntries set' t'
named_same {set = set} {t' = t'} e f h = subst (λ z. NamesEntries z t') (sym e) (subst (NamesEntries set) (sym f) h)

pub read_placed-requires : goal.read_placed-requires
read_placed-requires c =
    let s : StructSchema = field_schema c.args.field in
    let stands : IsStruct s = subst IsStruct c.get_containing_struct-schema.ensures.is c.get_containing_struct-schema.ensures.stands in
    let type : seen_variant c.which-variant.result ≡ (typed_of c.args.field).type =
    ap seen_variant c.which-variant.ensures ∙ (seen_which c.get_type.result ∙ c.get_type.ensures.is) in
    sound_same (c.get_set-schemas.ensures ∙ ap set_of c.get_containing_struct-schema.ensures.is) type
    (ap (λ (p : SlotPlan). p.place) c.plan-place.ensures.is)
    (place_sound (set_of s) stands.accepted (number_of s) (index_of c.args.field) stands.number c.args.field.inside c.which-variant.result type
    (subst (λ (p : SlotPlan). IsSlotPlace p.place) c.plan-place.ensures.is c.plan-place.ensures.stands.slot))

pub returns-clause-value : goal.returns-clause-value
returns-clause-value c =
    let s : StructSchema = field_schema c.args.field in
    let stands : IsStruct s = subst IsStruct c.get_containing_struct-schema.ensures.is c.get_containing_struct-schema.ensures.stands in
    let type : seen_variant c.which-variant.result ≡ (typed_of c.args.field).type =
    ap seen_variant c.which-variant.ensures ∙ (seen_which c.get_type.result ∙ c.get_type.ensures.is) in
    c.read_placed.ensures.value
    ∙ (ap (λ (z : Schemas). placed_read z (Left (struct_levels (reader_of c.args.self))) (struct_of (reader_of c.args.self)) (kind_default (seen_kind c.get_proto.result.now.kind)) (seen_variant c.which-variant.result) c.plan-place.result.place) (c.get_set-schemas.ensures ∙ ap set_of c.get_containing_struct-schema.ensures.is)
    ∙ (ap (λ (z : Field). placed_read (set_of s) (Left (struct_levels (reader_of c.args.self))) (struct_of (reader_of c.args.self)) (default_of z) (seen_variant c.which-variant.result) c.plan-place.result.place) c.get_proto.ensures
    ∙ (ap (λ (z : SchemaType). placed_read (set_of s) (Left (struct_levels (reader_of c.args.self))) (struct_of (reader_of c.args.self)) (default_of (typed_of c.args.field).field) z c.plan-place.result.place) type
    ∙ (ap (λ (p : SlotPlan). placed_read (set_of s) (Left (struct_levels (reader_of c.args.self))) (struct_of (reader_of c.args.self)) (default_of (typed_of c.args.field).field) (typed_of c.args.field).type p.place) c.plan-place.ensures.is
    ∙ (field_placed (set_of s) (Left (struct_levels (reader_of c.args.self))) (struct_of (reader_of c.args.self)) stands.accepted (number_of s) (index_of c.args.field) stands.number c.args.field.inside c.which-variant.result type
    ∙ same_read c.args.field c.args.self c.requires)))))

pub returns-clause-typed : goal.returns-clause-typed
returns-clause-typed c =
    let s : StructSchema = schema_of c.args.self in
    subst (λ (t : SchemaType). IfOk c.read_placed.result (IsOf (set_of s) t))
    (ap seen_variant c.which-variant.ensures ∙ (seen_which c.get_type.result ∙ (c.get_type.ensures.is ∙ ap (λ (f : TypedField). f.type) (same_field c.args.field s c.requires))))
    (subst (λ (z : Schemas). IfOk c.read_placed.result (IsOf z (seen_variant c.which-variant.result))) (c.get_set-schemas.ensures ∙ (ap set_of c.get_containing_struct-schema.ensures.is ∙ c.requires.set)) (c.read_placed.ensures.typed (named_same (c.get_set-schemas.ensures ∙ ap set_of c.get_containing_struct-schema.ensures.is) (ap seen_variant c.which-variant.ensures ∙ seen_which c.get_type.result) c.get_type.ensures.named)))
