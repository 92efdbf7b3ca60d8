-- By the rules of an accepted set an enumerant has one type for each of its annotations, of which there are few.
-- What is read at its index is the set's enumerant with these types.
use Rattle.std.proofs.Common.{ℕ, ◌≡◌, ◌<◌, ◌^◌, List, Some, slice_get, ap, sym, ◌∙◌, subst, length, map, Vec}
use Rattle.std.specs.declared.alloc.Global.{Global}
use Rattle.std.proofs.lemmas.List.{length-map}
use Rattle.capnp_base.specs.declared.introspect.«Type».{«Type» as TypeHandle}
use Rattle.capnp_schema.specs.declared.lists.Lists.{Lists}
use Rattle.capnp_schema.specs.declared.record.EnumerantRecord.{EnumerantRecord}
use Rattle.capnp_schema.specs.Entries.{lists_seen}
use Rattle.capnp_schema.specs.Types.{seen_type}
use Rattle.capnp_schema.specs.Schema.{seen_annotation, seen_enum, seen_enumerant}
use Rattle.capnp_schema.specs.Accepted.{IsAccepted}
use Rattle.capnp_schema.specs.Annotated.{annotations_of, enumerant_annotations}
use Rattle.capnp_schema.proofs.AnnotatedLemmas.{same_parts}
use Rattle.capnp_schema.proofs.AnnotatedPlaces.{child_seen, enumerant_has_types, enumerant_is, enumerant_seen, enumerant_whole, few_of_enumerant}
use Rattle.capnp_schema.proofs.NamedTypes.{enum_child_named}
use Rattle.capnp_schema.proofs.schema.annotations.AnnotationList.of_enumerant.Goals as goal

-- what is found of the enumerant, and of its types
named : (xs ys : List EnumerantRecord) (y : EnumerantRecord) (i : ℕ) → xs ≡ ys → Some y ≡ slice_get xs i → Some (seen_enumerant y) ≡ slice_get (map seen_enumerant ys) i
named xs ys y i same at = enumerant_seen ys y i (subst (λ zs. Some y ≡ slice_get zs i) same at)

children : (xs ys : List (Vec TypeHandle Global)) (types : Vec TypeHandle Global) (i : ℕ) → xs ≡ ys → Some types ≡ slice_get xs i → Some (map seen_type types.items) ≡ slice_get (map (λ (ts : Vec TypeHandle Global). map seen_type ts.items) ys) i
children xs ys types i same at = child_seen ys types i (subst (λ zs. Some types ≡ slice_get zs i) same at)

pub new-requires-clause-have_types : goal.new-requires-clause-have_types
new-requires-clause-have_types c =
    let same = enumerant_has_types (lists_seen c.accepted_lists.result.now) c.accepted_lists.ensures.accepted c.args.number c.args.enumerant (seen_enum c.in-Some.record.now) (seen_enumerant c.in-Some-entry_at.stored.now) (map seen_type c.in-Some-entry_at-2.types.now.items)
    c.in-Some.ensures
    (named c.deref.result.now c.in-Some.record.now.enumerants.items c.in-Some-entry_at.stored.now c.args.enumerant c.deref.ensures.value c.in-Some-entry_at.ensures)
    (children c.deref-2.result.now c.in-Some.record.now.annotation_types.children.items c.in-Some-entry_at-2.types.now c.args.enumerant c.deref-2.ensures.value c.in-Some-entry_at-2.ensures) in
    ap length c.deref-4.ensures.value ∙ sym (length-map c.in-Some-entry_at-2.types.now.items seen_type) ∙ same ∙ length-map c.in-Some-entry_at.stored.now.annotations.items seen_annotation ∙ ap length (sym c.deref-3.ensures.value)

pub new-requires-clause-are_few : goal.new-requires-clause-are_few
new-requires-clause-are_few c =
    let few = few_of_enumerant (lists_seen c.accepted_lists.result.now) c.accepted_lists.ensures.accepted c.args.number c.args.enumerant (seen_enum c.in-Some.record.now) (seen_enumerant c.in-Some-entry_at.stored.now) c.in-Some.ensures
    (named c.deref.result.now c.in-Some.record.now.enumerants.items c.in-Some-entry_at.stored.now c.args.enumerant c.deref.ensures.value c.in-Some-entry_at.ensures) in
    let e = ap length c.deref-3.ensures.value ∙ sym (length-map c.in-Some-entry_at.stored.now.annotations.items seen_annotation) in
    subst (λ n. n < 2 ^ 29) (sym e) few

pub returns-clause-typed : goal.returns-clause-typed
returns-clause-typed c = c.new.ensures.entries ∙ same_parts c.deref-3.result.now c.in-Some-entry_at.stored.now.annotations.items c.deref-4.result.now c.in-Some-entry_at-2.types.now.items c.deref-3.ensures.value c.deref-4.ensures.value
    ∙ enumerant_is (lists_seen c.accepted_lists.result.now) c.args.number c.args.enumerant (seen_enum c.in-Some.record.now) (seen_enumerant c.in-Some-entry_at.stored.now) (map seen_type c.in-Some-entry_at-2.types.now.items)
    c.in-Some.ensures
    (named c.deref.result.now c.in-Some.record.now.enumerants.items c.in-Some-entry_at.stored.now c.args.enumerant c.deref.ensures.value c.in-Some-entry_at.ensures)
    (children c.deref-2.result.now c.in-Some.record.now.annotation_types.children.items c.in-Some-entry_at-2.types.now c.args.enumerant c.deref-2.ensures.value c.in-Some-entry_at-2.ensures)
    ∙ ap (λ (l : Lists). enumerant_annotations (lists_seen l) c.args.number c.args.enumerant) c.accepted_lists.ensures.is

pub returns-clause-whole : goal.returns-clause-whole
returns-clause-whole c = ap annotations_of (returns-clause-typed c)
    ∙ enumerant_whole (lists_seen c.args.schemas.now) (subst (λ (l : Lists). IsAccepted (lists_seen l)) c.accepted_lists.ensures.is c.accepted_lists.ensures.accepted) c.args.number c.args.enumerant

pub new-requires-clause-are_named : goal.new-requires-clause-are_named
new-requires-clause-are_named c = enum_child_named c.accepted_lists.result.now c.args.schemas.now c.accepted_lists.ensures.is c.accepted_lists.ensures.accepted c.args.number c.in-Some.record.now c.in-Some.ensures c.deref-2.result.now c.in-Some-entry_at-2.types.now c.args.enumerant c.deref-4.result.now c.deref-2.ensures.value c.in-Some-entry_at-2.ensures c.deref-4.ensures.value
