-- The enum's annotations with its own types are the set's, by the entry found there.
-- In an accepted set the types name entries, and taking them off leaves all annotations.
use Rattle.std.proofs.Common.{ap, sym, ◌∙◌, subst}
use Rattle.capnp_schema.specs.declared.lists.Lists.{Lists}
use Rattle.capnp_schema.specs.Entries.{lists_seen}
use Rattle.capnp_schema.specs.Schema.{seen_enum}
use Rattle.capnp_schema.specs.Accepted.{IsAccepted}
use Rattle.capnp_schema.specs.Annotated.{annotations_of, enum_annotations, with_types}
use Rattle.capnp_schema.proofs.AnnotatedLemmas.{same_parts}
use Rattle.capnp_schema.proofs.AnnotatedPlaces.{enum_found, enum_whole}
use Rattle.capnp_schema.proofs.NamedTypes.{enum_own_named}
use Rattle.capnp_schema.proofs.schema.annotations.AnnotationList.of_enum.Goals as goal

pub returns-clause-whole : goal.returns-clause-whole
returns-clause-whole c = ap annotations_of (c.new.ensures.entries ∙ same_parts c.deref.result.now c.in-Some.record.now.annotations.items c.deref-2.result.now c.in-Some.record.now.annotation_types.own.items c.deref.ensures.value c.deref-2.ensures.value
    ∙ ap (λ x. with_types x.annotations x.annotation_types.own) (sym (enum_found (lists_seen c.accepted_lists.result.now) c.args.number (seen_enum c.in-Some.record.now) c.in-Some.ensures))
    ∙ ap (λ (l : Lists). enum_annotations (lists_seen l) c.args.number) c.accepted_lists.ensures.is)
    ∙ enum_whole (lists_seen c.args.schemas.now) (subst (λ (l : Lists). IsAccepted (lists_seen l)) c.accepted_lists.ensures.is c.accepted_lists.ensures.accepted) c.args.number

pub new-requires-clause-are_named : goal.new-requires-clause-are_named
new-requires-clause-are_named c = enum_own_named c.accepted_lists.result.now c.args.schemas.now c.accepted_lists.ensures.is c.accepted_lists.ensures.accepted c.args.number c.in-Some.record.now c.in-Some.ensures c.deref-2.result.now c.deref-2.ensures.value
