-- What stands behind an element's pointer is read as its type where it was filled, and a number has no pointer.
use Rattle.std.proofs.Common.{◌≡◌, None, refl, false, ap, sym, subst, ◌∙◌}
use Rattle.std.proofs.lemmas.Bool.{true≢false}
use Rattle.std.proofs.lemmas.Result.{IfErr-weaker, IfOk-weaker}
use Rattle.capnp_wire.specs.Edits.{IsDueRefusal}
use Rattle.capnp_wire.specs.Reading.{element_pointer}
use Rattle.capnp_schema.specs.Facts.Layers.{seen_which}
use Rattle.capnp_schema.specs.Types.{SchemaType, seen_variant}
use Rattle.capnp_slots.specs.Fills.{element_due, element_filled, is_behind}
use Rattle.capnp_dynamic.specs.Built.{IsListStanding, built_element, built_elements, built_reading, built_set, list_behind, word_of}
use Rattle.capnp_dynamic.specs.Handed.{HandsElement, HandsOut, IsElementPartRefusal, IsElementWithin, element_handed}
use Rattle.capnp_dynamic.specs.Owners.{IsElementGot, IsElementOf}
use Rattle.capnp_wire.specs.Elements.{with_pointer_element}
use Rattle.capnp_dynamic.proofs.ElementsHanded.{number_handed, number_type, pointed_handed}
use Rattle.capnp_dynamic.proofs.Owners.{number_got, pointer_got, struct_got}
use Rattle.capnp_dynamic.proofs.dynamic_list.build.Builder.get.Goals as goal

pub returns-then-is_behind_pointer-clause-within : goal.returns-then-is_behind_pointer-clause-within
returns-then-is_behind_pointer-clause-within c =
    let l = c.args.self in
    IfOk-weaker c.pointed_at.result (λ v. element_due (built_set l) (built_element l) (element_pointer (built_elements l) c.args.index 1) ≡ None) (λ v. IsElementWithin l c.args.index) (λ v due behind. due)
    c.pointed_at.ensures.within

pub returns-then-is_behind_pointer-clause-cause : goal.returns-then-is_behind_pointer-clause-cause
returns-then-is_behind_pointer-clause-cause c =
    let l = c.args.self in
    IfErr-weaker c.pointed_at.result (λ e. IsDueRefusal e (element_due (built_set l) (built_element l) (element_pointer (built_elements l) c.args.index 1))) (IsElementPartRefusal l c.args.index)
    (λ e h. (ap is_behind (sym (ap seen_variant c.which-variant.ensures ∙ seen_which l.element_type)) ∙ sym c.if-is_behind_pointer.ensures, h)) c.pointed_at.ensures.cause

pub returns-clause-within : goal.returns-clause-within
returns-clause-within c = λ behind.
    absurd (true≢false (sym behind ∙ (ap is_behind (sym (ap seen_variant c.which-variant.ensures ∙ seen_which c.args.self.element_type)) ∙ sym c.if-is_behind_pointer.ensures)))

pub returns-clause-stands : goal.returns-clause-stands
returns-clause-stands c =
    let l = c.args.self in
    number_handed (built_set l) (built_elements l) (built_reading l) c.args.index c.number_at.result (built_element l) c.which-variant.result (ap seen_variant c.which-variant.ensures ∙ seen_which l.element_type) c.in_default.not-Struct
    (sym c.is_behind_pointer.ensures ∙ c.if-is_behind_pointer.false) c.number_at.ensures.stands

pub returns-then-is_behind_pointer-clause-owner : goal.returns-then-is_behind_pointer-clause-owner
returns-then-is_behind_pointer-clause-owner c =
    let l = c.args.self in
    IfOk-weaker c.pointed_at.result
    (IsElementOf (list_behind l) (word_of l) c.args.index (with_pointer_element c.args.index (element_filled (built_set l) (built_element l) (element_pointer (built_elements l) c.args.index 1)) (built_elements l)))
    (IsElementGot l c.args.index)
    (λ v h. pointer_got l c.args.index v (ap is_behind (sym (ap seen_variant c.which-variant.ensures ∙ seen_which l.element_type)) ∙ sym c.if-is_behind_pointer.ensures) h)
    c.pointed_at.ensures.owner

pub returns-clause-owner : goal.returns-clause-owner
returns-clause-owner c =
    let l = c.args.self in
    number_got l c.args.index c.number_at.result c.which-variant.result (ap seen_variant c.which-variant.ensures ∙ seen_which l.element_type) c.in_default.not-Struct
    (sym c.is_behind_pointer.ensures ∙ c.if-is_behind_pointer.false)

-- ---- a struct ----

pub element_struct_at-requires-clause-under : goal.element_struct_at-requires-clause-under
element_struct_at-requires-clause-under c =
    let l = c.args.self in
    subst (λ (t : SchemaType). IsListStanding (built_set l) t (list_behind l).now (word_of l)) (sym (ap seen_variant c.which-variant.ensures ∙ seen_which c.args.self.element_type) ∙ ap seen_variant c.in-Struct.is) c.requires.ready

pub element_struct_at-requires-clause-inside : goal.element_struct_at-requires-clause-inside
element_struct_at-requires-clause-inside c = c.requires.inside

pub returns-in-Struct-clause-stands : goal.returns-in-Struct-clause-stands
returns-in-Struct-clause-stands c =
    let l = c.args.self in
    subst (λ (t : SchemaType). element_handed (built_set l) t (built_elements l) (built_reading l) c.args.index c.element_struct_at.result) (sym (sym (ap seen_variant c.which-variant.ensures ∙ seen_which c.args.self.element_type) ∙ ap seen_variant c.in-Struct.is)) c.element_struct_at.ensures.stands

pub returns-in-Struct-clause-ready : goal.returns-in-Struct-clause-ready
returns-in-Struct-clause-ready c = c.element_struct_at.ensures.ready

pub returns-in-Struct-clause-owner : goal.returns-in-Struct-clause-owner
returns-in-Struct-clause-owner c =
    struct_got c.args.self c.args.index c.element_struct_at.result c.in-Struct.raw.number c.in-Struct.raw.generic (sym (sym (ap seen_variant c.which-variant.ensures ∙ seen_which c.args.self.element_type) ∙ ap seen_variant c.in-Struct.is)) c.element_struct_at.ensures.owner

pub returns-in-Struct-clause-within : goal.returns-in-Struct-clause-within
returns-in-Struct-clause-within c = λ behind. absurd (true≢false (sym behind ∙ ap is_behind (sym (ap seen_variant c.which-variant.ensures ∙ seen_which c.args.self.element_type) ∙ ap seen_variant c.in-Struct.is)))

pub returns-in-Struct-clause-cause : goal.returns-in-Struct-clause-cause
returns-in-Struct-clause-cause c = tt

pub returns-in-Struct-clause-rests : goal.returns-in-Struct-clause-rests
returns-in-Struct-clause-rests c = λ rests. refl

-- ---- behind a pointer ----

pub pointed_at-requires-clause-behind : goal.pointed_at-requires-clause-behind
pointed_at-requires-clause-behind c = ap is_behind (sym (ap seen_variant c.which-variant.ensures ∙ seen_which c.args.self.element_type)) ∙ sym c.if-is_behind_pointer.ensures

pub pointed_at-requires-clause-under : goal.pointed_at-requires-clause-under
pointed_at-requires-clause-under c = c.requires.ready

pub pointed_at-requires-clause-inside : goal.pointed_at-requires-clause-inside
pointed_at-requires-clause-inside c = c.requires.inside

pub returns-then-is_behind_pointer-clause-stands : goal.returns-then-is_behind_pointer-clause-stands
returns-then-is_behind_pointer-clause-stands c =
    let l = c.args.self in
    IfOk-weaker c.pointed_at.result (HandsOut false (built_set l) (built_element l) (element_filled (built_set l) (built_element l) (element_pointer (built_elements l) c.args.index 1))) (HandsElement l c.args.index)
    (λ v h. pointed_handed (built_set l) (built_elements l) (built_reading l) c.args.index v (built_element l) (ap is_behind (sym (ap seen_variant c.which-variant.ensures ∙ seen_which c.args.self.element_type)) ∙ sym c.if-is_behind_pointer.ensures) h)
    c.pointed_at.ensures.stands

pub returns-then-is_behind_pointer-clause-ready : goal.returns-then-is_behind_pointer-clause-ready
returns-then-is_behind_pointer-clause-ready c = c.pointed_at.ensures.ready

pub returns-then-is_behind_pointer-clause-rests : goal.returns-then-is_behind_pointer-clause-rests
returns-then-is_behind_pointer-clause-rests c = c.pointed_at.ensures.rests

-- ---- a number ----

pub number_at-requires-clause-forest : goal.number_at-requires-clause-forest
number_at-requires-clause-forest c = c.requires.ready.forest

pub number_at-requires-clause-number : goal.number_at-requires-clause-number
number_at-requires-clause-number c =
    number_type (built_element c.args.self) c.which-variant.result (ap seen_variant c.which-variant.ensures ∙ seen_which c.args.self.element_type) c.in_default.not-Struct (sym c.is_behind_pointer.ensures ∙ c.if-is_behind_pointer.false)

pub returns-clause-ready : goal.returns-clause-ready
returns-clause-ready c = c.number_at.ensures.ready

pub returns-clause-cause : goal.returns-clause-cause
returns-clause-cause c = tt

pub returns-clause-rests : goal.returns-clause-rests
returns-clause-rests c = λ rests. refl
