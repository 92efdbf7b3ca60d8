-- What is given at once is stored as its number.
use Rattle.std.proofs.Common.{ℕ, ◌≡◌, refl, Bool, true, false, Option, Some, None, Result, Ok, Err, IfOk, IfErr, IfSome, bit_xor, ap, sym, subst, ◌∙◌}
use Rattle.capnp_device.specs.declared.error.Error.{Error}
use Rattle.capnp_wire.specs.Tree.{StructTree, Null}
use Rattle.capnp_base.specs.declared.introspect.TypeVariant.{TypeVariant}
use Rattle.capnp_schema.specs.FieldLists.{typed_of}
use Rattle.capnp_schema.specs.Schema.{Schemas, default_of}
use Rattle.capnp_schema.specs.SlotValue.{default_bits}
use Rattle.capnp_schema.specs.Types.{SchemaType, is_pointer, seen_variant}
use Rattle.capnp_schema.specs.declared.plan.SlotPlan.{SlotPlan}
use Rattle.capnp_schema.specs.declared.schema.fields.Field.{Field}
use Rattle.capnp_records.specs.Call.{Source}
use Rattle.capnp_records.specs.Facts.GroupWrite.{suits_cleared}
use Rattle.capnp_records.specs.Facts.Numbers.{stored_given, suits_number}
use Rattle.capnp_records.specs.Given.{Given, Gives, Copies, CopiesGroup, Fails, given_slot}
use Rattle.capnp_records.specs.Writes.Contents.{SourceFits}
use Rattle.capnp_records.specs.Writes.Overlay.{cleared_content, number_content}
use Rattle.capnp_records.specs.Writes.Slots.{Bits, At, Content, Suits}
use Rattle.capnp_slots.specs.Fields.{IsRoomFor, Keeps, field_set, names_of, slot_with}
use Rattle.capnp_slots.specs.Steps.Fields.{IsFormed, IsSlotPlan}
use Rattle.capnp_slots.specs.Steps.Planned.{HoldsNumber, place_mask, plan_written}
use Rattle.capnp_slots.specs.Primitives.{IsGiven, given_content, given_to, set_content}
use Rattle.capnp_slots.specs.Steps.Primitives.{GivesAtOnce, GivesNumber, IsGivenAs, refusal_at}

module _ (set : Schemas) (t : SchemaType) (s : Source) where
  pub given_ok : (r : Result ℕ Error) → SourceFits s → GivesNumber t (given_slot set t s) r → IfOk r (IsGivenAs set t s)
  given_ok r fits h = go (given_slot set t s) refl r h
    where
      go : (g : Given) → given_slot set t s ≡ g → (r : Result ℕ Error) → GivesNumber t g r → IfOk r (IsGivenAs set t s)
      go (Gives v) is (Ok n) h = record { value = v; given = is; is_stored = stored_given set t s v is fits; number = h }
      go (Gives v) is (Err e) h = tt
      go (Copies source past v) is r h = absurd h
      go (CopiesGroup l x b) is r h = absurd h
      go (Fails kind) is (Ok n) h = absurd h
      go (Fails kind) is (Err e) h = tt

  pub given_err : (r : Result ℕ Error) → GivesNumber t (given_slot set t s) r → IfErr r (λ e. given_slot set t s ≡ Fails e.kind)
  given_err r h = go (given_slot set t s) refl r h
    where
      go : (g : Given) → given_slot set t s ≡ g → (r : Result ℕ Error) → GivesNumber t g r → IfErr r (λ e. given_slot set t s ≡ Fails e.kind)
      go (Gives v) is (Ok n) h = tt
      go (Gives v) is (Err e) h = absurd h
      go (Copies source past v) is r h = absurd h
      go (CopiesGroup l x b) is r h = absurd h
      go (Fails kind) is (Ok n) h = absurd h
      go (Fails kind) is (Err e) h = is ∙ ap Fails (sym h)

-- the same by a field's type
pub field_given_ok : (f : Field) (s : Source) (v : TypeVariant) (r : Result ℕ Error) → seen_variant v ≡ (typed_of f).type → SourceFits s →
    ((set : Schemas) → GivesNumber (seen_variant v) (given_slot set (seen_variant v) s) r) → IfOk r (IsGivenAs (field_set f) (typed_of f).type s)
field_given_ok f s v r e fits h = given_ok (field_set f) (typed_of f).type s r fits (subst (λ t. GivesNumber t (given_slot (field_set f) t s) r) e (h (field_set f)))

pub field_given_err : (f : Field) (s : Source) (v : TypeVariant) (r : Result ℕ Error) → seen_variant v ≡ (typed_of f).type →
    ((set : Schemas) → GivesNumber (seen_variant v) (given_slot set (seen_variant v) s) r) → IfErr r (λ e. given_to f s ≡ Fails e.kind)
field_given_err f s v r e h = given_err (field_set f) (typed_of f).type s r (subst (λ t. GivesNumber t (given_slot (field_set f) t s) r) e (h (field_set f)))

-- ---- what is given as a number or none ----

pub some_given : (t : SchemaType) (g : Given) (n : ℕ) → GivesAtOnce t g (Some n) → GivesNumber t g (Ok n)
some_given t (Gives v) n h = h
some_given t (Copies source past v) n h = absurd h
some_given t (CopiesGroup l x b) n h = absurd h
some_given t (Fails kind) n h = absurd h

pub none_given : (t : SchemaType) (g : Given) (e : Error) → e.kind ≡ refusal_at t → GivesAtOnce t g None → GivesNumber t g (Err e)
none_given t (Gives v) e k h = absurd h
none_given t (Copies source past v) e k h = absurd h
none_given t (CopiesGroup l x b) e k h = absurd h
none_given t (Fails kind) e k h = k ∙ sym h

module _ (f : Field) (s : Source) (v : TypeVariant) (e : seen_variant v ≡ (typed_of f).type) where
  pub field_given_some : (o : Option ℕ) → SourceFits s → ((set : Schemas) → GivesAtOnce (seen_variant v) (given_slot set (seen_variant v) s) o) → IfSome o (IsGivenAs (field_set f) (typed_of f).type s)
  field_given_some None fits h = tt
  field_given_some (Some n) fits h = field_given_ok f s v (Ok n) e fits (λ set. some_given (seen_variant v) _ n (h set))

  pub field_given_none : (o : Option ℕ) → ((set : Schemas) → GivesAtOnce (seen_variant v) (given_slot set (seen_variant v) s) o) → o ≡ None → given_to f s ≡ Fails (refusal_at (typed_of f).type)
  field_given_none o h n =
      let x : Error = record { kind = refusal_at (seen_variant v) } in
      field_given_err f s v (Err x) e (λ set. none_given (seen_variant v) _ x refl (subst (GivesAtOnce (seen_variant v) (given_slot set (seen_variant v) s)) n (h set))) ∙ ap (λ t. Fails (refusal_at t)) e

-- ---- what is stored ----

module _ (f : Field) (plan : SlotPlan) (is : IsSlotPlan f plan) (s : Source) (n : ℕ) (h : IsGivenAs (field_set f) (typed_of f).type s n) where
  content : set_content f s ≡ number_content (default_of (typed_of f).field) (typed_of f).type h.value
  content = ap (given_content (default_of (typed_of f).field) (typed_of f).type s) h.given

  suits : Suits (typed_of f).type (set_content f s)
  suits = subst (Suits (typed_of f).type) (sym content) (suits_number (default_of (typed_of f).field) (typed_of f).type h.value h.is_stored is.small)

  formed : IsFormed (set_content f s)
  formed = subst IsFormed (sym content) tt

  pub given_holds : HoldsNumber plan.place n
  given_holds = subst (HoldsNumber plan.place) (sym h.number) (is.holds h.value h.is_stored)

  pub given_is : IsGiven (given_to f s)
  given_is = subst IsGiven (sym h.given) tt

  pub given_written : (x x' : StructTree) → x' ≡ plan_written plan (Bits (bit_xor n (place_mask plan.place))) x → x' ≡ slot_with f (set_content f s) x
  given_written x x' e =
      e ∙ (is.stores n x
      ∙ (ap (λ m. plan_written plan (Bits (bit_xor m (default_bits (default_of (typed_of f).field)))) x) h.number
      ∙ (ap (λ (c : Content). plan_written plan c x) (sym content) ∙ is.writes (set_content f s) x suits)))

  pub given_keeps : (x x' : StructTree) → IsRoomFor f x → x' ≡ plan_written plan (Bits (bit_xor n (place_mask plan.place))) x → Keeps (names_of f) x x'
  given_keeps x x' room e = subst (Keeps (names_of f) x) (sym (given_written x x' e)) (is.keeps (set_content f s) x room suits formed)

-- ---- what is cleared ----

module _ (f : Field) (plan : SlotPlan) (is : IsSlotPlan f plan) where
  cleared_formed : (q : Bool) → IsFormed (elim q as (λ _. Content) [ true ↦ At Null | false ↦ Bits 0 ])
  cleared_formed true = tt
  cleared_formed false = tt

  pub cleared_keeps : (x x' : StructTree) → IsRoomFor f x → x' ≡ slot_with f (cleared_content (typed_of f).type) x → Keeps (names_of f) x x'
  cleared_keeps x x' room e = subst (Keeps (names_of f) x) (sym e) (is.keeps (cleared_content (typed_of f).type) x room (suits_cleared (typed_of f).type) (cleared_formed (is_pointer (typed_of f).type)))
