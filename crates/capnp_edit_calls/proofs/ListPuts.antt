-- A set of a list that is made puts its elements in the place of what stood there.
use Rattle.std.proofs.Common.{◌≡◌, ◌⊎◌, refl, List, [], ◌∷◌, ◌++◌, Bool, true, false, Option, Some, None, Ok, Err, ap, inl, inr, sym, subst, ◌∙◌}
use Rattle.capnp_device.specs.declared.error.ErrorKind.{ErrorKind}
use Rattle.capnp_device.specs.declared.error.ErrorKind.TheVariants.{OutOfMemory}
use Rattle.capnp_wire.specs.Tree.{Tree}
use Rattle.capnp_schema.specs.Schema.{Schemas}
use Rattle.capnp_schema.specs.Types.{ListType, SchemaType}
use Rattle.capnp_records.specs.Call.{Done, ListSource, PathStep, Refused, Reply, Set, Source}
use Rattle.capnp_records.specs.Given.{Given, copy_refusal, given_element, given_group, given_part, given_slot}
use Rattle.capnp_records.specs.Operation.{CopiesWhole, DoesAt, Sets}
use Rattle.capnp_records.specs.Reading.{value_of}
use Rattle.capnp_records.specs.Record as value
use Rattle.capnp_records.specs.Record.{Endless, Levels, Value, Values}
use Rattle.capnp_records.specs.Run.{Ends}
use Rattle.capnp_records.specs.Step.{Enters, Found, IsRefused, Passes, StepTarget, Walks, fault_of, filled_value, step_target, walked_target}
use Rattle.capnp_edit_calls.specs.Laws.{PutsList}
use Rattle.capnp_edit_calls.proofs.PathTypes.{FoundAs, target_as, type_along, type_behind, walked_as}

-- what is done is not refused
done_refused : {kind : ErrorKind} → Done ≡ Refused kind → ⊥
done_refused e = cc

same_some : {t u : SchemaType} → Some t ≡ Some u → t ≡ u
same_some e = cc

module _ (set : Schemas) (e : SchemaType) (l : Levels) (t : Tree) (from : SchemaType) (elements : Values) (read : value_of set t Endless (ListType e) ≡ value.Elements elements) where
  abbrev source : Source
  source = ListSource l t from

  -- ---- at the end ----

  abbrev given_at : (group element : Bool) → SchemaType → Given
  given_at group element u = elim group [ true ↦ given_group u source | false ↦ elim element [ true ↦ given_element set u source | false ↦ given_slot set u source ] ]

  copied : (x : StepTarget) (old new : Value) (o : Option ErrorKind) → CopiesWhole x (value_of set t Endless (ListType e)) old Done new o false → new ≡ x.put (value.Elements elements)
  copied x old new None h = h.1 ∙ ap x.put read
  copied x old new (Some kind) h = absurd (done_refused h.0)

  copies : (x : StepTarget) (old new : Value) → IsRefused OutOfMemory Done old new ⊎ CopiesWhole x (value_of set t Endless (ListType e)) old Done new (copy_refusal t) false → new ≡ x.put (value.Elements elements)
  copies x old new (inl h) = absurd (done_refused h.0)
  copies x old new (inr h) = copied x old new (copy_refusal t) h

  sets : (x : StepTarget) (old new : Value) → x.type ≡ ListType e → Sets set x (given_part set x source) old Done new → new ≡ x.put (value.Elements elements)
  sets x old new is h = go x.is_group x.is_element (subst (λ (u : SchemaType). Sets set x (given_at x.is_group x.is_element u) old Done new) is h)
    where
      go : (group element : Bool) → Sets set x (given_at group element (ListType e)) old Done new → new ≡ x.put (value.Elements elements)
      go true element h = absurd (done_refused h.0)
      go false true h = copies x old new h
      go false false h = copies x old new h

  ends : (u : SchemaType) (old new : Value) (last : PathStep) → type_behind set u last ≡ Some (ListType e) → Ends set last (Set source) u old Done new → PutsList set last e elements u old Done new
  ends u old new last is h = go (step_target set u old last) refl (target_as set u old last) h
    where
      go : (f : Found) → step_target set u old last ≡ f → FoundAs f (type_behind set u last) → DoesAt set (Set source) f old Done new → PutsList set last e elements u old Done new
      go (Err kind) same typed h = absurd (done_refused h.0)
      go (Ok x) same typed h =
          let x_is : x.type ≡ ListType e = sym (same_some (sym is ∙ typed)) in
          (x, same, x_is, (refl, sets x old new x_is h))

  -- ---- along the path ----

  pub walks : (path : List PathStep) (last : PathStep) (u : SchemaType) (old new : Value) → type_along set (path ++ last ∷ []) (Some u) ≡ Some (ListType e) →
      Walks set (Ends set last (Set source)) path u old Done new → Walks set (PutsList set last e elements) path u old Done new
  walks [] last u old new is h = ends u old new last is h
  walks (s ∷ ss) last u old new is h = go (λ x part. walks ss last x.type (filled_value set x.default x.type x.part) part) (walked_target set u old s) (walked_as (step_target set u old s) (type_behind set u s) (target_as set u old s)) h
    where
      further : SchemaType → Value → Reply → Value → Type 0
      further = Walks set (Ends set last (Set source)) ss

      puts : SchemaType → Value → Reply → Value → Type 0
      puts = Walks set (PutsList set last e elements) ss

      Next : Type 0
      Next = (x : StepTarget) (part : Value) → type_along set (ss ++ last ∷ []) (Some x.type) ≡ Some (ListType e) → further x.type (filled_value set x.default x.type x.part) Done part → puts x.type (filled_value set x.default x.type x.part) Done part

      enters : Next → (x : StepTarget) → type_behind set u s ≡ Some x.type → (o : Option ErrorKind) → Enters set further old o x Done new → Enters set puts old o x Done new
      enters next x typed (Some kind) h = h
      enters next x typed None (inl h) = inl h
      enters next x typed None (inr g) = inr (record {
        extendable = g.extendable;
        part = g.part;
        goes_on = next x g.part (ap (type_along set (ss ++ last ∷ [])) (sym typed) ∙ is) g.goes_on;
        rest = g.rest;
      })

      go : Next → (f : Found) → FoundAs f (type_behind set u s) → Passes set further old f Done new → Passes set puts old f Done new
      go next (Err kind) typed h = h
      go next (Ok x) typed h = enters next x typed (fault_of x.part) h
