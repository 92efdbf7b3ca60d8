-- A step leads to the type of the field that it names or of an element there, and so to a spot of that type.
use Rattle.std.proofs.Common.{ℕ, ◌∷◌, ◌≤◌, ◌≡◌, ◌∙◌, Bool, true, false, IfSome, List, Option, None, Some, cond, length, nat_lt, arith, ap, refl, subst, suc, sym}
use Rattle.std.proofs.lemmas.Bool.Decides.{nat_tests}
use Rattle.std.proofs.lemmas.Option.{slice_get_past}
use Rattle.std.specs.Option.{option_and_then, option_map}
use Rattle.capnp_schema.specs.Facts.Fields.{entry_some}
use Rattle.capnp_schema.specs.FieldLists.{IsFound, index_of, typed_of}
use Rattle.capnp_schema.specs.GroupsDown.{place_of_field}
use Rattle.capnp_schema.specs.Schema.{Schemas, TypedField, field_at, fields_of, no_field}
use Rattle.capnp_schema.specs.StructHandles.{number_of, set_of, struct_field}
use Rattle.capnp_schema.specs.Types.{ListType, SchemaType, StructType}
use Rattle.capnp_schema.specs.declared.schema.fields.Field.{Field}
use Rattle.capnp_schema.specs.declared.schema.structs.StructSchema.{StructSchema}
use Rattle.capnp_records.specs.Call.{ElementAt, FieldNamed, FieldNumber, PathStep}
use Rattle.capnp_slots.specs.Fields.{field_set}
use Rattle.capnp_words.specs.Targets.{field_type, type_along, type_behind}
use Rattle.capnp_value_texts.specs.Calls.{lists_of}
use Rattle.riftcalico_core.specs.LastFields.{Spot, field_spot, index_at, last_spot, spot_behind}
use Rattle.riftcalico_core.specs.SpotsSeen.{IsSpotOf}
use Rattle.riftcalico_core.specs.Steps.Spots.{IsSpotAt}
use Rattle.riftcalico_core.specs.declared.last_field.Spot.{Spot as SpotHeld}
use Rattle.riftcalico_core.proofs.ShownTaken.{lists_more}

module _ (s : StructSchema) (g : ℕ) where
  abbrev type_at : Option ℕ → Option SchemaType
  type_at o = option_and_then (field_type (set_of s) (number_of s)) o

  numbered : (i : ℕ) (q : Bool) → nat_lt i (length (fields_of (set_of s) (number_of s))) ≡ q → type_behind (set_of s) (StructType (number_of s) g) (FieldNumber i) ≡ type_at (index_at (set_of s) (number_of s) (FieldNumber i))
  numbered i true is = ap (λ (q : Bool). type_at (cond q (Some i) None)) (sym is)
  numbered i false is =
      let past : length (fields_of (set_of s) (number_of s)) ≤ i = grind (arith, nat_tests, is) in
      ap (option_map (λ (x : TypedField). x.type)) (slice_get_past (fields_of (set_of s) (number_of s)) i past)
      ∙ ap (λ (q : Bool). type_at (cond q (Some i) None)) (sym is)

  -- a step leads to the type of the field of its index
  led : (step : PathStep) → type_behind (set_of s) (StructType (number_of s) g) step ≡ type_at (index_at (set_of s) (number_of s) step)
  led (FieldNumber i) = numbered i (nat_lt i (length (fields_of (set_of s) (number_of s)))) refl
  led (FieldNamed name) = refl
  led (ElementAt i) = refl

  -- a field of an index has the type there
  typed_at : (i : ℕ) (f : Field) → IsFound s (Some i) (Some f) → field_type (set_of s) (number_of s) i ≡ Some (typed_of f).type
  typed_at i f found =
      ap (option_map (λ (x : TypedField). x.type)) (entry_some (fields_of (set_of s) (number_of s)) i no_field found.inside)
      ∙ (ap (λ (k : ℕ). Some (field_at (set_of s) (number_of s) k).type) (sym found.index)
      ∙ ap (λ (r : StructSchema). Some (struct_field r (index_of f)).type) (sym found.schema))

  found_typed : (o : Option ℕ) (f : Field) → IsFound s o (Some f) → Some (typed_of f).type ≡ type_at o
  found_typed None f found = absurd found
  found_typed (Some i) f found = sym (typed_at i f found)

  found_none : (o : Option ℕ) → IsFound s o None → type_at o ≡ None
  found_none None found = refl
  found_none (Some i) found = absurd found

  found_spot : (o : Option ℕ) (f : Field) → IsFound s o (Some f) → Some (field_spot (place_of_field f)) ≡ option_map (λ (i : ℕ). field_spot (number_of s, i)) o
  found_spot None f found = absurd found
  found_spot (Some i) f found =
      ap (λ (r : StructSchema). Some (field_spot (number_of r, index_of f))) found.schema ∙ ap (λ (k : ℕ). Some (field_spot (number_of s, k))) found.index

  pub reached_none : (step : PathStep) → IsFound s (index_at (set_of s) (number_of s) step) None → None ≡ type_behind (set_of s) (StructType (number_of s) g) step
  reached_none step found = sym (led step ∙ found_none (index_at (set_of s) (number_of s) step) found)

  pub reached_typed : (step : PathStep) (f : Field) → IsFound s (index_at (set_of s) (number_of s) step) (Some f) → Some (typed_of f).type ≡ type_behind (set_of s) (StructType (number_of s) g) step
  reached_typed step f found = found_typed (index_at (set_of s) (number_of s) step) f found ∙ sym (led step)

  pub reached_spot : (o : Option Spot) (step : PathStep) (f : Field) → IsFound s (index_at (set_of s) (number_of s) step) (Some f) → Some (field_spot (place_of_field f)) ≡ spot_behind (set_of s) o (StructType (number_of s) g) step
  reached_spot o step f found = found_spot (index_at (set_of s) (number_of s) step) f found

  pub reached_set : (step : PathStep) (f : Field) → IsFound s (index_at (set_of s) (number_of s) step) (Some f) → field_set f ≡ set_of s
  reached_set step f found = of_schema (index_at (set_of s) (number_of s) step) found
    where
      of_schema : (o : Option ℕ) → IsFound s o (Some f) → field_set f ≡ set_of s
      of_schema None h = absurd h
      of_schema (Some i) h = ap set_of h.schema

-- one step of a path goes on from where it leads, or nothing is there
pub goes_on : (set : Schemas) (o q : Option Spot) (t u : SchemaType) (step : PathStep) (steps : List PathStep) → Some u ≡ type_behind set t step → q ≡ spot_behind set o t step
    → last_spot set q u steps ≡ last_spot set o t (step ∷ steps)
goes_on set o q t u step steps led spot =
    ap (λ (p : Option Spot). last_spot set p u steps) spot ∙ ap (option_and_then (λ (v : SchemaType). last_spot set (spot_behind set o t step) v steps)) led

pub goes_typed : (set : Schemas) (t u : SchemaType) (step : PathStep) (steps : List PathStep) → Some u ≡ type_behind set t step → type_along set u steps ≡ type_along set t (step ∷ steps)
goes_typed set t u step steps led = ap (option_and_then (λ (v : SchemaType). type_along set v steps)) led

pub stops : (set : Schemas) (o : Option Spot) (t : SchemaType) (step : PathStep) (steps : List PathStep) → None ≡ type_behind set t step → None ≡ last_spot set o t (step ∷ steps)
stops set o t step steps led = ap (option_and_then (λ (v : SchemaType). last_spot set (spot_behind set o t step) v steps)) led

-- at the end of a path is the type of the spot there
pub last_typed : (set : Schemas) (o : Option SpotHeld) (t : SchemaType) (u : Option SchemaType) → Some t ≡ u → IfSome o (IsSpotOf set t) → IfSome o (IsSpotAt set u)
last_typed set o t u end there = subst (λ (q : Option SchemaType). IfSome o (IsSpotAt set q)) end there

-- an element of the list at a spot
pub within_typed : (set : Schemas) (e : SchemaType) (o : Option SpotHeld) (f : Field) (n m : ℕ) → o ≡ Some (record { field = f; depth = n }) → m ≡ suc n → IfSome o (IsSpotOf set (ListType e)) → IsSpotOf set e (record { field = f; depth = m })
within_typed set e o f n m is more there =
    let at : IsSpotOf set (ListType e) (record { field = f; depth = n }) = subst (λ (q : Option SpotHeld). IfSome q (IsSpotOf set (ListType e))) is there in
    (at.0, at.1 ∙ (lists_more n e ∙ ap (λ (k : ℕ). lists_of k e) (sym more)))
