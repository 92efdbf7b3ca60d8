-- Where an object or an array begins, the value of a list's type is a list of values, and a set takes a copy of it.
use Rattle.std.proofs.Common.{ℕ, ◌≡◌, ◌-◌, ◌≤◌, ◌==◌, ◌||◌, ◌&&◌, ◌∷◌, [], List, Bool, true, false, Option, None, Some, Ok, Err, length, refl, ap, sym, subst, ◌∙◌}
use Rattle.std.proofs.lemmas.Bool.{eqb-true, true≢false}
use Rattle.capnp_wire.specs.Depth.{IsShallow, message_levels}
use Rattle.capnp_wire.specs.Tree.{Tree}
use Rattle.capnp_wire.specs.Words.{first_fault}
use Rattle.capnp_schema.specs.Schema.{Schemas}
use Rattle.capnp_schema.specs.Types.{ListType, SchemaType}
use Rattle.capnp_records.specs.Record.{MoreValues, NoValues, Value, Values}
use Rattle.capnp_json_text.specs.Faults.{fault_of}
use Rattle.capnp_json_text.specs.Laws.{StandsInSteps}
use Rattle.capnp_json_text.specs.Readings.{after_blanks}
use Rattle.capnp_json_text.specs.Texts.{kind_of}
use Rattle.capnp_json_text.specs.Values.{Json, json_at, json_by}
use Rattle.capnp_json_text.specs.declared.kinds.Kind.{Kind}
use Rattle.capnp_json_text.specs.declared.kinds.Kind.TheVariants as kind
use Rattle.capnp_json_fields.specs.Marks.{has_float_base}
use Rattle.capnp_json_fields.specs.declared.fields.DataForm.TheVariants.{Array}
use Rattle.capnp_from_json.specs.Errors.{Read, refused}
use Rattle.capnp_from_json.specs.LeafReads.{under}
use Rattle.capnp_from_json.specs.Leaves.{OfElement, Target}
use Rattle.capnp_from_json.specs.Records.{Rules, all_levels, as_elements, unless, value_of_json}
use Rattle.capnp_from_json.specs.declared.error.Error.{Error as TextError}
use Rattle.capnp_from_json.specs.declared.error.Error.TheVariants.{OutOfMemory, Refused, TooLarge}
use Rattle.capnp_from_json.specs.declared.error.RefusalKind.TheVariants.{SizePastFormat, TooDeep}
use Rattle.capnp_json_messages.specs.Holders.{IsOneOf, text_element, value_in_root}
use Rattle.capnp_json_messages.specs.Laws.{RulesAreThere}
use Rattle.capnp_json_messages.specs.Ones.{IsListIfAsked, IsReadable, element_source, is_elements, is_whole}
use Rattle.capnp_json_messages.specs.Put.{IsListOf}
use Rattle.capnp_json_messages.specs.Rows.{row_set, row_type}
use Rattle.capnp_json_messages.specs.Walks.{IsRead, IsRefused}
use Rattle.capnp_json_messages.specs.declared.row.Row.{Row}
use Rattle.capnp_json_messages.proofs.OneCopied.{one_readable, one_taken}
use Rattle.riftcalico_core.specs.Steps.JsonValues.{IsRefusedAt}
use Rattle.riftcalico_core.specs.JsonValues.{IsWholeRead, IsWholeUnread, begin, begins_whole, openings, refused as refused_there, too_deep, unbegun}

-- ---- a list by its text ----

abbrev good : Value → Read Value
good v = Ok v

same_value : {v w : Value} → good v ≡ good w → v ≡ w
same_value e = cc

abbrev is_good : Read Value → Bool
is_good (Ok v) = true
is_good (Err r) = false

no_value : {r : Read Value} {v : Value} → is_good r ≡ false → r ≡ good v → ⊥
no_value none is = true≢false (sym (ap is_good is) ∙ none)

-- an array gives a list, or nothing
values_by : (q past : Bool) (place : ℕ) (r : Read Values) (v : Value) → unless q (refused TooDeep place) (unless past (refused SizePastFormat place) (as_elements r)) ≡ good v → is_elements v ≡ true
values_by true past place r v h = absurd (no_value refl h)
values_by false true place r v h = absurd (no_value refl h)
values_by false false place (Ok vs) v h = ap is_elements (sym (same_value h))
values_by false false place (Err e) v h = absurd (no_value refl h)

module _ (rules : Rules) (e : SchemaType) (f : Bool) (v : Value) (levels : ℕ) where
  abbrev target : Target
  target = under (ListType e) OfElement f Array

  of_array : (json : List ℕ → Json) (whole b : ℕ) (bs : List ℕ) → value_of_json rules (json_by json whole (Some kind.Array) b bs) levels target ≡ good v → is_elements v ≡ true
  of_array json whole b bs h = values_by _ _ _ _ v h

  of_object : (json : List ℕ → Json) (whole b : ℕ) (bs : List ℕ) → value_of_json rules (json_by json whole (Some kind.Object) b bs) levels target ≡ good v → is_elements v ≡ true
  of_object json whole b bs h = absurd (no_value refl h)

  at_kind : (json : List ℕ → Json) (whole b : ℕ) (bs : List ℕ) (o p : Option Kind) → o ≡ p → value_of_json rules (json_by json whole o b bs) levels target ≡ good v
      → value_of_json rules (json_by json whole p b bs) levels target ≡ good v
  at_kind json whole b bs o p e h = subst (λ (q : Option Kind). value_of_json rules (json_by json whole q b bs) levels target ≡ good v) e h

  by_bytes : (json : List ℕ → Json) (whole b : ℕ) (bs : List ℕ) (p q : Bool) → (b == 123) ≡ p → (b == 91) ≡ q → (p || q) ≡ true
      → value_of_json rules (json_by json whole (kind_of b) b bs) levels target ≡ good v → is_elements v ≡ true
  by_bytes json whole b bs true q is other begins h = of_object json whole b bs (at_kind json whole b bs (kind_of b) (Some kind.Object) (ap kind_of (eqb-true b 123 is)) h)
  by_bytes json whole b bs false true is other begins h = of_array json whole b bs (at_kind json whole b bs (kind_of b) (Some kind.Array) (ap kind_of (eqb-true b 91 other)) h)
  by_bytes json whole b bs false false is other begins h = absurd (true≢false (sym begins))

  begun_list : StandsInSteps → (whole : ℕ) (bs : List ℕ) → begins_whole bs ≡ true → value_of_json rules (json_at whole bs) levels target ≡ good v → is_elements v ≡ true
  begun_list steps whole [] begins h = absurd (true≢false (sym begins))
  begun_list steps whole (b ∷ bs) begins h =
      by_bytes (json_at whole) whole b bs (b == 123) (b == 91) refl refl begins (sym (ap (λ (j : Json). value_of_json rules j levels target) (steps.values whole b bs)) ∙ h)

list_text : StandsInSteps → (rules : Rules) (e : SchemaType) (f : Bool) (text : List ℕ) (v : Value) → begins_whole (after_blanks text) ≡ true → text_element (ListType e) f text rules ≡ good v → is_elements v ≡ true
list_text steps rules e f text v begins h = by_fault (fault_of text) refl
  where
    by_fault : (o : Option ℕ) → fault_of text ≡ o → is_elements v ≡ true
    by_fault None is =
        begun_list rules e f v (all_levels - 1) steps (length text) (after_blanks text) begins (sym (ap (value_in_root rules (under (ListType e) OfElement f Array)) (steps.texts text is)) ∙ h)
    by_fault (Some place) is =
        absurd (no_value refl (sym (ap (value_in_root rules (under (ListType e) OfElement f Array)) (steps.refused text place is)) ∙ h))

-- ---- what is read of it ----

pub there_if_asked : StandsInSteps → RulesAreThere → (set : Schemas) (t : SchemaType) (f : Bool) (text : List ℕ) (v : Value) → begins_whole (after_blanks text) ≡ true
    → IsRead set true (text_element t f text) v → IsListIfAsked t v
there_if_asked steps there set (ListType e) f text v begins is =
    let rules = there set true in
    list_text steps rules.0 e f text v begins (is rules.0 rules.1)
there_if_asked steps there set t f text v begins is = tt

-- ---- what the code reads ----

module _ (row : Row) (set : Schemas) (t : SchemaType) (floats : Bool) (text : List ℕ) (set_is : row_set row ≡ set) (of : row_type row ≡ t) (floats_are : row.is_float ≡ (floats && has_float_base t)) where
  read_so : (v : Value) → IsRead (row_set row) true (text_element (row_type row) row.is_float text) v → IsRead set true (text_element t (floats && has_float_base t) text) v
  read_so v is =
      subst (λ (s : Schemas). IsRead s true (text_element t (floats && has_float_base t) text) v) set_is
      (subst (λ (u : SchemaType). IsRead (row_set row) true (text_element u (floats && has_float_base t) text) v) of
      (subst (λ (q : Bool). IsRead (row_set row) true (text_element (row_type row) q text) v) floats_are is))

  refused_so : (e : TextError) → IsRefused (row_set row) true (text_element (row_type row) row.is_float text) e → IsRefused set true (text_element t (floats && has_float_base t) text) e
  refused_so e is =
      subst (λ (s : Schemas). IsRefused s true (text_element t (floats && has_float_base t) text) e) set_is
      (subst (λ (u : SchemaType). IsRefused (row_set row) true (text_element u (floats && has_float_base t) text) e) of
      (subst (λ (q : Bool). IsRefused (row_set row) true (text_element (row_type row) q text) e) floats_are is))

  list_so : (x : Tree) (vs : Values) → IsListOf (row_set row) (row_type row) x vs → IsListOf set t x vs
  list_so x vs list = subst (λ (s : Schemas). IsListOf s t x vs) set_is (subst (λ (u : SchemaType). IsListOf (row_set row) u x vs) of list)

  pub refused_at : (e : TextError) (place : ℕ) → IsRefused (row_set row) true (text_element (row_type row) row.is_float text) e → IsRefusedAt e place → IsWholeUnread set floats t text place
  refused_at (Refused r) place told at = subst (IsWholeUnread set floats t text) (sym at) (refused_there r.kind r.place (refused_so (Refused r) told))
  refused_at OutOfMemory place told at = absurd at
  refused_at TooLarge place told at = absurd at

  pub deep_at : (at : ℕ) (x : Tree) → at ≡ begin text → IsOneOf row true text x → (IsShallow x → ⊥) → message_levels ≤ openings text → IsWholeUnread set floats t text at
  deep_at at x place one deep many =
      subst (IsWholeUnread set floats t text) (sym place)
      (too_deep (record { value = one.value; is = read_so one.value one.is; tree = x; list = list_so x (MoreValues one.value NoValues) one.list; deep = deep; many = many }))

  module _ (steps : StandsInSteps) (there : RulesAreThere) (begun : begins_whole (after_blanks text) ≡ true) (x : Tree) (one : IsOneOf row true text x) where
    asked : IsListIfAsked t one.value
    asked = there_if_asked steps there set t (floats && has_float_base t) text one.value begun (read_so one.value one.is)

    pub readable_at : IsReadable t x
    readable_at = one_readable set t x one.value (list_so x (MoreValues one.value NoValues) one.list) asked

    pub read_at : is_whole t ≡ true → first_fault x ≡ None → IsShallow x → IsWholeRead set floats t text (element_source t x)
    read_at whole sound shallow = record {
      value = one.value;
      is = read_so one.value one.is;
      taken = one_taken set t x one.value whole asked (list_so x (MoreValues one.value NoValues) one.list) sound shallow;
    }

-- no object and no array begins
pub unbegun_at : (set : Schemas) (floats : Bool) (t : SchemaType) (text behind : List ℕ) (at : ℕ) (begun : Bool) → at ≡ begin text → behind ≡ after_blanks text → begun ≡ begins_whole behind → begun ≡ false
    → IsWholeUnread set floats t text at
unbegun_at set floats t text behind at begun place is asked none =
    subst (IsWholeUnread set floats t text) (sym place) (unbegun (sym (ap begins_whole is) ∙ (sym asked ∙ none)))

pub begun_is : (text behind : List ℕ) (begun : Bool) → behind ≡ after_blanks text → begun ≡ begins_whole behind → begun ≡ true → begins_whole (after_blanks text) ≡ true
begun_is text behind begun is asked there = sym (ap begins_whole is) ∙ (sym asked ∙ there)
