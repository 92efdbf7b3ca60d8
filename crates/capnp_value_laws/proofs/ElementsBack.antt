-- What is printed of whole values is read back as elements of lists that have them alone.
use Rattle.std.proofs.Common.{ℕ, zero, suc, ◌≡◌, refl, List, Bool, true, arith, ap, subst, sym, ◌∙◌}
use Rattle.capnp_schema.specs.Accepted.{GroupFits}
use Rattle.capnp_schema.specs.FieldLists.{field_schema, index_of, typed_of}
use Rattle.capnp_schema.specs.Schema.{FieldKind, Group, Schemas, Slot, TypedField, brand_at, field_at}
use Rattle.capnp_schema.specs.StructHandles.{number_of, set_of}
use Rattle.capnp_schema.specs.Types.{ListType, SchemaType}
use Rattle.capnp_records.specs.Facts.Spelled.{same_said}
use Rattle.capnp_records.specs.Part.{with_part}
use Rattle.capnp_records.specs.Record.{Value}
use Rattle.capnp_records.specs.Text.{said_text}
use Rattle.capnp_json_fields.specs.Marks.{is_float}
use Rattle.capnp_words.specs.Laws.{PrintedValuesAreRead}
use Rattle.capnp_words.specs.Marked.{FloatsAreReadBack}
use Rattle.capnp_slots.specs.Fields.{field_set}
use Rattle.capnp_call.specs.Messages.{new_record}
use Rattle.capnp_diffs.specs.Changes.{ByKind}
use Rattle.capnp_value_texts.specs.Calls.{alone_within, element_of_text, field_target, lists_of, value_calls}
use Rattle.capnp_value_texts.specs.Errors.{read_then}
use Rattle.capnp_value_texts.specs.Written.{Written, most_levels, written}
use Rattle.capnp_value_laws.specs.Laws.{PrintedElementsAreMade, alone_value}
use Rattle.capnp_value_laws.specs.Messages.{PrintedElementsAreRead}
use Rattle.capnp_value_laws.specs.Texts.{AreAlike}
use Rattle.capnp_value_laws.specs.Trees.{printed_value}
use Rattle.capnp_value_laws.specs.Whole.{IsWhole, IsWholeGroup}
use Rattle.capnp_value_laws.proofs.CallsAlike.{alike_calls}
use Rattle.capnp_value_laws.proofs.MessagesBack.{new_place, only_makes}
use Rattle.capnp_value_laws.proofs.NamesFound.{fields_known}
use Rattle.capnp_value_laws.proofs.ReadBack.{lead_run, place_of}
use Rattle.capnp_value_laws.proofs.RecordsMade.{field_made}
use Rattle.capnp_value_laws.proofs.ValuesRead.{text_read}

-- so many levels more
abbrev deeper_by : ℕ → ℕ → ℕ
deeper_by zero levels = levels
deeper_by (suc n) levels = suc (deeper_by n levels)

-- with as many levels more as lists
alone_whole : (set : Schemas) (floats : Bool) (levels : ℕ) (t : SchemaType) (v : Value) (n : ℕ) → IsWhole set floats levels t v → IsWhole set floats (deeper_by n levels) (lists_of n t) (alone_value n v)
alone_whole set floats levels t v zero h = h
alone_whole set floats levels t v (suc n) h = (omega arith, (alone_whole set floats levels t v n h, tt))

alone_alike : (set : Schemas) (floats : Bool) (t : SchemaType) (v : Value) (w : Written) (n : ℕ) → AreAlike (printed_value set floats t v) w → AreAlike (printed_value set floats (lists_of n t) (alone_value n v)) (alone_within n w)
alone_alike set floats t v w zero h = h
alone_alike set floats t v w (suc n) h = (tt, alone_alike set floats t v w n h, tt)

element_is : (set : Schemas) (f : TypedField) (i n : ℕ) (text : List ℕ) → element_of_text set f i n text ≡ read_then (written text) (λ w. value_calls set (alone_within n w) (field_target f i))
unfolding element_of_text
element_is set f i n text = refl

-- a list is in a slot
in_slot : {A : Type 0} (B : Type 0) (set : Schemas) (k : FieldKind) (t : SchemaType) → GroupFits set k (ListType t) → A → ByKind k A B
in_slot B set (Slot offset default) t fits a = a
in_slot B set (Group node) t fits a = absurd fits

module _ (read : PrintedValuesAreRead) (back : FloatsAreReadBack) where
  pub elements_are_made : PrintedElementsAreMade
  elements_are_made set indented b i n old t v o accepted known inside place typed whole print =
      let f = field_at set b i in
      let (text, said, w, is, alike) = text_read set (is_float f) indented t v o print whole in
      let lists = subst (λ (u : SchemaType). IsWhole set (is_float f) (deeper_by (suc n) most_levels) u (alone_value (suc n) v)) (sym typed) (alone_whole set (is_float f) most_levels t v (suc n) whole) in
      let held : ByKind f.field.kind (IsWhole set (is_float f) (deeper_by (suc n) most_levels) f.type (alone_value (suc n) v)) (IsWholeGroup set (deeper_by (suc n) most_levels) f.type (alone_value (suc n) v)) =
      in_slot _ set f.field.kind (lists_of n t) (subst (GroupFits set f.field.kind) typed (accepted.rule7 b i known inside)) lists in
      let made = field_made read back set (fields_known set accepted) (alone_value (suc n) v) (deeper_by (suc n) most_levels) b (brand_at set b).node i true old inside (place_of old f.field i place) held in
      let same = subst (λ (u : SchemaType). AreAlike (printed_value set (is_float f) u (alone_value (suc n) v)) (alone_within (suc n) w)) (sym typed) (alone_alike set (is_float f) t v w (suc n) alike) in (
        text,
        said,
        made.calls,
        element_is set f i (suc n) text
            ∙ (ap (λ x. read_then x (λ y. value_calls set (alone_within (suc n) y) (field_target f i))) is
            ∙ alike_calls set (printed_value set (is_float f) f.type (alone_value (suc n) v)) (alone_within (suc n) w) (field_target f i) made.calls same made.read),
        lead_run set b made.calls old (with_part old f.field i (alone_value (suc n) v)) made.leads,
      )

  pub elements_read : PrintedElementsAreRead
  elements_read f indented n t v text stands inside typed whole print =
      let s = field_schema f in
      let (own, own_said, calls, is, lead) = elements_are_made (set_of s) indented (number_of s) (index_of f) n (new_record s) t v (said_text text) stands.accepted stands.number inside
      (new_place (set_of s) (number_of s) (index_of f) (typed_of f).field inside) typed whole print in
      only_makes s calls (element_of_text (field_set f) (typed_of f) (index_of f) (suc n) text) _ (ap (element_of_text (field_set f) (typed_of f) (index_of f) (suc n)) (same_said text own own_said) ∙ is) lead
