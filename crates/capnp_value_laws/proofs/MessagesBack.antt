-- Messages that are made of what is printed of whole values.
use Rattle.std.specs.Prelude.{⊤}
use Rattle.std.proofs.Common.{ℕ, suc, ◌<◌, ◌≡◌, ◌⊎◌, inl, inr, refl, List, [], ◌∷◌, length, map, Bool, true, false, None, Some, Ok, ap, sym, ◌∙◌, subst}
use Rattle.capnp_device.specs.declared.error.ErrorKind.{ErrorKind}
use Rattle.capnp_device.specs.declared.error.ErrorKind.TheVariants.{OutOfMemory, SizePastFormat}
use Rattle.capnp_wire.specs.Edits.{struct_in}
use Rattle.capnp_wire.specs.Tree.{Tree}
use Rattle.capnp_schema.specs.FieldLists.{field_schema, index_of, typed_of}
use Rattle.capnp_schema.specs.Schema.{Field, Schemas, TypedField, fields_of, is_member}
use Rattle.capnp_schema.specs.StructHandles.{number_of, set_of}
use Rattle.capnp_schema.specs.declared.schema.structs.StructSchema.{StructSchema}
use Rattle.capnp_records.specs.Call.{Call, Refused, Reply}
use Rattle.capnp_records.specs.Default.{default_record}
use Rattle.capnp_records.specs.Facts.Spelled.{same_said}
use Rattle.capnp_records.specs.Part.{value_count}
use Rattle.capnp_records.specs.Reading.{non_union_parts}
use Rattle.capnp_records.specs.Record.{Endless, Record, Value}
use Rattle.capnp_records.specs.Text.{said_text}
use Rattle.capnp_words.specs.Laws.{PrintedValuesAreRead}
use Rattle.capnp_words.specs.Marked.{FloatsAreReadBack}
use Rattle.capnp_slots.specs.Fields.{field_set}
use Rattle.capnp_call.specs.Messages.{new_record}
use Rattle.capnp_call.specs.Runs.{record_under_schema}
use Rattle.capnp_call.specs.Seen.{reply_seen}
use Rattle.capnp_diffs.specs.Laws.{HaveRoom}
use Rattle.capnp_value_texts.specs.Calls.{field_of_text, root_of_text}
use Rattle.capnp_value_texts.specs.Errors.{Read}
use Rattle.capnp_value_texts.specs.Values.{IsMadeOf, IsNotMadeOf, first_refusal}
use Rattle.capnp_value_texts.specs.declared.error.Error.{Error}
use Rattle.capnp_value_texts.specs.declared.error.Error.TheVariants as error
use Rattle.capnp_value_laws.specs.Laws.{AreDoneToRoom, HasPlace, Lead}
use Rattle.capnp_value_laws.specs.Messages.{IsForRoom, OnlyMakes, PrintedFieldsAreRead, PrintedRootsAreRead}
use Rattle.capnp_diffs.specs.Changes.{Either}
use Rattle.capnp_value_laws.proofs.NewRecords.{part}
use Rattle.capnp_value_laws.proofs.ReadBack.{fields_are_made, records_made}

-- ---- replies ----

refused_none : {kind : ErrorKind} → Some kind ≡ None → ⊥
refused_none e = cc

some_same : {k j : ErrorKind} → Some k ≡ Some j → k ≡ j
some_same e = cc

-- where none is a refusal there is room
none_room : (replies : List Reply) → first_refusal replies ≡ None → HaveRoom replies
none_room [] e = tt
none_room (Refused kind ∷ replies) e = absurd (refused_none e)
none_room (reply ∷ replies) e = (λ is. cc, λ is. cc, none_room replies e)

-- the first refusal is for room
first_room : (replies : List Reply) (kind : ErrorKind) → AreDoneToRoom replies → first_refusal replies ≡ Some kind → (kind ≡ OutOfMemory) ⊎ (kind ≡ SizePastFormat)
first_room [] kind goes e = absurd (refused_none (sym e))
first_room (reply ∷ replies) kind (inl (done, goes)) e = first_room replies kind goes (sym (ap (λ r. first_refusal (r ∷ replies)) done) ∙ e)
first_room (reply ∷ replies) kind (inr (inl refused)) e = inl (some_same (sym e ∙ ap (λ r. first_refusal (r ∷ replies)) refused))
first_room (reply ∷ replies) kind (inr (inr refused)) e = inr (some_same (sym e ∙ ap (λ r. first_refusal (r ∷ replies)) refused))

-- ---- messages ----

pub only_makes : (schema : StructSchema) (calls : List Call) (read : Read (List Call)) (new : Record) → read ≡ Ok calls → Lead (set_of schema) (number_of schema) (new_record schema) calls new → OnlyMakes schema read new
only_makes schema calls read new is lead = subst (λ (x : Read (List Call)). OnlyMakes schema x new) (sym is) (record { made = left; refused = not_left })
  where
    left : (t : Tree) → IsMadeOf schema (Ok calls) t → record_under_schema schema (struct_in t) ≡ new
    left t made = ((lead (map reply_seen made.left.replies) (record_under_schema schema (struct_in t)) made.left.runs).1 (none_room (map reply_seen made.left.replies) made.left.first)).1

    not_left : (e : Error) → IsNotMadeOf schema (Ok calls) e → IsForRoom e
    not_left error.OutOfMemory why = tt
    not_left (error.Refused r) why = absurd why
    not_left (error.NotMade kind) (left, run) =
        first_room (map reply_seen run.replies) kind (lead (map reply_seen run.replies) (record_under_schema schema left) run.runs).0 run.first

-- ---- an empty root has a place for each field ----

count_parts : (part : TypedField → Value) (fs : List TypedField) → value_count (non_union_parts part fs) ≡ length fs
count_parts part [] = refl
count_parts part (f ∷ fs) = ap suc (count_parts part fs)

pub new_place : (set : Schemas) (b i : ℕ) (f : Field) → i < length (fields_of set b) → HasPlace (default_record set Endless b) f i
new_place set b i f inside = go (is_member f)
  where
    go : (q : Bool) → Either q ⊤ (i < value_count (non_union_parts (part set) (fields_of set b)))
    go true = tt
    go false = subst (λ n. i < n) (sym (count_parts (part set) (fields_of set b))) inside

module _ (read : PrintedValuesAreRead) (back : FloatsAreReadBack) where
  pub roots_read : PrintedRootsAreRead
  roots_read schema indented r text stands whole print =
      let (own, own_said, calls, is, lead) = records_made read back (set_of schema) indented (number_of schema) r (said_text text) stands.accepted whole print in
      only_makes schema calls (root_of_text (set_of schema) (number_of schema) text) r (ap (root_of_text (set_of schema) (number_of schema)) (same_said text own own_said) ∙ is) lead

  pub fields_read : PrintedFieldsAreRead
  fields_read f indented v text stands inside whole print =
      let s = field_schema f in
      let (own, own_said, calls, is, lead) = fields_are_made read back (set_of s) indented (number_of s) (index_of f) (new_record s) v (said_text text) stands.accepted inside (new_place (set_of s) (number_of s) (index_of f) (typed_of f).field inside) whole print in
      only_makes s calls (field_of_text (field_set f) (typed_of f) (index_of f) text) _ (ap (field_of_text (field_set f) (typed_of f) (index_of f)) (same_said text own own_said) ∙ is) lead
