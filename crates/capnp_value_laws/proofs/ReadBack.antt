-- What is printed of whole values is read back.
use Rattle.std.specs.Prelude.{⊤}
use Rattle.std.proofs.Common.{ℕ, ◌<◌, ◌≡◌, ◌⊎◌, inl, inr, refl, List, [], Bool, true, false, ap, ◌∙◌}
use Rattle.capnp_schema.specs.Schema.{Field, Schemas, TypedField, brand_at, field_at, is_member}
use Rattle.capnp_schema.proofs.FieldCounts.{few_fields_of}
use Rattle.capnp_records.specs.Call.{Call}
use Rattle.capnp_records.specs.Default.{default_record}
use Rattle.capnp_records.specs.Part.{value_count, with_part}
use Rattle.capnp_records.specs.Record as value
use Rattle.capnp_records.specs.Record.{Endless, Record}
use Rattle.capnp_records.specs.Run.{root_type}
use Rattle.capnp_json_fields.specs.Marks.{is_float}
use Rattle.capnp_words.specs.Laws.{PrintedValuesAreRead}
use Rattle.capnp_words.specs.Marked.{FloatsAreReadBack}
use Rattle.capnp_diffs.proofs.Walked.{HasPlace as HasFieldPlace}
use Rattle.capnp_value_texts.specs.Calls.{InStruct, field_of_text, field_target, part_count, parts_calls, root_calls, root_of_text, value_calls}
use Rattle.capnp_value_texts.specs.Errors.{read_then}
use Rattle.capnp_value_texts.specs.Written.{Fields, most_levels, written}
use Rattle.capnp_value_laws.specs.Laws.{HasPlace, Lead, PrintedFieldsAreMade, PrintedRecordsAreMade}
use Rattle.capnp_value_laws.specs.Trees.{printed_record, printed_value}
use Rattle.capnp_diffs.specs.Changes.{Either}
use Rattle.capnp_value_laws.proofs.CallsAlike.{alike_calls, alike_root}
use Rattle.capnp_value_laws.proofs.CallsLead.{CallsLead, run_done, run_goes}
use Rattle.capnp_value_laws.proofs.ValuesRead.{IsReadAs, group_read, text_read}
use Rattle.capnp_value_laws.proofs.NamesFound.{fields_known}
use Rattle.capnp_value_laws.proofs.PartsMade.{few_read}
use Rattle.capnp_value_laws.proofs.RecordsMade.{by_kind, field_made, record_count, record_made}

struct_same : {r q : Record} → value.Struct r ≡ value.Struct q → r ≡ q
struct_same e = cc

root_is : (set : Schemas) (b : ℕ) (text : List ℕ) → root_of_text set b text ≡ read_then (written text) (root_calls set b)
unfolding root_of_text
root_is set b text = refl

field_is : (set : Schemas) (f : TypedField) (i : ℕ) (text : List ℕ) → field_of_text set f i text ≡ read_then (written text) (λ w. value_calls set w (field_target f i))
unfolding field_of_text
field_is set f i text = refl

-- calls that lead to a record are done, and leave it
pub lead_run : (set : Schemas) (b : ℕ) (calls : List Call) (old new : Record) → CallsLead set (root_type set b) (value.Struct old) calls (value.Struct new) → Lead set b old calls new
lead_run set b calls old new leads replies left run = (
  run_goes set b calls old (value.Struct new) leads replies left run,
  λ room. let (done, is) = run_done set b calls old (value.Struct new) leads replies left run room in (done, struct_same is),
)

pub place_of : (r : Record) (f : Field) (i : ℕ) → HasPlace r f i → HasFieldPlace r f i
place_of (value.Parts vs u) f i place = go (is_member f) refl place
  where
    go : (q : Bool) → is_member f ≡ q → Either q ⊤ (i < value_count vs) → (is_member f ≡ true) ⊎ ((is_member f ≡ false) × (i < value_count vs))
    go true e h = inl e
    go false e h = inr (e, h)

module _ (read : PrintedValuesAreRead) (back : FloatsAreReadBack) where
  pub records_made : PrintedRecordsAreMade
  records_made set indented b r o accepted whole print =
      let (text, said, w, is, alike) = text_read set false indented (root_type set b) (value.Struct r) o print whole in
      let ps = printed_record set b r in
      let made = record_made read back set (fields_known set accepted) r 63 b (brand_at set b).node true whole in (
        text,
        said,
        made.calls,
        root_is set b text
            ∙ (ap (λ x. read_then x (root_calls set b)) is
            ∙ alike_root set b (Fields 0 ps) w made.calls alike (few_read 0 (part_count ps) (parts_calls set ps (InStruct b) 0 []) (record_count set r 63 b whole (few_fields_of set accepted.rule3 b)) ∙ made.read)),
        lead_run set b made.calls (default_record set Endless b) r made.leads,
      )

  pub fields_are_made : PrintedFieldsAreMade
  fields_are_made set indented b i old v o accepted inside place whole print =
      let f = field_at set b i in
      let has : IsReadAs set (is_float f) f.type v o = by_kind f.field.kind (λ slot held. text_read set (is_float f) indented f.type v o print held) (λ group held. group_read set (is_float f) indented f.type v o print held) whole in
      let (text, said, w, is, alike) = has in
      let made = field_made read back set (fields_known set accepted) v most_levels b (brand_at set b).node i true old inside (place_of old f.field i place) whole in (
        text,
        said,
        made.calls,
        field_is set f i text
            ∙ (ap (λ x. read_then x (λ y. value_calls set y (field_target f i))) is
            ∙ alike_calls set (printed_value set (is_float f) f.type v) w (field_target f i) made.calls alike made.read),
        lead_run set b made.calls old (with_part old f.field i v) made.leads,
      )
