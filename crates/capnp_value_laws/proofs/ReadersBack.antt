-- What a reader prints is the text of the record without levels.
use Rattle.std.proofs.Common.{List, ℕ, [], Bool, false, ◌≡◌, Ok, Err, inl, ap, subst, sym, ◌∙◌}
use Rattle.capnp_wire.specs.Edits.{struct_in}
use Rattle.capnp_wire.specs.Tree.{Tree}
use Rattle.capnp_wire.specs.Standing.{struct_levels, struct_of}
use Rattle.capnp_schema.specs.StructHandles.{number_of, set_of}
use Rattle.capnp_schema.specs.declared.schema.structs.StructSchema.{StructSchema}
use Rattle.capnp_records.proofs.Cut.{struct_record_cuts}
use Rattle.capnp_records.specs.Reading.{struct_record}
use Rattle.capnp_records.specs.Text.{IsText, Out, known_pieces, said_text}
use Rattle.capnp_records.specs.Record as value
use Rattle.capnp_records.specs.Record.{Left, Record}
use Rattle.capnp_records.specs.Facts.Spelled.{spelled_known}
use Rattle.capnp_float_texts.specs.Printed.{printed_float_text}
use Rattle.capnp_float_texts.specs.Texts.{float_text_of}
use Rattle.capnp_dynamic_readers.specs.Handles.{reader_of, schema_of}
use Rattle.capnp_dynamic_readers.specs.Pieces.{IsAppended}
use Rattle.capnp_dynamic_readers.specs.Seen.{record_seen}
use Rattle.capnp_dynamic_readers.specs.Shown.{struct_printed}
use Rattle.capnp_dynamic_readers.specs.Typed.{struct_type}
use Rattle.capnp_dynamic_readers.specs.declared.dynamic_struct.Reader.{Reader as StructHandle}
use Rattle.capnp_dynamic_readers.specs.declared.dynamic_value.Reader.TheVariants.{Struct}
use Rattle.capnp_words.specs.Laws.{PrintedValuesAreRead}
use Rattle.capnp_words.specs.Marked.{FloatsAreReadBack}
use Rattle.capnp_call.specs.Runs.{record_under_schema}
use Rattle.capnp_value_laws.specs.Readers.{HasRecordOf, IsWholeStruct, ReadersComeBack}
use Rattle.capnp_value_laws.specs.Messages.{IsForRoom, OnlyMakes}
use Rattle.capnp_value_texts.specs.Calls.{root_of_text}
use Rattle.capnp_value_texts.specs.Values.{IsMadeOf, IsNotMadeOf}
use Rattle.capnp_value_texts.specs.declared.error.Error.{Error}
use Rattle.capnp_value_laws.proofs.LevelsLeft.{float_text_refines}
use Rattle.capnp_value_laws.proofs.MessagesBack.{roots_read}
use Rattle.capnp_value_laws.proofs.ValuesRead.{print_is, whole_spelt}

pub readers_back : PrintedValuesAreRead → FloatsAreReadBack → ReadersComeBack
readers_back read back schema l indented s text stands whole print =
    let seen = value.Struct (struct_record (set_of schema) l s (number_of schema)) in
    roots_read read back schema indented (record_under_schema schema s) text stands whole
    (inl (sym (float_text_refines (set_of schema) false indented (struct_type schema) seen (value.Struct (record_under_schema schema s)) (struct_record_cuts (set_of schema) l s (number_of schema)) (known_pieces text)
    (sym (print_is (set_of schema) false indented (struct_type schema) seen (said_text text) print)))))

-- ---- what is appended ----

module _ (read : PrintedValuesAreRead) (back : FloatsAreReadBack) (s : StructHandle) (indented : Bool) (is : IsWholeStruct s) where
  abbrev schema : StructSchema
  schema = schema_of s

  abbrev seen : Record
  seen = record_under_schema schema (struct_of (reader_of s))

  abbrev out : Out
  out = float_text_of (set_of schema) false indented (struct_type schema) (value.Struct (record_seen s))

  out_is : printed_float_text false indented (Struct s) ≡ out
  out_is = ap (λ (group : Bool). float_text_of (set_of schema) false indented (struct_type schema) (struct_printed group s)) is.plain

  -- of a text that there is
  text_back : (o : Out) (bytes : List ℕ) → o ≡ out → IsText o bytes → OnlyMakes schema (root_of_text (set_of schema) (number_of schema) bytes) seen
  text_back (Err kind) bytes e spelt = absurd spelt
  text_back (Ok pieces) bytes e spelt =
      let whole : Ok pieces ≡ float_text_of (set_of schema) false indented (struct_type schema) (value.Struct seen) =
      sym (float_text_refines (set_of schema) false indented (struct_type schema) (value.Struct (record_seen s)) (value.Struct seen)
      (struct_record_cuts (set_of schema) (Left (struct_levels (reader_of s))) (struct_of (reader_of s)) (number_of schema)) pieces (sym e)) in
      let own = whole_spelt (set_of schema) false indented (struct_type schema) (value.Struct seen) (Ok pieces) (inl whole) is.whole in
      let bytes_are : bytes ≡ own.0 = spelled_known own.0 bytes (subst (λ (x : Out). IsText x bytes) own.2 spelt) in
      subst (λ (xs : List ℕ). OnlyMakes schema (root_of_text (set_of schema) (number_of schema) xs) seen) (sym bytes_are)
      (readers_back read back schema (Left (struct_levels (reader_of s))) indented (struct_of (reader_of s)) own.0 is.stands is.whole (inl (sym own.2 ∙ e)))

  pub appended_back : (bytes : List ℕ) → IsAppended [] (printed_float_text false indented (Struct s)) bytes → OnlyMakes schema (root_of_text (set_of schema) (number_of schema) bytes) seen
  appended_back bytes (own, spelt, e) = text_back (printed_float_text false indented (Struct s)) bytes out_is (subst (IsText (printed_float_text false indented (Struct s))) (sym e) spelt)

  -- ---- by the schema that a handle gives, and in an empty string ----

  module _ (given : StructSchema) (same : given ≡ schema) (old new bytes : List ℕ) (empty : old ≡ []) (all : bytes ≡ new) (appended : IsAppended old (printed_float_text false indented (Struct s)) new) where
    back_given : OnlyMakes given (root_of_text (set_of given) (number_of given) bytes) seen
    back_given =
        subst (λ (z : StructSchema). OnlyMakes z (root_of_text (set_of z) (number_of z) bytes) seen) (sym same)
        (appended_back bytes (subst (IsAppended [] (printed_float_text false indented (Struct s))) (sym all) (subst (λ (xs : List ℕ). IsAppended xs (printed_float_text false indented (Struct s)) new) empty appended)))

    pub same_record : (t : Tree) → IsMadeOf given (root_of_text (set_of given) (number_of given) bytes) t → HasRecordOf s t
    same_record t made = ap (λ (z : StructSchema). record_under_schema z (struct_in t)) (sym same) ∙ back_given.made t made

    pub for_room : (e : Error) → IsNotMadeOf given (root_of_text (set_of given) (number_of given) bytes) e → IsForRoom e
    for_room e why = back_given.refused e why
