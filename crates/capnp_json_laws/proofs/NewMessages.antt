-- A message that is read of a record's JSON has the record.
use Rattle.std.proofs.Common.{◌≡◌, ℕ, Bool, List, Ok, sym, subst, ◌∙◌}
use Rattle.capnp_schema.specs.Schema.{Schemas}
use Rattle.capnp_schema.specs.StructHandles.{number_of, set_of}
use Rattle.capnp_schema.specs.Types.{StructType}
use Rattle.capnp_records.specs.Record as value
use Rattle.capnp_records.specs.Record.{Record}
use Rattle.capnp_json.specs.Json.{json_of}
use Rattle.capnp_json.specs.Pieces.{IsJson}
use Rattle.capnp_from_json.specs.Errors.{Read}
use Rattle.capnp_from_json.specs.Records.{Rules, record_of_json}
use Rattle.capnp_json_messages.specs.Laws.{RulesAreThere}
use Rattle.capnp_json_messages.specs.Walks.{AreRules}
use Rattle.capnp_json_laws.specs.AsRead.{HasDistinctNames, record_as_read}
use Rattle.capnp_json_laws.specs.Fitting.{IsShaped, RecordHasRoom}
use Rattle.capnp_json_laws.specs.NewMessages.{NewMessagesHaveTheRecord}
use Rattle.capnp_json_laws.proofs.RecordsBack.{records_back}

-- by rules of the set
by_rules : (set : Schemas) (strict indented : Bool) (b g : ℕ) (r : Record) (text : List ℕ) (rules : Rules) → AreRules set strict rules → HasDistinctNames set → IsShaped set b r → RecordHasRoom set b r
    → IsJson (json_of set indented (StructType b g) (value.Struct r)) text → record_of_json rules b text ≡ Ok (record_as_read set b r)
by_rules set strict indented b g r text rules are =
    subst (λ s. HasDistinctNames s → IsShaped s b r → RecordHasRoom s b r → IsJson (json_of s indented (StructType b g) (value.Struct r)) text → record_of_json rules b text ≡ Ok (record_as_read s b r)) are.of_set
    (λ names shaped room h. records_back rules b g indented r text (record { floats = are.floats; names = names }) shaped room h)

same_record : (a b : Record) → ◌≡◌ {A = Read Record} (Ok a) (Ok b) → a ≡ b
same_record a b e = cc

pub new_messages : RulesAreThere → NewMessagesHaveTheRecord
new_messages there schema strict indented g r text root names shaped room h is =
    let rules = there (set_of schema) strict in
    same_record _ (record_as_read (set_of schema) (number_of schema) r)
    (sym (is.is rules.0 rules.1) ∙ by_rules (set_of schema) strict indented (number_of schema) g r text rules.0 rules.1 names shaped room h)
