-- The JSON of a record of a struct is read as the record.
use Rattle.std.proofs.Common.{◌≡◌, ℕ, Ok, refl, ap, subst, ◌∙◌, arith}
use Rattle.capnp_schema.specs.Types.{StructType}
use Rattle.capnp_records.specs.Record as value
use Rattle.capnp_records.specs.Record.{Record}
use Rattle.capnp_json_text.specs.Values.{Json}
use Rattle.capnp_from_json.specs.Leaves.{OfSlot}
use Rattle.capnp_from_json.specs.Records.{Rules, read_json, record_of_json, root_of_json}
use Rattle.capnp_json_laws.specs.AsRead.{record_as_read}
use Rattle.capnp_json_laws.specs.Fitting.{IsShaped, RecordHasRoom}
use Rattle.capnp_json_laws.specs.Laws.{AreFair, RecordsAreReadBack}
use Rattle.capnp_json_laws.specs.Stands.{HasValue}
use Rattle.capnp_json_laws.specs.Texts.{IsTreeOf}
use Rattle.capnp_json_laws.specs.Trees.{IsRecordTree}
use Rattle.capnp_json_laws.proofs.RecordsRead.{record_is_read}
use Rattle.capnp_json_laws.proofs.Whole.{value_text}
use Rattle.capnp_json_laws.proofs.Written.{json_written}

root_is_read : (rules : Rules) → AreFair rules → (b g : ℕ) (r : Record) (j : Json) → IsShaped rules.set b r → RecordHasRoom rules.set b r → IsTreeOf rules.set (StructType b g) (value.Struct r) j → root_of_json rules b j ≡ Ok (record_as_read rules.set b r)
root_is_read rules fair b g r j shaped room (left, e, (place, ms, are, same)) =
    let levels : left ≡ 63 = omega arith in
    ap (root_of_json rules b) same ∙ record_is_read rules fair 63 b r ms shaped room (subst (λ n. IsRecordTree rules.set n b r ms) levels are)

pub records_back : RecordsAreReadBack
unfolding record_of_json
records_back rules b g indented r text fair shaped room h =
    let v : HasValue text (IsTreeOf rules.set (StructType b g) (value.Struct r)) =
    value_text text (IsTreeOf rules.set (StructType b g) (value.Struct r)) (json_written rules.set indented OfSlot (StructType b g) (value.Struct r) text (tt, b, g, refl, shaped) h) in
    ap (read_json rules b) v.2 ∙ root_is_read rules fair b g r v.0 shaped room v.1
