-- Sets in which names in JSON are distinct: those that the check of names passed, and those whose fields have no names by
-- annotations.
use Rattle.std.specs.Prelude.{ℕ, ◌≡◌, false, slice_get, Some, None}
use Rattle.capnp_schema.specs.Accepted.{IsAccepted}
use Rattle.capnp_schema.specs.Query.{records_of}
use Rattle.capnp_schema.specs.Schema.{Enumerant, Field, Schemas, enum_at}
use Rattle.capnp_json_fields.specs.Marks.{is_annotated}
use Rattle.capnp_json_fields.specs.Names.{enumerant_name, name_id}
use Rattle.capnp_json_names.specs.Meetings.{meeting_of}
use Rattle.capnp_json_laws.specs.AsRead.{HasDistinctNames}

-- no field has a name by an annotation
abbrev pub HasPlainFields : Schemas → Type 0
HasPlainFields set = (b i : ℕ) (f : Field) → slice_get (records_of set b) i ≡ Some f → is_annotated name_id f.annotations ≡ false

-- no two enumerants of an enum have one name
abbrev pub HasDistinctEnumerants : Schemas → Type 0
HasDistinctEnumerants set =
    (e i j : ℕ) (x y : Enumerant) → slice_get (enum_at set e).enumerants i ≡ Some x → slice_get (enum_at set e).enumerants j ≡ Some y → enumerant_name x ≡ enumerant_name y → i ≡ j

-- In an accepted set of such fields names are distinct where those of enumerants are.
abbrev pub PlainNamesAreDistinct : Type 0
PlainNamesAreDistinct = (set : Schemas) → IsAccepted set → HasPlainFields set → HasDistinctEnumerants set → HasDistinctNames set

-- no two enumerants of an enum have one own name of which no annotation gives one
abbrev pub HasOwnEnumerants : Schemas → Type 0
HasOwnEnumerants set =
    (e i j : ℕ) (x y : Enumerant) → slice_get (enum_at set e).enumerants i ≡ Some x → slice_get (enum_at set e).enumerants j ≡ Some y → is_annotated name_id x.annotations ≡ false → is_annotated name_id y.annotations ≡ false
    → x.name ≡ y.name → i ≡ j

-- In an accepted set in which no names meet, names are distinct where own names of enumerants are.
abbrev pub CheckedNamesAreDistinct : Type 0
CheckedNamesAreDistinct = (set : Schemas) → IsAccepted set → meeting_of set ≡ None → HasOwnEnumerants set → HasDistinctNames set
