-- The JSON of a message's root is read as the root's record.
use Rattle.std.proofs.Common.{◌≡◌, ℕ, ◌<◌, ◌==◌, Bool, true, false, List, [], length, refl, ap, sym, subst, ◌∙◌}
use Rattle.capnp_device.specs.declared.error.ErrorKind.TheVariants.{TooDeep}
use Rattle.capnp_wire.specs.Depth.{message_levels}
use Rattle.capnp_schema.specs.Accepted.{IsAccepted}
use Rattle.capnp_schema.specs.Ranges.{HasRanges}
use Rattle.capnp_schema.specs.Schema.{Schemas, VoidValue, brand_at}
use Rattle.capnp_schema.specs.Types.{StructType, struct_number}
use Rattle.capnp_records.specs.Default.{default_record, read_of}
use Rattle.capnp_records.specs.Reading.{entered_value, value_of}
use Rattle.capnp_records.specs.Record as value
use Rattle.capnp_records.specs.Record.{Left, Levels, Record, Value, is_there, levels_asked, one_less}
use Rattle.capnp_records.specs.Run.{root_type}
use Rattle.capnp_json.specs.Json.{json_of}
use Rattle.capnp_json.specs.Message.{as_written, root_value}
use Rattle.capnp_json.specs.Pieces.{IsJson}
use Rattle.capnp_from_json.specs.Leaves.{OfSlot}
use Rattle.capnp_json_laws.specs.AsRead.{record_as_read}
use Rattle.capnp_json_laws.specs.Fitting.{Fits, HasRoom, IsShaped}
use Rattle.capnp_json_laws.specs.Laws.{JsonComesBack}
use Rattle.capnp_json_laws.specs.Roots.{RootsAreReadBack}
use Rattle.capnp_json_laws.proofs.Again.{json_same}
use Rattle.capnp_json_laws.proofs.RecordsBack.{records_back}
use Rattle.capnp_json_laws.proofs.Shaped.{reading_fits, record_shaped}

-- a struct's record that is there
record IsStruct (set : Schemas) (b : ℕ) (v : Value) : Type 0 where
  r : Record
  is : v ≡ value.Struct r
  shaped : IsShaped set b r

-- a value of a struct's type that has a JSON
struct_of : (set : Schemas) (b g : ℕ) (indented : Bool) (v : Value) (text : List ℕ) → is_there v ≡ true → Fits set OfSlot (StructType b g) v
    → IsJson (json_of set indented (StructType b g) (as_written false v)) text → IsStruct set b v
struct_of set b g indented value.Void text here fits h = let no : ⊥ = cc in absurd no
struct_of set b g indented (value.Truth x) text here fits h = let no : ⊥ = cc in absurd no
struct_of set b g indented (value.Number x) text here fits h = absurd fits.1
struct_of set b g indented (value.Enum x) text here fits h = let e : StructType b g ≡ _ = fits.3 in let no : ⊥ = cc in absurd no
struct_of set b g indented (value.Text bytes) text here fits h = let no : ⊥ = cc in absurd no
struct_of set b g indented (value.Data bytes) text here fits h = let no : ⊥ = cc in absurd no
struct_of set b g indented (value.Struct r) text here fits h = record { r = r; is = refl; shaped = subst (λ x. IsShaped set x r) (sym (ap struct_number fits.3)) fits.4 }
struct_of set b g indented (value.Group r) text here fits h = let no : ⊥ = cc in absurd no
struct_of set b g indented (value.Elements vs) text here fits h = let no : ⊥ = cc in absurd no
struct_of set b g indented (value.Untyped x) text here fits h = absurd h
struct_of set b g indented (value.Fault kind) text here fits h = absurd h
struct_of set b g indented (value.Missing levels) text here fits h = let no : ⊥ = cc in absurd no
struct_of set b g indented value.Elsewhere text here fits h = absurd fits

abbrev IsThereOf : Schemas → (b g : ℕ) → Value → Type 0
IsThereOf set b g v = (is_there v ≡ true) × Fits set OfSlot (StructType b g) v

module _ (set : Schemas) (accepted : IsAccepted set) (ranges : HasRanges set) (b g : ℕ) (b_in : b < length set.brands) where
  -- what is read in the place of a null root
  new_root : (l : Levels) → IsThereOf set b g (entered_value l (value.Struct (default_record set (one_less l) b)))
  new_root l = go (levels_asked l == 0)
    where
      go : (q : Bool) → IsThereOf set b g (elim q as (λ _. Value) [ true ↦ value.Fault TooDeep | false ↦ value.Struct (default_record set (one_less l) b) ])
      go true = (refl, tt)
      go false = (refl, (tt, b, g, refl, record_shaped set accepted ranges (one_less l) [] [] tt b b_in))

  read_there : (v : Value) → Fits set OfSlot (StructType b g) v → IsThereOf set b g (read_of set VoidValue (StructType b g) v)
  read_there (value.Missing l) fits = new_root l
  read_there value.Void fits = (refl, fits)
  read_there (value.Truth x) fits = (refl, fits)
  read_there (value.Number x) fits = (refl, fits)
  read_there (value.Enum x) fits = (refl, fits)
  read_there (value.Text bytes) fits = (refl, fits)
  read_there (value.Data bytes) fits = (refl, fits)
  read_there (value.Struct r) fits = (refl, fits)
  read_there (value.Group r) fits = (refl, fits)
  read_there (value.Elements vs) fits = (refl, fits)
  read_there (value.Untyped x) fits = (refl, fits)
  read_there (value.Fault kind) fits = (refl, fits)
  read_there value.Elsewhere fits = (refl, fits)

pub roots_back : RootsAreReadBack
roots_back rules b indented root text fair is h =
    let set : Schemas = rules.set in
    let g : ℕ = (brand_at rules.set b).node in
    let v : Value = root_value rules.set b root in
    let there = read_there rules.set is.accepted is.ranges b (brand_at rules.set b).node is.brand (value_of rules.set root (Left message_levels) (StructType b (brand_at rules.set b).node))
    (reading_fits rules.set is.accepted is.ranges root is.formed (Left message_levels) (StructType b (brand_at rules.set b).node) refl ((is.brand, refl), tt)) in
    let json = subst (λ q. IsJson (json_of rules.set indented (root_type rules.set b) (as_written q (root_value rules.set b root))) text) is.struct h in
    let s = struct_of rules.set b (brand_at rules.set b).node indented (root_value rules.set b root) text there.0 there.1 json in (
      s.r,
      s.is,
      records_back rules b (brand_at rules.set b).node indented s.r text fair s.shaped
          (subst (λ x. HasRoom rules.set (root_type rules.set b) x) s.is is.room)
          (subst (λ x. IsJson (json_of rules.set indented (root_type rules.set b) (as_written false x)) text) s.is json),
    )

pub comes_back : JsonComesBack
comes_back rules b g indented r again text fair shaped room members h read =
    let law = records_back rules b g indented r text fair shaped room h in
    let same : again ≡ record_as_read rules.set b r = cc in
    ap (λ x. json_of rules.set indented (StructType b g) (value.Struct x)) same ∙ json_same rules.set b g indented r members
