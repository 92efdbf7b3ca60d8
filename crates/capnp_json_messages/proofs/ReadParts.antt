-- What is read of a part, and of the value that it makes.
use Rattle.std.proofs.Common.{ℕ, ◌≡◌, ◌-◌, Bool, true, false, List, [], Option, Err, refl, ap, sym, ◌∙◌}
use Rattle.capnp_schema.specs.Schema.{Schemas}
use Rattle.capnp_schema.specs.StructHandles.{number_of, set_of}
use Rattle.capnp_schema.specs.Types.{AnyPointerType, BoolType, DataType, EnumType, IntType, ListType, SchemaType, StructType, TextType, UIntType, VoidType}
use Rattle.capnp_schema.specs.declared.schema.structs.StructSchema.{StructSchema}
use Rattle.capnp_records.specs.Default.{default_record}
use Rattle.capnp_records.specs.Operation.{elements_past}
use Rattle.capnp_records.specs.Record as value
use Rattle.capnp_records.specs.Record.{Endless, Record, Value, Values}
use Rattle.capnp_json_text.specs.Values.{elements_of, json_at, members_of}
use Rattle.capnp_from_json.specs.Errors.{IsErrorOf, Read, refused}
use Rattle.capnp_from_json.specs.Records.{Rules, as_elements, as_group, as_struct, element_count, is_past, members_of_json, unless}
use Rattle.capnp_from_json.specs.declared.error.Error.{Error}
use Rattle.capnp_from_json.specs.declared.error.Error.TheVariants.{OutOfMemory, Refused, TooLarge}
use Rattle.capnp_from_json.specs.declared.error.RefusalKind.TheVariants.{SizePastFormat}
use Rattle.capnp_from_json.specs.declared.reading.Reading.{Reading}
use Rattle.capnp_from_json.proofs.Refusals.{error_same, error_through}
use Rattle.capnp_json_messages.specs.Opened.{list_by, record_opened}
use Rattle.capnp_json_messages.specs.Started.{IsPast}
use Rattle.capnp_json_messages.specs.Steps.Walks.{elements_json}
use Rattle.capnp_json_messages.specs.Walks.{AreRules, IsRead, IsRefused, members_json}

-- ---- rules ----

pub rules_of : (set set' : Schemas) (strict : Bool) (rules : Rules) → set' ≡ set → AreRules set strict rules → AreRules set' strict rules
rules_of set set' strict rules is are = record { of_set = are.of_set ∙ sym is; is_strict = are.is_strict; floats = are.floats }

-- ---- records ----

module _ (reading : Reading) (levels : ℕ) (schema : StructSchema) (first : Option (List ℕ)) (r : Record) (anew : r ≡ default_record (set_of schema) Endless (number_of schema)) where
  -- what is read into a new struct
  pub record_is : (rules : Rules) → rules.set ≡ set_of schema → record_opened rules reading.whole levels (number_of schema) first ≡ members_json reading levels schema first [] r rules
  record_is rules of_set =
      ap (λ (x : Record). members_of_json rules (members_of (json_at reading.whole) reading.whole first) levels (number_of schema) [] x)
      (ap (λ (z : Schemas). default_record z Endless (number_of schema)) of_set ∙ sym anew)

  module _ (strict : Bool) (v : Rules → Read Value) where
    pub struct_is : (x : Record) → IsRead (set_of schema) strict (members_json reading levels schema first [] r) x
        → ((rules : Rules) → v rules ≡ as_struct (record_opened rules reading.whole levels (number_of schema) first)) → IsRead (set_of schema) strict v (value.Struct x)
    struct_is x read opened = λ rules are. opened rules ∙ ap as_struct (record_is rules are.of_set ∙ read rules are)

    pub group_is : (x : Record) → IsRead (set_of schema) strict (members_json reading levels schema first [] r) x
        → ((rules : Rules) → v rules ≡ as_group (record_opened rules reading.whole levels (number_of schema) first)) → IsRead (set_of schema) strict v (value.Group x)
    group_is x read opened = λ rules are. opened rules ∙ ap as_group (record_is rules are.of_set ∙ read rules are)

    pub struct_refused : (e : Error) → IsRefused (set_of schema) strict (members_json reading levels schema first [] r) e
        → ((rules : Rules) → v rules ≡ as_struct (record_opened rules reading.whole levels (number_of schema) first)) → IsRefused (set_of schema) strict v e
    struct_refused e read opened = λ rules are.
        error_same (v rules) (as_struct (members_json reading levels schema first [] r rules)) e (opened rules ∙ ap as_struct (record_is rules are.of_set))
        (error_through as_struct (λ x. refl) (members_json reading levels schema first [] r rules) e (read rules are))

    pub group_refused : (e : Error) → IsRefused (set_of schema) strict (members_json reading levels schema first [] r) e
        → ((rules : Rules) → v rules ≡ as_group (record_opened rules reading.whole levels (number_of schema) first)) → IsRefused (set_of schema) strict v e
    group_refused e read opened = λ rules are.
        error_same (v rules) (as_group (members_json reading levels schema first [] r rules)) e (opened rules ∙ ap as_group (record_is rules are.of_set))
        (error_through as_group (λ x. refl) (members_json reading levels schema first [] r rules) e (read rules are))

-- ---- lists ----

past_same : (set : Schemas) (e : SchemaType) (n : ℕ) → is_past set e n ≡ elements_past set e n
past_same set VoidType n = refl
past_same set BoolType n = refl
past_same set (IntType k) n = refl
past_same set (UIntType k) n = refl
past_same set (EnumType m) n = refl
past_same set TextType n = refl
past_same set DataType n = refl
past_same set (StructType b g) n = refl
past_same set (ListType t) n = refl
past_same set AnyPointerType n = refl

-- past the format
past_refused : {A : Type 0} (past : Bool) (place : ℕ) (e : Error) (r : Read A) → IsPast past place e → (past ≡ true → r ≡ refused SizePastFormat place) → IsErrorOf r e
past_refused past place OutOfMemory r h read = tt
past_refused past place TooLarge r h read = absurd h
past_refused past place (Refused refusal) r h read = read h.0 ∙ ap Err (sym h.1)

module _ (reading : Reading) (levels place count : ℕ) (set : Schemas) (e : SchemaType) (is_float : Bool) (first : Option (List ℕ)) (strict : Bool) (v : Rules → Read Value)
    (counted : count ≡ element_count (elements_of (json_at reading.whole) first)) (opened : (rules : Rules) → v rules ≡ list_by rules reading.whole place levels e is_float first) where
  past_is : (rules : Rules) (q : Bool) → rules.set ≡ set → elements_past set e count ≡ q → is_past rules.set e (element_count (elements_of (json_at reading.whole) first)) ≡ q
  past_is rules q of_set is = ap (λ (z : Schemas). is_past z e (element_count (elements_of (json_at reading.whole) first))) of_set ∙ (past_same set e _ ∙ (ap (elements_past set e) (sym counted) ∙ is))

  -- a list that is past the format
  pub list_past : (x : Error) → IsPast (elements_past set e count) place x → IsRefused set strict v x
  list_past x h = λ rules are. past_refused (elements_past set e count) place x (v rules) h (λ past.
      opened rules ∙ ap (λ q. unless q (refused SizePastFormat place) (as_elements (elements_json reading (levels - 1) e is_float first rules))) (past_is rules true are.of_set past))

  list_by_elements : elements_past set e count ≡ false → (rules : Rules) → rules.set ≡ set → v rules ≡ as_elements (elements_json reading (levels - 1) e is_float first rules)
  list_by_elements within rules of_set =
      opened rules ∙ ap (λ q. unless q (refused SizePastFormat place) (as_elements (elements_json reading (levels - 1) e is_float first rules))) (past_is rules false of_set within)

  -- one within it
  pub list_is : elements_past set e count ≡ false → (vs : Values) → IsRead set strict (elements_json reading (levels - 1) e is_float first) vs → IsRead set strict v (value.Elements vs)
  list_is within vs read = λ rules are. list_by_elements within rules are.of_set ∙ ap as_elements (read rules are)

  pub list_refused : elements_past set e count ≡ false → (x : Error) → IsRefused set strict (elements_json reading (levels - 1) e is_float first) x → IsRefused set strict v x
  list_refused within x read = λ rules are.
      error_same (v rules) (as_elements (elements_json reading (levels - 1) e is_float first rules)) x (list_by_elements within rules are.of_set)
      (error_through as_elements (λ y. refl) (elements_json reading (levels - 1) e is_float first rules) x (read rules are))
