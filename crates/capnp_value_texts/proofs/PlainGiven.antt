-- What a set is given, by its value and its type.
use Rattle.std.proofs.Common.{◌≡◌, Bool, true, false, ap, refl, sym, ◌∙◌}
use Rattle.std.proofs.lemmas.Bool.{true≢false}
use Rattle.capnp_schema.specs.Types.{AnyPointerType, ListType, SchemaType, StructType}
use Rattle.capnp_dynamic_readers.specs.Seen.{value_seen}
use Rattle.capnp_dynamic_readers.specs.Shown.{type_seen}
use Rattle.capnp_dynamic_readers.specs.declared.dynamic_value.Reader.{Reader as DynamicValue}
use Rattle.capnp_dynamic_readers.specs.declared.dynamic_value.Reader.TheVariants as dynamic
use Rattle.capnp_slots.specs.SetValues.{source_of as given_source}
use Rattle.capnp_words.specs.Seen.{word_value_seen, word_value_type}
use Rattle.capnp_words.specs.declared.value.PlainValue.{PlainValue}
use Rattle.capnp_words.specs.declared.value.PlainValue.TheVariants as plain
use Rattle.capnp_value_texts.specs.Calls.{source_taken}

abbrev is_plain : SchemaType → Bool
is_plain (StructType b g) = false
is_plain (ListType e) = false
is_plain AnyPointerType = false
is_plain t = true

plain_is : (v : PlainValue) → is_plain (word_value_type v) ≡ true
plain_is plain.Void = refl
plain_is (plain.Bool b) = refl
plain_is (plain.Int8 x) = refl
plain_is (plain.Int16 x) = refl
plain_is (plain.Int32 x) = refl
plain_is (plain.Int64 x) = refl
plain_is (plain.UInt8 x) = refl
plain_is (plain.UInt16 x) = refl
plain_is (plain.UInt32 x) = refl
plain_is (plain.UInt64 x) = refl
plain_is (plain.Enum e) = refl
plain_is (plain.Text bytes) = refl
plain_is (plain.«Data» bytes) = refl

-- a value that no pointer leads on from is given by its type
given_is : (r : DynamicValue) → is_plain (type_seen r) ≡ true → given_source r ≡ source_taken (type_seen r) (value_seen r)
given_is dynamic.Void h = refl
given_is (dynamic.Bool b) h = refl
given_is (dynamic.Int8 x) h = refl
given_is (dynamic.Int16 x) h = refl
given_is (dynamic.Int32 x) h = refl
given_is (dynamic.Int64 x) h = refl
given_is (dynamic.UInt8 x) h = refl
given_is (dynamic.UInt16 x) h = refl
given_is (dynamic.UInt32 x) h = refl
given_is (dynamic.UInt64 x) h = refl
given_is (dynamic.Enum e) h = refl
given_is (dynamic.Text t) h = refl
given_is (dynamic.«Data» bytes) h = refl
given_is (dynamic.Struct s) h = absurd (true≢false (sym h))
given_is (dynamic.List l) h = absurd (true≢false (sym h))
given_is (dynamic.AnyPointer p) h = absurd (true≢false (sym h))

pub plain_given : (r : DynamicValue) (v : PlainValue) → value_seen r ≡ word_value_seen v → type_seen r ≡ word_value_type v → given_source r ≡ source_taken (word_value_type v) (word_value_seen v)
plain_given r v value typed =
    given_is r (ap is_plain typed ∙ plain_is v) ∙ (ap (λ (t : SchemaType). source_taken t (value_seen r)) typed ∙ ap (source_taken (word_value_type v)) value)
