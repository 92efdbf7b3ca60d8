-- A value under another type than an enum needs no set.
use Rattle.std.proofs.Common.{◌≡◌, Bool, true, false, Result, Ok, Err, IfOk, ap, ◌∙◌, ℕ}
use Rattle.std.proofs.lemmas.Bool.{true≢false}
use Rattle.capnp_schema.specs.Schema.{Schemas}
use Rattle.capnp_schema.specs.Types.{EnumType, SchemaType}
use Rattle.capnp_words.specs.Seen.{IsOfSet, word_value_type}
use Rattle.capnp_words.specs.declared.value.PlainValue.{PlainValue}
use Rattle.capnp_words.specs.declared.value.PlainValue.TheVariants as plain

abbrev pub is_enum : SchemaType → Bool
is_enum (EnumType e) = true
is_enum t = false

of_none : (set : Schemas) (t : SchemaType) (v : PlainValue) → is_enum t ≡ false → word_value_type v ≡ t → IsOfSet set v
of_none set t (plain.Enum e) unlike is = absurd (true≢false (ap is_enum is ∙ unlike))
of_none set t v unlike is = tt

pub of_no_set : (set : Schemas) (t : SchemaType) (r : Result PlainValue ℕ) → is_enum t ≡ false → IfOk r (λ v. word_value_type v ≡ t) → IfOk r (IsOfSet set)
of_no_set set t (Ok v) unlike is = of_none set t v unlike is
of_no_set set t (Err place) unlike is = tt
