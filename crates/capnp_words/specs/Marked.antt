-- Values of marked fields as words: their numbers are floats.
use Rattle.std.specs.Prelude.{ℕ, ◌≡◌, ◌==◌, ◌&&◌, ◌⊎◌, Bool, true, cond, pos, List, length, Result, Ok, Err}
use Rattle.capnp_floats.specs.Floats.{fraction, is_finite}
use Rattle.capnp_floats.specs.Laws.{IsOfWidth}
use Rattle.capnp_floats.specs.Layout.{IsFloatText}
use Rattle.capnp_floats.specs.Nearby.{float_of}
use Rattle.capnp_floats.specs.declared.width.Width.{Width}
use Rattle.capnp_floats.specs.declared.width.Width.TheVariants.{Float32, Float64}
use Rattle.capnp_floats.specs.declared.word.Refusal.{Refusal}
use Rattle.capnp_floats.specs.declared.word.Refusal.TheVariants.{NoFloat, PastRange}
use Rattle.capnp_schema.specs.Schema.{Schemas}
use Rattle.capnp_schema.specs.Types.{SchemaType, UIntType}
use Rattle.capnp_records.specs.Record as value
use Rattle.capnp_records.specs.Record.{Value}
use Rattle.capnp_words.specs.Reads.{Read, read_as}
use Rattle.capnp_words.specs.Values.{uint_at, value_by_word}

-- the bits of a float, or a place: of a number past the range no byte alone is at fault, so it is the word's end
abbrev pub bits_or_place : (end : ℕ) → Result ℕ Refusal → Read ℕ
bits_or_place end (Ok bits) = Ok bits
bits_or_place end (Err (NoFloat place)) = Err place
bits_or_place end (Err PastRange) = Err end

abbrev pub float_at : Width → List ℕ → Read ℕ
float_at w bs = bits_or_place (length bs) (float_of w bs)

abbrev pub float_by_word : Width → List ℕ → Read Value
float_by_word w bs = read_as (λ n. value.Number (pos n)) (float_at w bs)

-- a number of 32 or 64 bits as a float where it is one
abbrev pub unsigned_by_word : (floats : Bool) → (bytes : ℕ) → List ℕ → Read Value
unsigned_by_word floats bytes bs =
    cond (floats && (bytes == 4)) (float_by_word Float32 bs) (cond (floats && (bytes == 8)) (float_by_word Float64 bs) (uint_at bytes bs))

-- the value of a word under a type, whose numbers are floats or not
abbrev pub marked_value_by_word : Schemas → (floats : Bool) → SchemaType → List ℕ → Read Value
marked_value_by_word set floats (UIntType bytes) bs = unsigned_by_word floats bytes bs
marked_value_by_word set floats t bs = value_by_word set t bs

-- What is shown of a float, a finite number or an infinity, is read as the same bits.
abbrev pub FloatsAreReadBack : Type 0
FloatsAreReadBack =
    (w : Width) (bits : ℕ) (text : List ℕ) → IsOfWidth w bits → (is_finite w bits ≡ true) ⊎ (fraction w bits ≡ 0) → IsFloatText w bits text → float_at w text ≡ Ok bits
