-- Values as words under a type.
use Rattle.std.specs.Prelude.{ℕ, ◌-◌, ◌*◌, ◌^◌, List, [], ◌∷◌, Bool, true, false, map, codes, pos, Err}
use Rattle.capnp_schema.specs.Types.{SchemaType, VoidType, BoolType, IntType, UIntType, EnumType, TextType, DataType, StructType, ListType, AnyPointerType}
use Rattle.capnp_schema.specs.Schema.{Schemas, Enumerant, enum_at}
use Rattle.capnp_records.specs.Record as value
use Rattle.capnp_records.specs.Record.{Value}
use Rattle.capnp_words.specs.Reads.{Read, read_as}
use Rattle.capnp_words.specs.Numbers.{decimal_at, signed_at}
use Rattle.capnp_words.specs.Quoted.{text_word_at, data_at}
use Rattle.capnp_words.specs.Words.{one_of, name_among, read_or}

abbrev pub void_at : List ℕ → Read Value
void_at bs = one_of ((codes "()", value.Void) ∷ []) 0 bs

abbrev pub truth_at : List ℕ → Read Bool
truth_at bs = one_of ((codes "false", false) ∷ (codes "true", true) ∷ []) 0 bs

-- the names of an enum's enumerants
abbrev pub enumerant_words : Schemas → ℕ → List (List ℕ)
enumerant_words set e = map (λ (x : Enumerant). x.name) (enum_at set e).enumerants

-- an enumerant by its name, or a number
abbrev pub enumerant_by_word : List (List ℕ) → List ℕ → Read ℕ
enumerant_by_word names bs = read_or (name_among names 0 0 bs) (decimal_at 65535 0 bs)

-- the greatest number of a signed type of so many bytes, and of an unsigned one
abbrev pub greatest_signed : (bytes : ℕ) → ℕ
greatest_signed bytes = 2 ^ (8 * bytes - 1) - 1

abbrev pub greatest_unsigned : (bytes : ℕ) → ℕ
greatest_unsigned bytes = 2 ^ (8 * bytes) - 1

abbrev pub int_at : (bytes : ℕ) → List ℕ → Read Value
int_at bytes bs = read_as value.Number (signed_at (greatest_signed bytes) 0 bs)

abbrev pub uint_at : (bytes : ℕ) → List ℕ → Read Value
uint_at bytes bs = read_as (λ n. value.Number (pos n)) (decimal_at (greatest_unsigned bytes) 0 bs)

-- a struct, a list and an untyped pointer have no word
abbrev pub value_by_word : Schemas → SchemaType → List ℕ → Read Value
value_by_word set VoidType bs = void_at bs
value_by_word set BoolType bs = read_as value.Truth (truth_at bs)
value_by_word set (IntType bytes) bs = int_at bytes bs
value_by_word set (UIntType bytes) bs = uint_at bytes bs
value_by_word set (EnumType e) bs = read_as value.Enum (enumerant_by_word (enumerant_words set e) bs)
value_by_word set TextType bs = read_as value.Text (text_word_at bs)
value_by_word set DataType bs = read_as value.Data (data_at bs)
value_by_word set (StructType number generic) bs = Err 0
value_by_word set (ListType element) bs = Err 0
value_by_word set AnyPointerType bs = Err 0
