-- What holds of words, in their own terms.
use Rattle.std.specs.Prelude.{ℕ, ◌+◌, ◌≡◌, ◌≢◌, ◌<◌, ◌≤◌, pos, negsuc, List, Bool, true, false, All, length, slice_index, slice_get, Some, Ok}
use Rattle.std.specs.List.{AllByRecursion}
use Rattle.std.specs.Char.{is_ascii, is_ascii_digit}
use Rattle.capnp_schema.specs.Types.{SchemaType, VoidType, BoolType, IntType, UIntType, EnumType, TextType, DataType}
use Rattle.capnp_schema.specs.Schema.{Schemas}
use Rattle.capnp_records.specs.Call.{PathStep, FieldNumber, FieldNamed, ElementAt}
use Rattle.capnp_records.specs.Record as value
use Rattle.capnp_records.specs.Record.{Value}
use Rattle.capnp_records.specs.Text.{said_text, text_of}
use Rattle.capnp_words.specs.Paths.{is_dot, is_space, path_at, words_of_path}
use Rattle.capnp_words.specs.Calls.{Append, CallOp, CallText, Clear, Copy, Get, Has, Init, Initn, Insert, Remove, Resize, Set, Which, call_at, call_word, element_path}
use Rattle.capnp_words.specs.Values.{greatest_signed, greatest_unsigned, enumerant_words, value_by_word}

-- ---- paths ----

-- a name that a path can have
pub record IsPathName (name : List ℕ) : Type 0 where
  pub some : 0 < length name
  pub begins : is_ascii_digit (slice_index name 0) ≡ false
  pub no_number : slice_index name 0 ≢ 35
  pub no_dot : All (λ b. is_dot b ≡ false) name
  pub no_space : All (λ b. is_space b ≡ false) name

abbrev pub IsPathStep : PathStep → Type 0
IsPathStep (FieldNumber i) = i ≤ 65535
IsPathStep (FieldNamed name) = IsPathName name
IsPathStep (ElementAt i) = i ≤ 4294967295

-- a path that is written as a word is read as that path
abbrev pub PathsAreRead : Type 0
PathsAreRead = (path : List PathStep) → AllByRecursion IsPathStep path → path_at 0 (words_of_path path) ≡ Ok path

-- a word that is read is the one that its path is written as; so what is refused is no path's word
abbrev pub OnlyPathsAreRead : Type 0
OnlyPathsAreRead = (word : List ℕ) (path : List PathStep) → path_at 0 word ≡ Ok path → word ≡ words_of_path path

abbrev pub PathsAreDifferent : Type 0
PathsAreDifferent = (p q : List PathStep) → AllByRecursion IsPathStep p → AllByRecursion IsPathStep q → words_of_path p ≡ words_of_path q → p ≡ q

-- ---- calls ----

-- a path that is not empty
abbrev pub IsNonEmptyPath : List PathStep → Type 0
IsNonEmptyPath path = AllByRecursion IsPathStep path × (0 < length path)

-- a value stands behind the space that follows the path
abbrev pub IsCallOf : List PathStep → CallOp → Type 0
IsCallOf path Get = IsNonEmptyPath path
IsCallOf path Has = IsNonEmptyPath path
IsCallOf path Which = AllByRecursion IsPathStep path
IsCallOf path (Set value place) = IsNonEmptyPath path × (place ≡ 4 + (length (words_of_path path) + 1))
IsCallOf path Init = IsNonEmptyPath path
IsCallOf path (Initn size) = IsNonEmptyPath path × (size ≤ 4294967295)
IsCallOf path Clear = IsNonEmptyPath path
IsCallOf path (Append value place) = IsNonEmptyPath path × (place ≡ 7 + (length (words_of_path path) + 1))
IsCallOf path (Insert i value place) = IsNonEmptyPath (element_path path i) × (place ≡ 7 + (length (words_of_path (element_path path i)) + 1))
IsCallOf path (Remove i) = IsNonEmptyPath (element_path path i)
IsCallOf path (Resize count) = IsNonEmptyPath path × (count ≤ 4294967295)
IsCallOf path (Copy from) = IsNonEmptyPath path × AllByRecursion IsPathStep from

-- a call that is written as a word is read as that call
abbrev pub CallsAreRead : Type 0
CallsAreRead = (c : CallText) → IsCallOf c.path c.op → call_at (call_word c) ≡ Ok c

-- ---- values ----

-- the names of an enum are distinct, and none begins with a digit
pub record AreNames (names : List (List ℕ)) : Type 0 where
  pub distinct : (i j : ℕ) (name : List ℕ) → slice_get names i ≡ Some name → slice_get names j ≡ Some name → i ≡ j
  pub begin : (i : ℕ) (name : List ℕ) → slice_get names i ≡ Some name → is_ascii_digit (slice_index name 0) ≡ false

-- a value that a word of its type can stand for: a number in its type's range, a text of ASCII, bytes
abbrev pub IsWritable : Schemas → SchemaType → Value → Type 0
IsWritable set VoidType value.Void = Unit {0}
IsWritable set BoolType (value.Truth b) = Unit {0}
IsWritable set (IntType bytes) (value.Number (pos n)) = (bytes ≤ 8) × (n ≤ greatest_signed bytes)
IsWritable set (IntType bytes) (value.Number (negsuc n)) = (bytes ≤ 8) × (n ≤ greatest_signed bytes)
IsWritable set (UIntType bytes) (value.Number (pos n)) = (bytes ≤ 8) × (n ≤ greatest_unsigned bytes)
IsWritable set (EnumType e) (value.Enum n) = AreNames (enumerant_words set e) × (n ≤ 65535)
IsWritable set TextType (value.Text bs) = AllByRecursion (λ b. is_ascii b ≡ true) bs
IsWritable set DataType (value.Data bs) = AllByRecursion (λ b. b < 256) bs
IsWritable set t v = ⊥

-- what the printer prints of a value is read as that value
abbrev pub PrintedValuesAreRead : Type 0
PrintedValuesAreRead =
    (set : Schemas) (indented : Bool) (t : SchemaType) (v : Value) (word : List ℕ)
    → IsWritable set t v → text_of set indented t v ≡ said_text word → value_by_word set t word ≡ Ok v
