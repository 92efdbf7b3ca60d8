-- What is told of the replies to calls.
use Rattle.std.specs.Char.{is_ascii_control}
use Rattle.std.specs.Fmt.{digits}
use Rattle.std.specs.Str.{chars}
use lib.Utf8.{encode}
use Rattle.std.specs.Prelude.{ℕ, suc, ◌≡◌, List, [], ◌∷◌, ◌++◌, Bool, false, cond, Option, Some, None, pos, codes, decimal, get_or}
use Rattle.capnp_device.specs.ErrorNumber.{error_name, error_number}
use Rattle.capnp_device.specs.declared.error.ErrorKind.{ErrorKind}
use Rattle.capnp_schema.specs.Types.{BoolType, DataType, IntType, TextType, UIntType, VoidType}
use Rattle.capnp_records.specs.Record as value
use Rattle.capnp_records.specs.Text.{IsText, Out, said_text, text_of}
use Rattle.capnp_dynamic_readers.specs.Shown.{no_schemas}
use Rattle.capnp_call.specs.declared.calls.Plain.{Plain}
use Rattle.capnp_call.specs.declared.calls.Plain.TheVariants as plain
use Rattle.capnp_call.specs.declared.calls.Reply.{Reply}
use Rattle.capnp_call.specs.declared.calls.Reply.TheVariants as reply

-- ---- what was asked ----

-- A value is told as it is printed. An enum is told by its number, of a struct only that it is one, of a list its length, and of
-- an untyped pointer whether it is null.
abbrev pub answer_text : Plain → Out
answer_text plain.Void = text_of no_schemas false VoidType value.Void
answer_text (plain.Bool b) = text_of no_schemas false BoolType (value.Truth b)
answer_text (plain.Int8 x) = text_of no_schemas false (IntType 1) (value.Number x)
answer_text (plain.Int16 x) = text_of no_schemas false (IntType 2) (value.Number x)
answer_text (plain.Int32 x) = text_of no_schemas false (IntType 4) (value.Number x)
answer_text (plain.Int64 x) = text_of no_schemas false (IntType 8) (value.Number x)
answer_text (plain.UInt8 n) = text_of no_schemas false (UIntType 1) (value.Number (pos n))
answer_text (plain.UInt16 n) = text_of no_schemas false (UIntType 2) (value.Number (pos n))
answer_text (plain.UInt32 n) = text_of no_schemas false (UIntType 4) (value.Number (pos n))
answer_text (plain.UInt64 n) = text_of no_schemas false (UIntType 8) (value.Number (pos n))
answer_text (plain.Enum n) = said_text (decimal n)
answer_text (plain.Text bytes) = text_of no_schemas false TextType (value.Text bytes.items)
answer_text (plain.«Data» bytes) = text_of no_schemas false DataType (value.Data bytes.items)
answer_text plain.Struct = said_text (codes "(..)")
answer_text (plain.List n) = said_text (codes "[" ++ decimal n ++ codes " elements]")
answer_text (plain.AnyPointer is_null) = said_text (cond is_null (codes "null") (codes "<opaque pointer>"))

-- a flag, and a member by its index, as a step of a path is
abbrev pub flag_word : Bool → List ℕ
flag_word b = cond b (codes "true") (codes "false")

abbrev pub member_word : Option ℕ → List ℕ
member_word None = codes "none"
member_word (Some i) = codes "#" ++ decimal i

-- ---- words ----

-- a character as it is told: a control character by its number, in hexadecimal
abbrev pub told_char : ℕ → List ℕ
told_char c = cond (is_ascii_control c) (codes "\\u{" ++ digits 16 false c ++ codes "}") (encode c)

abbrev pub told_chars : List ℕ → List ℕ
told_chars [] = []
told_chars (c ∷ cs) = told_char c ++ told_chars cs

-- a word as it is told, character by character
abbrev pub told_word : List ℕ → List ℕ
told_word word = told_chars (chars word)

-- ---- lines ----

-- a line: the number of a call, its word, and what is told
abbrev pub told_line : ℕ → (word between text : List ℕ) → List ℕ
told_line n word between text = decimal n ++ codes ": " ++ told_word word ++ between ++ text ++ 10 ∷ []

-- what a call asked for
abbrev pub answer_line : ℕ → (word text : List ℕ) → List ℕ
answer_line n word text = told_line n word (codes " = ") text

-- a refusal, by its number and name, and what tells more
abbrev pub reply_refusal_line : ℕ → (word : List ℕ) → ErrorKind → (note : List ℕ) → List ℕ
reply_refusal_line n word kind note = told_line n word (codes ": refused: ") (decimal (error_number kind) ++ codes " " ++ error_name kind ++ told_word note)

-- the line of a value was appended
abbrev pub IsValueTold : ℕ → (word : List ℕ) → Plain → (old new : List ℕ) → Type 0
IsValueTold n word p old new = (text : List ℕ) × IsText (answer_text p) text × (new ≡ old ++ answer_line n word text)

-- the line of a reply was: none where something was written, else what was asked for, or a refusal
abbrev pub IsReplyTold : ℕ → (word note : List ℕ) → Reply → (old new : List ℕ) → Type 0
IsReplyTold n word note reply.Done old new = new ≡ old
IsReplyTold n word note (reply.Value p) old new = IsValueTold n word p old new
IsReplyTold n word note (reply.Flag b) old new = new ≡ old ++ answer_line n word (flag_word b)
IsReplyTold n word note (reply.Member i) old new = new ≡ old ++ answer_line n word (member_word i)
IsReplyTold n word note (reply.Refused kind) old new = new ≡ old ++ reply_refusal_line n word kind note

-- The lines of all these replies were, the first of them to the call at this index. Each has its call's number, from 1 on, and
-- its word; a call that no word is given for has an empty one.
abbrev pub AreTold : ℕ → (words : List (List ℕ)) → List Reply → (old new : List ℕ) → Type 0
AreTold i words [] old new = new ≡ old
AreTold i words (r ∷ replies) old new = (mid : List ℕ) × IsReplyTold (suc i) (get_or words i []) [] r old mid × AreTold (suc i) words replies mid new
