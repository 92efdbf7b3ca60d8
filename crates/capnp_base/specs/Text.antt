-- The bytes of texts.
use Rattle.std.specs.Prelude.{ℕ, List, [], ◌∷◌, ◌++◌, ◌≡◌, Result, Ok, Err, MatchResult, String, string_bytes}
use Rattle.std.specs.declared.alloc.Global.{Global}
use Rattle.std.specs.Borrow.{Bor}
use Rattle.std.specs.Str.{IsUtf8, valid_up_to}
use Rattle.std.specs.Str.Lossy.{utf8_valid_len}
use Rattle.std.specs.declared.str.Utf8Error.{Utf8Error}
use Rattle.capnp_wire.specs.Tree.{Tree, Numbers}
use Rattle.capnp_base.specs.declared.text.Reader.{Reader}
use Rattle.capnp_device.specs.declared.error.Error.{Error}
use Rattle.capnp_device.specs.declared.error.ErrorKind.{ErrorKind}

-- what a read answered
abbrev pub text_read : Result Reader Error → Result (List ℕ) ErrorKind
text_read (Ok reader) = Ok reader.0.now
text_read (Err error) = Err error.kind

-- the tree of a text of these bytes: they, and the zero that ends it
abbrev pub text_tree : List ℕ → Tree
text_tree bytes = Numbers 1 (bytes ++ 0 ∷ [])

-- what bytes are as UTF-8: a text of just these bytes, or the error that says how many of them are text
abbrev pub IsStrOf : List ℕ → Result (Bor (List ℕ)) Utf8Error → Type 0
IsStrOf bytes r = MatchResult r (λ s. (s.now ≡ bytes) × IsUtf8 bytes) (λ e. ¬ (IsUtf8 bytes) × (valid_up_to e ≡ utf8_valid_len bytes))

-- the same of a string that has a copy of them
abbrev pub IsStringOf : List ℕ → Result (String Global) Utf8Error → Type 0
IsStringOf bytes r = MatchResult r (λ s. (string_bytes s ≡ bytes) × IsUtf8 bytes) (λ e. ¬ (IsUtf8 bytes) × (valid_up_to e ≡ utf8_valid_len bytes))
