-- Texts that follow one another, each a line. Lines of blanks alone are passed over.
use Rattle.std.specs.Prelude.{ℕ, suc, ◌≡◌, ◌≢◌, ◌⊎◌, ◌<◌, ◌++◌, ◌-◌, ◌^◌, List, [], ◌∷◌, All, Option, length}
use Rattle.std.specs.Io.KnownBytes.{Consumes, IsAtEnd}
use Rattle.capnp_device.specs.declared.error.ErrorKind.{ErrorKind}
use Rattle.capnp_device.specs.declared.error.ErrorKind.TheVariants.{TooLarge}
use Rattle.capnp_json_text.specs.Readings.{after_blanks}
use Rattle.capnp_streams.specs.Received.{IsOver}

-- a line was read, with the line feed that ends it, or to the end
pub record IsLineRead (left left' : Option (List ℕ)) (line : List ℕ) : Type 0 where
  pub read : List ℕ
  pub some : 0 < length read
  pub consumed : Consumes left left' read
  pub plain : All (λ (b : ℕ). b ≢ 10) line
  pub ended : (read ≡ line ++ 10 ∷ []) ⊎ ((read ≡ line) × IsAtEnd left')

-- so many lines of blanks were
pub data AreBlanksRead : ℕ → Option (List ℕ) → Option (List ℕ) → Type 0 where
  no_blanks : (left : Option (List ℕ)) → AreBlanksRead 0 left left
  one_blank : (count : ℕ) (a b c : Option (List ℕ)) (line : List ℕ) → AreBlanksRead count a b → IsLineRead b c line → after_blanks line ≡ [] → AreBlanksRead (suc count) a c

-- a line with more was, behind lines of blanks
pub record IsTextReceived (left left' : Option (List ℕ)) (text : List ℕ) : Type 0 where
  pub count : ℕ
  pub mid : Option (List ℕ)
  pub blanks : AreBlanksRead count left mid
  pub line : IsLineRead mid left' text
  pub some : after_blanks text ≢ []

-- lines of blanks were to the end
pub record AreTextsOver (left left' : Option (List ℕ)) : Type 0 where
  pub count : ℕ
  pub mid : Option (List ℕ)
  pub blanks : AreBlanksRead count left mid
  pub over : IsOver mid left'

-- there are more such lines than are counted
pub record HasEndlessBlanks (left left' : Option (List ℕ)) (kind : ErrorKind) : Type 0 where
  pub is : kind ≡ TooLarge
  pub blanks : AreBlanksRead (2 ^ 64 - 1) left left'

-- these texts were read one after another
pub data AreTextsRead : Option (List ℕ) → Option (List ℕ) → List (List ℕ) → Type 0 where
  no_texts : (left : Option (List ℕ)) → AreTextsRead left left []
  one_text : (a b c : Option (List ℕ)) (texts : List (List ℕ)) (text : List ℕ) → AreTextsRead a b texts → IsTextReceived b c text → AreTextsRead a c (texts ++ text ∷ [])
