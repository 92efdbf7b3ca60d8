-- The first byte of what is no JSON text that can't stand there.
use Rattle.std.specs.Prelude.{ℕ, ◌-◌, List, length, cond, min, Option, Some, None, Ok, Err}
use Rattle.std.specs.Str.{is_utf8}
use Rattle.std.specs.Str.Lossy.{utf8_valid_len}
use Rattle.capnp_json_text.specs.Readings.{Rest}
use Rattle.capnp_json_text.specs.Texts.{after_text}

-- the place of the first byte that the grammar does not take, or the length where the bytes end too soon
abbrev pub grammar_fault : List ℕ → Rest → Option ℕ
grammar_fault bs (Ok rest) = None
grammar_fault bs (Err fault) = Some (length bs - length fault)

-- the place of the first sequence that is no character in UTF-8
abbrev pub utf8_fault : List ℕ → Option ℕ
utf8_fault bs = cond (is_utf8 bs) None (Some (utf8_valid_len bs))

abbrev pub earlier : Option ℕ → Option ℕ → Option ℕ
earlier None q = q
earlier (Some p) None = Some p
earlier (Some p) (Some q) = Some (min p q)

-- None: the bytes are a JSON text. It is UTF-8, and each of its bytes stands where the grammar takes it.
unfoldable pub fault_of : List ℕ → Option ℕ
fault_of bs = earlier (utf8_fault bs) (grammar_fault bs (after_text bs))
