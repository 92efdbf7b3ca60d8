-- What is made at the end of a segment: steps of the code.
use Rattle.std.specs.Prelude.{ℕ, suc, ◌+◌, ◌-◌, ◌*◌, ◌^◌, ◌<◌, ◌≡◌, ◌==◌, cond, List, ◌++◌, length, replicate}
use Rattle.capnp_wire.specs.Encoding.{spelled_number, struct_word}
use Rattle.capnp_wire.specs.Locate.{words_past_format}
use Rattle.capnp_wire.specs.Steps.Filling.{bytes_with}
use Rattle.capnp_arena.specs.Shape.{word_count}

-- whole words were added at the end, and a pointer word was put
pub record IsObjectMade (old new added : List ℕ) (at word : ℕ) : Type 0 where
  pub whole : length old ≡ 8 * word_count old
  pub inside : at < word_count old
  pub words : length added ≡ 8 * word_count added
  pub few : word_count old + word_count added < words_past_format
  pub is : new ≡ bytes_with (8 * at) (spelled_number 8 word) (old ++ added)

-- bytes, and zeros up to so many words
abbrev pub filled_up : ℕ → List ℕ → List ℕ
filled_up words bytes = bytes ++ replicate (8 * words - length bytes) 0

-- a struct that is made at an end, for the pointer at a word: where it starts, and the pointer; one of size zero lies at
-- its pointer, which is not null
abbrev pub struct_start : (end at words : ℕ) → ℕ
struct_start end at words = cond (words == 0) at end

abbrev pub struct_pointer : (end at data_words pointers : ℕ) → ℕ
struct_pointer end at d p = cond (d + p == 0) (struct_word (2 ^ 30 - 1) 0 0) (struct_word (end - suc at) d p)
