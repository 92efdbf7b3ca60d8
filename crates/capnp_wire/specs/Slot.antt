-- Numbers and bits of a run of bytes, which has zeros past its end.
use Rattle.std.specs.Prelude.{ℕ, ◌+◌, ◌*◌, ◌/◌, ◌%◌, ◌^◌, List, [], ◌∷◌, get_or, take, drop, Bool, true, false, not, ◌==◌}

-- the number that bytes spell, lowest first
abbrev pub little_endian : List ℕ → ℕ
little_endian [] = 0
little_endian (b ∷ bs) = b + 256 * little_endian bs

-- the number of so many bytes at an offset in units of that width
abbrev pub number_at : ℕ → ℕ → List ℕ → ℕ
number_at width offset bytes = little_endian (take width (drop (offset * width) bytes))

-- a word
abbrev pub word_at : List ℕ → ℕ → ℕ
word_at bytes w = little_endian (take 8 (drop (8 * w) bytes))

-- a bit, lowest first in each byte
abbrev pub bit_at : List ℕ → ℕ → Bool
bit_at bytes i = (get_or bytes (i / 8) 0 / 2 ^ (i % 8)) % 2 == 1

-- a stored bit with its default XORed
abbrev pub masked_bit : Bool → Bool → Bool
masked_bit stored true = not stored
masked_bit stored false = stored
