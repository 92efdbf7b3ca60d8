-- Texts and data in quotes, byte for byte: steps of the code.
use Rattle.std.specs.Prelude.{◌<◌}
use Rattle.capnp_words.specs.declared.quoted.Expected.{Expected}
use Rattle.capnp_words.specs.declared.quoted.Expected.TheVariants as expected

-- what the numbers of a state are in a word: a character's number in a row of digits, and one digit
abbrev pub IsReached : Expected → Type 0
IsReached (expected.CodeDigit count number) = number < 1114112
IsReached (expected.LowDigit high) = high < 16
IsReached _ = Unit {0}
