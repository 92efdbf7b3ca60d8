-- The bytes of a message are whole words.
use Rattle.std.proofs.Common.{ℕ, suc, List, ◌++◌, ◌%◌, ◌≡◌, ap, arith, length, length-append}
use Rattle.capnp_wire.specs.Encoding.{encoding_of, message_of, spelled_number}
use Rattle.capnp_wire.specs.Facts.Bytes.{length_spelled}
use Rattle.capnp_wire.specs.Facts.EncodedSizes.{length_encoding}
use Rattle.capnp_wire.specs.Tree.{Tree}
use Rattle.capnp_wire.specs.WellFormed.{IsWellFormed}
use Rattle.capnp_wire.specs.Words.{words_of}

pub whole_message : (t : Tree) (bytes : List ℕ) → bytes ≡ message_of t → IsWellFormed t → length bytes % 8 ≡ 0
whole_message t bytes e well =
    let table = length-append (spelled_number 4 0) (spelled_number 4 (suc (words_of t)) ++ encoding_of t) in
    let rest = length-append (spelled_number 4 (suc (words_of t))) (encoding_of t) in
    omega (arith, ap length e, table, rest, length_spelled 4 0, length_spelled 4 (suc (words_of t)), length_encoding t well)
