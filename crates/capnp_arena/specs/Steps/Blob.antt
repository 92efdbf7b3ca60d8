-- Bytes that lie behind the pointer to them, with zeros up to a whole word.
use Rattle.std.specs.Prelude.{ℕ, ◌+◌, ◌/◌, ◌≡◌, ◌≤◌, ◌<◌, ⊤, List, length, Option, Some, None}
use Rattle.capnp_wire.specs.Encoding.{padded_bytes}
use Rattle.capnp_wire.specs.Locate.{words_past_format}
use Rattle.capnp_wire.specs.Place.{bytes_at}
use Rattle.capnp_wire.specs.Tree.{Numbers, Tree}
use Rattle.capnp_arena.specs.Shape.{word_count}
use Rattle.capnp_arena.specs.declared.blob.Blob.{Blob}

-- so many bytes, and these are the words that they take
pub record AreWordsOf (bytes : List ℕ) (count : ℕ) (words : List ℕ) : Type 0 where
  pub long : length bytes ≡ count
  pub few : count < words_past_format
  pub whole : words ≡ padded_bytes bytes

-- the bytes there, where they are told
abbrev pub IsBlobAt : List ℕ → ℕ → ℕ → Option Blob → Type 0
IsBlobAt segment start count (Some b) = (b.count ≡ count) × (start + (count + 7) / 8 ≤ word_count segment) × AreWordsOf (bytes_at segment start count) b.count b.words.now
IsBlobAt segment start count None = ⊤

-- a tree is the bytes, where they are told
pub record IsBytesOf (b : Blob) (t : Tree) : Type 0 where
  pub bytes : List ℕ
  pub tree : t ≡ Numbers 1 bytes
  pub held : AreWordsOf bytes b.count b.words.now

abbrev pub IsBlobOf : Option Blob → Tree → Type 0
IsBlobOf (Some b) t = IsBytesOf b t
IsBlobOf None t = ⊤
