-- What the format lets a tree be: bytes, counts and sizes within their fields, and whole words of data.
use Rattle.std.specs.Prelude.{ℕ, ◌+◌, ◌*◌, ◌/◌, ◌^◌, ◌<◌, ◌≤◌, ◌≡◌, ⊤, List, [], length, get_or, IsTrue, ◌||◌, ◌==◌, Bool}
use Rattle.capnp_wire.specs.Tree.{Tree, Null, Struct, Voids, Bits, Numbers, Pointers, Composite, FaultLeaf, Trees, NoTrees, MoreTrees, Structs, NoStructs, MoreStructs, StructTree, tree_count, struct_count}
use Rattle.capnp_wire.specs.Locate.{Segments, words_past_format}

-- each number is a byte
abbrev pub AreBytes : List ℕ → Type 0
AreBytes bytes = (i : ℕ) → get_or bytes i 0 < 2 ^ 8

-- a number takes 1, 2, 4 or 8 bytes
abbrev pub is_width : ℕ → Bool
is_width width = (width == 1) || (width == 2) || (width == 4) || (width == 8)

-- Data is of bytes and of whole words, at most 65,535 of them, and there are as many pointers at most; a list has fewer
-- than 2^29 elements and its numbers are whole; a composite list's elements take fewer than 2^29 words. A fault leaf is
-- one of its three kinds by its type.
abbrev mutual
  pub IsWellFormed : Tree → Type 0
  IsWellFormed Null = ⊤
  IsWellFormed (Struct bytes ps) = AreBytes bytes × (length bytes ≡ 8 * (length bytes / 8)) × (length bytes / 8 < 2 ^ 16) × (tree_count ps < 2 ^ 16) × AreWellFormed ps
  IsWellFormed (Voids count) = count < words_past_format
  IsWellFormed (Bits bits) = length bits < words_past_format
  IsWellFormed (Numbers width bytes) = AreBytes bytes × IsTrue (is_width width) × (length bytes ≡ width * (length bytes / width)) × (length bytes / width < words_past_format)
  IsWellFormed (Pointers ps) = (tree_count ps < words_past_format) × AreWellFormed ps
  IsWellFormed (Composite d p es) = (d < 2 ^ 16) × (p < 2 ^ 16) × (struct_count es < words_past_format) × (struct_count es * (d + p) < words_past_format) × AreElements d p es
  IsWellFormed (FaultLeaf fault) = ⊤

  pub AreWellFormed : Trees → Type 0
  AreWellFormed NoTrees = ⊤
  AreWellFormed (MoreTrees t ts) = IsWellFormed t × AreWellFormed ts

  -- the elements of a composite list have its one size
  pub AreElements : ℕ → ℕ → Structs → Type 0
  AreElements d p NoStructs = ⊤
  AreElements d p (MoreStructs bytes ps es) = AreBytes bytes × (length bytes ≡ 8 * d) × (tree_count ps ≡ p) × AreWellFormed ps × AreElements d p es

-- what a struct's reader stands on: its data is no more than the format has, and may end within a word, where it is an
-- element of a list of numbers
abbrev pub IsWellFormedStruct : StructTree → Type 0
IsWellFormedStruct s = AreBytes s.bytes × (length s.bytes ≤ 8 * 65535) × (tree_count s.pointers < 2 ^ 16) × AreWellFormed s.pointers

-- each segment of a message is of bytes
abbrev pub AreSegments : Segments → Type 0
AreSegments segments = (i : ℕ) → AreBytes (get_or segments i [])
