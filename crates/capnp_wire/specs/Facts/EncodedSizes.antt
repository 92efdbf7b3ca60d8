-- The bytes of an object are as many as its words say.
use Rattle.std.proofs.Common.{◌≡◌, ℕ, zero, suc, ◌+◌, ◌-◌, ◌*◌, List, ◌++◌, length, drop, refl, ap, arith, Bool, replicate}
use Rattle.std.proofs.lemmas.List.{length-append, length-replicate}
use Rattle.capnp_wire.specs.Tree.{Tree, Null, Struct, Voids, Bits, Numbers, Pointers, Composite, FaultLeaf, Trees, NoTrees, MoreTrees, Structs, NoStructs, MoreStructs, tree_count, struct_count}
use Rattle.capnp_wire.specs.Locate.{list_words}
use Rattle.capnp_wire.specs.WellFormed.{IsWellFormed, AreWellFormed, AreElements}
use Rattle.capnp_wire.specs.Words.{byte_words, own_words, words_below, words_of_all, words_below_all, words_of}
use Rattle.capnp_wire.specs.Encoding.{packed_bits, padded_bytes, pointer_row, element_row, own_bytes, bytes_below, bytes_of_all, bytes_below_all, bytes_of, encoding_of}

-- a pointer takes a word
pub length_pointer_row : (gap : ℕ) (ts : Trees) → length (pointer_row gap ts) ≡ 8 * tree_count ts
length_pointer_row gap NoTrees = refl
length_pointer_row gap (MoreTrees t ts) =
    let n : length (pointer_row (gap + words_of t) ts) ≡ 8 * tree_count ts = length_pointer_row (gap + words_of t) ts in
    omega (arith, n)

-- bits are packed in as many bytes as were asked for
pub length_packed : (k : ℕ) (bs : List Bool) → length (packed_bits k bs) ≡ k
length_packed zero bs = refl
length_packed (suc k) bs = ap suc (length_packed k (drop 8 bs))

-- whole words
pub length_padded : (bytes : List ℕ) → length (padded_bytes bytes) ≡ 8 * byte_words (length bytes)
length_padded bytes = omega (arith, length-append bytes (replicate (8 * byte_words (length bytes) - length bytes) 0), length-replicate {A = ℕ} (8 * byte_words (length bytes) - length bytes) 0)

-- an element of a composite list: its data words and its pointers
pub length_element : (d p gap : ℕ) (bytes : List ℕ) (ps : Trees) → length bytes ≡ 8 * d → tree_count ps ≡ p → length (bytes ++ pointer_row gap ps) ≡ 8 * (d + p)
length_element d p gap bytes ps h k = omega (arith, length-append bytes (pointer_row gap ps), length_pointer_row gap ps)

-- elements in a row
pub length_element_row : (d p gap : ℕ) (es : Structs) → AreElements d p es → length (element_row (d + p) gap es) ≡ 8 * (struct_count es * (d + p))
length_element_row d p gap NoStructs h = omega arith
length_element_row d p gap (MoreStructs bytes ps es) h =
    let g : ℕ = struct_count es * (d + p) + gap in
    let r : length (element_row (d + p) (gap + words_of_all ps) es) ≡ 8 * (struct_count es * (d + p)) = length_element_row d p (gap + words_of_all ps) es h.4 in
    let f : length (bytes ++ pointer_row g ps) ≡ 8 * (d + p) = length_element d p g bytes ps h.1 h.2 in
    omega (arith, length-append (bytes ++ pointer_row g ps) (element_row (d + p) (gap + words_of_all ps) es))

-- an object itself
pub length_own_bytes : (t : Tree) → IsWellFormed t → length (own_bytes t) ≡ 8 * own_words t
length_own_bytes Null h = refl
length_own_bytes (Struct bytes ps) h = omega (arith, length-append bytes (pointer_row 0 ps), length_pointer_row 0 ps, h.1)
length_own_bytes (Voids n) h = refl
length_own_bytes (Bits bs) h = length_packed (8 * list_words 1 (length bs)) bs
length_own_bytes (Numbers width bytes) h = length_padded bytes
length_own_bytes (Pointers ps) h = length_pointer_row 0 ps
length_own_bytes (Composite d p es) h = omega (arith, length_element_row d p 0 es h.4)
length_own_bytes (FaultLeaf fault) h = refl

mutual
  -- what an object's pointers lead to
  pub length_bytes_below : (t : Tree) → IsWellFormed t → length (bytes_below t) ≡ 8 * words_below t
  length_bytes_below Null h = refl
  length_bytes_below (Struct bytes ps) h = length_bytes_of_all ps h.4
  length_bytes_below (Voids n) h = refl
  length_bytes_below (Bits bs) h = refl
  length_bytes_below (Numbers width bytes) h = refl
  length_bytes_below (Pointers ps) h = length_bytes_of_all ps h.1
  length_bytes_below (Composite d p es) h = length_bytes_below_all d p es h.4
  length_bytes_below (FaultLeaf fault) h = refl

  -- what all pointers in a row lead to
  pub length_bytes_of_all : (ts : Trees) → AreWellFormed ts → length (bytes_of_all ts) ≡ 8 * words_of_all ts
  length_bytes_of_all NoTrees h = refl
  length_bytes_of_all (MoreTrees t ts) h =
      let a : length (bytes_below t) ≡ 8 * words_below t = length_bytes_below t h.0 in
      let b : length (bytes_of_all ts) ≡ 8 * words_of_all ts = length_bytes_of_all ts h.1 in
      omega (arith, length-append (own_bytes t ++ bytes_below t) (bytes_of_all ts), length-append (own_bytes t) (bytes_below t), length_own_bytes t h.0)

  -- what all pointers of elements in a row do
  pub length_bytes_below_all : (d p : ℕ) (es : Structs) → AreElements d p es → length (bytes_below_all es) ≡ 8 * words_below_all es
  length_bytes_below_all d p NoStructs h = refl
  length_bytes_below_all d p (MoreStructs bytes ps es) h =
      let a : length (bytes_of_all ps) ≡ 8 * words_of_all ps = length_bytes_of_all ps h.3 in
      let b : length (bytes_below_all es) ≡ 8 * words_below_all es = length_bytes_below_all d p es h.4 in
      omega (arith, length-append (bytes_of_all ps) (bytes_below_all es))

-- an object and all below it
pub length_bytes_of : (t : Tree) → IsWellFormed t → length (bytes_of t) ≡ 8 * words_of t
length_bytes_of t h = omega (arith, length-append (own_bytes t) (bytes_below t), length_own_bytes t h, length_bytes_below t h)

-- the same with its root pointer
pub length_encoding : (t : Tree) → IsWellFormed t → length (encoding_of t) ≡ 8 * suc (words_of t)
length_encoding t h = omega (arith, length_bytes_of t h)
