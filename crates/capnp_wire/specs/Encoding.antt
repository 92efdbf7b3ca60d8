-- The bytes of a tree, in one segment: the root pointer, what it leads to, and after each object what its pointers lead
-- to, in their order, each whole before the next.
use Rattle.std.specs.Prelude.{ℕ, zero, suc, ◌+◌, ◌-◌, ◌*◌, ◌/◌, ◌%◌, ◌^◌, List, [], ◌∷◌, ◌++◌, take, drop, length, replicate, Bool, cond, ◌==◌}
use Rattle.capnp_wire.specs.Tree.{Tree, Null, Struct, Voids, Bits, Numbers, Pointers, Composite, FaultLeaf, Trees, NoTrees, MoreTrees, Structs, NoStructs, MoreStructs, tree_count, struct_count}
use Rattle.capnp_wire.specs.Locate.{list_words}
use Rattle.capnp_wire.specs.Words.{byte_words, words_of, words_of_all}

-- ---- bytes ----

-- so many bytes of a number, lowest first
abbrev pub spelled_number : ℕ → ℕ → List ℕ
spelled_number zero n = []
spelled_number (suc k) n = n % 256 ∷ spelled_number k (n / 256)

-- the number that bits spell, lowest first
abbrev pub bits_number : List Bool → ℕ
bits_number [] = 0
bits_number (b ∷ bs) = cond b 1 0 + 2 * bits_number bs

-- so many bytes that hold these bits, eight in each
abbrev pub packed_bits : ℕ → List Bool → List ℕ
packed_bits zero bs = []
packed_bits (suc k) bs = bits_number (take 8 bs) ∷ packed_bits k (drop 8 bs)

-- these bytes, and zeros up to a whole word
abbrev pub padded_bytes : List ℕ → List ℕ
padded_bytes bytes = bytes ++ replicate (8 * byte_words (length bytes) - length bytes) 0

-- ---- pointers ----

-- a struct pointer, or the tag of a composite list, which has the count of its elements in place of the offset
abbrev pub struct_word : ℕ → ℕ → ℕ → ℕ
struct_word offset data_words pointer_count = 4 * offset + 2 ^ 32 * data_words + 2 ^ 48 * pointer_count

-- a list pointer
abbrev pub list_word : ℕ → ℕ → ℕ → ℕ
list_word offset element_size count = 1 + 4 * offset + 2 ^ 32 * element_size + 2 ^ 35 * count

-- the number of the element size of numbers of so many bytes each
abbrev pub number_size : ℕ → ℕ
number_size width = cond (width == 1) 2 (cond (width == 2) 3 (cond (width == 4) 4 5))

-- the pointer to a tree, with so many words between the two; a struct of size zero has offset -1, so that it isn't null
abbrev pub pointer_word : ℕ → Tree → ℕ
pointer_word gap Null = 0
pointer_word gap (Struct bytes ps) =
    cond (length bytes / 8 + tree_count ps == 0) (struct_word (2 ^ 30 - 1) 0 0) (struct_word gap (length bytes / 8) (tree_count ps))
pointer_word gap (Voids n) = list_word gap 0 n
pointer_word gap (Bits bs) = list_word gap 1 (length bs)
pointer_word gap (Numbers width bytes) = list_word gap (number_size width) (length bytes / width)
pointer_word gap (Pointers ps) = list_word gap 6 (tree_count ps)
pointer_word gap (Composite d p es) = list_word gap 7 (struct_count es * (d + p))
pointer_word gap (FaultLeaf fault) = 0

-- ---- objects ----

-- pointers in a row, with so many words between the row and what the first of them leads to
abbrev pub pointer_row : ℕ → Trees → List ℕ
pointer_row gap NoTrees = []
pointer_row gap (MoreTrees t ts) = spelled_number 8 (pointer_word (tree_count ts + gap) t) ++ pointer_row (gap + words_of t) ts

-- the elements of a composite list in a row, each of so many words, with such a gap
abbrev pub element_row : ℕ → ℕ → Structs → List ℕ
element_row size gap NoStructs = []
element_row size gap (MoreStructs bytes ps es) =
    (bytes ++ pointer_row (struct_count es * size + gap) ps) ++ element_row size (gap + words_of_all ps) es

-- an object itself
abbrev pub own_bytes : Tree → List ℕ
own_bytes Null = []
own_bytes (Struct bytes ps) = bytes ++ pointer_row 0 ps
own_bytes (Voids n) = []
own_bytes (Bits bs) = packed_bits (8 * list_words 1 (length bs)) bs
own_bytes (Numbers width bytes) = padded_bytes bytes
own_bytes (Pointers ps) = pointer_row 0 ps
own_bytes (Composite d p es) = spelled_number 8 (struct_word (struct_count es) d p) ++ element_row (d + p) 0 es
own_bytes (FaultLeaf fault) = []

-- what an object's pointers lead to, what all pointers in a row lead to, and what all those of elements in a row do
abbrev mutual
  pub bytes_below : Tree → List ℕ
  bytes_below Null = []
  bytes_below (Struct bytes ps) = bytes_of_all ps
  bytes_below (Voids n) = []
  bytes_below (Bits bs) = []
  bytes_below (Numbers width bytes) = []
  bytes_below (Pointers ps) = bytes_of_all ps
  bytes_below (Composite d p es) = bytes_below_all es
  bytes_below (FaultLeaf fault) = []

  pub bytes_of_all : Trees → List ℕ
  bytes_of_all NoTrees = []
  bytes_of_all (MoreTrees t ts) = (own_bytes t ++ bytes_below t) ++ bytes_of_all ts

  pub bytes_below_all : Structs → List ℕ
  bytes_below_all NoStructs = []
  bytes_below_all (MoreStructs bytes ps es) = bytes_of_all ps ++ bytes_below_all es

-- an object and all below it
abbrev pub bytes_of : Tree → List ℕ
bytes_of t = own_bytes t ++ bytes_below t

-- ---- messages ----

-- a segment whose root pointer leads to the tree
abbrev pub encoding_of : Tree → List ℕ
encoding_of t = spelled_number 8 (pointer_word 0 t) ++ bytes_of t

-- the same as a stream of one segment: one less than the count of segments, that segment's words, and the segment
abbrev pub message_of : Tree → List ℕ
message_of t = spelled_number 4 0 ++ (spelled_number 4 (suc (words_of t)) ++ encoding_of t)
