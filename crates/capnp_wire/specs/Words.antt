-- The words of a tree, which is the sum over its objects, and its first fault leaf in preorder.
use Rattle.std.specs.Prelude.{ℕ, suc, ◌+◌, ◌*◌, ◌/◌, length, Option, Some, None}
use Rattle.capnp_wire.specs.Tree.{Tree, Null, Struct, Voids, Bits, Numbers, Pointers, Composite, FaultLeaf, Trees, NoTrees, MoreTrees, Structs, NoStructs, MoreStructs, StructTree, tree_count, struct_count}
use Rattle.capnp_wire.specs.Locate.{list_words}
use Rattle.capnp_wire.specs.declared.fault.Fault.{Fault}

-- the words that so many bytes take
abbrev pub byte_words : ℕ → ℕ
byte_words n = (n + 7) / 8

-- the words of an object itself
abbrev pub own_words : Tree → ℕ
own_words Null = 0
own_words (Struct bytes ps) = byte_words (length bytes) + tree_count ps
own_words (Voids n) = 0
own_words (Bits bs) = list_words 1 (length bs)
own_words (Numbers w bytes) = byte_words (length bytes)
own_words (Pointers ps) = tree_count ps
own_words (Composite d p es) = suc (struct_count es * (d + p))
own_words (FaultLeaf k) = 0

-- the words of what an object's pointers lead to, of all that pointers in a row lead to, and of all that the pointers
-- of elements in a row do
abbrev mutual
  pub words_below : Tree → ℕ
  words_below Null = 0
  words_below (Struct bytes ps) = words_of_all ps
  words_below (Voids n) = 0
  words_below (Bits bs) = 0
  words_below (Numbers w bytes) = 0
  words_below (Pointers ps) = words_of_all ps
  words_below (Composite d p es) = words_below_all es
  words_below (FaultLeaf k) = 0

  pub words_of_all : Trees → ℕ
  words_of_all NoTrees = 0
  words_of_all (MoreTrees t ts) = own_words t + words_below t + words_of_all ts

  pub words_below_all : Structs → ℕ
  words_below_all NoStructs = 0
  words_below_all (MoreStructs bytes ps es) = words_of_all ps + words_below_all es

abbrev pub words_of : Tree → ℕ
words_of t = own_words t + words_below t

abbrev pub words_of_struct : StructTree → ℕ
words_of_struct s = words_of (Struct s.bytes s.pointers)

abbrev pub first_of : Option Fault → Option Fault → Option Fault
first_of None later = later
first_of (Some fault) later = Some fault

abbrev mutual
  pub first_fault : Tree → Option Fault
  first_fault Null = None
  first_fault (Struct bytes ps) = first_fault_of_all ps
  first_fault (Voids n) = None
  first_fault (Bits bs) = None
  first_fault (Numbers w bytes) = None
  first_fault (Pointers ps) = first_fault_of_all ps
  first_fault (Composite d p es) = first_fault_of_elements es
  first_fault (FaultLeaf k) = Some k

  pub first_fault_of_all : Trees → Option Fault
  first_fault_of_all NoTrees = None
  first_fault_of_all (MoreTrees t ts) = first_of (first_fault t) (first_fault_of_all ts)

  pub first_fault_of_elements : Structs → Option Fault
  first_fault_of_elements NoStructs = None
  first_fault_of_elements (MoreStructs bytes ps es) = first_of (first_fault_of_all ps) (first_fault_of_elements es)
