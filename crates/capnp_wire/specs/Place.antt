-- The tree at a place: a place is a word of a segment, from which far pointers may lead to any segment of the message.
use Rattle.std.specs.Prelude.{ℕ, zero, suc, ◌+◌, ◌*◌, List, take, drop, slice_index_or, [], ◌∷◌, Bool, cond, ◌==◌}
use Rattle.capnp_wire.specs.Depth.{message_levels}
use Rattle.capnp_wire.specs.Slot.{bit_at}
use Rattle.capnp_wire.specs.Tree.{Tree, Null, Struct, Voids, Bits, Numbers, Pointers, Composite, FaultLeaf, StructTree, trees_from, structs_from}
use Rattle.capnp_wire.specs.Locate.{Segments, Target, NoTarget, BadTarget, StructAt, ListAt, CompositeAt, target_at, list_words}
use Rattle.capnp_wire.specs.declared.fault.Fault.TheVariants.{TooDeep}

-- so many bytes from a word on
abbrev pub bytes_at : List ℕ → ℕ → ℕ → List ℕ
bytes_at segment start count = take count (drop (8 * start) segment)

-- so many bits, from a bit on
abbrev pub bits_from : List ℕ → ℕ → ℕ → List Bool
bits_from bytes first zero = []
bits_from bytes first (suc count) = bit_at bytes first ∷ bits_from bytes (suc first) count

-- the struct that starts at a word, where f says what stands at each pointer
abbrev pub struct_at : (ℕ → Tree) → List ℕ → ℕ → ℕ → ℕ → StructTree
struct_at f segment data_words pointer_count start = record { bytes = bytes_at segment start (8 * data_words); pointers = trees_from f (start + data_words) pointer_count }

-- a struct as a tree
abbrev pub struct_tree : StructTree → Tree
struct_tree s = Struct s.bytes s.pointers

-- a composite list, whose elements lie one after another
abbrev pub composite_tree : (ℕ → Tree) → List ℕ → ℕ → ℕ → ℕ → ℕ → Tree
composite_tree f segment start count data_words pointer_count =
    Composite data_words pointer_count (structs_from (λ i. struct_at f segment data_words pointer_count (start + i * (data_words + pointer_count))) 0 count)

-- a list by the number of its element size, where f says what stands at each pointer
abbrev pub list_tree : (ℕ → Tree) → List ℕ → ℕ → ℕ → ℕ → Tree
list_tree f segment start zero count = Voids count
list_tree f segment start (suc zero) count = Bits (bits_from (bytes_at segment start (8 * list_words 1 count)) 0 count)
list_tree f segment start (suc (suc zero)) count = Numbers 1 (bytes_at segment start count)
list_tree f segment start (suc (suc (suc zero))) count = Numbers 2 (bytes_at segment start (2 * count))
list_tree f segment start (suc (suc (suc (suc zero)))) count = Numbers 4 (bytes_at segment start (4 * count))
list_tree f segment start (suc (suc (suc (suc (suc zero))))) count = Numbers 8 (bytes_at segment start (8 * count))
list_tree f segment start (suc (suc (suc (suc (suc (suc size)))))) count = Pointers (trees_from f start count)

-- with fewer than no levels: what isn't null is too deep, whatever it is
abbrev pub tree_below_levels : Target → Tree
tree_below_levels NoTarget = Null
tree_below_levels (BadTarget fault) = FaultLeaf TooDeep
tree_below_levels (StructAt segment start data_words pointer_count) = FaultLeaf TooDeep
tree_below_levels (ListAt segment start size count) = FaultLeaf TooDeep
tree_below_levels (CompositeAt segment start count data_words pointer_count) = FaultLeaf TooDeep

-- with no level left: a struct is too deep, and so is a list that is not of bytes
abbrev pub tree_without_level : Target → Tree
tree_without_level NoTarget = Null
tree_without_level (BadTarget fault) = FaultLeaf fault
tree_without_level (StructAt segment start data_words pointer_count) = FaultLeaf TooDeep
tree_without_level (ListAt segment start size count) = cond (size == 2) (Numbers 1 (bytes_at segment start count)) (FaultLeaf TooDeep)
tree_without_level (CompositeAt segment start count data_words pointer_count) = FaultLeaf TooDeep

-- with a level left: f says what the pointers of a struct or of a list of pointers stand for, which have a level less,
-- and g those of a composite list's elements, which have two less
abbrev pub tree_with_level : (List ℕ → ℕ → Tree) → (List ℕ → ℕ → Tree) → Target → Tree
tree_with_level f g NoTarget = Null
tree_with_level f g (BadTarget fault) = FaultLeaf fault
tree_with_level f g (StructAt segment start data_words pointer_count) = struct_tree (struct_at (f segment) segment data_words pointer_count start)
tree_with_level f g (ListAt segment start size count) = list_tree (f segment) segment start size count
tree_with_level f g (CompositeAt segment start count data_words pointer_count) = composite_tree (g segment) segment start count data_words pointer_count

-- the tree at a place with so many levels, and with one level less than so many
unfoldable mutual
  pub tree_at : ℕ → Segments → List ℕ → ℕ → Tree
  tree_at zero segments segment w = tree_without_level (target_at segments segment w)
  tree_at (suc levels) segments segment w = tree_with_level (tree_at levels segments) (tree_below levels segments) (target_at segments segment w)

  pub tree_below : ℕ → Segments → List ℕ → ℕ → Tree
  tree_below zero segments segment w = tree_below_levels (target_at segments segment w)
  tree_below (suc levels) segments segment w = tree_at levels segments segment w

-- the tree of a message: at the first word of its first segment, with the levels of a message
abbrev pub root_tree : Segments → Tree
root_tree segments = tree_at message_levels segments (slice_index_or segments 0 []) 0
