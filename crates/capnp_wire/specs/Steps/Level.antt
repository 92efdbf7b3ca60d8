-- The tree at a place one level at a time, with the levels that are left tested as code does. The depth is one more than
-- the number of levels.
use Rattle.std.specs.Prelude.{ℕ, ◌*◌, List, cond, ◌==◌, nat_lt}
use Rattle.capnp_wire.specs.Tree.{Tree, Null, Voids, Bits, Numbers, Pointers, FaultLeaf, trees_from}
use Rattle.capnp_wire.specs.Locate.{Target, NoTarget, BadTarget, StructAt, ListAt, CompositeAt, list_words}
use Rattle.capnp_wire.specs.Place.{bytes_at, bits_from, struct_at, struct_tree, composite_tree}
use Rattle.capnp_wire.specs.declared.fault.Fault.TheVariants.{TooDeep}

-- a list that is not of bytes
abbrev pub list_at_depth : (ℕ → Tree) → List ℕ → ℕ → ℕ → ℕ → Tree
list_at_depth f segment start size count =
    cond (size == 0) (Voids count)
    (cond (size == 1) (Bits (bits_from (bytes_at segment start (8 * list_words 1 count)) 0 count))
    (cond (size == 3) (Numbers 2 (bytes_at segment start (2 * count)))
    (cond (size == 4) (Numbers 4 (bytes_at segment start (4 * count)))
    (cond (size == 5) (Numbers 8 (bytes_at segment start (8 * count))) (Pointers (trees_from f start count))))))

abbrev pub tree_at_depth : ℕ → (List ℕ → ℕ → Tree) → (List ℕ → ℕ → Tree) → Target → Tree
tree_at_depth depth f g NoTarget = Null
tree_at_depth depth f g (BadTarget fault) = cond (depth == 0) (FaultLeaf TooDeep) (FaultLeaf fault)
tree_at_depth depth f g (StructAt segment start data_words pointer_count) =
    cond (nat_lt depth 2) (FaultLeaf TooDeep) (struct_tree (struct_at (f segment) segment data_words pointer_count start))
tree_at_depth depth f g (ListAt segment start size count) =
    cond (depth == 0) (FaultLeaf TooDeep)
    (cond (size == 2) (Numbers 1 (bytes_at segment start count))
    (cond (depth == 1) (FaultLeaf TooDeep) (list_at_depth (f segment) segment start size count)))
tree_at_depth depth f g (CompositeAt segment start count data_words pointer_count) =
    cond (nat_lt depth 2) (FaultLeaf TooDeep) (composite_tree (g segment) segment start count data_words pointer_count)
