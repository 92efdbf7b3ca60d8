-- How much there is of what pointers lead to: a target that several lead to counts as often.
use Rattle.std.specs.Prelude.{ℕ, suc, ◌+◌, length}
use Rattle.capnp_wire.specs.Tree.{Tree, Null, Struct, Voids, Bits, Numbers, Pointers, Composite, FaultLeaf, Trees, NoTrees, MoreTrees, Structs, NoStructs, MoreStructs}

-- one for each pointer and element of a list of structs, and one for each byte, bit and empty element
abbrev mutual
  pub unfolded : Tree → ℕ
  unfolded Null = 1
  unfolded (Struct bytes ps) = suc (length bytes + unfolded_all ps)
  unfolded (Voids n) = suc n
  unfolded (Bits bs) = suc (length bs)
  unfolded (Numbers w bytes) = suc (length bytes)
  unfolded (Pointers ps) = suc (unfolded_all ps)
  unfolded (Composite d p es) = suc (unfolded_elements es)
  unfolded (FaultLeaf k) = 1

  pub unfolded_all : Trees → ℕ
  unfolded_all NoTrees = 0
  unfolded_all (MoreTrees t ts) = unfolded t + unfolded_all ts

  pub unfolded_elements : Structs → ℕ
  unfolded_elements NoStructs = 0
  unfolded_elements (MoreStructs bytes ps es) = suc (length bytes + unfolded_all ps) + unfolded_elements es
