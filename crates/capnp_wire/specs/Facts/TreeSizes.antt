-- How large a tree is, which falls from a tree to each of its parts.
use Rattle.std.proofs.Common.{ℕ, zero, suc, ◌+◌, ◌<◌, arith}
use Rattle.capnp_wire.specs.Tree.{Tree, Null, Struct, Voids, Bits, Numbers, Pointers, Composite, FaultLeaf, Trees, NoTrees, MoreTrees, Structs, NoStructs, MoreStructs, nth_tree, nth_struct, tree_count, struct_count}

-- the trees and elements below a tree, all of them counted
abbrev mutual
  pub tree_size : Tree → ℕ
  tree_size Null = 0
  tree_size (Struct bytes ps) = trees_size ps
  tree_size (Voids n) = 0
  tree_size (Bits bs) = 0
  tree_size (Numbers w bytes) = 0
  tree_size (Pointers ps) = trees_size ps
  tree_size (Composite d p es) = structs_size es
  tree_size (FaultLeaf k) = 0

  pub trees_size : Trees → ℕ
  trees_size NoTrees = 0
  trees_size (MoreTrees t ts) = suc (tree_size t + trees_size ts)

  pub structs_size : Structs → ℕ
  structs_size NoStructs = 0
  structs_size (MoreStructs bytes ps es) = suc (trees_size ps + structs_size es)

-- a tree of a row is smaller than the row
pub nth_tree_smaller : (i : ℕ) (ts : Trees) → i < tree_count ts → tree_size (nth_tree ts i) < trees_size ts
nth_tree_smaller i NoTrees h = absurd (omega arith)
nth_tree_smaller zero (MoreTrees t ts) h = omega arith
nth_tree_smaller (suc i) (MoreTrees t ts) h = let below = nth_tree_smaller i ts (omega arith) in omega arith

-- and so are the pointers of an element
pub nth_struct_smaller : (i : ℕ) (es : Structs) → i < struct_count es → trees_size (nth_struct es i).pointers < structs_size es
nth_struct_smaller i NoStructs h = absurd (omega arith)
nth_struct_smaller zero (MoreStructs bytes ps es) h = omega arith
nth_struct_smaller (suc i) (MoreStructs bytes ps es) h = let below = nth_struct_smaller i es (omega arith) in omega arith
