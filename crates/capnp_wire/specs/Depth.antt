-- The levels that it takes to read a tree in full.
use Rattle.std.specs.Prelude.{ℕ, suc, ◌-◌, ◌≤◌, ⊤, cond, ◌==◌}
use Rattle.capnp_wire.specs.Tree.{Tree, Null, Struct, Voids, Bits, Numbers, Pointers, Composite, FaultLeaf, Trees, NoTrees, MoreTrees, Structs, NoStructs, MoreStructs}

-- Read with one level less than so many, no part of it is too deep: a struct takes a level, and so does a list that is
-- not of bytes; the elements of a composite list take another.
abbrev mutual
  pub IsBelow : ℕ → Tree → Type 0
  IsBelow levels Null = ⊤
  IsBelow levels (Struct bytes ps) = (2 ≤ levels) × AreBelow (levels - 1) ps
  IsBelow levels (Voids n) = 2 ≤ levels
  IsBelow levels (Bits bs) = 2 ≤ levels
  IsBelow levels (Numbers width bytes) = cond (width == 1) 1 2 ≤ levels
  IsBelow levels (Pointers ps) = (2 ≤ levels) × AreBelow (levels - 1) ps
  IsBelow levels (Composite d p es) = (2 ≤ levels) × ElementsAreBelow (levels - 2) es
  IsBelow levels (FaultLeaf fault) = 1 ≤ levels

  -- the same of all that pointers in a row lead to
  pub AreBelow : ℕ → Trees → Type 0
  AreBelow levels NoTrees = ⊤
  AreBelow levels (MoreTrees t ts) = IsBelow levels t × AreBelow levels ts

  -- and of all that those of elements in a row do
  pub ElementsAreBelow : ℕ → Structs → Type 0
  ElementsAreBelow levels NoStructs = ⊤
  ElementsAreBelow levels (MoreStructs bytes ps es) = AreBelow levels ps × ElementsAreBelow levels es

-- the same with so many levels
abbrev pub IsWithin : ℕ → Tree → Type 0
IsWithin levels t = IsBelow (suc levels) t

-- the levels that a message is read with, and those that are left inside its root
abbrev pub message_levels : ℕ
message_levels = 64

abbrev pub root_levels : ℕ
root_levels = 63

-- the depth is at most the levels that a message is read with
abbrev pub IsShallow : Tree → Type 0
IsShallow t = IsWithin message_levels t

-- One more than the levels of a message in memory that a reader or a walk goes down, so that no stack runs out on a
-- message that was built: what is read with 64 levels is that of the whole tree, also where each is a composite list.
abbrev pub memory_depth : ℕ
memory_depth = 130
