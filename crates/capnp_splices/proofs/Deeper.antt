-- What is read in full with some levels is with more.
use Rattle.std.proofs.Common.{ℕ, ◌-◌, ◌≤◌, arith, ◌==◌, cond}
use Rattle.capnp_wire.specs.Depth.{AreBelow, ElementsAreBelow, IsBelow}
use Rattle.capnp_wire.specs.Tree.{Tree, Null, Struct, Voids, Bits, Numbers, Pointers, Composite, FaultLeaf, Trees, NoTrees, MoreTrees, Structs, NoStructs, MoreStructs}

at_most : (a b c : ℕ) → a ≤ b → b ≤ c → a ≤ c
at_most a b c h k = omega (arith, h, k)

mutual
  pub below_deeper : (t : Tree) (l m : ℕ) → l ≤ m → IsBelow l t → IsBelow m t
  below_deeper Null l m h b = tt
  below_deeper (Struct bytes ps) l m h b = (omega (arith, h, b.0), row_deeper ps (l - 1) (m - 1) (omega (arith, h)) b.1)
  below_deeper (Voids n) l m h b = omega (arith, h, b)
  below_deeper (Bits bs) l m h b = omega (arith, h, b)
  below_deeper (Numbers width bytes) l m h b = at_most (cond (width == 1) 1 2) l m b h
  below_deeper (Pointers ps) l m h b = (omega (arith, h, b.0), row_deeper ps (l - 1) (m - 1) (omega (arith, h)) b.1)
  below_deeper (Composite d p es) l m h b = (omega (arith, h, b.0), elements_deeper es (l - 2) (m - 2) (omega (arith, h)) b.1)
  below_deeper (FaultLeaf fault) l m h b = omega (arith, h, b)

  row_deeper : (ts : Trees) (l m : ℕ) → l ≤ m → AreBelow l ts → AreBelow m ts
  row_deeper NoTrees l m h b = tt
  row_deeper (MoreTrees t ts) l m h b = (below_deeper t l m h b.0, row_deeper ts l m h b.1)

  elements_deeper : (es : Structs) (l m : ℕ) → l ≤ m → ElementsAreBelow l es → ElementsAreBelow m es
  elements_deeper NoStructs l m h b = tt
  elements_deeper (MoreStructs bytes ps es) l m h b = (row_deeper ps l m h b.0, elements_deeper es l m h b.1)
