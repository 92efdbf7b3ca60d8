-- The tree at a place is well-formed, with any number of levels.
use Rattle.std.proofs.Common.{◌==◌, ◌≡◌, ℕ, zero, suc, ◌+◌, ◌/◌, ◌<◌, ◌≤◌, ◌^◌, List, [], length, get_or, refl, arith, Bool, true, false, cond}
use Rattle.capnp_wire.specs.Tree.{Tree, Numbers, FaultLeaf}
use Rattle.capnp_wire.specs.Locate.{Segments, Target, NoTarget, BadTarget, StructAt, ListAt, CompositeAt, target_at, list_words}
use Rattle.capnp_wire.specs.Place.{bytes_at, tree_at, tree_below, tree_below_levels, tree_without_level, tree_with_level, root_tree}
use Rattle.capnp_wire.specs.WellFormed.{AreBytes, AreSegments, IsWellFormed}
use Rattle.capnp_wire.specs.Steps.WellFormed.{IsInside}
use Rattle.capnp_wire.specs.declared.fault.Fault.TheVariants.{TooDeep}
use Rattle.capnp_wire.specs.Facts.ByteRuns.{AreBytes_bytes_at, length_bytes_at}
use Rattle.capnp_wire.specs.Facts.Inside.{IsInside_target_at}
use Rattle.capnp_wire.specs.Facts.WellFormedRows.{IsWellFormed_struct_tree, IsWellFormed_composite_tree, IsWellFormed_list_tree}

-- ---- one level ----

-- with fewer than no levels
pub IsWellFormed_tree_below_levels : (t : Target) → IsWellFormed (tree_below_levels t)
IsWellFormed_tree_below_levels NoTarget = tt
IsWellFormed_tree_below_levels (BadTarget fault) = tt
IsWellFormed_tree_below_levels (StructAt segment start d p) = tt
IsWellFormed_tree_below_levels (ListAt segment start size count) = tt
IsWellFormed_tree_below_levels (CompositeAt segment start count d p) = tt

-- a list with no level left, which is there where it is of bytes
byte_list : (size : ℕ) (test : Bool) (segment : List ℕ) (start count : ℕ) → (test ≡ true → size ≡ 2) → AreBytes segment → start + list_words size count ≤ length segment / 8 → count < 2 ^ 29 → IsWellFormed (cond test (Numbers 1 (bytes_at segment start count)) (FaultLeaf TooDeep))
byte_list size false segment start count e h l b = tt
byte_list size true segment start count e h l b =
    let two : start + list_words 2 count ≤ length segment / 8 = rw (e refl) at l in
    let n : length (bytes_at segment start count) ≡ count = length_bytes_at segment start count (omega (arith, two)) in
    (AreBytes_bytes_at segment start count h, refl, omega arith, omega (arith, n))

-- with no level left
pub IsWellFormed_tree_without_level : (t : Target) → IsInside t → IsWellFormed (tree_without_level t)
IsWellFormed_tree_without_level NoTarget h = tt
IsWellFormed_tree_without_level (BadTarget fault) h = tt
IsWellFormed_tree_without_level (StructAt segment start d p) h = tt
IsWellFormed_tree_without_level (ListAt segment start size count) h = byte_list size (size == 2) segment start count (λ e. grind (arith, e)) h.0 h.1 h.3
IsWellFormed_tree_without_level (CompositeAt segment start count d p) h = tt

-- with a level left, where what its pointers stand for is well-formed
pub IsWellFormed_tree_with_level : (f g : List ℕ → ℕ → Tree) (t : Target) → IsInside t → ((s : List ℕ) (w : ℕ) → AreBytes s → IsWellFormed (f s w)) → ((s : List ℕ) (w : ℕ) → AreBytes s → IsWellFormed (g s w)) → IsWellFormed (tree_with_level f g t)
IsWellFormed_tree_with_level f g NoTarget h a b = tt
IsWellFormed_tree_with_level f g (BadTarget fault) h a b = tt
IsWellFormed_tree_with_level f g (StructAt segment start d p) h a b = IsWellFormed_struct_tree (f segment) segment d p start h.0 (omega (arith, h.1)) h.2 h.3 (λ w. a segment w h.0)
IsWellFormed_tree_with_level f g (ListAt segment start size count) h a b = IsWellFormed_list_tree (f segment) segment start size count h.0 h.1 h.3 (λ w. a segment w h.0)
IsWellFormed_tree_with_level f g (CompositeAt segment start count d p) h a b = IsWellFormed_composite_tree (g segment) segment start count d p h.0 h.1 h.2 h.3 h.4 h.5 (λ w. b segment w h.0)

-- ---- every number of levels ----

mutual
  unfolding tree_at tree_below

  -- what stands at a word, with so many levels
  pub IsWellFormed_tree_at : (levels : ℕ) (segments : Segments) (segment : List ℕ) (w : ℕ) → AreSegments segments → AreBytes segment → IsWellFormed (tree_at levels segments segment w)
  IsWellFormed_tree_at zero segments segment w h s = IsWellFormed_tree_without_level (target_at segments segment w) (IsInside_target_at segments segment w h s)
  IsWellFormed_tree_at (suc levels) segments segment w h s =
      IsWellFormed_tree_with_level (tree_at levels segments) (tree_below levels segments) (target_at segments segment w) (IsInside_target_at segments segment w h s)
      (λ t v b. IsWellFormed_tree_at levels segments t v h b) (λ t v b. IsWellFormed_tree_below levels segments t v h b)

  -- the same with one level less than so many
  pub IsWellFormed_tree_below : (levels : ℕ) (segments : Segments) (segment : List ℕ) (w : ℕ) → AreSegments segments → AreBytes segment → IsWellFormed (tree_below levels segments segment w)
  IsWellFormed_tree_below zero segments segment w h s = IsWellFormed_tree_below_levels (target_at segments segment w)
  IsWellFormed_tree_below (suc levels) segments segment w h s = IsWellFormed_tree_at levels segments segment w h s

-- a message's tree
pub IsWellFormed_root_tree : (segments : Segments) → AreSegments segments → IsWellFormed (root_tree segments)
IsWellFormed_root_tree segments h = IsWellFormed_tree_at 64 segments (get_or segments 0 []) 0 h (h 0)
