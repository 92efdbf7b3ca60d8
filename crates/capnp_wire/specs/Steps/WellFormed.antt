-- What the format lets a tree be: bytes, counts and sizes within their fields, and whole words of data: steps of the code.
use Rattle.std.specs.Prelude.{ℕ, ◌+◌, ◌*◌, ◌/◌, ◌^◌, ◌<◌, ◌≤◌, ◌≡◌, ⊤, List, length}
use Rattle.std.specs.Coded.{×_prop, Π_prop, Unit-prop, le_prop, Coded-set, coded_ℕ, coded_bool}
use Rattle.capnp_wire.specs.Tree.{Tree, Null, Struct, Voids, Bits, Numbers, Pointers, Composite, FaultLeaf, Trees, NoTrees, MoreTrees, Structs, NoStructs, MoreStructs, StructTree, tree_count}
use Rattle.capnp_wire.specs.Locate.{Segments, Target, NoTarget, BadTarget, StructAt, ListAt, CompositeAt, list_words, words_past_format}
use Rattle.capnp_wire.specs.WellFormed.{AreBytes, AreElements, AreSegments, AreWellFormed, IsWellFormed, IsWellFormedStruct}

-- an element of a composite list of this size
abbrev pub IsElement : ℕ → ℕ → StructTree → Type 0
IsElement d p s = AreBytes s.bytes × (length s.bytes ≡ 8 * d) × (tree_count s.pointers ≡ p) × AreWellFormed s.pointers

-- a target lies in a segment of bytes, with sizes within their fields
abbrev pub IsInside : Target → Type 0
IsInside NoTarget = ⊤
IsInside (BadTarget fault) = ⊤
IsInside (StructAt segment start d p) = AreBytes segment × (start + d + p ≤ length segment / 8) × (d < 2 ^ 16) × (p < 2 ^ 16)
IsInside (ListAt segment start size count) = AreBytes segment × (start + list_words size count ≤ length segment / 8) × (size < 7) × (count < words_past_format)
IsInside (CompositeAt segment start count d p) = AreBytes segment × (start + count * (d + p) ≤ length segment / 8) × (d < 2 ^ 16) × (p < 2 ^ 16) × (count < words_past_format) × (count * (d + p) < words_past_format)

-- ---- these facts have one proof at most, so that a reader can keep them ----

pub AreBytes_prop : (bytes : List ℕ) → IsProp (AreBytes bytes)
AreBytes_prop bytes = Π_prop (λ i. le_prop)

mutual
  pub IsWellFormed_prop : (t : Tree) → IsProp (IsWellFormed t)
  IsWellFormed_prop Null = Unit-prop
  IsWellFormed_prop (Struct bytes ps) = λ u v i. (AreBytes_prop bytes u.0 v.0 i, Coded-set coded_ℕ _ _ u.1 v.1 i, le_prop u.2 v.2 i, le_prop u.3 v.3 i, AreWellFormed_prop ps u.4 v.4 i)
  IsWellFormed_prop (Voids count) = le_prop
  IsWellFormed_prop (Bits bits) = le_prop
  IsWellFormed_prop (Numbers width bytes) = λ u v i. (AreBytes_prop bytes u.0 v.0 i, Coded-set coded_bool _ _ u.1 v.1 i, Coded-set coded_ℕ _ _ u.2 v.2 i, le_prop u.3 v.3 i)
  IsWellFormed_prop (Pointers ps) = λ u v i. (le_prop u.0 v.0 i, AreWellFormed_prop ps u.1 v.1 i)
  IsWellFormed_prop (Composite d p es) = λ u v i. (le_prop u.0 v.0 i, le_prop u.1 v.1 i, le_prop u.2 v.2 i, le_prop u.3 v.3 i, AreElements_prop d p es u.4 v.4 i)
  IsWellFormed_prop (FaultLeaf fault) = Unit-prop

  pub AreWellFormed_prop : (ts : Trees) → IsProp (AreWellFormed ts)
  AreWellFormed_prop NoTrees = Unit-prop
  AreWellFormed_prop (MoreTrees t ts) = ×_prop (IsWellFormed_prop t) (AreWellFormed_prop ts)

  pub AreElements_prop : (d p : ℕ) (es : Structs) → IsProp (AreElements d p es)
  AreElements_prop d p NoStructs = Unit-prop
  AreElements_prop d p (MoreStructs bytes ps es) = λ u v i. (AreBytes_prop bytes u.0 v.0 i, Coded-set coded_ℕ _ _ u.1 v.1 i, Coded-set coded_ℕ _ _ u.2 v.2 i, AreWellFormed_prop ps u.3 v.3 i, AreElements_prop d p es u.4 v.4 i)

pub IsWellFormedStruct_prop : (s : StructTree) → IsProp (IsWellFormedStruct s)
IsWellFormedStruct_prop s = λ u v i. (AreBytes_prop s.bytes u.0 v.0 i, le_prop u.1 v.1 i, le_prop u.2 v.2 i, AreWellFormed_prop s.pointers u.3 v.3 i)

pub AreSegments_prop : (segments : Segments) → IsProp (AreSegments segments)
AreSegments_prop segments = Π_prop (λ i. AreBytes_prop _)
