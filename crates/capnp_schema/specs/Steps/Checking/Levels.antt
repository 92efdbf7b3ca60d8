-- A tour down the groups of a struct: what each level of it is past, and the times that are closed to what comes.
use Rattle.std.specs.Prelude.{ℕ, ◌+◌, ◌<◌, ◌≤◌, ◌≡◌, ⊤, List, [], ◌∷◌, ◌++◌, Bool, true, false, length, get_or, slice_get, Some}
use Rattle.capnp_schema.specs.Schema.{Schemas, node_of, fields_of, field_at, is_member}
use Rattle.capnp_schema.specs.Footprint.{Spot, DataBit, PointerAt, is_in, discriminant_names}
use Rattle.capnp_schema.specs.Steps.Checking.Parents.{group_target}
use Rattle.capnp_schema.specs.Steps.Checking.Spans.{span_names, entry_names}
use Rattle.capnp_schema.specs.declared.check.claims.Claims.{Claims}
use Rattle.capnp_schema.specs.declared.check.claims.Level.{Level}
use Rattle.capnp_schema.specs.declared.check.spans.Span.{Span}
use Rattle.capnp_schema.specs.declared.check.tour.Tour.{Tour}
use Rattle.capnp_schema.specs.declared.check.tour.Step.{Step}
use Rattle.capnp_schema.specs.declared.check.tour.Step.TheVariants as step

-- ---- times ----

-- the non-union part of a level holds its start and all times up to where it ends
abbrev pub IsOpen : Level → ℕ → Type 0
IsOpen l t = l.start ≤ t → t < l.non_union_end → ⊥

abbrev pub AreOpen : List Level → ℕ → Type 0
AreOpen levels t = (k : ℕ) (l : Level) → slice_get levels k ≡ Some l → IsOpen l t

-- each level starts where the non-union part of those before it has ended
pub record AreInOrder (levels : List Level) : Type 0 where
  pub each : (k : ℕ) (l : Level) → slice_get levels k ≡ Some l → l.start ≤ l.non_union_end
  pub pairs : (j k : ℕ) (l m : Level) → j < k → slice_get levels j ≡ Some l → slice_get levels k ≡ Some m → l.non_union_end ≤ m.start

-- the levels were open at each of so many marks, which are now the time, and no other mark has changed
pub record AreClaimed (levels : List Level) (now first count : ℕ) (old new : List ℕ) : Type 0 where
  pub inside : (i : ℕ) → first ≤ i → i < first + count → AreOpen levels (get_or old i 0) × (get_or new i 0 ≡ now)
  pub outside : (i : ℕ) → is_in first count i ≡ false → get_or new i 0 ≡ get_or old i 0

-- when a spot was claimed last
abbrev pub mark_at : Claims → Spot → ℕ
mark_at c (DataBit i) = get_or c.bits.items i 0
mark_at c (PointerAt i) = get_or c.pointers.items i 0

-- the same of the spots of a span
pub record IsClaimed (levels : List Level) (now : ℕ) (span : Span) (old new : Claims) : Type 0 where
  pub inside : (p : Spot) → span_names span p ≡ true → AreOpen levels (mark_at old p) × (mark_at new p ≡ now)
  pub outside : (p : Spot) → span_names span p ≡ false → mark_at new p ≡ mark_at old p

-- ---- what is past ----

abbrev pub member_at : Schemas → ℕ → ℕ → Bool
member_at set b i = is_member (field_at set b i).field

-- a field names a spot, through some number of groups
pub record Names (set : Schemas) (b i : ℕ) (p : Spot) : Type 0 where
  pub groups : ℕ
  pub names : entry_names groups set (slice_get (fields_of set b) i) p ≡ true

-- the discriminant, or a non-union field that so many steps are past, names a spot
pub data NonUnionDone (set : Schemas) (b steps : ℕ) (p : Spot) : Type 0 where
  by_discriminant : discriminant_names (node_of set b) p ≡ true → NonUnionDone set b steps p
  by_non_union : (i : ℕ) → member_at set b i ≡ false → i < steps → Names set b i p → NonUnionDone set b steps p

-- the same of any field: the members follow on the non-union fields
pub data Done (set : Schemas) (b steps : ℕ) (p : Spot) : Type 0 where
  among_non_union : NonUnionDone set b steps p → Done set b steps p
  by_member : (i : ℕ) → member_at set b i ≡ true → length (fields_of set b) + i < steps → Names set b i p → Done set b steps p

-- the field that a step is about
pub data IsCurrent (set : Schemas) (b steps i : ℕ) : Type 0 where
  non_union : member_at set b i ≡ false → i < length (fields_of set b) → i ≡ steps → IsCurrent set b steps i
  member : member_at set b i ≡ true → length (fields_of set b) + i ≡ steps → IsCurrent set b steps i

-- a field names nothing that the discriminant names, or a non-union field that is gone through before it
pub record IsClear (set : Schemas) (b i : ℕ) : Type 0 where
  pub non_union : member_at set b i ≡ false → (p : Spot) → Names set b i p → NonUnionDone set b i p → ⊥
  pub member : member_at set b i ≡ true → (p : Spot) → Names set b i p → NonUnionDone set b (length (fields_of set b)) p → ⊥

-- ---- levels ----

-- what a level is past has its marks in the level's time, and the non-union part of it in the level's non-union part
pub record LevelStands (set : Schemas) (mark : Spot → ℕ) (now : ℕ) (l : Level) : Type 0 where
  pub started : (p : Spot) → Done set l.brand l.steps p → l.start ≤ mark p
  pub non_union : (p : Spot) → NonUnionDone set l.brand l.steps p → mark p < l.non_union_end
  pub clear_non_union : (i : ℕ) → member_at set l.brand i ≡ false → i < l.steps → IsClear set l.brand i
  pub clear_members : (i : ℕ) → member_at set l.brand i ≡ true → length (fields_of set l.brand) + i < l.steps → IsClear set l.brand i
  pub ordered : l.start ≤ l.non_union_end
  pub ended : l.non_union_end ≤ now

-- a level above another names nothing that the non-union part of the other does
pub record IsAbove (set : Schemas) (l m : Level) : Type 0 where
  pub later : l.non_union_end ≤ m.start
  pub apart : (p : Spot) → Done set m.brand m.steps p → NonUnionDone set l.brand l.steps p → ⊥

-- a level is at a field that names the group
pub record IsCurrentGroup (set : Schemas) (l : Level) (group : ℕ) : Type 0 where
  pub index : ℕ
  pub current : IsCurrent set l.brand l.steps index
  pub target : group_target set l.brand index ≡ Some group

pub record LevelsStand (set : Schemas) (mark : Spot → ℕ) (now : ℕ) (levels : List Level) : Type 0 where
  pub each : (k : ℕ) (l : Level) → slice_get levels k ≡ Some l → LevelStands set mark now l
  pub pairs : (j k : ℕ) (l m : Level) → j < k → slice_get levels j ≡ Some l → slice_get levels k ≡ Some m → IsAbove set l m
  pub entered : (k : ℕ) (l m : Level) → slice_get levels k ≡ Some l → slice_get levels (k + 1) ≡ Some m → IsCurrentGroup set l m.brand
  pub fresh : (p : Spot) → mark p < now

-- ---- the tour ----

-- all fields of a brand are clear
abbrev pub AreClear : Schemas → ℕ → Type 0
AreClear set b = (i : ℕ) → i < length (fields_of set b) → IsClear set b i

-- so they are at each brand that is done
pub record DoneStand (set : Schemas) (done : List Bool) : Type 0 where
  pub counted : length done ≡ length set.brands
  pub clear : (b : ℕ) → get_or done b false ≡ true → AreClear set b

pub record TourStands (set : Schemas) (tour : Tour) (top : Level) : Type 0 where
  pub levels : LevelsStand set (mark_at tour.claims) tour.now (tour.below.items ++ top ∷ [])
  pub done : DoneStand set tour.done.items

-- between two structs
pub record TourRests (set : Schemas) (tour : Tour) : Type 0 where
  pub below : tour.below.items ≡ []
  pub fresh : (p : Spot) → mark_at tour.claims p < tour.now
  pub done : DoneStand set tour.done.items

abbrev pub StepStands : Schemas → Tour → Step → Type 0
StepStands set tour (step.At top) = TourStands set tour top
StepStands set tour step.Ended = TourRests set tour
StepStands set tour (step.Met meeting) = ⊤
