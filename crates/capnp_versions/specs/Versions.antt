-- What differs between two versions of a struct.
use Rattle.std.specs.Prelude.{ℕ, ◌+◌, ◌≡◌, ◌⊎◌, ◌↔◌, ◌≤◌, ◌^◌, ◌++◌, List, [], ◌∷◌, Bool, AllPairs, Contains, IsTrue, Some, None, length, string_bytes}
use Rattle.capnp_device.specs.declared.error.ErrorKind.{ErrorKind}
use Rattle.capnp_device.specs.declared.error.ErrorKind.TheVariants.{NameNotFound, TooManyTypes}
use Rattle.capnp_dynamic_readers.specs.Pieces.{IsAppended}
use Rattle.capnp_records.specs.Compatible.{IsCompatibleOrUpgraded}
use Rattle.capnp_schema.specs.ByName.{brand_asked}
use Rattle.capnp_schema.specs.Schema.{Schemas}
use Rattle.capnp_differences.specs.Differences.{AreAnswered, ComesFirst, IsDifference, IsDifferenceOf}
use Rattle.capnp_differences.specs.declared.differences.Difference.{Difference}
use Rattle.capnp_differences.specs.declared.differences.Pair.{Pair}
use Rattle.capnp_differences.specs.Notes.{AreNotes}
use Rattle.capnp_differences.specs.declared.noted.Note.{Note}
use Rattle.capnp_joined_sets.specs.Joined.{joined}
use Rattle.capnp_joined_sets.specs.Refusals.{NumbersFit}
use Rattle.capnp_versions.specs.Changes.{changes_text}
use Rattle.capnp_versions.specs.Lines.{differences_text}
use Rattle.capnp_versions.specs.Shared.{IsPast, count_true, notes_text, shared_pairs}
use Rattle.capnp_versions.specs.declared.every.FullComparison.{FullComparison}
use Rattle.capnp_versions.specs.declared.versions.Comparison.{Comparison}

-- all that differs between two structs of a set and nothing else, in order; its lines; what else changes, and its lines; and
-- whether the newer struct follows the older one
pub record IsComparisonIn (set : Schemas) (older newer : ℕ) (c : Comparison) : Type 0 where
  pub told : List Difference
  pub exactly : (d : Difference) → (Contains told d ↔ IsDifference set older newer d)
  pub order : AllPairs ComesFirst told
  pub text : IsAppended [] (differences_text set told) (string_bytes c.text)
  pub changes : List Note
  pub noted : AreNotes set (record { older = older; newer = newer } ∷ []) changes
  pub notes : string_bytes c.notes ≡ changes_text set changes
  pub follows : IsTrue c.follows ↔ IsCompatibleOrUpgraded set older newer

-- the structs of a name in both sets are compared in the joined set, where the second has its number moved up
pub record IsComparison (older newer : Schemas) (name : List ℕ) (c : Comparison) : Type 0 where
  pub first : ℕ
  pub second : ℕ
  pub older_named : brand_asked older name ≡ Some first
  pub newer_named : brand_asked newer name ≡ Some second
  pub compared : IsComparisonIn (joined older newer) first (second + length older.brands) c

-- one of the sets has no struct of the name, or a number of both sets together has more than 32 bits
abbrev pub IsNotCompared : (older newer : Schemas) → (name : List ℕ) → ErrorKind → Type 0
IsNotCompared older newer name kind =
    ((kind ≡ NameNotFound) × ((brand_asked older name ≡ None) ⊎ (brand_asked newer name ≡ None)))
    ⊎ ((kind ≡ TooManyTypes) × ((NumbersFit (joined older newer) → ⊥) ⊎ ((second : ℕ) × (brand_asked newer name ≡ Some second) × (2 ^ 32 ≤ second + length older.brands))))

-- ---- all structs of two versions ----

-- all that differs between the structs of these pairs of a set and in what they lead to, and nothing else, in order; its lines;
-- of how many pairs the second follows, and of how many it does not; and what else changes, with lines behind it
pub record IsComparisonOf (set : Schemas) (pairs : List Pair) (behind : List ℕ) (c : FullComparison) : Type 0 where
  pub told : List Difference
  pub exactly : (d : Difference) → (Contains told d ↔ IsDifferenceOf set pairs d)
  pub order : AllPairs ComesFirst told
  pub text : IsAppended [] (differences_text set told) (string_bytes c.text)
  pub follows : List Bool
  pub answered : AreAnswered set pairs follows
  pub compatible : c.compatible ≡ count_true follows
  pub incompatible : c.compatible + c.incompatible ≡ length pairs
  pub changes : List Note
  pub noted : AreNotes set pairs changes
  pub notes : string_bytes c.notes ≡ changes_text set changes ++ behind

-- that of the structs of one name in both sets, in the joined set, and of the structs that one of the sets has
abbrev pub IsFullComparison : (older newer : Schemas) → FullComparison → Type 0
IsFullComparison older newer c = IsComparisonOf (joined older newer) (shared_pairs older newer) (notes_text older newer) c

-- a number of both sets together has more than 32 bits
abbrev pub IsNotComparedAll : (older newer : Schemas) → ErrorKind → Type 0
IsNotComparedAll older newer kind = (kind ≡ TooManyTypes) × ((NumbersFit (joined older newer) → ⊥) ⊎ IsPast older newer)
