-- What queries with steps `*` in their paths ask for: queries of one path each, in their order; or the first that can't be told.
use Rattle.std.specs.Prelude.{ℕ, ◌-◌, ◌<◌, ◌≤◌, ◌≡◌, ◌⊎◌, List, [], ◌∷◌, ◌++◌, length, map, Bool, true, false, cond, nat_lt, Some, string_bytes}
use Rattle.capnp_device.specs.declared.error.ErrorKind.TheVariants.{TooLarge}
use Rattle.capnp_patch.specs.Places.{IsWithin}
use Rattle.capnp_patch.specs.declared.place.Place.TheVariants as place
use Rattle.capnp_patch.specs.declared.reach.RefusedStep.{RefusedStep}
use Rattle.capnp_queries.specs.Patterns.{Listing, Stop, is_pattern, listed, listing_at}
use Rattle.capnp_records.specs.Call.{PathStep}
use Rattle.capnp_schema.specs.StructHandles.{number_of, set_of}
use Rattle.capnp_schema.specs.declared.schema.structs.StructSchema.{StructSchema}
use Rattle.riftcalico_core.specs.Notes.{place_note}
use Rattle.riftcalico_core.specs.Queries.{Query, query_of}
use Rattle.riftcalico_core.specs.declared.fault.Fault.{Fault}

-- a path alone, or all of a pattern
abbrev pub paths_by : (pattern : Bool) → StructSchema → (bytes : List ℕ) → List PathStep → Listing
paths_by true s bytes path = listing_at (set_of s) (number_of s) path bytes
paths_by false s bytes path = listed (path ∷ [])

abbrev pub query_paths : StructSchema → (bytes : List ℕ) → Query → Listing
query_paths s bytes q = paths_by (is_pattern q.path) s bytes q.path

-- those of patterns are counted: there may be as many as bytes, and at most 2^24
abbrev pub counted_paths : (pattern : Bool) → List (List PathStep) → ℕ
counted_paths true paths = length paths
counted_paths false paths = 0

abbrev pub paths_count : Query → List (List PathStep) → ℕ
paths_count q paths = counted_paths (is_pattern q.path) paths

abbrev pub most_paths : (limit : ℕ) → ℕ
most_paths limit = cond (nat_lt limit 16777216) limit 16777216

-- queries of one path each, of which so many may be of patterns
unfoldable pub AreAsked : (left : ℕ) → StructSchema → (bytes : List ℕ) → (asked queries : List Query) → Type 0
AreAsked left s bytes [] queries = queries ≡ []
AreAsked left s bytes (q ∷ asked) queries =
    (paths : List (List PathStep)) × (rest : List Query) × (query_paths s bytes q ≡ listed paths) × (paths_count q paths ≤ left)
    × AreAsked (left - paths_count q paths) s bytes asked rest × (queries ≡ map (query_of q.counts) paths ++ rest)

-- a step of a pattern is refused, or the message or its root, and the refusal tells where
pub record IsStopTold (s : StructSchema) (bytes : List ℕ) (q : Query) (f : Fault) : Type 0 where
  pub stop : Stop
  pub refused : (query_paths s bytes q).stop ≡ Some stop
  pub kind : f.error.kind ≡ stop.kind
  pub step : RefusedStep
  pub step_kind : step.error.kind ≡ stop.kind
  pub last : step.index ≡ length stop.path - 1
  pub within : IsWithin (set_of s) step.within stop.type
  pub told : string_bytes f.note ≡ place_note stop.path (place.Step step)

-- a pattern has more paths than may be
pub record HasManyPaths (left : ℕ) (s : StructSchema) (bytes : List ℕ) (q : Query) (f : Fault) : Type 0 where
  pub kind : f.error.kind ≡ TooLarge
  pub more : left < paths_count q (query_paths s bytes q).paths
  pub note : string_bytes f.note ≡ []

-- one of the queries is refused so, and those before it are not
unfoldable pub IsNotAsked : (left : ℕ) → StructSchema → (bytes : List ℕ) → (asked : List Query) → Fault → Type 0
IsNotAsked left s bytes [] f = ⊥
IsNotAsked left s bytes (q ∷ asked) f =
    (IsStopTold s bytes q f ⊎ HasManyPaths left s bytes q f)
    ⊎ ((paths : List (List PathStep)) × (query_paths s bytes q ≡ listed paths) × (paths_count q paths ≤ left) × IsNotAsked (left - paths_count q paths) s bytes asked f)
