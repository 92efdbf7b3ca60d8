-- Listings as the code has them.
use Rattle.std.specs.Prelude.{ℕ, ◌+◌, ◌<◌, ◌≤◌, ◌≡◌, ◌≢◌, List, ◌++◌, length, map, Option, Some, None, Result, Ok, Err}
use Rattle.std.specs.declared.alloc.Global.{Global}
use Rattle.std.specs.declared.vec.Vec.{Vec}
use Rattle.capnp_device.specs.declared.error.ErrorKind.TheVariants.{OutOfMemory, TooLarge}
use Rattle.capnp_call.specs.Seen.{path_seen}
use Rattle.capnp_call.specs.declared.calls.Step.{Step}
use Rattle.capnp_patch.specs.Places.{IsWithin}
use Rattle.capnp_records.specs.Call.{PathStep}
use Rattle.capnp_schema.specs.Schema.{Schemas}
use Rattle.capnp_queries.specs.Patterns.{Listing, Stop}
use Rattle.capnp_queries.specs.declared.patterns.NotListed.{NotListed}
use Rattle.capnp_queries.specs.declared.patterns.NotListed.TheVariants.{Refused, Unmade}
use Rattle.capnp_queries.specs.declared.patterns.RefusedPath.{RefusedPath}

abbrev pub paths_seen : List (Vec Step Global) → List (List PathStep)
paths_seen paths = map (λ path. path_seen path.items) paths

-- with those of a listing there are no more paths than may be, if there were not before
abbrev pub IsFewEnough : (most before : ℕ) → Listing → Type 0
IsFewEnough most before l = before ≤ most → before + length l.paths ≤ most

-- the step that no more is listed for
abbrev pub IsStop : Schemas → Option Stop → RefusedPath → Type 0
IsStop set None x = ⊥
IsStop set (Some y) x = (path_seen x.steps.items ≡ y.path) × (x.kind ≡ y.kind) × IsWithin set x.within y.type

-- behind so many paths a listing is refused, or there is no memory for it, or there are more paths than may be
abbrev pub IsNotListed : (most before : ℕ) → Schemas → Listing → NotListed → Type 0
IsNotListed most before set l (Refused x) = IsStop set l.stop x × IsFewEnough most before l
IsNotListed most before set l (Unmade kind) = kind ≢ OutOfMemory → (kind ≡ TooLarge) × (most < before + length l.paths)

-- some paths, and those of a listing behind them; or why it isn't listed
abbrev pub IsListed : (most : ℕ) → (before : List (List PathStep)) → Schemas → Listing → Result (Vec (Vec Step Global) Global) NotListed → Type 0
IsListed most before set l (Ok paths) = (l.stop ≡ None) × (paths_seen paths.items ≡ before ++ l.paths) × IsFewEnough most (length before) l
IsListed most before set l (Err why) = IsNotListed most (length before) set l why
