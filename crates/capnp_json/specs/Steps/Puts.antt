-- JSON that is put piece by piece behind what was made.
use Rattle.std.specs.Prelude.{ℕ, ◌+◌, ◌<◌, ◌≤◌, ◌≡◌, ⊤, List, ◌++◌, length, Result, Ok, Err}
use Rattle.capnp_json.specs.Pieces.{IsJson, Out}
use Rattle.capnp_json.specs.declared.error.JsonError.{JsonError}
use Rattle.capnp_json.specs.declared.error.JsonError.TheVariants.{OutOfMemory, Read, TextNotUtf8, TooLarge, UntypedHasNoJson}
use Rattle.capnp_json.specs.declared.output.Output.{Output}

-- what was made, and how long it may be
abbrev pub made : Output → List ℕ
made out = out.bytes.items

abbrev pub limit_of : Output → ℕ
limit_of out = out.limit

-- a JSON was put behind what was made: these are its bytes, and it has no others
pub record IsPut (old : Output) (o : Out) (new : Output) : Type 0 where
  pub bytes : List ℕ
  pub json : IsJson o bytes
  pub only : (b : List ℕ) → IsJson o b → b ≡ bytes
  pub behind : made new ≡ made old ++ bytes
  pub limit : limit_of new ≡ limit_of old
  pub within : length (made old) ≤ limit_of old → length (made new) ≤ limit_of new

-- why a JSON was not put: it is refused so, there was no memory, or it is too long for what is left of the limit
abbrev pub IsStopped : Output → Out → JsonError → Type 0
IsStopped old o (Read kind) = o ≡ Err (Read kind)
IsStopped old o UntypedHasNoJson = o ≡ Err UntypedHasNoJson
IsStopped old o TextNotUtf8 = o ≡ Err TextNotUtf8
IsStopped old o OutOfMemory = ⊤
IsStopped old o TooLarge = (b : List ℕ) → IsJson o b → limit_of old < length (made old) + length b

-- what comes of a JSON that is to be put
abbrev pub Gives : Output → Out → Result Output JsonError → Type 0
Gives old o (Ok new) = IsPut old o new
Gives old o (Err why) = IsStopped old o why

-- what comes of the rest of a JSON comes of the whole
abbrev pub Leads : (old : Output) → (whole : Out) → (now : Output) → (rest : Out) → Type 0
Leads old whole now rest = (r : Result Output JsonError) → Gives now rest r → Gives old whole r

-- there was no memory
abbrev pub IsMemory : JsonError → Type 0
IsMemory why = why ≡ OutOfMemory
