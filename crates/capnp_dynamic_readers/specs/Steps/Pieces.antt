-- Texts as they are put piece by piece into a place: steps of the code.
use Rattle.std.specs.Prelude.{ℕ, List, Result, Ok, Err, ◌+◌, ◌++◌, ◌<◌, ◌≤◌, ◌≡◌, ◌≢◌, ⊤, length}
use Rattle.capnp_device.specs.declared.error.ErrorKind.TheVariants.{OutOfMemory}
use Rattle.capnp_records.specs.Text.{IsSpelled, IsText, Out}
use Rattle.capnp_dynamic_readers.specs.declared.walk.output.Stop.{Stop}
use Rattle.capnp_dynamic_readers.specs.declared.walk.output.Stop.TheVariants.{Full, Refused, TooLong}
use Rattle.capnp_dynamic_readers.specs.Pieces.{Taken, Untold, Within}

-- what a place has taken, with bytes behind it
abbrev pub followed : Taken → List ℕ → Taken
followed Untold bytes = Untold
followed (Within limit old) bytes = Within limit (old ++ bytes)

-- a place has taken no more than it may
abbrev pub IsAllowed : Taken → Type 0
IsAllowed Untold = ⊤
IsAllowed (Within limit bytes) = length bytes ≤ limit

-- a text was put after what was taken, and the place has taken no more than it may, if it had not before
abbrev pub IsPut : Taken → Out → Taken → Type 0
IsPut old o new = (bytes : List ℕ) × IsText o bytes × (followed old bytes ≡ new) × (IsAllowed old → IsAllowed new)

-- a text is too long after what was taken: one of its spellings is, or it is refused
abbrev pub IsPast : Taken → Out → Type 0
IsPast Untold o = ⊤
IsPast (Within limit old) (Ok pieces) = (bytes : List ℕ) × IsSpelled pieces bytes × (limit < length old + length bytes)
IsPast (Within limit old) (Err kind) = ⊤

-- why a printer stopped that was to put a text after what was taken: the text is refused with that number, there was no room,
-- or it is too long
abbrev pub IsStopped : Taken → Out → Stop → Type 0
IsStopped old o (Refused e) = e.kind ≢ OutOfMemory → o ≡ Err e.kind
IsStopped old o Full = ⊤
IsStopped old o TooLong = IsPast old o

-- what comes of a text that is to be put: it was put, or the printer stopped
abbrev pub Gives : Taken → Out → Result Taken Stop → Type 0
Gives old o (Ok new) = IsPut old o new
Gives old o (Err stop) = IsStopped old o stop

-- what comes of the rest of a text comes of the whole
abbrev pub Leads : (old : Taken) → (whole : Out) → (now : Taken) → (rest : Out) → Type 0
Leads old whole now rest = (r : Result Taken Stop) → Gives now rest r → Gives old whole r

-- there was no room
abbrev pub IsFull : Stop → Type 0
IsFull (Refused e) = ⊥
IsFull Full = ⊤
IsFull TooLong = ⊥
