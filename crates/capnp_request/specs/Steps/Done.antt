-- The code's answers beside the definition's work: the same, but where memory is refused.
use Rattle.std.specs.Prelude.{◌≡◌, ◌≢◌, Result, Ok, Err}
use Rattle.capnp_device.specs.declared.error.Error.{Error}
use Rattle.capnp_device.specs.declared.error.ErrorKind.TheVariants.{OutOfMemory}
use Rattle.capnp_request.specs.Steps.Bindings.{flags}
use Rattle.capnp_request.specs.Steps.Numbers.{numbered_entries}
use Rattle.capnp_request.specs.Terms.{Said}
use Rattle.capnp_request.specs.Work.{Named, Work, nothing_seen}
use Rattle.capnp_request.specs.Steps.Work.{named_with}
use Rattle.capnp_request.specs.declared.entries.Entries.{Entries}
use Rattle.capnp_request.specs.declared.notes.Seen.{Seen as SeenRecord}

-- what was named and seen so far; outside a type nothing is seen
abbrev pub so_far : Entries → SeenRecord → Named
so_far entries seen = named_with (numbered_entries entries) (flags seen)

abbrev pub between : Entries → Named
between entries = named_with (numbered_entries entries) nothing_seen

-- An answer is what work gives, as it is seen, with what is named after it; a refusal is that of the work.
abbrev pub IsWorkDone : {A B : Type 0} → (B → A) → Work A → (before after : Named) → Result B Error → Type 0
IsWorkDone seen w before after (Ok b) = w before ≡ Ok (seen b, after)
IsWorkDone seen w before after (Err e) = e.kind ≢ OutOfMemory → w before ≡ Err e.kind

-- the same of what is said, where nothing is named
abbrev pub IsSaid : {A B : Type 0} → (B → A) → Said A → Result B Error → Type 0
IsSaid seen s (Ok b) = s ≡ Ok (seen b)
IsSaid seen s (Err e) = e.kind ≢ OutOfMemory → s ≡ Err e.kind
