-- What a walk over a tree answers for its words: steps of the code.
use Rattle.std.specs.Prelude.{ℕ, ◌^◌, ◌≤◌, ◌≡◌, Option, Some, None, Result, Ok, Err}
use Rattle.capnp_wire.specs.Reading.{refusal}
use Rattle.capnp_wire.specs.declared.fault.Fault.{Fault}
use Rattle.capnp_wire.specs.declared.size.MessageSize.{MessageSize}
use Rattle.capnp_wire.specs.declared.total.Stop.{Stop}
use Rattle.capnp_wire.specs.declared.total.Stop.TheVariants as stop
use Rattle.capnp_device.specs.declared.error.Error.{Error}
use Rattle.capnp_device.specs.declared.error.ErrorKind.{ErrorKind}
use Rattle.capnp_device.specs.declared.error.ErrorKind.TheVariants.{TooLarge}

-- a total, of what has this first fault and so many words
abbrev pub Totals : Result ℕ Stop → Option Fault → ℕ → Type 0
Totals (Ok n) fault words = (fault ≡ None) × (n ≡ words)
Totals (Err (stop.Fault k)) fault words = fault ≡ Some k
Totals (Err stop.TooLarge) fault words = 2 ^ 64 ≤ words

-- the size that is answered for a total
abbrev pub size_read : Result MessageSize Error → Result (ℕ × ℕ) ErrorKind
size_read (Ok size) = Ok (size.word_count, size.cap_count)
size_read (Err error) = Err error.kind

abbrev pub size_of_total : Result ℕ Stop → Result (ℕ × ℕ) ErrorKind
size_of_total (Ok words) = Ok (words, 0)
size_of_total (Err (stop.Fault fault)) = Err (refusal fault)
size_of_total (Err stop.TooLarge) = Err TooLarge
