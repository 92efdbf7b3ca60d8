-- What a walk over a tree answers for its words.
use Rattle.std.specs.Prelude.{ℕ, ◌^◌, ◌≤◌, ◌≡◌, Option, Some, None, option_map, ◌≢◌}
use Rattle.capnp_wire.specs.Reading.{refusal}
use Rattle.capnp_wire.specs.declared.fault.Fault.{Fault}
use Rattle.capnp_wire.specs.declared.size.MessageSize.{MessageSize}
use Rattle.capnp_device.specs.declared.error.Error.{Error}
use Rattle.capnp_device.specs.declared.error.ErrorKind.TheVariants.{TooLarge}

-- a size, of what has this first fault and so many words: it is counted where there is no fault, and refused with the
-- first fault or because it is too large, with either where both hold
abbrev pub IsSize : MessageSize → Option Fault → ℕ → Type 0
IsSize size fault words = (fault ≡ None) × (size.word_count ≡ words) × (size.cap_count ≡ 0)

abbrev pub IsSizeRefusal : Error → Option Fault → ℕ → Type 0
IsSizeRefusal error fault words = (error.kind ≡ TooLarge → 2 ^ 64 ≤ words) × (error.kind ≢ TooLarge → option_map refusal fault ≡ Some error.kind)
