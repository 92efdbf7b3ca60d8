-- Messages that come packed, or not.
use Rattle.std.specs.Prelude.{ℕ, List, Bool, true, false, Result, Ok}
use Rattle.capnp_device.specs.declared.error.ErrorKind.{ErrorKind}
use Rattle.capnp_packed.specs.Received.{received_message}

-- the message that bytes have, which may be packed; or why they have none
abbrev pub message_in : (packed : Bool) → List ℕ → Result (List ℕ) ErrorKind
message_in false bytes = Ok bytes
message_in true bytes = received_message bytes
