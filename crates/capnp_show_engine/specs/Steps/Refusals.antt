-- Which refusals no device has part in.
use Rattle.std.specs.Prelude.{◌≢◌}
use Rattle.capnp_device.specs.declared.error.ErrorKind.{ErrorKind}
use Rattle.capnp_device.specs.declared.error.ErrorKind.TheVariants.{ReadFailed, WriteFailed}

-- a refusal that is no device's failure
abbrev pub IsOfRead : ErrorKind → Type 0
IsOfRead kind = (kind ≢ ReadFailed) × (kind ≢ WriteFailed)
