-- Kinds of refusals.
use Rattle.std.specs.Prelude.{Bool, false, true}
use Rattle.capnp_device.specs.declared.error.ErrorKind.{ErrorKind}
use Rattle.capnp_device.specs.declared.error.ErrorKind.TheVariants.{Schema}

-- whether one is that of a broken rule of schemas
abbrev pub is_rule : ErrorKind → Bool
is_rule (Schema table field rule entry) = true
is_rule kind = false
