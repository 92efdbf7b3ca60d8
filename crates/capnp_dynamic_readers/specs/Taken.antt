-- What is read, taken as a struct or as a list alone: a refusal stays, and every other value is a mismatch.
use Rattle.capnp_device.specs.declared.error.ErrorKind.TheVariants.{TypeMismatch}
use Rattle.capnp_records.specs.Record as value
use Rattle.capnp_records.specs.Record.{Value}

-- what is read, taken as a struct
abbrev pub only_struct : Value → Value
only_struct (value.Struct r) = value.Struct r
only_struct (value.Fault kind) = value.Fault kind
only_struct v = value.Fault TypeMismatch

-- the same taken as a list
abbrev pub only_list : Value → Value
only_list (value.Elements vs) = value.Elements vs
only_list (value.Fault kind) = value.Fault kind
only_list v = value.Fault TypeMismatch
