-- Roots as the code has them.
use Rattle.std.specs.Prelude.{Result, Ok, Err}
use Rattle.capnp_device.specs.declared.error.ErrorKind.{ErrorKind}
use Rattle.capnp_dynamic_readers.specs.declared.dynamic_value.Reader.{Reader as DynamicValue}
use Rattle.capnp_patch.specs.Gets.{Reached, value_part_seen}

abbrev pub root_seen : Result DynamicValue ErrorKind → Reached
root_seen (Ok v) = Ok (value_part_seen v)
root_seen (Err kind) = Err kind
