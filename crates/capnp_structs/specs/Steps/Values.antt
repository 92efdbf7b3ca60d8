-- The text of a value as a handle.
use Rattle.capnp_records.specs.Text.{Out}
use Rattle.capnp_dynamic_readers.specs.Shown.{set_seen, type_seen, value_printed}
use Rattle.capnp_dynamic_readers.specs.declared.dynamic_value.Reader.{Reader as DynamicValue}
use Rattle.capnp_structs.specs.Values.{numbers_text}
use Rattle.capnp_structs.specs.declared.values.Numbers.{Numbers}

-- that of what it stands for
abbrev pub shown_text : Numbers → DynamicValue → Out
shown_text numbers v = numbers_text numbers (set_seen v) (type_seen v) (value_printed v)
