-- The texts of values as they are read.
use Rattle.std.specs.Prelude.{Bool}
use Rattle.capnp_records.specs.Text.{Out}
use Rattle.capnp_dynamic_readers.specs.Shown.{set_seen, type_seen, value_printed}
use Rattle.capnp_dynamic_readers.specs.declared.dynamic_value.Reader.{Reader as DynamicValue}
use Rattle.capnp_float_texts.specs.Texts.{float_text_of}

abbrev pub printed_float_text : (floats indented : Bool) → DynamicValue → Out
printed_float_text floats indented v = float_text_of (set_seen v) floats indented (type_seen v) (value_printed v)
