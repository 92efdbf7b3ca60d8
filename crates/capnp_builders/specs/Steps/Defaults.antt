-- Defaults that are copied into a null.
use Rattle.std.specs.Prelude.{cond, Option, Some, None}
use Rattle.capnp_wire.specs.Reading.{is_null_tree}
use Rattle.capnp_wire.specs.Tree.{Tree}
use Rattle.capnp_wire.specs.declared.pointer_reader.PointerReader.{PointerReader}

-- the default that stands in for what is at a pointer: where one is given, and the pointer is null
abbrev pub default_taken : Tree → Option PointerReader → Option PointerReader
default_taken t None = None
default_taken t (Some default) = cond (is_null_tree t) (Some default) None
