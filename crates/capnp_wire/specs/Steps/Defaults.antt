-- What stands at a pointer where a null is filled from a default: steps of the code.
use Rattle.std.specs.Prelude.{cond, Option, Some, None}
use Rattle.capnp_wire.specs.Tree.{Tree}
use Rattle.capnp_wire.specs.Standing.{tree_of}
use Rattle.capnp_wire.specs.declared.pointer_reader.PointerReader.{PointerReader}
use Rattle.capnp_wire.specs.Defaults.{takes_default}

-- the default that is copied, if one is
abbrev pub taken_default : Option PointerReader → Tree → Option PointerReader
taken_default None t = None
taken_default (Some reader) t = cond (takes_default (tree_of reader) t) (Some reader) None
