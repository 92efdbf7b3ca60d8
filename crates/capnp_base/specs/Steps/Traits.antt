-- What a pointer is read as, and what stands in its place where it is null and there is a default: steps of the code.
use Rattle.std.specs.Prelude.{ℕ, cond, ◌==◌, Option, Some, None}
use Rattle.capnp_wire.specs.Tree.{Tree}
use Rattle.capnp_wire.specs.Reading.{is_null_tree}
use Rattle.capnp_wire.specs.Standing.{levels_of}
use Rattle.capnp_wire.specs.declared.pointer_reader.PointerReader.{PointerReader}

-- the levels that are left for it: those of the default, unless the null itself has none
abbrev pub levels_or : Tree → ℕ → Option PointerReader → ℕ
levels_or t levels None = levels
levels_or t levels (Some default) = cond (is_null_tree t) (cond (levels == 0) 0 (levels_of default)) levels
