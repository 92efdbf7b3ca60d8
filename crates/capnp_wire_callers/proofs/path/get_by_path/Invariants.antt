use Rattle.std.proofs.Common.{◌≡◌, drop}
use Rattle.capnp_wire.specs.Standing.{levels_of, tree_of}
use Rattle.capnp_wire_callers.specs.Path.{path_number}
use Rattle.capnp_wire_callers.proofs.path.get_by_path.Given as goal

-- what is left of the path leads on from the reader to where the whole leads from the root
abbrev pub invariant-loop-index : goal.invariant-loop-index
invariant-loop-index l = path_number (drop l.index-index l.path) l.offset (tree_of l.reader) (levels_of l.reader) ≡ path_number l.path l.offset (tree_of l.fn.root) (levels_of l.fn.root)
