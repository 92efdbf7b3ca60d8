use Rattle.std.proofs.Common.{◌≡◌, drop}
use Rattle.capnp_wire.specs.Standing.{levels_of, tree_of}
use Rattle.capnp_wire_callers.specs.Path.{path_text}
use Rattle.capnp_wire_callers.proofs.path.get_text_by_path.Given as goal

-- what is left of the path leads on from the reader to where the whole leads from the root
abbrev pub invariant-loop-field : goal.invariant-loop-field
invariant-loop-field l = path_text (drop l.field-index l.path) (tree_of l.reader) (levels_of l.reader) ≡ path_text l.path (tree_of l.fn.root) (levels_of l.fn.root)
