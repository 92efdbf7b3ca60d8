-- A list of one struct.
use Rattle.std.specs.Prelude.{max, length}
use Rattle.capnp_wire.specs.Edits.{extended_struct}
use Rattle.capnp_wire.specs.Tree.{Composite, MoreStructs, NoStructs, StructTree, Tree, tree_count}
use Rattle.capnp_wire.specs.Words.{byte_words}
use Rattle.capnp_wire.specs.declared.size.StructSize.{StructSize}

-- at least a size, and all that a struct has
abbrev pub whole_size : StructSize → StructTree → StructSize
whole_size least s = record { data_words = max least.data_words (byte_words (length s.bytes)); pointers = max least.pointers (tree_count s.pointers) }

-- a list of one struct, with all that it has, of at least a size
abbrev pub struct_alone : StructSize → StructTree → Tree
struct_alone least s = Composite (whole_size least s).data_words (whole_size least s).pointers (MoreStructs (extended_struct (whole_size least s) s).bytes (extended_struct (whole_size least s) s).pointers NoStructs)
