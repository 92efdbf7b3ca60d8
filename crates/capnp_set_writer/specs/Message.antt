-- The message of a set, and bytes that are read back as a set.
use Rattle.std.specs.Prelude.{ℕ, List, ◌++◌, ◌≡◌, Some}
use Rattle.capnp_wire.specs.Encoding.{message_of}
use Rattle.capnp_wire.specs.Place.{struct_tree}
use Rattle.capnp_schema.specs.Schema.{Schemas}
use Rattle.capnp_sets.specs.Message.{message_set}
use Rattle.capnp_set_writer.specs.Trees.{set_tree}

-- the bytes of its message, and no others
abbrev pub set_message : Schemas → List ℕ
set_message set = message_of (struct_tree (set_tree set))

-- these bytes are read as a set, whatever follows them
abbrev pub IsReadAsSet : Schemas → List ℕ → Type 0
IsReadAsSet set bytes = (rest : List ℕ) → message_set (bytes ++ rest) ≡ Some set
