-- The pointers that untyped readers stand on.
use Rattle.std.specs.Prelude.{ℕ, ◌≡◌, IsOkAnd, Result}
use Rattle.capnp_wire.specs.Tree.{Tree}
use Rattle.capnp_wire.specs.Standing.{levels_of, tree_of}
use Rattle.capnp_wire.specs.declared.pointer_reader.PointerReader.{PointerReader}
use Rattle.capnp_base.specs.declared.any_pointer.Reader.{Reader}
use Rattle.capnp_device.specs.declared.error.Error.{Error}

-- the reader that an untyped pointer is read by
abbrev pub pointer_of : Reader → PointerReader
pointer_of reader = reader.reader

-- an untyped pointer is read wherever a pointer is: the answer stands on the same tree with the same levels
abbrev pub IsUntypedRead : Tree → ℕ → Result Reader Error → Type 0
IsUntypedRead tree levels r = IsOkAnd r (λ reader. (tree_of (pointer_of reader) ≡ tree) × (levels_of (pointer_of reader) ≡ levels))
