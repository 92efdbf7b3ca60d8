-- What a source that unpacks another one has left.
use Rattle.std.specs.Prelude.{ℕ, List, ◌++◌, take, drop, Option}
use Rattle.std.specs.Option.{option_map}
use Rattle.capnp_packed.specs.Unpacking.{unpacked_bytes}
use Rattle.capnp_packed.specs.declared.source.UnpackSource.{UnpackSource}
use Rattle.capnp_packed.specs.declared.window.Window.{Window}

-- the bytes that wait in a window
unfoldable pub held : Window → List ℕ
held w = drop w.start (take w.end w.bytes)

-- the source of the packed bytes
unfoldable pub packed_source : {S : Type 0} → UnpackSource S → S
packed_source s = s.source

-- the packed bytes that were read and not yet unpacked
unfoldable pub packed_read : {S : Type 0} → UnpackSource S → List ℕ
packed_read s = held s.packed

-- the bytes that were unpacked and not yet given
unfoldable pub bytes_ready : {S : Type 0} → UnpackSource S → List ℕ
bytes_ready s = held s.ready

-- how many reads have failed
unfoldable pub unpack_failures : {S : Type 0} → UnpackSource S → ℕ
unpack_failures s = s.failures

-- What is left: the bytes that are ready, and then what the packed bytes stand for, those that were read before those that
-- their source has left.
abbrev pub left_unpacked : List ℕ → List ℕ → Option (List ℕ) → Option (List ℕ)
left_unpacked ready packed left = option_map (λ rest. ready ++ unpacked_bytes (packed ++ rest)) left
