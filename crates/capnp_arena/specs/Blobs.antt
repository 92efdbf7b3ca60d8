-- Bytes of texts and data by where they stand, and what a message ends as that lends them.
use Rattle.std.specs.Prelude.{ℕ, ◌≡◌, ◌≤◌, ◌⊎◌, ◌++◌, List, drop, length, Result, Ok, Err}
use Rattle.capnp_device.specs.declared.error.Error.{Error}
use Rattle.capnp_device.specs.declared.error.ErrorKind.{ErrorKind}
use Rattle.capnp_wire.specs.Place.{bytes_at}
use Rattle.capnp_wire.specs.Tree.{Tree, Null, Struct, Voids, Bits, Numbers, Pointers, Composite, FaultLeaf}
use Rattle.capnp_arena.specs.Forest.{Forest}
use Rattle.capnp_arena.specs.Segment.{segment}
use Rattle.capnp_arena.specs.Shape.{ListIn, NoShape, shape_at}
use Rattle.capnp_arena.specs.declared.blob_builder.BlobBuilder.{BlobBuilder}

-- so many bytes from a word on are the first of the list of bytes that the pointer at a word leads to; of a null, none
abbrev pub IsFront : List ℕ → ℕ → ℕ → ℕ → Type 0
IsFront words at start count = ((start ≡ 0) × (count ≡ 0) × (shape_at words at ≡ NoShape)) ⊎ ((n : ℕ) × (shape_at words at ≡ ListIn start 2 n) × (count ≤ n))

-- ---- the handle ----

-- the bytes stand there
pub record IsBlob (b : BlobBuilder) : Type 0 where
  pub forest : Forest (segment b.arena.now) b.at
  pub front : IsFront (segment b.arena.now) b.at b.start b.count

abbrev pub blob_bytes : BlobBuilder → List ℕ
blob_bytes b = bytes_at (segment b.arena.now) b.start b.count

-- what was handed out, or refused
abbrev pub bytes_built : Result BlobBuilder Error → Result (List ℕ) ErrorKind
bytes_built (Ok b) = Ok (blob_bytes b)
bytes_built (Err error) = Err error.kind

-- a list of bytes with others in place of its first
abbrev pub with_front : List ℕ → Tree → Tree
with_front left Null = Null
with_front left (Struct bytes ps) = Struct bytes ps
with_front left (Voids n) = Voids n
with_front left (Bits bs) = Bits bs
with_front left (Numbers w bytes) = Numbers w (left ++ drop (length left) bytes)
with_front left (Pointers ps) = Pointers ps
with_front left (Composite d p es) = Composite d p es
with_front left (FaultLeaf k) = FaultLeaf k
