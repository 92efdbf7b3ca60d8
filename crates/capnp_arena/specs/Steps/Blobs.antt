-- Bytes of texts and data by where they stand, and what a message ends as that lends them: steps of the code.
use Rattle.std.specs.Prelude.{ℕ, ◌≡◌, List, Result, Ok, Err}
use Rattle.std.specs.Borrow.{Fml, MutBor, RestsIfErr}
use Rattle.capnp_device.specs.declared.error.Error.{Error}
use Rattle.capnp_device.specs.declared.error.ErrorKind.{ErrorKind}
use Rattle.capnp_wire.specs.Place.{bytes_at}
use Rattle.capnp_arena.specs.Segment.{segment}
use Rattle.capnp_arena.specs.declared.arena.Arena.{Arena}
use Rattle.capnp_arena.specs.contracts.arena.Arena.{the_row as arena_row}
use Rattle.capnp_arena.specs.declared.blob_builder.BlobBuilder.{BlobBuilder}
use Rattle.capnp_arena.specs.declared.blob_builder.Bytes.{Bytes}

-- what was found, or refused
abbrev pub bytes_found : List ℕ → Result Bytes Error → Result (List ℕ) ErrorKind
bytes_found words (Ok b) = Ok (bytes_at words b.start b.count)
bytes_found words (Err error) = Err error.kind

abbrev pub BlobRests : {E : Type 0} → MutBor Arena → Result BlobBuilder E → Fml
BlobRests arena r = RestsIfErr arena_row arena (λ b. b.arena.ghost_name) r (λ n. segment n ≡ segment arena.now)
