-- Texts and data that stand somewhere.
use Rattle.std.proofs.Common.{ℕ, List, ◌≡◌, Result, Ok, Err, IsOk, refl, sym}
use Rattle.capnp_device.specs.declared.error.ErrorKind.{ErrorKind}
use Rattle.capnp_builders.specs.Blobs.{bytes_in}
use Rattle.std.proofs.lemmas.Bool.{true≢false}

pub bytes_there : (r : Result (List ℕ) ErrorKind) → IsOk r → r ≡ Ok (bytes_in r)
bytes_there (Ok bytes) h = refl
bytes_there (Err kind) h = absurd (true≢false (sym h))
