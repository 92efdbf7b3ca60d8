-- The values of the code, as the definitions have them.
use Rattle.std.specs.Prelude.{◌*◌, ◌++◌, List, [], ℕ, replicate}
use Rattle.capnp_packed.specs.Unpacking.{PackedPiece}
use Rattle.capnp_packed.specs.declared.unpack.Run.{Run}
use Rattle.capnp_packed.specs.declared.unpack.Run.TheVariants.{Alone, Zeros, Words}
use Rattle.capnp_packed.specs.declared.unpack.WordRun.{WordRun}

abbrev pub run_seen : Run → List ℕ
run_seen Alone = []
run_seen (Zeros n) = replicate (8 * n) 0
run_seen (Words words) = words.now

abbrev pub piece_seen : WordRun → PackedPiece
piece_seen p = (p.word ++ run_seen p.run, p.rest.now)
