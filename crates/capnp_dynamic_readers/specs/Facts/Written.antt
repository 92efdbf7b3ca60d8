-- Bytes that were written into a string that is being made, and then judged by how many it may have.
use Rattle.std.proofs.Common.{arith, ◌≡◌, ap, sym, ◌∙◌, ℕ, subst, List, ◌++◌, Result, Ok, Err, IfErr, OnOk, ◌<◌, ◌≤◌, length, length-append, ◌+◌}
use Rattle.capnp_records.specs.Facts.Spelled.{known_spelled}
use Rattle.capnp_records.specs.Text.{said_text}
use Rattle.capnp_dynamic_readers.specs.Pieces.{Within}
use Rattle.capnp_dynamic_readers.specs.Steps.Pieces.{IsPut, IsStopped}
use Rattle.capnp_dynamic_readers.specs.declared.walk.output.Stop.{Stop}
use Rattle.capnp_dynamic_readers.specs.declared.walk.output.Stop.TheVariants.{TooLong}

-- bytes that it grew by, where it may have them
pub grown : (limit : ℕ) (old new bytes : List ℕ) → new ≡ old ++ bytes → (length old ≤ limit → length new ≤ limit) → IsPut (Within limit old) (said_text bytes) (Within limit new)
grown limit old new bytes e within = (bytes, known_spelled bytes, ap (Within limit) (sym e), within)

-- a piece that was written, and may stand there
pub written : {T : Type 0} (r : Result T Stop) (limit : ℕ) (old new bytes : List ℕ) → new ≡ old ++ bytes → OnOk r (length new + 0 ≤ limit) → OnOk r (IsPut (Within limit old) (said_text bytes) (Within limit new))
written (Ok x) limit old new bytes e h = grown limit old new bytes e (λ _. omega (arith, h))
written (Err x) limit old new bytes e h = tt {0}

-- or is too long
pub known_too_long : (limit : ℕ) (old bytes : List ℕ) (stop : Stop) → (stop ≡ TooLong) × (limit < length old + length bytes) → IsStopped (Within limit old) (said_text bytes) stop
known_too_long limit old bytes stop (e, h) = subst (IsStopped (Within limit old) (said_text bytes)) (sym e) (bytes, known_spelled bytes, h)

pub written_too_long : {T : Type 0} (r : Result T Stop) (limit : ℕ) (old new bytes : List ℕ) → new ≡ old ++ bytes → IfErr r (λ stop. (stop ≡ TooLong) × (limit < length new + 0)) →
    IfErr r (IsStopped (Within limit old) (said_text bytes))
written_too_long (Ok x) limit old new bytes e h = tt {0}
written_too_long (Err stop) limit old new bytes e (t, h) = known_too_long limit old bytes stop (t, omega (arith, h, ap length e ∙ length-append old bytes))
