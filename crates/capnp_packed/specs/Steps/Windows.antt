-- What is done with the bytes that wait in a window.
use Rattle.std.specs.Prelude.{ℕ, ◌≡◌, List, ◌++◌, length, Option}
use Rattle.std.specs.Io.KnownBytes.{Consumes, IsAtEnd}
use Rattle.capnp_packed.specs.declared.window.Window.{Window}

-- where the bytes end in its array
unfoldable pub held_end : Window → ℕ
held_end w = w.end

-- bytes were read behind those that waited, and none only at the end
pub record HasRead (old new : List ℕ) (left left' : Option (List ℕ)) (n : ℕ) : Type 0 where
  pub read : List ℕ
  pub count : length read ≡ n
  pub behind : new ≡ old ++ read
  pub consumed : Consumes left left' read
  pub end : n ≡ 0 → IsAtEnd left'
