-- What is told of a message that is deeper than readers go.
use Rattle.std.specs.Prelude.{ℕ, ◌≡◌, ◌++◌, ◌∷◌, [], List, Bool, true, false, codes}
use Rattle.capnp_wire.specs.Depth.{IsShallow}
use Rattle.capnp_wire.specs.Tree.{Tree}

abbrev pub depth_note : List ℕ
depth_note = codes "note: the message has more than 64 levels, past which readers refuse it" ++ 10 ∷ []

-- a line more stands behind others where a message has more levels than it is read with
pub record IsDepthNoted (root : Tree) (old new : List ℕ) : Type 0 where
  pub shallow : IsShallow root → new ≡ old
  pub deep : (IsShallow root → ⊥) → new ≡ old ++ depth_note

-- it does where the message is written
abbrev pub IsDepthTold : (is_written : Bool) → Tree → (old new : List ℕ) → Type 0
IsDepthTold true root old new = IsDepthNoted root old new
IsDepthTold false root old new = new ≡ old
