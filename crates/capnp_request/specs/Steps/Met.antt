-- The ids that were met, as the code keeps them.
use Rattle.std.specs.HashSet.{HashSet, contains}
use Rattle.std.specs.Prelude.{ℕ, ◌≡◌, List, nat_eq}
use Rattle.capnp_request.specs.Scopes.{is_met}

-- the set has the ids of the list
abbrev pub AreMet : {S : Type 0} → HashSet ℕ S → List ℕ → Type 0
AreMet set ids = (id : ℕ) → contains nat_eq set id ≡ is_met ids id
