-- The ids that were met on a way, as the code keeps them.
use Rattle.std.specs.HashSet.{contains}
use Rattle.std.specs.Prelude.{ℕ, ◌≡◌, ◌||◌, Bool, List, nat_eq}
use Rattle.capnp_request.specs.Scopes.{is_met}
use Rattle.capnp_request.specs.declared.met.Way.{Way}

-- an id stands in the row or in the set
abbrev pub is_on_way : Way → ℕ → Bool
is_on_way way id = is_met way.few.items id || contains nat_eq way.others id

-- the way has the ids of the list
abbrev pub AreOnWay : Way → List ℕ → Type 0
AreOnWay way ids = (id : ℕ) → is_on_way way id ≡ is_met ids id
