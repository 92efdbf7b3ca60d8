-- What holds of records, of the machine of records, and of writes on trees: the statements of the laws: steps of the code.
use Rattle.std.specs.Prelude.{ℕ, ◌≡◌, List, Bool, false}
use Rattle.capnp_schema.specs.Footprint.{Spot}
use Rattle.capnp_records.specs.Reading.{Reading}
use Rattle.capnp_records.specs.Laws.{SameAt}

-- two structs have the same outside the places that pass
abbrev pub SameOutside : (Spot → Bool) → List ℕ → List Reading → List ℕ → List Reading → Type 0
SameOutside inside xs ps ys qs = (p : Spot) → inside p ≡ false → SameAt xs ps ys qs p
