-- The structs of a set by their display names, as a table.
use Rattle.std.specs.Prelude.{ℕ, ◌≡◌, ◌<◌, List, IfSome, length}
use Rattle.std.specs.Borrow.{Bor}
use Rattle.std.specs.HashMap.{HashMap}
use Rattle.capnp_schema.specs.ByName.{brand_asked}
use Rattle.capnp_schema.specs.Schema.{Schemas}
use Rattle.capnp_structs.specs.Steps.Names.{brand_met}

-- a name finds in the table what it finds in the set
pub record AreAllNames {S : Type 0} (set : Schemas) (index : HashMap (Bor (List ℕ)) ℕ S) : Type 0 where
  pub found : (name : List ℕ) → brand_met index name ≡ brand_asked set name
  pub inside : (name : List ℕ) → IfSome (brand_met index name) (λ b. b < length set.brands)
