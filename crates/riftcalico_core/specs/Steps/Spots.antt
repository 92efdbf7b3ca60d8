-- What the code knows of spots.
use Rattle.std.specs.Prelude.{ℕ, ⊤, Option, None, Some}
use Rattle.capnp_schema.specs.Schema.{Schemas}
use Rattle.capnp_schema.specs.Types.{SchemaType}
use Rattle.riftcalico_core.specs.SpotsSeen.{IsSpotOf}
use Rattle.riftcalico_core.specs.declared.last_field.Spot.{Spot as SpotHeld}

-- no path has more steps
abbrev pub most_depth : ℕ
most_depth = 18446744073709551615

-- of a type where there is one
abbrev pub IsSpotAt : Schemas → Option SchemaType → SpotHeld → Type 0
IsSpotAt set None p = ⊤
IsSpotAt set (Some t) p = IsSpotOf set t p
