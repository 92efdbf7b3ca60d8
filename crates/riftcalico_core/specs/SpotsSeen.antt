-- Where the code's values stand.
use Rattle.std.specs.Prelude.{◌≡◌}
use Rattle.capnp_schema.specs.FieldLists.{typed_of}
use Rattle.capnp_schema.specs.GroupsDown.{place_of_field}
use Rattle.capnp_schema.specs.Schema.{Schemas}
use Rattle.capnp_schema.specs.Types.{SchemaType}
use Rattle.capnp_slots.specs.Fields.{field_set}
use Rattle.capnp_value_texts.specs.Calls.{lists_of}
use Rattle.riftcalico_core.specs.LastFields.{Spot}
use Rattle.riftcalico_core.specs.declared.last_field.Spot.{Spot as SpotHeld}

abbrev pub spot_seen : SpotHeld → Spot
spot_seen p = record { place = place_of_field p.field; depth = p.depth }

-- of a set, and of a type: the field is of so many lists of it
abbrev pub IsSpotOf : Schemas → SchemaType → SpotHeld → Type 0
IsSpotOf set t p = (field_set p.field ≡ set) × ((typed_of p.field).type ≡ lists_of p.depth t)
