-- Lists by their values, and elements that get one.
use Rattle.std.specs.Prelude.{ℕ, ◌<◌, ◌≡◌}
use Rattle.capnp_wire.specs.Tree.{Tree}
use Rattle.capnp_schema.specs.Schema.{Schemas}
use Rattle.capnp_schema.specs.Types.{ListType, SchemaType}
use Rattle.capnp_records.specs.Operation.{new_element}
use Rattle.capnp_records.specs.Part.{nth_value, value_count, with_value}
use Rattle.capnp_records.specs.Reading.{value_of}
use Rattle.capnp_records.specs.Record as value
use Rattle.capnp_records.specs.Record.{Endless, Value, Values}
use Rattle.capnp_records.specs.Writes.Stand.{ListSound}

-- a list reads as values, and its structs have at least their schema's sections
pub record IsListOf (set : Schemas) (e : SchemaType) (x : Tree) (vs : Values) : Type 0 where
  pub reads_as : value_of set x Endless (ListType e) ≡ value.Elements vs
  pub sound : ListSound set e x

-- an element is there, as in a new list
pub record HasNew (set : Schemas) (e : SchemaType) (x : Tree) (j : ℕ) : Type 0 where
  pub values : Values
  pub list : IsListOf set e x values
  pub inside : j < value_count values
  pub as_new : nth_value values j ≡ new_element set e

-- that element has a value then, and the others what they had
abbrev pub PutsAt : Schemas → SchemaType → ℕ → Tree → Tree → Value → Type 0
PutsAt set e j x x' v = (vs : Values) → IsListOf set e x vs → j < value_count vs → nth_value vs j ≡ new_element set e → IsListOf set e x' (with_value vs j v)
