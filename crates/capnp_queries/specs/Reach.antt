-- What stands at a path of the first message in these bytes.
use Rattle.std.specs.Prelude.{ℕ, ⊤, List, Result, Ok, Err}
use Rattle.capnp_wire.specs.Stream.{message_tree_of}
use Rattle.capnp_schema.specs.Schema.{Schemas}
use Rattle.capnp_records.specs.Call.{PathStep}
use Rattle.capnp_dynamic_readers.specs.declared.dynamic_value.Reader.{Reader as DynamicValue}
use Rattle.capnp_patch.specs.Gets.{Reached, path_read, value_part_seen}
use Rattle.capnp_patch.specs.Places.{root_reached}
use Rattle.capnp_patch.specs.declared.place.Place.{Place}
use Rattle.capnp_patch.specs.declared.place.Place.TheVariants as place
use Rattle.capnp_patch.specs.declared.place.Refusal.{Refusal}

-- a value under its type, or why there is none
abbrev pub at_path : Schemas → ℕ → List PathStep → (bytes : List ℕ) → Reached
at_path set b path bytes = path_read set path (root_reached set b (message_tree_of bytes))

abbrev pub reach_seen : Result DynamicValue Refusal → Reached
reach_seen (Ok v) = Ok (value_part_seen v)
reach_seen (Err r) = Err r.kind

-- the message, its root or a step is refused, and not a part of what stands at the end
abbrev pub IsOnWay : Place → Type 0
IsOnWay place.Root = ⊤
IsOnWay (place.Step x) = ⊤
IsOnWay (place.Part x) = ⊥
