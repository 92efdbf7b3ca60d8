-- Listings as the code has them.
use Rattle.std.specs.Prelude.{List, true}
use Rattle.capnp_schema.specs.Schema.{Schemas}
use Rattle.capnp_records.specs.Call.{PathStep}
use Rattle.capnp_patch.specs.Gets.{Part, is_empty}
use Rattle.capnp_queries.specs.Patterns.{Listing, listing, step_listing, steps_below, steps_listing}

-- the paths of a step `*` and a rest
abbrev pub each_listing : Schemas → (rest : List PathStep) → (here : List PathStep) → Part → Listing
each_listing set rest here p = steps_listing (step_listing set (listing set true rest) true (is_empty rest) here p) here p.type (steps_below set p.type p.value)
