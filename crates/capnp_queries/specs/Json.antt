-- The JSON of what stands at a path of a message.
use Rattle.std.specs.Prelude.{ℕ, ◌≡◌, List, Bool, Ok, Err}
use Rattle.capnp_schema.specs.Schema.{Schemas}
use Rattle.capnp_records.specs.Call.{PathStep}
use Rattle.capnp_json.specs.Json.{json_as}
use Rattle.capnp_json.specs.Pieces.{Out}
use Rattle.capnp_json.specs.Written.{IsRefused}
use Rattle.capnp_json.specs.declared.error.JsonError.TheVariants.{Read}
use Rattle.capnp_json.specs.declared.forms.Form.{Form}
use Rattle.capnp_show_engine.specs.Show.{as_printed}
use Rattle.capnp_patch.specs.Gets.{Part, Reached, is_group_type}
use Rattle.capnp_patch.specs.Places.{IsRefusedAt}
use Rattle.capnp_queries.specs.Floats.{form_at}
use Rattle.capnp_queries.specs.Reach.{IsOnWay, at_path}
use Rattle.capnp_queries.specs.declared.json.NoJson.{NoJson}
use Rattle.capnp_queries.specs.declared.json.NoJson.TheVariants.{Unreached, Value}

-- as the field says that the path names last
abbrev pub reached_json : Schemas → Form → (indented : Bool) → Reached → Out
reached_json set form indented (Err kind) = Err (Read kind)
reached_json set form indented (Ok p) = json_as set form indented p.type (as_printed (is_group_type set p.type) p.value)

abbrev pub json_at : Schemas → ℕ → List PathStep → (indented : Bool) → (bytes : List ℕ) → Out
json_at set b path indented bytes = reached_json set (form_at set b path) indented (at_path set b path bytes)

-- nothing stands at the path, and that is the place; or what stands there has no JSON of at most so many bytes
abbrev pub HasNoJson : (limit : ℕ) → Schemas → ℕ → List PathStep → (indented : Bool) → (bytes : List ℕ) → NoJson → Type 0
HasNoJson limit set b path indented bytes (Unreached r) =
    (at_path set b path bytes ≡ Err r.kind) × IsRefusedAt set b path bytes r.kind r.place × IsOnWay r.place
HasNoJson limit set b path indented bytes (Value why) =
    (p : Part) × (at_path set b path bytes ≡ Ok p) × IsRefused limit (json_at set b path indented bytes) why
