-- What a value is, as the definitions have it.
use Rattle.std.specs.Prelude.{ℕ, ◌<◌, ⊤, List, length}
use Rattle.capnp_json_text.specs.Readings.{after_blanks}
use Rattle.capnp_json_text.specs.Values as json
use Rattle.capnp_json_text.specs.Values.{Json, elements_of, first_item, json_at, members_of}
use Rattle.capnp_json_text.specs.declared.kinds.Bracket.TheVariants.{Square, Curly}
use Rattle.capnp_from_json.specs.declared.looks.Look.{Look}
use Rattle.capnp_from_json.specs.declared.looks.Look.TheVariants as look

-- a value at a place of a text of so many bytes
abbrev pub look_seen : (whole place : ℕ) → Look → Json
look_seen whole place look.Null = json.Null place
look_seen whole place (look.Truth b) = json.Truth place b
look_seen whole place (look.Number token) = json.Number place token.now
look_seen whole place (look.Text content) = json.Text place content.items
look_seen whole place (look.Array behind) = json.Array place (elements_of (json_at whole) (first_item Square (after_blanks behind.now)))
look_seen whole place (look.Object behind) = json.Object place (members_of (json_at whole) whole (first_item Curly (after_blanks behind.now)))

-- what an array or object has stands behind its bracket
abbrev pub IsWithin : Look → List ℕ → Type 0
IsWithin (look.Array behind) bs = length behind.now < length bs
IsWithin (look.Object behind) bs = length behind.now < length bs
IsWithin l bs = ⊤
