-- The JSON of what is read, and why it was not made.
use Rattle.std.specs.Prelude.{ℕ, ◌<◌, ◌≡◌, ⊤, List, length, Bool, Err}
use Rattle.capnp_dynamic_readers.specs.Shown.{set_seen, type_seen, value_printed}
use Rattle.capnp_dynamic_readers.specs.declared.dynamic_value.Reader.{Reader as DynamicValue}
use Rattle.capnp_json.specs.Json.{json_as, plain}
use Rattle.capnp_json.specs.Pieces.{IsJson, Out}
use Rattle.capnp_json.specs.declared.error.JsonError.{JsonError}
use Rattle.capnp_json.specs.declared.error.JsonError.TheVariants.{OutOfMemory, Read, TextNotUtf8, TooLarge, UntypedHasNoJson}
use Rattle.capnp_json.specs.declared.forms.Form.{Form}

-- a value is written as what it stands for, a struct under a group's schema as a group; as that of a field is, or alone
abbrev pub written_json_as : Form → (indented : Bool) → DynamicValue → Out
written_json_as form indented v = json_as (set_seen v) form indented (type_seen v) (value_printed v)

abbrev pub written_json : (indented : Bool) → DynamicValue → Out
written_json indented v = written_json_as plain indented v

-- no other bytes are a JSON of it
abbrev pub IsOnlyJson : Out → List ℕ → Type 0
IsOnlyJson o bytes = (others : List ℕ) → IsJson o others → others ≡ bytes

-- why there is no JSON of at most so many bytes: it is refused so, there was no memory, or each is longer
abbrev pub IsRefused : (limit : ℕ) → Out → JsonError → Type 0
IsRefused limit o (Read kind) = o ≡ Err (Read kind)
IsRefused limit o UntypedHasNoJson = o ≡ Err UntypedHasNoJson
IsRefused limit o TextNotUtf8 = o ≡ Err TextNotUtf8
IsRefused limit o OutOfMemory = ⊤
IsRefused limit o TooLarge = (bytes : List ℕ) → IsJson o bytes → limit < length bytes
