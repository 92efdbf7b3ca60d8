-- The laws for what stands at a message's root.
use Rattle.std.specs.Prelude.{ℕ, ◌<◌, ◌≡◌, List, length, Bool, false, Ok}
use Rattle.capnp_wire.specs.Tree.{Tree}
use Rattle.capnp_wire.specs.Stream.{message_tree_of}
use Rattle.capnp_wire.specs.WellFormed.{AreBytes, IsWellFormed}
use Rattle.capnp_schema.specs.Accepted.{IsAccepted}
use Rattle.capnp_schema.specs.Ranges.{HasRanges}
use Rattle.capnp_schema.specs.Schema.{node_of}
use Rattle.capnp_records.specs.Record as value
use Rattle.capnp_records.specs.Record.{Record}
use Rattle.capnp_records.specs.Run.{root_type}
use Rattle.capnp_json.specs.Message.{message_json, root_json, root_value}
use Rattle.capnp_json.specs.Pieces.{IsJson}
use Rattle.capnp_from_json.specs.Records.{Rules, record_of_json}
use Rattle.capnp_json_laws.specs.AsRead.{record_as_read}
use Rattle.capnp_json_laws.specs.Fitting.{HasRoom}
use Rattle.capnp_json_laws.specs.Laws.{AreFair}

-- a well-formed tree that is read as a struct of an accepted set, which has room for its lists and is no group
pub record IsRoot (rules : Rules) (b : ℕ) (root : Tree) : Type 0 where
  pub accepted : IsAccepted rules.set
  pub ranges : HasRanges rules.set
  pub brand : b < length rules.set.brands
  pub struct : (node_of rules.set b).is_group ≡ false
  pub formed : IsWellFormed root
  pub room : HasRoom rules.set (root_type rules.set b) (root_value rules.set b root)

-- Where a root has a JSON it is a struct's record, and the JSON is read as that, but for what `record_as_read` says.
abbrev pub RootsAreReadBack : Type 0
RootsAreReadBack =
    (rules : Rules) (b : ℕ) (indented : Bool) (root : Tree) (text : List ℕ) → AreFair rules → IsRoot rules b root → IsJson (root_json rules.set b indented (Ok root)) text
    → (r : Record) × (root_value rules.set b root ≡ value.Struct r) × (record_of_json rules b text ≡ Ok (record_as_read rules.set b r))

-- the first message of these bytes, whose root is read so
pub record IsMessage (rules : Rules) (b : ℕ) (bytes : List ℕ) : Type 0 where
  pub accepted : IsAccepted rules.set
  pub ranges : HasRanges rules.set
  pub brand : b < length rules.set.brands
  pub struct : (node_of rules.set b).is_group ≡ false
  pub formed : AreBytes bytes
  pub room : (root : Tree) → message_tree_of bytes ≡ Ok root → HasRoom rules.set (root_type rules.set b) (root_value rules.set b root)

-- the record of the first message's root
abbrev pub IsRecordOf : Rules → (b : ℕ) → (bytes : List ℕ) → Record → Type 0
IsRecordOf rules b bytes r = (root : Tree) × (message_tree_of bytes ≡ Ok root) × (root_value rules.set b root ≡ value.Struct r)

-- Where a message has a JSON, it is read as the record of the message's root, but for what `record_as_read` says.
abbrev pub MessagesAreReadBack : Type 0
MessagesAreReadBack =
    (rules : Rules) (b : ℕ) (indented : Bool) (bytes text : List ℕ) → AreFair rules → IsMessage rules b bytes → IsJson (message_json rules.set b indented bytes) text
    → (r : Record) × IsRecordOf rules b bytes r × (record_of_json rules b text ≡ Ok (record_as_read rules.set b r))
