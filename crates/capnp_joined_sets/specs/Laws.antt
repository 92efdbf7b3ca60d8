-- What holds of joined sets.
use Rattle.std.specs.Prelude.{ℕ, ◌+◌, ◌^◌, ◌<◌, ◌≤◌, ◌≡◌, length}
use Rattle.capnp_wire.specs.Tree.{StructTree}
use Rattle.capnp_schema.specs.Schema.{Schemas, brand_at, enum_at, node_at}
use Rattle.capnp_schema.specs.Accepted.{IsAccepted}
use Rattle.capnp_records.specs.Reading.{struct_record}
use Rattle.capnp_records.specs.Record.{Levels}
use Rattle.capnp_joined_sets.specs.declared.moves.Moves.{Moves}
use Rattle.capnp_joined_sets.specs.Joined.{ends_of, joined, moved_brand, moved_enum, moved_node}
use Rattle.capnp_joined_sets.specs.Refusals.{NumbersFit}

-- two sets that meet the twelve rules meet them together
abbrev pub JoinedAreAccepted : Type 0
JoinedAreAccepted = (older newer : Schemas) → IsAccepted older → IsAccepted newer → IsAccepted (joined older newer)

-- a struct of the first set reads under its brand as it did
abbrev pub FirstReadsAsBefore : Type 0
FirstReadsAsBefore = (older newer : Schemas) → IsAccepted older → (b : ℕ) → b < length older.brands → (l : Levels) (s : StructTree) →
    struct_record (joined older newer) l s b ≡ struct_record older l s b

-- a struct of the second set reads under its brand, which has moved, as it did
abbrev pub SecondReadsAsBefore : Type 0
SecondReadsAsBefore = (older newer : Schemas) → IsAccepted newer → (b : ℕ) → b < length newer.brands → (l : Levels) (s : StructTree) →
    struct_record (joined older newer) l s (b + length older.brands) ≡ struct_record newer l s b

-- the entries of a set stand in the joined lists so many numbers further on, and the numbers that they name too
pub record StandMoved (by : Moves) (set whole : Schemas) : Type 0 where
  pub nodes : (n : ℕ) → n < length set.nodes → node_at whole (n + by.nodes) ≡ moved_node by (node_at set n)
  pub brands : (b : ℕ) → b < length set.brands → brand_at whole (b + by.brands) ≡ moved_brand by (brand_at set b)
  pub enums : (e : ℕ) → e < length set.enums → enum_at whole (e + by.enums) ≡ moved_enum by (enum_at set e)

-- the entries of the first set stand where they stood, as they were
pub record StandAsBefore (set whole : Schemas) : Type 0 where
  pub nodes : (n : ℕ) → n < length set.nodes → node_at whole n ≡ node_at set n
  pub brands : (b : ℕ) → b < length set.brands → brand_at whole b ≡ brand_at set b
  pub enums : (e : ℕ) → e < length set.enums → enum_at whole e ≡ enum_at set e

abbrev pub FirstStandsAsBefore : Type 0
FirstStandsAsBefore = (older newer : Schemas) → StandAsBefore older (joined older newer)

abbrev pub SecondStandsMoved : Type 0
SecondStandsMoved = (older newer : Schemas) → StandMoved (ends_of older) newer (joined older newer)

-- each node is that of a brand
abbrev pub EachNodeHasBrand : Schemas → Type 0
EachNodeHasBrand set = (n : ℕ) → n < length set.nodes → (b : ℕ) × (b < length set.brands) × ((brand_at set b).node ≡ n)

-- no list is longer than 32 bits count
pub record IsShort (set : Schemas) : Type 0 where
  pub nodes : length set.nodes ≤ 2 ^ 32
  pub brands : length set.brands ≤ 2 ^ 32
  pub enums : length set.enums ≤ 2 ^ 32

-- sets whose nodes all have brands are joined wherever their lists together are short
abbrev pub ShortSetsFit : Type 0
ShortSetsFit = (older newer : Schemas) → IsAccepted older → IsAccepted newer → EachNodeHasBrand older → EachNodeHasBrand newer → IsShort (joined older newer) → NumbersFit (joined older newer)
