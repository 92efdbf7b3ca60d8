-- What a conversion has named so far, and work that may name more or be refused: steps of the code.
use Rattle.std.specs.Prelude.{ℕ, List}
use Rattle.capnp_request.specs.Work.{Entry, Named, Seen}

-- the entries and enums alone
pub record Numbered : Type 0 where
  pub entries : List Entry
  pub enums : List ℕ

-- what was named, with what was seen of the type at hand
abbrev pub named_with : Numbered → Seen → Named
named_with numbered seen = record { entries = numbered.entries; enums = numbered.enums; seen = seen }
