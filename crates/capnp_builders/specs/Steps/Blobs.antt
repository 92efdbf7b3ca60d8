-- What stands at the builders of texts and data: steps of the code.
use Rattle.std.specs.Prelude.{ℕ, suc, Bool, true, false, List, [], ◌∷◌, slice_set, Result}
use Rattle.std.specs.Borrow.{Fml, Lends, MutBor}
use mir.Syntax.{named}
use Rattle.capnp_device.specs.declared.error.ErrorKind.{ErrorKind}
use Rattle.capnp_wire.specs.Reading.{as_data, as_text}
use Rattle.capnp_wire.specs.Tree.{Tree}
use Rattle.capnp_arena.specs.declared.arena.Arena.{Arena}
use Rattle.capnp_arena.specs.contracts.arena.Arena.{the_row as arena_row}
use Rattle.capnp_builders.specs.declared.text.Builder.{Builder as TextBuilder}
use Rattle.capnp_builders.specs.declared.data.Builder.{Builder as DataBuilder}
use Rattle.capnp_builders.specs.contracts.text.Builder.{the_row as text_row}
use Rattle.capnp_builders.specs.contracts.data.Builder.{the_row as data_row}

-- what is read as a text, or else as data
abbrev pub as_blob : Bool → Tree → Result (List ℕ) ErrorKind
as_blob true = as_text
as_blob false = as_data

-- bytes with others written from an index on
abbrev pub written_bytes : List ℕ → ℕ → List ℕ → List ℕ
written_bytes old i [] = old
written_bytes old i (v ∷ vs) = written_bytes (slice_set old i v) (suc i) vs

-- a builder that is lent for a shorter time ends as itself, with the message as it was left
abbrev pub text_with : TextBuilder → Arena → TextBuilder
text_with b a = record b { arena = record b.arena { now = a } }

abbrev pub LendsText : MutBor TextBuilder → MutBor Arena → Fml
LendsText b a = Lends (text_row (record { mir = named 0; lft = [] })) arena_row b a (text_with b.now)

abbrev pub data_with : DataBuilder → Arena → DataBuilder
data_with b a = record b { arena = record b.arena { now = a } }

abbrev pub LendsData : MutBor DataBuilder → MutBor Arena → Fml
LendsData b a = Lends (data_row (record { mir = named 0; lft = [] })) arena_row b a (data_with b.now)
