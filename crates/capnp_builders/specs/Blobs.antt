-- What stands at the builders of texts and data.
use Rattle.std.specs.Prelude.{ℕ, List, [], ◌∷◌, Result, Ok, Err, IsOk}
use Rattle.std.specs.Borrow.{MutBor}
use Rattle.capnp_device.specs.declared.error.ErrorKind.{ErrorKind}
use Rattle.capnp_wire.specs.Depth.{message_levels}
use Rattle.capnp_wire.specs.Place.{tree_at}
use Rattle.capnp_wire.specs.Reading.{as_data, as_text}
use Rattle.capnp_wire.specs.Tree.{Tree}
use Rattle.capnp_arena.specs.Forest.{Forest, tree}
use Rattle.capnp_arena.specs.Segment.{segment}
use Rattle.capnp_arena.specs.declared.arena.Arena.{Arena}
use Rattle.capnp_builders.specs.declared.text.Builder.{Builder as TextBuilder}
use Rattle.capnp_builders.specs.declared.data.Builder.{Builder as DataBuilder}

-- the bytes that were answered
abbrev pub bytes_in : Result (List ℕ) ErrorKind → List ℕ
bytes_in (Ok bytes) = bytes
bytes_in (Err kind) = []

-- ---- texts ----

-- the message behind a builder, and the word of the text's pointer
abbrev pub text_behind : TextBuilder → MutBor Arena
text_behind b = b.arena

abbrev pub text_word : TextBuilder → ℕ
text_word b = b.at

-- what stands there, and the bytes of it without the zero that ends them; and where the next push writes
abbrev pub text_there : TextBuilder → Tree
text_there b = tree (segment b.arena.now) b.at

abbrev pub text_bytes : TextBuilder → List ℕ
text_bytes b = bytes_in (as_text (text_there b))

-- the same bytes where a text stands there, and else none; whatever stands there has some
abbrev pub text_seen : TextBuilder → List ℕ
text_seen b = bytes_in (as_text (tree_at message_levels (segment b.arena.now ∷ []) (segment b.arena.now) b.at))

abbrev pub position : TextBuilder → ℕ
position b = b.pos

-- a text stands there, or a null
pub record IsBuiltText (b : TextBuilder) : Type 0 where
  pub forest : Forest (segment b.arena.now) b.at
  pub text : IsOk (as_text (text_there b))

-- ---- data ----

abbrev pub data_behind : DataBuilder → MutBor Arena
data_behind b = b.arena

abbrev pub data_word : DataBuilder → ℕ
data_word b = b.at

abbrev pub data_there : DataBuilder → Tree
data_there b = tree (segment b.arena.now) b.at

abbrev pub data_bytes : DataBuilder → List ℕ
data_bytes b = bytes_in (as_data (data_there b))

-- data stands there, or a null
pub record IsData (b : DataBuilder) : Type 0 where
  pub forest : Forest (segment b.arena.now) b.at
  pub bytes : IsOk (as_data (data_there b))
