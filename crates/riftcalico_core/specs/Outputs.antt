-- Messages that are written.
use Rattle.std.specs.Prelude.{ℕ, suc, ◌<◌, ◌≡◌, List, Bool, true, false}
use Rattle.capnp_arena.specs.Message.{message_tree}
use Rattle.capnp_packed.specs.Packing.{packed_form}
use Rattle.capnp_packed.specs.Unpacking.{unpacked_bytes}
use Rattle.capnp_wire.specs.Encoding.{message_of}
use Rattle.capnp_wire.specs.Locate.{words_past_format}
use Rattle.capnp_wire.specs.Tree.{Tree}
use Rattle.capnp_wire.specs.Words.{words_of}
use Rattle.riftcalico_core.specs.declared.answer.Output.{Output}
use Rattle.riftcalico_core.specs.declared.answer.Output.TheVariants as output

-- the packed bytes of a message, which are unpacked to its own
pub record IsPackedMessage (t : Tree) (packed : List ℕ) : Type 0 where
  pub fits : suc (words_of t) < words_past_format
  pub encoding : packed ≡ packed_form (message_of t)
  pub back : unpacked_bytes packed ≡ message_of t

-- a message with this tree is written, packed or not
abbrev pub IsMessageOutput : (packed : Bool) → Tree → Output → Type 0
IsMessageOutput false t (output.Message m) = message_tree m ≡ t
IsMessageOutput false t o = ⊥
IsMessageOutput true t (output.Bytes bytes) = IsPackedMessage t bytes.items
IsMessageOutput true t o = ⊥
