-- Room within the limit of bytes that a message may have, and how a refusal for the want of it is told.
use Rattle.std.specs.Prelude.{ℕ, ◌-◌, ◌≤◌, ◌<◌, ◌≡◌, List, [], length, Bool, true, string_bytes}
use Rattle.capnp_device.specs.declared.error.ErrorKind.{ErrorKind}
use Rattle.capnp_device.specs.declared.error.ErrorKind.TheVariants.{OutOfMemory, TooLarge}
use Rattle.capnp_wire.specs.Locate.{words_past_format}
use Rattle.capnp_wire.specs.Tree.{Tree}
use Rattle.capnp_arena.specs.Message.{IsMessage, message_tree}
use Rattle.capnp_arena.specs.Segment.{segment}
use Rattle.capnp_arena.specs.Shape.{word_count}
use Rattle.capnp_arena.specs.declared.arena.Arena.{Arena}
use Rattle.capnp_call.specs.declared.calls.Reply.{Reply}
use Rattle.capnp_call.specs.declared.calls.Reply.TheVariants as reply
use Rattle.capnp_patch.specs.Patches.{words_within}
use Rattle.riftcalico_core.specs.declared.fault.Fault.{Fault}

-- a message in memory of so many words has this tree
pub record FitsIn (words : ℕ) (root : Tree) : Type 0 where
  pub message : Arena
  pub is : IsMessage message
  pub tree : message_tree message ≡ root
  pub few : word_count (segment message) ≤ words

-- the limit allows fewer words than the format does
abbrev pub IsBelowFormat : (limit : ℕ) → Type 0
IsBelowFormat limit = words_within limit < words_past_format - 1

-- a refusal as it is told: one for want of memory as one for the limit, where that is the cause
abbrev pub kind_told : (by_limit : Bool) → ErrorKind → ErrorKind
kind_told true OutOfMemory = TooLarge
kind_told by_limit kind = kind

abbrev pub reply_told : (by_limit : Bool) → Reply → Reply
reply_told by_limit (reply.Refused kind) = reply.Refused (kind_told by_limit kind)
reply_told by_limit r = r

-- a whole is refused for the limit, which is one that counts
pub record IsPastLimit (limit : ℕ) (kind : ErrorKind) : Type 0 where
  pub is : kind ≡ TooLarge
  pub below : IsBelowFormat limit

pub record IsRoomless (limit : ℕ) (f : Fault) : Type 0 where
  pub past : IsPastLimit limit f.error.kind
  pub note : string_bytes f.note ≡ []

-- a text is longer than a limit
pub record IsLongText (limit : ℕ) (IsIt : List ℕ → Type 0) (kind : ErrorKind) : Type 0 where
  pub is : kind ≡ TooLarge
  pub text : List ℕ
  pub of : IsIt text
  pub long : limit < length text
