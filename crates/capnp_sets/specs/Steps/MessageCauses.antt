-- Why the first message in some bytes stands for no lists.
use Rattle.std.specs.Prelude.{ℕ, List, ◌≡◌, Result, Ok, Err}
use Rattle.capnp_device.specs.declared.error.ErrorKind.{ErrorKind}
use Rattle.capnp_wire.specs.Stream.{message_tree_of}
use Rattle.capnp_wire.specs.Tree.{StructTree}
use Rattle.capnp_sets.specs.Lists.{has_cause}
use Rattle.capnp_sets.specs.Message.{root_record, root_struct}

abbrev pub IsRootCause : Result StructTree ErrorKind → ErrorKind → Type 0
IsRootCause (Ok root) kind = has_cause (root_record root) kind
IsRootCause (Err k) kind = kind ≡ k

abbrev pub IsMessageCause : List ℕ → ErrorKind → Type 0
IsMessageCause bytes kind = IsRootCause (root_struct (message_tree_of bytes)) kind
