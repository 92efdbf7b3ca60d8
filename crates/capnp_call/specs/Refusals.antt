-- Calls that were refused, by their replies.
use Rattle.std.specs.Prelude.{List, [], ◌∷◌, Bool, true, false, ◌||◌}
use Rattle.capnp_call.specs.declared.calls.Reply.{Reply}
use Rattle.capnp_call.specs.declared.calls.Reply.TheVariants as reply

abbrev pub is_refused : Reply → Bool
is_refused reply.Done = false
is_refused (reply.Value p) = false
is_refused (reply.Flag b) = false
is_refused (reply.Member i) = false
is_refused (reply.Refused kind) = true

abbrev pub any_refused : List Reply → Bool
any_refused [] = false
any_refused (r ∷ rs) = is_refused r || any_refused rs
