-- A message has whole words.
use Rattle.std.proofs.Common.{rules}
use Rattle.capnp_arena.specs.Message.{message_tree}
use Rattle.riftcalico_core.proofs.Packed.{whole_message}
use Rattle.riftcalico_core.proofs.answer.pack_message.Goals as goal

pub pack-requires : goal.pack-requires
pack-requires c = record { whole = whole_message (message_tree c.args.message.now) c.deref.result.now (search (rules, c.deref.ensures.value, c.in_ok-bytes.ensures.bytes)) c.in_ok-bytes.ensures.held.0 }
