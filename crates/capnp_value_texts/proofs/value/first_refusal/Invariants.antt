-- none of those before was refused
use Rattle.std.proofs.Common.{◌≡◌, drop, map}
use Rattle.capnp_call.specs.Seen.{reply_seen}
use Rattle.capnp_value_texts.specs.Values.{first_refusal}
use Rattle.capnp_value_texts.proofs.value.first_refusal.Given as goal

abbrev pub invariant-loop-index : goal.invariant-loop-index
invariant-loop-index l = first_refusal (map reply_seen (drop l.index l.replies)) ≡ first_refusal (map reply_seen l.replies)
