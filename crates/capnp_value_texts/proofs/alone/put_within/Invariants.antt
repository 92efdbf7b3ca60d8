-- Each turn puts one list more around it.
use Rattle.std.proofs.Common.{◌≡◌}
use Rattle.capnp_value_texts.specs.Calls.{alone_within}
use Rattle.capnp_value_texts.specs.Seen.{shown_view}
use Rattle.capnp_value_texts.proofs.alone.put_within.Given as goal

abbrev pub invariant-loop : goal.invariant-loop
invariant-loop l = shown_view l.now ≡ alone_within l.counter (shown_view l.fn.shown)
