use Rattle.std.proofs.Common.{◌+◌, ◌≤◌, ◌≡◌, length, string_bytes}
use Rattle.capnp_dynamic_readers.specs.Shown.{set_seen}
use Rattle.capnp_check.specs.Faults.{most_steps}
use Rattle.capnp_check.specs.Places.{IsPathTo, place_words, root_parts}
use Rattle.capnp_check.specs.Steps.PlaceSteps.{IsOpenIn, parts_refusal, parts_seen, steps_below}
use Rattle.capnp_check.proofs.place.find_refusal.Given as goal

abbrev pub invariant-loop-step : goal.invariant-loop-step
invariant-loop-step l = record {
  path : IsPathTo (set_seen l.fn.value) l.path.items (root_parts l.fn.value) (parts_seen l.current);
  words : string_bytes l.words ≡ place_words (set_seen l.fn.value) (root_parts l.fn.value) l.path.items;
  of_set : IsOpenIn (set_seen l.fn.value) l.current;
  same : parts_refusal (set_seen l.fn.value) (root_parts l.fn.value) ≡ parts_refusal (set_seen l.fn.value) (parts_seen l.current);
  short : length l.path.items + steps_below (set_seen l.fn.value) l.current ≤ most_steps (set_seen l.fn.value);
}

abbrev pub decreases-loop-step : goal.decreases-loop-step
decreases-loop-step l = steps_below (set_seen l.fn.value) l.current
