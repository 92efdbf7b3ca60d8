-- A value is less than the parts that it stands in. What was added is what is said of the parts so far.
use Rattle.std.proofs.Common.{◌≡◌, ◌+◌, [], drop}
use Rattle.capnp_value_texts.specs.Calls.{parts_calls}
use Rattle.capnp_value_texts.specs.Seen.{shown_view}
use Rattle.capnp_value_texts.specs.Steps.Seen.{parts_view}
use Rattle.capnp_value_texts.specs.Steps.Targets.{holder_seen, holder_set}
use Rattle.capnp_value_texts.proofs.Making.{IsGoing}
use Rattle.capnp_value_texts.proofs.Weights.{parts_weight, value_weight}
use Rattle.capnp_value_texts.proofs.calls.+make.Given as goal

abbrev pub decreases-make_value : goal.decreases-make_value
decreases-make_value l = value_weight (shown_view l.shown.now)

abbrev pub decreases-make_fields : goal.decreases-make_fields
decreases-make_fields l = parts_weight (parts_view l.parts.now.items) + 3

abbrev pub decreases-make_items : goal.decreases-make_items
decreases-make_items l = parts_weight (parts_view l.parts.now.items) + 3

abbrev pub decreases-make_held : goal.decreases-make_held
decreases-make_held l = parts_weight (parts_view l.parts.now.items) + 2

abbrev pub decreases-make_parts : goal.decreases-make_parts
decreases-make_parts l = parts_weight (parts_view l.parts.now.items) + 1

abbrev pub invariant-make_parts-loop-index : goal.invariant-make_parts-loop-index
invariant-make_parts-loop-index l = record {
  path : l.path.items ≡ l.initial.path.items;
  going : IsGoing l.initial.path.items l.initial.out.items l.out.items (parts_calls (holder_set l.holder) (parts_view l.parts.items) (holder_seen l.holder) 0 [])
      (parts_calls (holder_set l.holder) (parts_view (drop l.index l.parts.items)) (holder_seen l.holder) l.index l.given.items);
}
