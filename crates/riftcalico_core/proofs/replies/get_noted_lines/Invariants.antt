-- What the lines so far and those of the replies that are left are, those of all are.
use Rattle.std.proofs.Common.{ℕ, List, [], drop, map, string_bytes}
use Rattle.capnp_edit_calls.specs.ActsSeen.{act_seen}
use Rattle.capnp_schema.specs.StructHandles.{number_of, set_of}
use Rattle.riftcalico_core.specs.Replies.{AreNoted, asked_calls}
use Rattle.riftcalico_core.proofs.replies.get_noted_lines.Given as goal

abbrev pub invariant-loop-index : goal.invariant-loop-index
invariant-loop-index l =
    (new : List ℕ) → AreNoted (set_of l.schema) (number_of l.schema) l.by_limit l.index (map (λ w. w.now) l.words) (asked_calls (set_of l.schema) (number_of l.schema) (map act_seen l.acts)) (drop l.index l.replies) (string_bytes l.lines) new
    → AreNoted (set_of l.schema) (number_of l.schema) l.by_limit 0 (map (λ w. w.now) l.words) (asked_calls (set_of l.schema) (number_of l.schema) (map act_seen l.acts)) l.replies [] new
