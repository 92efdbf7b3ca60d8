-- Whatever is told of the replies that are left, all are told then.
use Rattle.std.proofs.Common.{ℕ, List, [], drop, map, string_bytes}
use Rattle.capnp_patch.specs.Lines.{AreTold}
use Rattle.capnp_patch.proofs.lines.get_lines.Given as goal

abbrev pub invariant-loop-index : goal.invariant-loop-index
invariant-loop-index l =
    (new : List ℕ) → AreTold l.index (map (λ w. w.now) l.words) (drop l.index l.replies) (string_bytes l.lines) new → AreTold 0 (map (λ w. w.now) l.words) l.replies [] new
