-- The handle has all bytes of the new list, so what is left in them, the zeros with the first byte set, is the whole message.
use Rattle.std.proofs.Common.{List, rules, ℕ, ap, length, replicate, slice_set, subst, sym, ◌≡◌, ◌∙◌}
use Rattle.std.proofs.lemmas.List.{length-replicate, length-set}
use Rattle.capnp_wire.specs.Tree.{Numbers}
use Rattle.capnp_arena.specs.Forest.{tree}
use Rattle.capnp_arena.specs.Parts.{with_struct_part}
use Rattle.capnp_arena.specs.Segment.{segment}
use Rattle.capnp_arena.proofs.Fronts.{all_left}
use Rattle.capnp_arena.proofs.handle_callers.build_data_by_builders.Goals as goal

pub returns-clause-tree : goal.returns-clause-tree
returns-clause-tree c =
    let e = c.in_ok-built.ensures in
    let b = c.in_ok-built.built in
    let zeros : List ℕ = replicate c.args.count 0 in
    let left : List ℕ = slice_set c.into_bytes-bytes.result.now 0 c.args.first in
    let long : length left ≡ b.count = length-set c.into_bytes-bytes.result.now 0 c.args.first ∙ c.into_bytes-bytes.ensures.long in
    let n : List ℕ = segment (with_struct_part b.arena.now b.start left) in
    let l = (c.into_bytes-bytes.ensures.leaves left long).tree in
    let t : tree (segment b.arena.now) b.at ≡ Numbers 1 zeros = ap (tree (segment b.arena.now)) e.at ∙ e.tree in
    let same : c.into_bytes-bytes.result.now ≡ zeros = c.into_bytes-bytes.ensures.now ∙ e.bytes in
    let is : tree n 0 ≡ Numbers 1 (slice_set zeros 0 c.args.first) =
    ap (tree n) (sym (e.at ∙ c.root.ensures.at)) ∙ (l ∙ (all_left _ zeros left t (long ∙ (e.count ∙ sym (length-replicate c.args.count 0))) ∙ ap (λ x. Numbers 1 (slice_set x 0 c.args.first)) same)) in
    subst (λ x. tree x 0 ≡ Numbers 1 (slice_set zeros 0 c.args.first)) {x = n} (search rules) is
