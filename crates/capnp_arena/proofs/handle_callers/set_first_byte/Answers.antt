-- The lent bytes are all those of the root's list, so what is left in them, with the first byte set, is the message's tree.
use Rattle.std.proofs.Common.{List, rules, ℕ, ap, length, slice_set, subst, sym, ◌≡◌, ◌∙◌}
use Rattle.std.proofs.lemmas.List.{length-set}
use Rattle.capnp_wire.specs.Place.{bytes_at}
use Rattle.capnp_wire.specs.Tree.{Numbers}
use Rattle.capnp_arena.specs.Forest.{tree}
use Rattle.capnp_arena.specs.Parts.{with_struct_part}
use Rattle.capnp_arena.specs.Segment.{segment}
use Rattle.capnp_arena.proofs.NewBytes.{byte_left}
use Rattle.capnp_arena.proofs.handle_callers.set_first_byte.Goals as goal

pub returns-clause-tree : goal.returns-clause-tree
returns-clause-tree c =
    let old : List ℕ = segment c.args.message.now in
    let a = c.args.list.start in
    let count = c.args.list.count in
    let left : List ℕ = slice_set c.bytes_mut-bytes.result.now 0 c.args.first in
    let long : length left ≡ count = length-set c.bytes_mut-bytes.result.now 0 c.args.first ∙ c.bytes_mut-bytes.ensures.long in
    let same : segment c.root.result.arena.now ≡ old = ap segment c.root.ensures.now in
    let n : List ℕ = segment (with_struct_part c.root.result.arena.now a left) in
    let l = (c.bytes_mut-bytes.ensures.leaves left long).tree in
    let now : c.bytes_mut-bytes.result.now ≡ bytes_at (segment c.root.result.arena.now) a count = c.bytes_mut-bytes.ensures.now in
    let is : tree n 0 ≡ Numbers 1 (slice_set (bytes_at old a count) 0 c.args.first) =
    ap (tree n) (sym c.root.ensures.at) ∙ (l ∙ (byte_left (segment c.root.result.arena.now) a count 0 c.args.first c.bytes_mut-bytes.result.now now c.bytes_mut-bytes.ensures.long ∙ ap (λ x. Numbers 1 (slice_set (bytes_at x a count) 0 c.args.first)) same)) in
    subst (λ x. tree x 0 ≡ Numbers 1 (slice_set (bytes_at old a count) 0 c.args.first)) {x = n} (search rules) is
