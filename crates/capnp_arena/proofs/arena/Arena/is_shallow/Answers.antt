-- No count is told only of a message that is too deep, as its words fit the segment.
use Rattle.std.proofs.Common.{◌^◌, ◌<◌, ◌≤◌, arith, suc}
use Rattle.capnp_wire.specs.Depth.{IsWithin}
use Rattle.capnp_wire.specs.Words.{words_of}
use Rattle.capnp_arena.specs.Forest.{tree}
use Rattle.capnp_arena.specs.Segment.{segment}
use Rattle.capnp_arena.specs.Shape.{word_count}
use Rattle.capnp_arena.proofs.Bounded.{too_deep, words_fit}
use Rattle.capnp_arena.proofs.arena.Arena.is_shallow.Goals as goal

pub returns-in_default-clause-deep : goal.returns-in_default-clause-deep
returns-in_default-clause-deep c =
    let h = rw c.as_slice.ensures.value at c.count_within.ensures in
    let few : word_count (segment c.args.self.now) < 2 ^ 29 = c.args.self.now.few in
    let l : suc (words_of (tree (segment c.args.self.now) 0)) ≤ word_count (segment c.args.self.now) = words_fit (segment c.args.self.now) 0 c.requires.message in
    λ r b. too_deep c.count_within.result (words_of (tree (segment c.args.self.now) 0)) (IsWithin 64 (tree (segment c.args.self.now) 0)) h (omega (arith, few, l)) c.in_default.not-Some b
