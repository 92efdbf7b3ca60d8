-- The words of the target fit the segment, so they are not past the format; no count is told only if the target is too deep.
use Rattle.std.proofs.Common.{◌^◌, ◌<◌, ◌≤◌, arith, rules, suc}
use Rattle.capnp_wire.specs.Depth.{IsBelow}
use Rattle.capnp_wire.specs.Words.{words_of}
use Rattle.capnp_arena.specs.Forest.{tree}
use Rattle.capnp_arena.specs.Segment.{segment}
use Rattle.capnp_arena.specs.Shape.{word_count}
use Rattle.capnp_arena.proofs.Bounded.{too_deep, words_fit}
use Rattle.capnp_arena.proofs.arena.Arena.target_size.Goals as goal

pub returns-in_default-clause-succeeds : goal.returns-in_default-clause-succeeds
returns-in_default-clause-succeeds c =
    let h = rw c.as_slice.ensures.value at c.count_words.ensures in
    let few : word_count (segment c.args.self.now) < 2 ^ 29 = c.args.self.now.few in
    let l : suc (words_of (tree (segment c.args.self.now) c.args.at)) ≤ word_count (segment c.args.self.now) = words_fit (segment c.args.self.now) c.args.at c.requires.forest in
    λ b. absurd (too_deep c.count_words.result (words_of (tree (segment c.args.self.now) c.args.at)) (IsBelow 130 (tree (segment c.args.self.now) c.args.at)) h (omega (arith, few, l)) c.in_default.not-Some b)

pub returns-in_default-clause-cause : goal.returns-in_default-clause-cause
returns-in_default-clause-cause c =
    let h = rw c.as_slice.ensures.value at c.count_words.ensures in
    let few : word_count (segment c.args.self.now) < 2 ^ 29 = c.args.self.now.few in
    let l : suc (words_of (tree (segment c.args.self.now) c.args.at)) ≤ word_count (segment c.args.self.now) = words_fit (segment c.args.self.now) c.args.at c.requires.forest in
    (search rules, too_deep c.count_words.result (words_of (tree (segment c.args.self.now) c.args.at)) (IsBelow 130 (tree (segment c.args.self.now) c.args.at)) h (omega (arith, few, l)) c.in_default.not-Some)
