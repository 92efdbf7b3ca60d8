-- The words of the message fit the segment, so they are not past the format; no count is told only if the message is too deep.
use Rattle.std.proofs.Common.{◌^◌, ◌<◌, ◌≤◌, arith, rules, suc}
use Rattle.capnp_wire.specs.Depth.{IsBelow}
use Rattle.capnp_wire.specs.Words.{words_of}
use Rattle.capnp_arena.specs.Forest.{tree}
use Rattle.capnp_arena.specs.Segment.{segment}
use Rattle.capnp_arena.specs.Shape.{word_count}
use Rattle.capnp_arena.proofs.Bounded.{too_deep, words_fit}
use Rattle.capnp_arena.proofs.arena.Arena.size_in_words.Goals as goal

pub returns-in_default-clause-succeeds : goal.returns-in_default-clause-succeeds
returns-in_default-clause-succeeds c =
    let h = rw c.as_slice.ensures.value at c.count_words.ensures in
    let few : word_count (segment c.args.self.now) < 2 ^ 29 = c.args.self.now.few in
    let l : suc (words_of (tree (segment c.args.self.now) 0)) ≤ word_count (segment c.args.self.now) = words_fit (segment c.args.self.now) 0 c.requires.message in
    λ b. absurd (too_deep c.count_words.result (words_of (tree (segment c.args.self.now) 0)) (IsBelow 130 (tree (segment c.args.self.now) 0)) h (omega (arith, few, l)) c.in_default.not-Some b)

pub returns-in_default-clause-cause : goal.returns-in_default-clause-cause
returns-in_default-clause-cause c =
    let h = rw c.as_slice.ensures.value at c.count_words.ensures in
    let few : word_count (segment c.args.self.now) < 2 ^ 29 = c.args.self.now.few in
    let l : suc (words_of (tree (segment c.args.self.now) 0)) ≤ word_count (segment c.args.self.now) = words_fit (segment c.args.self.now) 0 c.requires.message in
    (search rules, too_deep c.count_words.result (words_of (tree (segment c.args.self.now) 0)) (IsBelow 130 (tree (segment c.args.self.now) 0)) h (omega (arith, few, l)) c.in_default.not-Some)

pub returns-in_default-clause-fits : goal.returns-in_default-clause-fits
returns-in_default-clause-fits c =
    let few : word_count (segment c.args.self.now) < 2 ^ 29 = c.args.self.now.few in
    let l : suc (words_of (tree (segment c.args.self.now) 0)) ≤ word_count (segment c.args.self.now) = words_fit (segment c.args.self.now) 0 c.requires.message in
    omega (arith, few, l)

pub returns-clause-fits : goal.returns-clause-fits
returns-clause-fits c =
    let few : word_count (segment c.args.self.now) < 2 ^ 29 = c.args.self.now.few in
    let l : suc (words_of (tree (segment c.args.self.now) 0)) ≤ word_count (segment c.args.self.now) = words_fit (segment c.args.self.now) 0 c.requires.message in
    omega (arith, few, l)
