-- The struct's own words and those behind its pointers are its size. They fit the segment, so no count means too deep a struct.
use Rattle.std.proofs.Common.{Some, ◌+◌, ◌^◌, ◌<◌, ◌≤◌, arith, refl, rules, subst}
use Rattle.capnp_wire.specs.Depth.{AreBelow}
use Rattle.capnp_wire.specs.Tree.{trees_from}
use Rattle.capnp_wire.specs.Words.{words_of_all}
use Rattle.capnp_arena.specs.Steps.Counts.{IsCounted}
use Rattle.capnp_arena.specs.Forest.{tree}
use Rattle.capnp_arena.specs.Segment.{segment}
use Rattle.capnp_arena.specs.Shape.{word_count}
use Rattle.capnp_arena.proofs.Bounded.{struct_fits, too_deep}
use Rattle.capnp_arena.proofs.StructSizes.{struct_words}
use Rattle.capnp_arena.proofs.arena.Arena.total_size.Goals as goal

pub returns-clause-size : goal.returns-clause-size
returns-clause-size c =
    let e = struct_words (segment c.args.self.now) c.args.place.start c.args.place.data_words c.args.place.pointers c.requires.planted.ends in
    let n : IsCounted (Some c.in-Some.below) (words_of_all (trees_from (tree (segment c.args.self.now)) (c.args.place.start + c.args.place.data_words) c.args.place.pointers)) (AreBelow 130 (trees_from (tree (segment c.args.self.now)) (c.args.place.start + c.args.place.data_words) c.args.place.pointers)) =
    subst (λ r. IsCounted r (words_of_all (trees_from (tree (segment c.args.self.now)) (c.args.place.start + c.args.place.data_words) c.args.place.pointers)) (AreBelow 130 (trees_from (tree (segment c.args.self.now)) (c.args.place.start + c.args.place.data_words) c.args.place.pointers))) c.in-Some.is (rw c.as_slice.ensures.value at c.count_row.ensures) in
    (refl, omega (arith, e, n.0), refl)

pub returns-in_default-clause-succeeds : goal.returns-in_default-clause-succeeds
returns-in_default-clause-succeeds c =
    let h = rw c.as_slice.ensures.value at c.count_row.ensures in
    let few : word_count (segment c.args.self.now) < 2 ^ 29 = c.args.self.now.few in
    let l : c.args.place.data_words + c.args.place.pointers + words_of_all (trees_from (tree (segment c.args.self.now)) (c.args.place.start + c.args.place.data_words) c.args.place.pointers) ≤ word_count (segment c.args.self.now) =
    struct_fits (segment c.args.self.now) c.args.place.start c.args.place.data_words c.args.place.pointers c.requires.planted in
    λ b. absurd (too_deep c.count_row.result (words_of_all (trees_from (tree (segment c.args.self.now)) (c.args.place.start + c.args.place.data_words) c.args.place.pointers)) (AreBelow 130 (trees_from (tree (segment c.args.self.now)) (c.args.place.start + c.args.place.data_words) c.args.place.pointers)) h (omega (arith, few, l)) c.in_default.not-Some b)

pub returns-in_default-clause-cause : goal.returns-in_default-clause-cause
returns-in_default-clause-cause c =
    let h = rw c.as_slice.ensures.value at c.count_row.ensures in
    let few : word_count (segment c.args.self.now) < 2 ^ 29 = c.args.self.now.few in
    let l : c.args.place.data_words + c.args.place.pointers + words_of_all (trees_from (tree (segment c.args.self.now)) (c.args.place.start + c.args.place.data_words) c.args.place.pointers) ≤ word_count (segment c.args.self.now) =
    struct_fits (segment c.args.self.now) c.args.place.start c.args.place.data_words c.args.place.pointers c.requires.planted in
    (search rules, too_deep c.count_row.result (words_of_all (trees_from (tree (segment c.args.self.now)) (c.args.place.start + c.args.place.data_words) c.args.place.pointers)) (AreBelow 130 (trees_from (tree (segment c.args.self.now)) (c.args.place.start + c.args.place.data_words) c.args.place.pointers)) h (omega (arith, few, l)) c.in_default.not-Some)
