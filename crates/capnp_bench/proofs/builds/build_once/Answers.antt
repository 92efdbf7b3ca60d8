-- A new list of 10,000 structs has items to fill.
-- Making and filling it change what is below one pointer of the root, so the root leads to a forest still.
use Rattle.std.proofs.Common.{rules, List, ℕ, arith, refl, subst}
use Rattle.capnp_arena.specs.Facts.Calls.{one_by_one}
use Rattle.capnp_arena.specs.Forest.{Changes, Forest, tree}
use Rattle.capnp_arena.specs.Segment.{segment}
use Rattle.capnp_bench.specs.Steps.Items.{AreItems}
use Rattle.capnp_bench.proofs.ArenaItems.{root_left}
use Rattle.capnp_bench.proofs.Lists.{new}
use Rattle.capnp_bench.proofs.builds.build_once.Goals as goal

pub fill_items-requires-clause-items : goal.fill_items-requires-clause-items
fill_items-requires-clause-items c =
    subst (λ b. AreItems 10000 (tree b c.in_ok-items.items.at)) (search rules) (new 10000 _ (tree (segment c.in_ok-items.items.arena.now) c.in_ok-items.items.at) c.in_ok-items.ensures.tree refl refl (omega arith))

pub write_message-requires : goal.write_message-requires
write_message-requires c =
    let a : List ℕ = segment c.in_ok-root.root.arena.now in
    let b : List ℕ = segment c.in_ok-items.items.arena.now in
    let n : List ℕ = segment c.fill_items.new.message in
    let w : ℕ = c.get_pointer_field.result.at in
    let there : Forest n w = search rules in
    let made : Changes w a b = search rules in
    let filled : Changes w b n = search rules in
    record { forest = root_left c.in_ok-root.ensures.forest c.in_ok-root.ensures.place (c.get_pointer_field.ensures.leaves n there (one_by_one a b n w made filled)) c.root.ensures.at }
