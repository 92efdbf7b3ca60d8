-- An item at an index below the count is there, in the size of items.
-- Filling it changes this element of the list alone, which leaves a list of items.
use Rattle.std.proofs.Common.{rules, List, ℕ, subst}
use Rattle.capnp_arena.specs.Forest.{struct_from, tree}
use Rattle.capnp_arena.specs.Segment.{segment}
use Rattle.capnp_bench.specs.Steps.Items.{AreItems}
use Rattle.capnp_bench.proofs.Lists.{size, still, there}
use Rattle.capnp_bench.proofs.builds.fill_at.Goals as goal

pub struct_element-item-requires-clause-there : goal.struct_element-item-requires-clause-there
struct_element-item-requires-clause-there c = there c.args.count (tree (segment c.args.message.now) c.args.at) c.args.index c.requires.items c.requires.inside

pub fill-filled-requires-clause-size : goal.fill-filled-requires-clause-size
fill-filled-requires-clause-size c =
    let p = c.struct_element-item.result.place in
    size c.args.count (tree (segment c.args.message.now) c.args.at) c.args.index _ p.start p.data_words p.pointers c.struct_element-item.ensures.tree c.struct_element-item.ensures.planted
    c.requires.items c.requires.inside

pub returns-clause-items : goal.returns-clause-items
returns-clause-items c =
    let n : List ℕ = segment c.fill-filled.new.item.arena.now in
    let p = c.struct_element-item.result.place in
    let l = c.struct_element-item.ensures.leaves n (search rules) (search rules) in
    subst (λ b. AreItems c.args.count (tree b c.args.at)) (search rules)
    (still c.args.count (tree (segment c.args.message.now) c.args.at) (tree n c.args.at) c.args.index (struct_from n p.start p.data_words p.pointers) l.tree c.requires.items (search rules))
