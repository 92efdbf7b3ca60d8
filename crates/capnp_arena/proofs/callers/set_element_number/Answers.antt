-- The element is planted in the list and ends inside the segment, so a number stored in it changes that element alone.
use Rattle.std.proofs.Common.{arith, ◌+◌, ◌*◌, ◌<◌, ◌≤◌, ◌^◌, ap, ◌∙◌, subst}
use Rattle.capnp_wire.specs.Elements.{with_struct_element}
use Rattle.capnp_wire.specs.Tree.{StructTree}
use Rattle.capnp_arena.specs.Shape.{CompositeIn, end_of, word_count}
use Rattle.capnp_arena.specs.Forest.{Planted, tree}
use Rattle.capnp_arena.specs.Facts.Calls.{planted}
use Rattle.capnp_arena.proofs.Counted.{ends_at}
use Rattle.capnp_arena.specs.Facts.Elements.{element_planted, in_element}
use Rattle.capnp_arena.specs.Facts.Shapes.{element_end}
use Rattle.capnp_arena.proofs.callers.set_element_number.Goals as goal

pub set_number-requires-clause-planted : goal.set_number-requires-clause-planted
set_number-requires-clause-planted g c =
    element_planted _ c.args.list.count _ _ c.args.index c.requires.element _ (subst (Planted _) c.requires.there (planted _ _ c.requires.forest))

pub returns-clause-forest : goal.returns-clause-forest
returns-clause-forest g c = (in_element _ _ _ _ _ _ _ _ c.requires.forest c.requires.there c.requires.element c.set_number.ensures.planted c.set_number.ensures.changes).forest

pub returns-clause-there : goal.returns-clause-there
returns-clause-there g c = (in_element _ _ _ _ _ _ _ _ c.requires.forest c.requires.there c.requires.element c.set_number.ensures.planted c.set_number.ensures.changes).place

pub returns-clause-changes : goal.returns-clause-changes
returns-clause-changes g c = (in_element _ _ _ _ _ _ _ _ c.requires.forest c.requires.there c.requires.element c.set_number.ensures.planted c.set_number.ensures.changes).changes

pub returns-clause-tree : goal.returns-clause-tree
returns-clause-tree g c =
    (in_element _ _ _ _ _ _ _ _ c.requires.forest c.requires.there c.requires.element c.set_number.ensures.planted c.set_number.ensures.changes).tree
    ∙ ap (λ (s : StructTree). with_struct_element c.args.index s (tree c.args.arena.now.bytes.items c.args.at)) c.set_number.ensures.tree

pub overflow_add-place-2 : goal.overflow_add-place-2
overflow_add-place-2 g c =
    let few : word_count c.args.arena.now.bytes.items < 2 ^ 29 = c.args.arena.now.few in
    let l : end_of (CompositeIn c.args.list.tag c.args.list.count c.args.list.data_words c.args.list.pointers) ≤ word_count c.args.arena.now.bytes.items = ends_at _ _ c.requires.forest (CompositeIn c.args.list.tag c.args.list.count c.args.list.data_words c.args.list.pointers) c.requires.there in
    let e : c.args.index * (c.args.list.data_words + c.args.list.pointers) + (c.args.list.data_words + c.args.list.pointers) ≤ c.args.list.count * (c.args.list.data_words + c.args.list.pointers) = element_end c.args.index c.args.list.count (c.args.list.data_words + c.args.list.pointers) c.requires.element in
    omega (arith, few, l, e)
