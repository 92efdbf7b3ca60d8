-- A null has no elements.
use Rattle.std.proofs.Common.{◌∷◌, sym, ◌∙◌}
use Rattle.capnp_arena.specs.Forest.{tree}
use Rattle.capnp_arena.specs.Segment.{segment}
use Rattle.capnp_schema.specs.Entries.{lists_seen}
use Rattle.capnp_schema.specs.Types.{seen_type}
use Rattle.capnp_call.proofs.Hopping.{list_refused, list_there, nothing_refused}
use Rattle.capnp_call.proofs.hop.hop_element.Goals as goal

pub hop_at_list-requires-clause-there : goal.hop_at_list-requires-clause-there
hop_at_list-requires-clause-there c = list_there (tree (segment c.args.arena.now) c.args.word) (sym c.is_list.ensures ∙ c.if-is_list.true)

pub returns-else-is_list : goal.returns-else-is_list
returns-else-is_list c = λ rest end.
    let set = lists_seen c.args.schemas.now in
    let e = seen_type c.args.element in
    let x = tree (segment c.args.arena.now) c.args.word in
    list_refused c.args.word set e (c.args.step ∷ rest) end (segment c.args.arena.now) _ c.refusal_at_nothing.result c.requires.forest c.from.ensures
    (nothing_refused set e x c.args.step rest end c.refusal_at_nothing.result c.requires.list (sym c.is_list.ensures ∙ c.if-is_list.false) c.refusal_at_nothing.ensures)
