-- The end of a call, at a list or at a null.
use Rattle.std.proofs.Common.{[], refl, subst, sym, ◌∙◌}
use Rattle.capnp_wire.specs.Tree.{Tree}
use Rattle.capnp_arena.specs.Forest.{tree}
use Rattle.capnp_arena.specs.Segment.{segment}
use Rattle.capnp_schema.specs.Entries.{lists_seen}
use Rattle.capnp_schema.specs.Types.{seen_type}
use Rattle.capnp_call.proofs.Hopping.{list_refused, list_there, null_there}
use Rattle.capnp_call.proofs.ListWalks.{list_end}
use Rattle.capnp_call.specs.Steps.Lists.{ListWalks}
use Rattle.capnp_call.specs.declared.calls.Reply.TheVariants as reply
use Rattle.capnp_call.proofs.walk.end_in_list.Goals as goal

pub end_at_list-requires-clause-there : goal.end_at_list-requires-clause-there
end_at_list-requires-clause-there c = list_there (tree (segment c.args.arena.now) c.args.word) (sym c.is_list.ensures ∙ c.if-is_list.true)

pub returns-then-is_list : goal.returns-then-is_list
returns-then-is_list c =
    let set = lists_seen c.args.schemas.now in
    let e = seen_type c.args.element in
    let x = tree (segment c.args.arena.now) c.args.word in
    record {
      walks = list_end set e x c.requires.list (list_there x (sym c.is_list.ensures ∙ c.if-is_list.true)) [] c.args.end c.end_at_list.result (tree (segment c.end_at_list.new.arena) c.args.word) refl c.end_at_list.ensures.ends;
      forest = c.end_at_list.ensures.frame.forest;
      changes = c.end_at_list.ensures.frame.changes;
    }

pub returns-else-is_list : goal.returns-else-is_list
returns-else-is_list c =
    let set = lists_seen c.args.schemas.now in
    let e = seen_type c.args.element in
    let x = tree (segment c.args.arena.now) c.args.word in
    list_refused c.args.word set e [] c.args.end (segment c.args.arena.now) c.refusal_of_end.result c.refusal_of_end.result c.requires.forest refl
    (subst (λ (y : Tree). ListWalks set e [] c.args.end y (reply.Refused c.refusal_of_end.result) y) (sym (null_there set e x c.requires.list (sym c.is_list.ensures ∙ c.if-is_list.false))) (c.refusal_of_end.ensures set e))
