-- The list at the root is one of elements of the type, and what is answered is taken as its first.
use Rattle.std.proofs.Common.{ap, subst, sym, ◌∙◌}
use Rattle.capnp_wire.specs.Elements.{reads_list}
use Rattle.capnp_wire.specs.Standing.{list_of}
use Rattle.capnp_wire.specs.Tree.{Tree}
use Rattle.capnp_wire.specs.declared.size.ElementSize.{ElementSize}
use Rattle.capnp_arena.specs.Message.{message_tree}
use Rattle.capnp_schema.specs.Entries.{lists_seen}
use Rattle.capnp_schema.specs.Facts.Layers.{elements_sized}
use Rattle.capnp_schema.specs.Types.{seen_type}
use Rattle.capnp_slots.specs.SetValues.{source_of}
use Rattle.capnp_json_messages.specs.Ones.{IsTakenAs, element_source}
use Rattle.capnp_json_messages.proofs.OneCopied.{one_taken}
use Rattle.capnp_json_messages.proofs.OneTaken.{taken_if}
use Rattle.capnp_json_messages.proofs.one.get_one.Goals as goal

pub read_alone-requires-clause-listed : goal.read_alone-requires-clause-listed
read_alone-requires-clause-listed c =
    ap (λ (size : ElementSize). reads_list size (message_tree c.args.made.now)) (c.expected_element_size.ensures ∙ elements_sized c.args.element) ∙ c.requires.readable.0

pub returns-clause-taken : goal.returns-clause-taken
returns-clause-taken c = λ v whole there list.
    let set = lists_seen c.args.schemas.now in
    let t = seen_type c.args.element in
    taken_if source_of c.read_first.result set t (element_source t (list_of c.in_ok-list.list)) v c.read_first.ensures.source
    (subst (λ (x : Tree). IsTakenAs set t (element_source t x) v) (sym c.in_ok-list.ensures.list)
    (one_taken set t (message_tree c.args.made.now) v whole there list c.tree_is_sound.ensures.whole c.requires.shallow))
