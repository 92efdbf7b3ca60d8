-- Elements that are not bits are parts of structs. What the grown list is, and its refusal, the tree as a list of structs says.
use Rattle.std.proofs.Common.{IfOk, ◌≡◌, ◌∙◌, ap, max, subst, sym}
use Rattle.std.proofs.lemmas.Result.{IfErr-weaker, on_ok_weaker}
use Rattle.capnp_wire.specs.StructLists.{IsDueRefusal}
use Rattle.capnp_arena.specs.Forest.{tree}
use Rattle.capnp_arena.specs.Steps.Grown.{IsPartList, kind_pointers, kind_words, pointerless_parts}
use Rattle.capnp_arena.proofs.PartLists.{plain_list}
use Rattle.capnp_arena.proofs.StructListTrees.{plain_becomes, plain_refusal, simple_small}
use Rattle.capnp_arena.proofs.arena.Arena.grow_plain_list.Goals as goal

pub make_structs-requires-clause-list : goal.make_structs-requires-clause-list
make_structs-requires-clause-list c =
    subst (λ r. IsPartList c.args.self.now.bytes.items c.args.at r c.args.list.count) (sym (c.get_plain_row-row.ensures ∙ ap (pointerless_parts c.args.list.start) c.get_number-number.ensures))
    (plain_list _ _ c.requires.forest _ _ _ c.requires.there (simple_small _ _ c.requires.forest _ _ _ c.requires.there) c.requires.simple)

pub returns-clause-tree : goal.returns-clause-tree
returns-clause-tree c =
    subst (λ z. IfOk c.make_structs.result (λ _. tree c.make_structs.new.self.bytes.items c.args.at ≡ z))
    (plain_becomes _ _ c.requires.forest _ _ _ c.requires.there c.args.size c.grow_plain.result c.requires.simple (c.grow_plain.ensures.data ∙ ap (λ k. max c.args.size.data_words (kind_words k)) c.get_number-number.ensures) (c.grow_plain.ensures.pointers ∙ ap (λ k. max c.args.size.pointers (kind_pointers k)) c.get_number-number.ensures))
    c.make_structs.ensures.tree

pub returns-clause-within : goal.returns-clause-within
returns-clause-within c = on_ok_weaker c.make_structs.result
    (λ h. sym (plain_refusal _ _ c.requires.forest _ _ _ c.requires.there c.args.size c.grow_plain.result c.requires.simple (c.grow_plain.ensures.data ∙ ap (λ k. max c.args.size.data_words (kind_words k)) c.get_number-number.ensures) (c.grow_plain.ensures.pointers ∙ ap (λ k. max c.args.size.pointers (kind_pointers k)) c.get_number-number.ensures)) ∙ h)
    c.make_structs.ensures.within

pub returns-clause-cause : goal.returns-clause-cause
returns-clause-cause c = IfErr-weaker c.make_structs.result _ _
    (λ e h. subst (IsDueRefusal e) (plain_refusal _ _ c.requires.forest _ _ _ c.requires.there c.args.size c.grow_plain.result c.requires.simple (c.grow_plain.ensures.data ∙ ap (λ k. max c.args.size.data_words (kind_words k)) c.get_number-number.ensures) (c.grow_plain.ensures.pointers ∙ ap (λ k. max c.args.size.pointers (kind_pointers k)) c.get_number-number.ensures)) h)
    c.make_structs.ensures.cause
