-- The elements are structs in a row already. What the grown list is, and its refusal, the tree as a list of structs says.
use Rattle.std.proofs.Common.{IfOk, ◌≡◌, ◌∙◌, subst, sym}
use Rattle.std.proofs.lemmas.Result.{IfErr-weaker, on_ok_weaker}
use Rattle.capnp_wire.specs.StructLists.{IsDueRefusal}
use Rattle.capnp_arena.specs.Forest.{tree}
use Rattle.capnp_arena.specs.Steps.Grown.{IsPartList}
use Rattle.capnp_arena.proofs.PartLists.{struct_parts_list}
use Rattle.capnp_arena.proofs.StructListTrees.{structs_become, structs_refusal}
use Rattle.capnp_arena.proofs.arena.Arena.grow_struct_list.Goals as goal

pub make_structs-requires-clause-list : goal.make_structs-requires-clause-list
make_structs-requires-clause-list c = subst (λ r. IsPartList c.args.self.now.bytes.items c.args.at r c.args.list.count) (sym c.get_struct_row-row.ensures) (struct_parts_list _ _ c.requires.forest _ _ _ _ c.requires.there)

pub returns-clause-tree : goal.returns-clause-tree
returns-clause-tree c =
    subst (λ z. IfOk c.make_structs.result (λ _. tree c.make_structs.new.self.bytes.items c.args.at ≡ z))
    (structs_become _ _ c.requires.forest _ _ _ _ c.requires.there c.args.size c.grow_structs.result c.grow_structs.ensures.data c.grow_structs.ensures.pointers) c.make_structs.ensures.tree

pub returns-clause-within : goal.returns-clause-within
returns-clause-within c = on_ok_weaker c.make_structs.result
    (λ h. sym (structs_refusal _ _ c.requires.forest _ _ _ _ c.requires.there c.args.size c.grow_structs.result c.grow_structs.ensures.data c.grow_structs.ensures.pointers) ∙ h) c.make_structs.ensures.within

pub returns-clause-cause : goal.returns-clause-cause
returns-clause-cause c = IfErr-weaker c.make_structs.result _ _
    (λ e h. subst (IsDueRefusal e) (structs_refusal _ _ c.requires.forest _ _ _ _ c.requires.there c.args.size c.grow_structs.result c.grow_structs.ensures.data c.grow_structs.ensures.pointers) h) c.make_structs.ensures.cause
