-- Lists of structs by the structs' sections, and other lists by the size of their elements.
use Rattle.std.proofs.Common.{◌≡◌, ap, subst, sym, ◌∙◌, None, IfErr, OnOk}
use Rattle.capnp_wire.specs.Defaults.{default_tree as reader_tree, filled_structs, filled_structs_refusal, or_default}
use Rattle.capnp_wire.specs.Edits.{IsDueRefusal}
use Rattle.capnp_arena.specs.Built.{built_at}
use Rattle.capnp_wire.specs.StructLists.{HoldsStructs}
use Rattle.capnp_wire.specs.Tree.{Tree, nth_tree}
use Rattle.capnp_wire.specs.declared.size.StructSize.{StructSize}
use Rattle.capnp_schema.specs.Entries.{lists_seen}
use Rattle.capnp_schema.specs.Facts.Layers.{seen_which}
use Rattle.capnp_schema.specs.Schema.{Schemas}
use Rattle.capnp_schema.specs.StructHandles.{number_of}
use Rattle.capnp_schema.specs.Types.{SchemaType, StructType, seen_type, seen_variant}
use Rattle.capnp_schema.specs.Plan.{brand_size}
use Rattle.capnp_slots.specs.Steps.Fills.{HoldsThere, IsListFilled}
use Rattle.capnp_slots.proofs.Filled.{is_plain}
use Rattle.capnp_slots.proofs.FilledSlots.{made_filled}
use Rattle.capnp_slots.proofs.Places.{same_struct}
use Rattle.capnp_slots.proofs.part.fill_elements.Goals as goal

pub returns-in-Struct-clause-written : goal.returns-in-Struct-clause-written
returns-in-Struct-clause-written c =
    let set : Schemas = lists_seen c.args.schemas.now in
    let D : Tree = reader_tree c.args.default in
    let x : Tree = nth_tree (built_at c.args.arena.now c.args.place).pointers c.args.index in
    let s = (built_at c.args.arena.now c.args.place) in
    let s' = (built_at c.fill_structs.new.arena c.args.place) in
    let r = c.fill_structs.result in
    let t : StructType c.in-Struct.raw.number c.in-Struct.raw.generic ≡ seen_type c.args.element = ap seen_variant (sym c.in-Struct.is) ∙ (ap seen_variant c.which.ensures ∙ seen_which c.args.element) in
    let size : c.size_of-size.result ≡ brand_size set c.in-Struct.raw.number =
    c.size_of-size.ensures ∙ (ap (λ (z : Schemas). brand_size z (number_of c.struct_schema.result)) c.struct_schema.ensures.set ∙ ap (brand_size set) c.struct_schema.ensures.number) in
    subst (λ (e : SchemaType). IsListFilled set e D s c.args.index r s') t (record {
      filled = subst (λ (z : StructSize). OnOk r (HoldsThere s c.args.index s' (filled_structs D z x))) size c.fill_structs.ensures.ok;
      within = subst (λ (z : StructSize). OnOk r (filled_structs_refusal D z x ≡ None)) size c.fill_structs.ensures.within;
      refused = (same_struct c.args.place c.args.arena.now c.fill_structs.new.arena c.fill_structs.result c.fill_structs.ensures.refused);
      cause = subst (λ (z : StructSize). IfErr r (λ n. IsDueRefusal n (filled_structs_refusal D z x))) size c.fill_structs.ensures.cause;
      rests = λ h. c.fill_structs.ensures.succeeds h.0 (subst (λ (z : StructSize). HoldsStructs z x) (sym size) h.1);
    })

pub fill_list-requires-clause-simple : goal.fill_list-requires-clause-simple
fill_list-requires-clause-simple c = (is_plain (lists_seen c.args.schemas.now) c.args.element c.which.result _ c.which.ensures c.expected_element_size.ensures c.in_default.not-Struct).simple

pub returns-in_default-clause-written : goal.returns-in_default-clause-written
returns-in_default-clause-written c =
    let x : Tree = nth_tree (built_at c.args.arena.now c.args.place).pointers c.args.index in
    let D : Tree = reader_tree c.args.default in
    let list = is_plain (lists_seen c.args.schemas.now) c.args.element c.which.result _ c.which.ensures c.expected_element_size.ensures c.in_default.not-Struct in
    made_filled (built_at c.args.arena.now c.args.place) (built_at c.fill_list.new.arena c.args.place) c.args.index c.fill_list.result _ _ _ _ _ _ (sym (list.enters (or_default D x))) (sym (list.due D x)) (list.rests D x) c.fill_list.ensures.ok c.fill_list.ensures.within (same_struct c.args.place c.args.arena.now c.fill_list.new.arena c.fill_list.result c.fill_list.ensures.refused) c.fill_list.ensures.cause (λ h. c.fill_list.ensures.succeeds h.0 h.1)
