-- The number that is read is the one of the whole list.
use Rattle.std.proofs.Common.{ℕ, ◌≡◌, ap, subst, ◌∙◌}
use Rattle.capnp_wire.specs.Elements.{or_empty}
use Rattle.capnp_wire.specs.Standing.{list_of}
use Rattle.capnp_wire.specs.Tree.{Tree}
use Rattle.capnp_wire.specs.declared.size.ElementSize.{ElementSize}
use Rattle.capnp_arena.specs.Forest.{tree}
use Rattle.capnp_arena.specs.Same.{IsCutOf}
use Rattle.capnp_arena.specs.Segment.{segment}
use Rattle.capnp_schema.specs.Entries.{lists_seen}
use Rattle.capnp_schema.specs.Facts.Layers.{elements_sized, seen_which}
use Rattle.capnp_schema.specs.Schema.{Schemas, VoidValue}
use Rattle.capnp_schema.specs.Types.{SchemaType, element_size, is_pointer, seen_type, seen_variant}
use Rattle.capnp_records.specs.Default.{read_of}
use Rattle.capnp_records.specs.Facts.Readers.{element_read}
use Rattle.capnp_dynamic_readers.specs.Typed.{IsValueUnder}
use Rattle.capnp_dynamic.specs.Handed.{element_read_of}
use Rattle.capnp_dynamic.proofs.Heads.{element_cut}
use Rattle.capnp_dynamic.proofs.hand_element.number_at.Goals as goal

pub returns-clause-stands : goal.returns-clause-stands
returns-clause-stands c =
    let set : Schemas = lists_seen c.args.schemas.now in
    let t : SchemaType = seen_variant c.which.result in
    let e : t ≡ seen_type c.args.element_type = ap seen_variant c.which.ensures ∙ seen_which c.args.element_type in
    let x : Tree = list_of c.read_list-reader.result in
    let y : Tree = or_empty (element_size (seen_type c.args.element_type)) (tree (segment c.args.arena.now) c.args.at) in
    let cut : IsCutOf x y = subst (λ (s : ElementSize). IsCutOf x (or_empty s (tree (segment c.args.arena.now) c.args.at))) (c.expected_element_size.ensures ∙ elements_sized c.args.element_type) c.read_list-reader.ensures.cut in (
      c.in-Ok.value,
      c.built_number.ensures.reads,
      c.in-Ok.ensures.value
          ∙ (ap (λ (n : ℕ). read_of set VoidValue t (element_read set x n t c.args.index)) c.read_list-reader.ensures.levels
          ∙ (element_cut set 64 x y cut t c.args.index (ap is_pointer e ∙ c.requires.number)
          ∙ ap (λ (u : SchemaType). element_read_of set u y c.args.index) e)),
      subst (λ (u : SchemaType). IsValueUnder set u c.in-Ok.value) e c.in-Ok.ensures.under,
    )
