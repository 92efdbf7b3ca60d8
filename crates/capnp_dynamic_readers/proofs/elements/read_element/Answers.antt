-- An untyped pointer is its tree.
use Rattle.std.proofs.Common.{ℕ, ap, ap₂, sym, ◌∙◌}
use Rattle.capnp_wire.specs.Tree.{Tree}
use Rattle.capnp_records.specs.Reading.{value_of}
use Rattle.capnp_base.specs.declared.introspect.TypeVariant.{TypeVariant}
use Rattle.capnp_wire.specs.Reading.{element_levels, element_pointer}
use Rattle.capnp_wire.specs.Standing.{list_levels, list_of, tree_of}
use Rattle.capnp_schema.specs.Entries.{lists_seen}
use Rattle.capnp_schema.specs.Schema.{VoidValue}
use Rattle.capnp_schema.specs.Types.{ListType, seen_type, seen_variant}
use Rattle.capnp_schema.specs.Facts.Layers.{elements_sized}
use Rattle.capnp_records.specs.Facts.Readers.{element_read}
use Rattle.capnp_records.specs.Default.{read_of}
use Rattle.capnp_records.specs.Record as value
use Rattle.capnp_records.specs.Record.{Left}
use Rattle.capnp_dynamic_readers.proofs.ListHandles.{handle_seen}
use Rattle.capnp_dynamic_readers.proofs.Pointed.{untyped_seen}
use Rattle.capnp_dynamic_readers.proofs.elements.read_element.Goals as goal

pub returns-in-AnyPointer-clause-value : goal.returns-in-AnyPointer-clause-value
returns-in-AnyPointer-clause-value c =
    ap (λ r. value.Untyped (tree_of r)) c.new-in-AnyPointer.ensures
    ∙ (ap value.Untyped c.get_pointer_element-reader.ensures.tree
    ∙ (untyped_seen (lists_seen c.args.schemas.now) VoidValue (element_pointer (list_of c.args.list.now) c.args.index (list_levels c.args.list.now)) (Left (element_levels (list_of c.args.list.now) (list_levels c.args.list.now)))
    ∙ ap (λ (v : TypeVariant). read_of (lists_seen c.args.schemas.now) VoidValue (seen_variant v) (element_read (lists_seen c.args.schemas.now) (list_of c.args.list.now) (list_levels c.args.list.now) (seen_variant v) c.args.index)) (sym c.in-AnyPointer.is)))

pub returns-in_ok-reader-in-List-clause-value : goal.returns-in_ok-reader-in-List-clause-value
returns-in_ok-reader-in-List-clause-value c =
    handle_seen c.new-in-List.result (lists_seen c.args.schemas.now) c.in_ok-reader-in-List.reader c.in-List.element_type c.new-in-List.ensures.set c.new-in-List.ensures.reader c.new-in-List.ensures.element
    ∙ (c.in_ok-reader-in-List.ensures (lists_seen c.args.schemas.now) (seen_type c.in-List.element_type) (sym (c.expected_element_size-size.ensures ∙ elements_sized c.in-List.element_type))
    ∙ (ap₂ (λ (x : Tree) (n : ℕ). read_of (lists_seen c.args.schemas.now) VoidValue (ListType (seen_type c.in-List.element_type)) (value_of (lists_seen c.args.schemas.now) x (Left n) (ListType (seen_type c.in-List.element_type)))) c.get_pointer_element-in-List.ensures.tree c.get_pointer_element-in-List.ensures.levels
    ∙ ap (λ (v : TypeVariant). read_of (lists_seen c.args.schemas.now) VoidValue (seen_variant v) (element_read (lists_seen c.args.schemas.now) (list_of c.args.list.now) (list_levels c.args.list.now) (seen_variant v) c.args.index)) (sym c.in-List.is)))
