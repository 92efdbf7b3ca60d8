-- An untyped pointer is its tree.
use Rattle.std.proofs.Common.{ap, sym, ◌∙◌}
use Rattle.capnp_base.specs.declared.introspect.TypeVariant.{TypeVariant}
use Rattle.capnp_wire.specs.Standing.{levels_of, tree_of}
use Rattle.capnp_schema.specs.Entries.{lists_seen}
use Rattle.capnp_schema.specs.Schema.{kind_default, seen_kind}
use Rattle.capnp_schema.specs.Types.{seen_type, seen_variant}
use Rattle.capnp_schema.specs.Facts.Layers.{elements_sized}
use Rattle.capnp_records.specs.Record as value
use Rattle.capnp_records.specs.Record.{Left}
use Rattle.capnp_dynamic_readers.specs.Reads.{pointer_read}
use Rattle.capnp_dynamic_readers.proofs.ListHandles.{handle_seen}
use Rattle.capnp_dynamic_readers.proofs.Pointed.{untyped_seen}
use Rattle.capnp_dynamic_readers.proofs.placed.read_pointer.Goals as goal

pub returns-in-AnyPointer-clause-value : goal.returns-in-AnyPointer-clause-value
returns-in-AnyPointer-clause-value c =
    ap (λ r. value.Untyped (tree_of r)) c.new-in-AnyPointer.ensures
    ∙ (untyped_seen (lists_seen c.args.schemas.now) (kind_default (seen_kind c.args.kind.now)) (tree_of c.args.pointer) (Left (levels_of c.args.pointer))
    ∙ ap (λ (v : TypeVariant). pointer_read (lists_seen c.args.schemas.now) (kind_default (seen_kind c.args.kind.now)) (seen_variant v) c.args.pointer) (sym c.in-AnyPointer.is))

pub returns-in_ok-reader-in-List-clause-value : goal.returns-in_ok-reader-in-List-clause-value
returns-in_ok-reader-in-List-clause-value c =
    handle_seen c.new-in-List.result (lists_seen c.args.schemas.now) c.in_ok-reader-in-List.reader c.in-List.element_type c.new-in-List.ensures.set c.new-in-List.ensures.reader c.new-in-List.ensures.element
    ∙ (c.in_ok-reader-in-List.ensures (lists_seen c.args.schemas.now) (seen_type c.in-List.element_type) (sym (c.expected_element_size-size.ensures ∙ elements_sized c.in-List.element_type))
    ∙ ap (λ (v : TypeVariant). pointer_read (lists_seen c.args.schemas.now) (kind_default (seen_kind c.args.kind.now)) (seen_variant v) c.args.pointer) (sym c.in-List.is))
