-- The list is the read of the pointer.
use Rattle.std.proofs.Common.{ap, sym, ◌∙◌}
use Rattle.capnp_base.specs.declared.introspect.TypeVariant.{TypeVariant}
use Rattle.capnp_schema.specs.Entries.{lists_seen}
use Rattle.capnp_schema.specs.Types.{seen_type, seen_variant}
use Rattle.capnp_schema.specs.declared.value.Value.TheVariants as view
use Rattle.capnp_schema.specs.Facts.Layers.{elements_sized}
use Rattle.capnp_dynamic_readers.specs.Viewed.{view_read}
use Rattle.capnp_dynamic_readers.proofs.ListHandles.{handle_seen}
use Rattle.capnp_dynamic_readers.proofs.views.view_list.Goals as goal

pub returns-clause-value : goal.returns-clause-value
returns-clause-value c =
    handle_seen c.new.result (lists_seen c.args.schemas.now) c.in_ok-reader.reader c.in-List.element_type c.new.ensures.set c.new.ensures.reader c.new.ensures.element
    ∙ (c.in_ok-reader.ensures (lists_seen c.args.schemas.now) (seen_type c.in-List.element_type) (sym (c.expected_element_size-size.ensures ∙ elements_sized c.in-List.element_type))
    ∙ ap (λ (v : TypeVariant). view_read (lists_seen c.args.schemas.now) (view.List c.args.pointer) (seen_variant v)) (sym c.in-List.is))
