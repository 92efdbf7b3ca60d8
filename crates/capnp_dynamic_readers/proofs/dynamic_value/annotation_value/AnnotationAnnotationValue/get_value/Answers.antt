-- The view of the value stands for it.
use Rattle.std.proofs.Common.{ap, ◌∙◌}
use Rattle.capnp_schema.specs.AnnotationLists.{annotation_in, annotation_set}
use Rattle.capnp_schema.specs.Schema.{Schemas}
use Rattle.capnp_schema.specs.Types.{seen_type}
use Rattle.capnp_dynamic_readers.specs.Viewed.{view_read}
use Rattle.capnp_dynamic_readers.proofs.StoredValues.{view_is_stored}
use Rattle.capnp_dynamic_readers.proofs.dynamic_value.annotation_value.AnnotationAnnotationValue.get_value.Goals as goal

pub returns : goal.returns
returns c =
    c.new.ensures.value
    ∙ (ap (λ (z : Schemas). view_read z c.get_value_view.result (seen_type c.get_type.result)) c.get_set.ensures
    ∙ (ap (view_read (annotation_set c.args.self) c.get_value_view.result) c.get_type.ensures.is
    ∙ view_is_stored (annotation_set c.args.self) (annotation_in c.args.self).annotation.value c.get_value_view.result (annotation_in c.args.self).type c.get_value_view.ensures))
