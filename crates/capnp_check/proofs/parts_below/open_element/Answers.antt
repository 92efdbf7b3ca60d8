-- An element that is read opens as its value does; one that is not is refused with the fault of the list's element type.
use Rattle.std.proofs.Common.{ap, ◌∙◌}
use Rattle.capnp_base.specs.declared.introspect.«Type».{«Type» as TypeHandle}
use Rattle.capnp_schema.specs.Types.{seen_type}
use Rattle.capnp_dynamic_readers.specs.Steps.PartsRead.{fault_at}
use Rattle.capnp_check.proofs.OpenValues.{element_opened, element_unread}
use Rattle.capnp_check.proofs.parts_below.open_element.Goals as goal

pub returns-in-Ok : goal.returns-in-Ok
returns-in-Ok c = element_opened c.args.left c.args.list c.args.index c.in-Ok.value c.open_value.result c.open_value.ensures c.in-Ok.ensures.value c.in-Ok.ensures.under

pub returns-in-Err : goal.returns-in-Err
returns-in-Err c =
    element_unread c.args.left c.args.list c.args.index c.in-Err.error.kind c.refusal_at.result.kind
    (c.refusal_at.ensures ∙ ap (λ (z : TypeHandle). fault_at c.args.left (seen_type z) c.in-Err.error.kind) c.element_type.ensures) c.in-Err.ensures.value
