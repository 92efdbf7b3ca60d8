-- Elements that are no structs, and structs.
use Rattle.capnp_slots.proofs.NewLists.{is_simple}
use Rattle.capnp_schema.specs.Entries.{lists_seen}
use Rattle.capnp_edits.proofs.added.new_elements.Goals as goal

pub new_plain-requires : goal.new_plain-requires
new_plain-requires c = (is_simple (lists_seen c.args.schemas.now) c.args.count c.args.element c.which.result _ c.which.ensures c.expected_element_size.ensures c.in_default.not-Struct).simple
