-- The value printed is the message's root under the brand, so its text is the text shown.
-- Its refusals are those of a read text, and none is a device's.
use Rattle.capnp_wire.specs.Message.{received_tree}
use Rattle.capnp_wire.specs.Standing.{levels_of, tree_of}
use Rattle.capnp_schema.specs.Entries.{lists_seen}
use Rattle.capnp_show_engine.specs.Show.{shown_text}
use Rattle.capnp_show_engine.proofs.Outcomes.{each_refusal}
use Rattle.capnp_show_engine.proofs.Shown.{text_seen}
use Rattle.capnp_show_engine.proofs.TextFaults.{of_no_device, shown_by_read}
use Rattle.capnp_show_engine.proofs.engine.print_first_message.Goals as goal

pub returns-clause-printed : goal.returns-clause-printed
returns-clause-printed c =
    let text = text_seen (lists_seen c.args.schemas.now) c.args.brand c.args.indented c.args.bytes.now (received_tree c.in_ok-reader.reader)
    (tree_of c.get_root.result) (levels_of c.get_root.result) c.new-value.result c.struct_schema.result c.in_ok-root.root
    (record { received = c.in_ok-reader.ensures; at_root = c.get_root.ensures.tree; limit = c.get_root.ensures.levels; read = c.in_ok-root.ensures.read; levels = c.in_ok-root.ensures.levels })
    (record { schema = c.new-value.ensures.schema; reader = c.new-value.ensures.reader; stands = c.struct_schema.ensures.stands c.requires; in_set = c.struct_schema.ensures.set; number = c.struct_schema.ensures.number }) in
    rw text at c.print.ensures.printed

pub returns-clause-refused : goal.returns-clause-refused
returns-clause-refused c =
    let text = text_seen (lists_seen c.args.schemas.now) c.args.brand c.args.indented c.args.bytes.now (received_tree c.in_ok-reader.reader)
    (tree_of c.get_root.result) (levels_of c.get_root.result) c.new-value.result c.struct_schema.result c.in_ok-root.root
    (record { received = c.in_ok-reader.ensures; at_root = c.get_root.ensures.tree; limit = c.get_root.ensures.levels; read = c.in_ok-root.ensures.read; levels = c.in_ok-root.ensures.levels })
    (record { schema = c.new-value.ensures.schema; reader = c.new-value.ensures.reader; stands = c.struct_schema.ensures.stands c.requires; in_set = c.struct_schema.ensures.set; number = c.struct_schema.ensures.number }) in
    rw text at c.print.ensures.refused

pub returns-clause-of_no_device : goal.returns-clause-of_no_device
returns-clause-of_no_device c =
    let sound = shown_by_read (lists_seen c.args.schemas.now) c.args.brand c.args.indented c.args.bytes.now (received_tree c.in_ok-reader.reader) c.in_ok-reader.ensures in
    each_refusal c.print.result (λ e h. of_no_device (shown_text (lists_seen c.args.schemas.now) c.args.brand c.args.indented c.args.bytes.now) e.kind sound h) (returns-clause-refused c)
