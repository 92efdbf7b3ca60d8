use Rattle.std.proofs.Common.{sym, ◌∙◌}
use Rattle.capnp_wire.specs.Facts.Indexed.{nth_struct_start, nth_struct_past}
use Rattle.capnp_wire.proofs.parts.block.get_element.Goals as goal

pub returns-then-index-elements : goal.returns-then-index-elements
returns-then-index-elements c = c.empty_parts.ensures ∙ sym (nth_struct_past _ _ _ _ c.if-index-elements.true)

pub returns : goal.returns
returns c = rw c.bytes_from.ensures (sym (nth_struct_start _ _ _ c.if-index-elements.false))
