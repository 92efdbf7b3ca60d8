-- The number is that of the part at the path.
use Rattle.std.proofs.Common.{ap, sym, ◌∙◌}
use Rattle.capnp_patch.specs.Gets.{value_part_seen}
use Rattle.capnp_queries.specs.Lengths.{reached_length}
use Rattle.capnp_queries.proofs.length.get_length.Goals as goal

pub returns-in-Err-clause-refused : goal.returns-in-Err-clause-refused
returns-in-Err-clause-refused c = (sym c.in-Err.ensures.reached, c.in-Err.ensures.place, c.in-Err.ensures.way)

pub returns-in-Ok-count_elements-clause-length : goal.returns-in-Ok-count_elements-clause-length
returns-in-Ok-count_elements-clause-length c = ap reached_length (sym c.in-Ok.ensures.reached) ∙ sym c.in-Ok-count_elements.ensures

pub returns-in-Err-count_elements-clause-refused : goal.returns-in-Err-count_elements-clause-refused
returns-in-Err-count_elements-clause-refused c = (value_part_seen c.in-Ok.value, sym c.in-Ok.ensures.reached, sym c.in-Err-count_elements.ensures)
