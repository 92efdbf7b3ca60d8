use Rattle.std.proofs.Common.{◌≡◌}
use Rattle.capnp_schema.specs.Entries.{lists_seen}
use Rattle.capnp_schema.specs.Types.{seen_type}
use Rattle.capnp_diffs.proofs.NumbersFound.{number_rows}
use Rattle.capnp_diffs.proofs.RowsFound.{changes_left}
use Rattle.capnp_diffs.proofs.lists.are_same_numbers.Given as goal

abbrev pub invariant-loop-index : goal.invariant-loop-index
invariant-loop-index l = number_rows (lists_seen l.fn.schemas) (seen_type l.fn.element) l.fn.old l.fn.new ≡ changes_left (lists_seen l.fn.schemas) (seen_type l.fn.element) l.fn.old l.fn.new l.index
