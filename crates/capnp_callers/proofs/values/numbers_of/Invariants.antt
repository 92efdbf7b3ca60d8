-- So many numbers are read as elements were given.
use Rattle.std.specs.Prelude.{◌≤◌, ◌≡◌, length}
use Rattle.capnp_base.specs.IndexIter.{source, to_come}
use Rattle.capnp_base.specs.Taking.{indices}
use Rattle.capnp_callers.specs.Values.{AreFirstOf, built_count}
use Rattle.capnp_callers.proofs.values.numbers_of.Given as goal

abbrev pub invariant-loop-element : goal.invariant-loop-element
invariant-loop-element l =
    (source l.element-iterator ≡ l.fn.list) × (to_come l.element-iterator ≡ indices (length l.numbers.items) (built_count l.fn.list))
    × (length l.numbers.items ≤ built_count l.fn.list) × AreFirstOf l.fn.list l.numbers.items
