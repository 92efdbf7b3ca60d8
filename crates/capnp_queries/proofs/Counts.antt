-- A list has as many values as elements.
use Rattle.std.proofs.Common.{ℕ, ◌≡◌}
use Rattle.capnp_records.specs.Facts.ListValues.{count_values_from}
use Rattle.capnp_records.specs.Part.{value_count}
use Rattle.capnp_records.specs.Record.{Value, values_from}

pub elements_counted : (f : ℕ → Value) (a n : ℕ) → value_count (values_from f a n) ≡ n
elements_counted f a n = count_values_from f a n
