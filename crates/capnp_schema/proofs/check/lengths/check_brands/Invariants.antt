use Rattle.std.proofs.Common.{ℕ, ◌<◌}
use Rattle.capnp_schema.specs.Entries.{lists_seen}
use Rattle.capnp_schema.specs.Accepted.{BrandStands}
use Rattle.capnp_schema.proofs.check.lengths.check_brands.Given as goal

abbrev pub invariant-loop-brand : goal.invariant-loop-brand
invariant-loop-brand l = (b : ℕ) → b < l.brand → BrandStands (lists_seen l.lists) b
