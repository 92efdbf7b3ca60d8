-- The natural that is kept as a number, or in places.
use Rattle.std.specs.Prelude.{ℕ}
use Rattle.capnp_floats.specs.declared.natural.Kept.{Kept}
use Rattle.capnp_floats.specs.declared.natural.Kept.TheVariants.{Few, Many}

abbrev pub natural_kept : Kept → ℕ
natural_kept (Few n) = n
natural_kept (Many n) = n
