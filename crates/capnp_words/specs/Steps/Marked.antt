-- Floats among values: steps of the code.
use Rattle.std.specs.Prelude.{ℕ}
use Rattle.capnp_floats.specs.declared.width.Width.{Width}
use Rattle.capnp_floats.specs.declared.width.Width.TheVariants.{Float32, Float64}

-- how many bytes hold one
abbrev pub float_bytes : Width → ℕ
float_bytes Float32 = 4
float_bytes Float64 = 8
