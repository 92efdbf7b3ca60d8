-- Where a struct's discriminant stands.
use Rattle.std.specs.Prelude.{ℕ, zero, suc, ◌*◌, Option, Some, None}
use Rattle.capnp_schema.specs.Schema.{Node}

-- the first bit of what stands at an offset of so many 16 bits, where there are members
abbrev pub first_bit : (members offset : ℕ) → Option ℕ
first_bit zero offset = None
first_bit (suc more) offset = Some (16 * offset)

-- the first of the discriminant's 16 bits in the data section; nothing without a union
abbrev pub discriminant_of : Node → Option ℕ
discriminant_of n = first_bit n.discriminant_count n.discriminant_offset
