-- Writes by a field's plan alone.
use Rattle.std.specs.Prelude.{ℕ, ◌/◌, Option, Some, None}
use Rattle.capnp_wire.specs.Tree.{StructTree}
use Rattle.capnp_wire.specs.Edits.{with_bytes, with_number}

-- the union switched to a plan's member: its value stands in the discriminant
abbrev pub member_switched : Option (ℕ × ℕ) → StructTree → StructTree
member_switched None s = s
member_switched (Some m) s = with_bytes s (with_number 2 (m.0 / 16) m.1 s.bytes)
