-- The natural of a row of digits to the base 2^32, lowest first.
use Rattle.std.specs.Prelude.{ℕ, ◌+◌, ◌*◌, ◌^◌, List, [], ◌∷◌}

unfoldable pub natural_of : List ℕ → ℕ
natural_of [] = 0
natural_of (x ∷ row) = x + 2 ^ 32 * natural_of row

-- the naturals that 36 such digits hold are below this
unfoldable pub room : ℕ
room = 2 ^ 1152

-- and those that 192 hold below this
unfoldable pub large_room : ℕ
large_room = 2 ^ 6144
