-- What is known of a number that was chosen. No contract of a public function stands on it.
use Rattle.std.specs.Prelude.{ℕ, ◌+◌, ◌*◌, ◌%◌, ◌<◌, ◌≤◌, ◌≡◌, ◌⊎◌}
use Rattle.capnp_floats.specs.declared.width.Width.{Width}
use Rattle.capnp_floats.specs.Nearest.{infinity_bits, least_numbers}

-- twice the middle between a number and the next, in so many parts
abbrev pub twice_middle : Width → ℕ → ℕ → ℕ
twice_middle w parts low = (least_numbers w low + least_numbers w (low + 1)) * parts

-- the greatest finite number that is at most a value in so many parts
pub record IsFloor (w : Width) (value parts low : ℕ) : Type 0 where
  pub finite : low < infinity_bits w
  pub at_most : least_numbers w low * parts ≤ value
  pub below : low + 1 < infinity_bits w → value < least_numbers w (low + 1) * parts

-- that number or the next, whichever is nearer
abbrev pub TakesNearer : Width → ℕ → ℕ → ℕ → ℕ → Type 0
TakesNearer w twice parts low bits =
    ((bits ≡ low) × ((twice < twice_middle w parts low) ⊎ ((twice ≡ twice_middle w parts low) × (low % 2 ≡ 0))))
    ⊎ ((bits ≡ low + 1) × ((twice_middle w parts low < twice) ⊎ ((twice ≡ twice_middle w parts low) × (low % 2 ≡ 1))))

pub record IsChosen (w : Width) (value parts bits : ℕ) : Type 0 where
  pub low : ℕ
  pub is_floor : IsFloor w value parts low
  pub takes : TakesNearer w (2 * value) parts low bits
