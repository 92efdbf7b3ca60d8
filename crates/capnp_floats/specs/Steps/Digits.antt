-- Digits of any number, of which 800 are kept. No contract of a public function stands on them.
use Rattle.std.specs.Prelude.{ℕ, ◌+◌, ◌-◌, ◌*◌, ◌^◌, ◌<◌, ◌≤◌, ◌≡◌, ◌⊎◌, true, false}
use Rattle.capnp_floats.specs.declared.digits.Digits.{Digits}

-- a number, or one in its place where both reach a limit
abbrev pub IsCapped : (limit found number : ℕ) → Type 0
IsCapped limit n m = (n ≡ m) ⊎ ((limit ≤ n) × (limit ≤ m))

-- the digits that are kept are the first, from one that is not 0
pub record AreDigits (s : Digits) : Type 0 where
  pub small : s.front < 10 ^ s.count
  pub large : 0 < s.count → 10 ^ (s.count - 1) ≤ s.front
  pub few : s.count ≤ 800
  pub full : 0 < s.cut → s.count ≡ 800

-- the natural of all digits
pub record HoldsDigits (s : Digits) (n : ℕ) : Type 0 where
  pub rest : ℕ
  pub value : n ≡ s.front * 10 ^ s.cut + rest
  pub less : rest < 10 ^ s.cut
  pub none_more : s.more ≡ false → rest ≡ 0
  pub some_more : s.more ≡ true → 0 < rest
