-- The members of a value that stand in its data section, or that it lacks.
use Rattle.std.specs.Prelude.{ℕ, ◌≢◌}

pub record IsDataMember (m : ℕ) : Type 0 where
  pub text : m ≢ 12
  pub blob : m ≢ 13
  pub list : m ≢ 14
  pub inner : m ≢ 16
  pub interface : m ≢ 17
  pub untyped : m ≢ 18
