-- Limits as the code has them.
use Rattle.std.specs.Prelude.{ℕ, List, Result, Ok, Err}
use Rattle.std.specs.Borrow.{Bor}

abbrev pub limit_seen : Result ℕ (Bor (List ℕ)) → Result ℕ (List ℕ)
limit_seen (Ok limit) = Ok limit
limit_seen (Err word) = Err word.now
