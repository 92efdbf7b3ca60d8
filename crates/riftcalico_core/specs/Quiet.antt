-- An answer of which nothing is told.
use Rattle.std.specs.Prelude.{◌≡◌, [], false, string_bytes}
use Rattle.riftcalico_core.specs.declared.answer.Answer.{Answer}

-- nothing is told, and no call was refused
pub record IsQuiet (a : Answer) : Type 0 where
  pub told : string_bytes a.lines ≡ []
  pub refused : a.refused ≡ false
