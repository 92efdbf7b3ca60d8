-- The values of the code, as the definitions have them.
use Rattle.std.specs.Prelude.{ℕ, List, Option, Result, Ok, Err}
use Rattle.std.specs.Borrow.{Bor}
use Rattle.capnp_json_text.specs.Readings.{Rest}
use Rattle.capnp_json_text.specs.Texts.{Begun}
use Rattle.capnp_json_text.specs.declared.kinds.Bracket.{Bracket}

abbrev pub rest_seen : Result (Bor (List ℕ)) (Bor (List ℕ)) → Rest
rest_seen (Ok rest) = Ok rest.now
rest_seen (Err fault) = Err fault.now

abbrev pub begun_seen : Result (Option Bracket × Bor (List ℕ)) (Bor (List ℕ)) → Begun
begun_seen (Ok b) = Ok (b.0, b.1.now)
begun_seen (Err fault) = Err fault.now
