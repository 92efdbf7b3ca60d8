-- The values of the code, as the definitions have them.
use Rattle.std.specs.Prelude.{ℕ, List, Bool, Result, Ok, Err}
use Rattle.std.specs.Borrow.{Bor}
use Rattle.capnp_json_text.specs.Strings.{CharacterRead}

abbrev pub character_seen : Result (Bool × Bor (List ℕ)) (Bor (List ℕ)) → CharacterRead
character_seen (Ok c) = Ok (c.0, c.1.now)
character_seen (Err fault) = Err fault.now
