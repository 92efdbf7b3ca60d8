-- Where JSON values can't be read: steps of the code.
use Rattle.std.specs.Prelude.{ℕ, ◌≡◌}
use Rattle.capnp_from_json.specs.declared.error.Error.{Error as TextError}
use Rattle.capnp_from_json.specs.declared.error.Error.TheVariants.{OutOfMemory, Refused, TooLarge}

-- an error that tells a place
abbrev pub IsRefusedAt : TextError → ℕ → Type 0
IsRefusedAt (Refused r) place = place ≡ r.place
IsRefusedAt OutOfMemory place = ⊥
IsRefusedAt TooLarge place = ⊥
