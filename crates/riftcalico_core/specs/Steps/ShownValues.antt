-- Where printed values can't be read: steps of the code.
use Rattle.std.specs.Prelude.{ℕ, ◌≡◌, ◌≢◌}
use Rattle.capnp_device.specs.declared.error.ErrorKind.TheVariants as kind
use Rattle.capnp_value_texts.specs.declared.error.Error.{Error as TextError}
use Rattle.capnp_value_texts.specs.declared.error.Error.TheVariants.{NotMade, OutOfMemory, Refused}

-- an error that tells a place: that of what is refused, or the first byte's where no call can make it
abbrev pub IsPlaceOf : TextError → (first place : ℕ) → Type 0
IsPlaceOf (Refused r) first place = place ≡ r.place
IsPlaceOf (NotMade k) first place = (place ≡ first) × (k ≢ kind.OutOfMemory)
IsPlaceOf OutOfMemory first place = ⊥
