-- Values that stand in a data section, and what a slot takes of them: steps of the code.
use Rattle.std.specs.Prelude.{ℕ, ◌≡◌, Option, Some, None, Result, Ok, Err}
use Rattle.capnp_device.specs.declared.error.Error.{Error}
use Rattle.capnp_device.specs.declared.error.ErrorKind.{ErrorKind}
use Rattle.capnp_device.specs.declared.error.ErrorKind.TheVariants.{CannotSetAnyPointerFieldToAPrimitiveValue, TypeMismatch}
use Rattle.capnp_schema.specs.Schema.{Schemas}
use Rattle.capnp_schema.specs.Types.{SchemaType, AnyPointerType}
use Rattle.capnp_records.specs.Call.{Source}
use Rattle.capnp_records.specs.Given.{Given, Gives, Copies, CopiesGroup, Fails, given_slot}
use Rattle.capnp_records.specs.Facts.Numbers.{IsStored}
use Rattle.capnp_records.specs.Record.{Value}
use Rattle.capnp_records.specs.Writes.Overlay.{stored_number}

-- the number that a slot of a type stores of what is given at once, but for its default, or why it takes none
abbrev pub GivesNumber : SchemaType → Given → Result ℕ Error → Type 0
GivesNumber t (Gives v) (Ok n) = n ≡ stored_number t v
GivesNumber t (Gives v) (Err e) = ⊥
GivesNumber t (Copies source past v) r = ⊥
GivesNumber t (CopiesGroup l x b) r = ⊥
GivesNumber t (Fails kind) (Ok n) = ⊥
GivesNumber t (Fails kind) (Err e) = e.kind ≡ kind

-- what a slot of a type refuses a value of another kind with that no pointer stands for
abbrev pub refusal_at : SchemaType → ErrorKind
refusal_at AnyPointerType = CannotSetAnyPointerFieldToAPrimitiveValue
refusal_at t = TypeMismatch

-- the same number, or none where the slot refuses the value with that
abbrev pub GivesAtOnce : SchemaType → Given → Option ℕ → Type 0
GivesAtOnce t (Gives v) (Some n) = n ≡ stored_number t v
GivesAtOnce t (Gives v) None = ⊥
GivesAtOnce t (Copies source past v) r = ⊥
GivesAtOnce t (CopiesGroup l x b) r = ⊥
GivesAtOnce t (Fails kind) (Some n) = ⊥
GivesAtOnce t (Fails kind) None = kind ≡ refusal_at t

-- a value is given at once, and a slot of the type stores it as that number but for its default
pub record IsGivenAs (set : Schemas) (t : SchemaType) (s : Source) (n : ℕ) : Type 0 where
  pub value : Value
  pub given : given_slot set t s ≡ Gives value
  pub is_stored : IsStored t value
  pub number : n ≡ stored_number t value
