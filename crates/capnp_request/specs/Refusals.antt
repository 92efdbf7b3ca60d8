-- The kinds that a request is refused with.
use Rattle.std.specs.Prelude.{◌≡◌, ◌⊎◌, Bool, true, false}
use Rattle.capnp_device.specs.declared.error.ErrorKind.{ErrorKind}
use Rattle.capnp_device.specs.declared.error.ErrorKind.TheVariants.{BadPointer, CapabilityPointer, FloatType, InterfaceType, NameNotUtf8, NodeNotFound, OutOfMemory, TextNotTerminated, TooDeep, TooLarge, TooManyTypes, UnknownKind, WrongElementSize, WrongPointerKind}

-- those of memory, of reads, and of what a conversion looks at, whether floats and interfaces are refused or not
abbrev pub is_unstrict : ErrorKind → Bool
is_unstrict OutOfMemory = true
is_unstrict BadPointer = true
is_unstrict WrongPointerKind = true
is_unstrict WrongElementSize = true
is_unstrict TextNotTerminated = true
is_unstrict TooDeep = true
is_unstrict CapabilityPointer = true
is_unstrict TooLarge = true
is_unstrict UnknownKind = true
is_unstrict NameNotUtf8 = true
is_unstrict NodeNotFound = true
is_unstrict TooManyTypes = true
is_unstrict kind = false

abbrev pub IsUnstrict : ErrorKind → Type 0
IsUnstrict kind = is_unstrict kind ≡ true

-- and where that is asked for, those of floats and interfaces
abbrev pub IsRefusal : Bool → ErrorKind → Type 0
IsRefusal strict kind = IsUnstrict kind ⊎ ((strict ≡ true) × ((kind ≡ FloatType) ⊎ (kind ≡ InterfaceType)))
