-- What decides what becomes of a file that is replaced, before anything is asked of files.
use Rattle.std.specs.Prelude.{ℕ, ⊤, ◌≡◌, List, Option, Some, None, Result, Ok, Err, string_bytes}
use Rattle.capnp_device.specs.declared.device.DeviceFault.{DeviceFault}
use Rattle.capnp_device.specs.declared.error.ErrorKind.{ErrorKind}
use Rattle.capnp_device.specs.declared.error.ErrorKind.TheVariants.{ReadFailed, WriteFailed}
use Rattle.riftcalico_core.specs.declared.fault.Blamed.TheVariants as blamed
use Rattle.riftcalico_engine.specs.Outputs.{IsFault, Ran}
use Rattle.riftcalico_engine.specs.Places.{new_path}
use Rattle.riftcalico_engine.specs.declared.place.Place.{Place}

-- there is a file that is replaced
abbrev pub HasPlace : Option (List ℕ) → Type 0
HasPlace (Some file) = ⊤
HasPlace None = ⊥

-- this is the file that is replaced, with the path of the new one; or there is none
abbrev pub IsPlaceOf : Option (List ℕ) → Option Place → Type 0
IsPlaceOf (Some file) (Some p) = (p.file.now ≡ file) × (string_bytes p.path ≡ new_path file)
IsPlaceOf None None = ⊤
IsPlaceOf (Some file) None = ⊥
IsPlaceOf None (Some p) = ⊥

-- the old file can't be opened
abbrev pub IsUnread : Ran → Type 0
IsUnread r = IsFault r (λ x. (x.blamed ≡ blamed.Input) × (x.error.kind ≡ ReadFailed))

-- the new one can't be made or put in its place, for this
abbrev pub IsUnwritten : ErrorKind → Ran → Type 0
IsUnwritten kind r = IsFault r (λ x. (x.blamed ≡ blamed.«Output») × (x.error.kind ≡ kind))

-- what a task came to whose new file was put in the place of the old, or couldn't be
abbrev pub IsPlaced : (by : Ran) → Result ⊤ DeviceFault → Ran → Type 0
IsPlaced by (Ok x) r = r ≡ by
IsPlaced by (Err fault) r = IsUnwritten WriteFailed r
