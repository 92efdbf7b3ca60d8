-- Files that a task names. What opens them is said by `opens`, what a file has left by `holds`, and its failures by `fails`.
use Rattle.std.specs.Prelude.{ℕ, ◌≡◌, ◌⊎◌, ⊤, List, [], Option, Some, None, Result}
use Rattle.capnp_device.specs.Device.{HasFailed}
use Rattle.capnp_device.specs.declared.device.DeviceFault.{DeviceFault}
use Rattle.capnp_device.specs.declared.error.ErrorKind.{ErrorKind}
use Rattle.capnp_device.specs.declared.error.ErrorKind.TheVariants.{OutOfMemory, ReadFailed}
use Rattle.capnp_show_engine.specs.Opened.{IsFileOpened, IsNotOpened}
use Rattle.capnp_show_engine.specs.Show.{IsRead}

-- what an opener of one state may answer, as `Opener` has it
abbrev pub Opens : Type 0 → Type 0 → Type 1
Opens O F = O → List ℕ → Result F DeviceFault → O → Type 0

-- the file at a path was opened, and these bytes read to its end; or none is named, and none was opened
abbrev pub IsFileRead : {O F : Type 0} → Opens O F → (holds : F → Option (List ℕ)) → (old new : O) → (path : Option (List ℕ)) → (bytes : List ℕ) → Type 0
IsFileRead opens holds old new None bytes = (new ≡ old) × (bytes ≡ [])
IsFileRead opens holds old new (Some path) bytes = IsFileOpened opens old new path (λ f f'. IsRead bytes (holds f) (holds f'))

-- it could not be opened, a read of it failed, or there was no memory for its bytes
abbrev pub IsFileUnread : {O F : Type 0} → Opens O F → (fails : F → ℕ) → (old new : O) → (path : Option (List ℕ)) → ErrorKind → Type 0
IsFileUnread opens fails old new None kind = ⊥
IsFileUnread opens fails old new (Some path) kind =
    ((kind ≡ ReadFailed) × (IsNotOpened opens old new path ⊎ IsFileOpened opens old new path (λ f f'. HasFailed (fails f) (fails f'))))
    ⊎ ((kind ≡ OutOfMemory) × IsFileOpened opens old new path (λ _ _. ⊤))
