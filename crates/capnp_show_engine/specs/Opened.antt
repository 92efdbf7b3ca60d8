-- Files that were opened.
use Rattle.std.specs.Prelude.{List, [], ◌∷◌, ℕ, ◌≡◌, ◌⊎◌, Result, Ok, Err, Option, Some, None}
use Rattle.capnp_device.specs.declared.device.DeviceFault.{DeviceFault}

-- an opener of one state opened the file at a path, and something is so of the file as it was then and as it was left
pub record IsFileOpened {O F : Type 0} (opens : O → List ℕ → Result F DeviceFault → O → Type 0) (old new : O) (path : List ℕ) (so : F → F → Type 0) : Type 0 where
  pub file : F
  pub left : F
  pub opened : opens old path (Ok file) new
  pub is_so : so file left

-- it was asked to, and could not
abbrev pub IsNotOpened : {O F : Type 0} → (opens : O → List ℕ → Result F DeviceFault → O → Type 0) → (old new : O) → (path : List ℕ) → Type 0
IsNotOpened opens old new path = (fault : DeviceFault) × opens old path (Err fault) new

-- the same of files of which nothing is said
pub record IsSomeFile {F : Type 0} (path : List ℕ) (so : F → F → Type 0) : Type 0 where
  pub file : F
  pub left : F
  pub is_so : so file left

-- it was asked to at a path, whether it could or not
pub record IsAsked {O F : Type 0} (opens : O → List ℕ → Result F DeviceFault → O → Type 0) (old new : O) (path : List ℕ) : Type 0 where
  pub answer : Result F DeviceFault
  pub opened : opens old path answer new

-- it was asked to at some of these paths, each once and in their order, and at no others
unfoldable pub AsksAmong : {O F : Type 0} → (opens : O → List ℕ → Result F DeviceFault → O → Type 0) → (paths : List (List ℕ)) → (old new : O) → Type 0
AsksAmong opens [] old new = new ≡ old
AsksAmong {O} opens (path ∷ paths) old new = AsksAmong opens paths old new ⊎ ((mid : O) × IsAsked opens old mid path × AsksAmong opens paths mid new)

-- the path of a file, where there is one
abbrev pub file_paths : Option (List ℕ) → List (List ℕ)
file_paths None = []
file_paths (Some path) = path ∷ []
