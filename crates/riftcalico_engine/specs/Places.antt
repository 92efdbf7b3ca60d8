-- A file whose messages are replaced by what is made of them. `makes` says what makes new files, `puts` what puts one in the
-- place of another, and `removes` what removes one.
use Rattle.std.specs.Prelude.{ℕ, ⊤, ◌≡◌, ◌⊎◌, ◌++◌, List, Bool, true, false, not, Option, Some, Result, Ok, Err, codes}
use Rattle.capnp_device.specs.declared.device.DeviceFault.{DeviceFault}
use Rattle.capnp_device.specs.declared.error.ErrorKind.TheVariants.{OutOfMemory, ReadFailed, WriteFailed}
use Rattle.capnp_show_engine.specs.Opened.{AsksAmong, IsNotOpened, file_paths}
use Rattle.riftcalico_core.specs.declared.fault.Blamed.TheVariants as blamed
use Rattle.riftcalico_engine.specs.Files.{Opens}
use Rattle.riftcalico_engine.specs.Outputs.{IsFault, Ran}
use Rattle.riftcalico_engine.specs.Runs.{IsRun, task_paths}
use Rattle.riftcalico_engine.specs.declared.ended.Ended.TheVariants as ended
use Rattle.riftcalico_words.specs.Tasks.{Task}

-- what a replacer of one state may answer, as `Replacer` has it
abbrev pub Makes : Type 0 → Type 0 → Type 1
Makes O N = O → List ℕ → List ℕ → Result N DeviceFault → O → Type 0

abbrev pub Puts : Type 0 → Type 0 → Type 1
Puts O N = O → N → List ℕ → List ℕ → Result ⊤ DeviceFault → O → Type 0

abbrev pub Removes : Type 0 → Type 0 → Type 1
Removes O N = O → N → List ℕ → O → Type 0

-- the path of the new file beside that at a path
abbrev pub new_path : List ℕ → List ℕ
new_path file = file ++ codes ".riftcalico-new"

-- all was answered, and no call or message refused
abbrev pub is_whole : Ran → Bool
is_whole (Ok (ended.Answered refused)) = not refused
is_whole (Ok (ended.Unreadable line)) = false
is_whole (Ok (ended.NamesMeet line)) = false
is_whole (Err x) = false

module _ {O N : Type 0} (puts : Puts O N) (removes : Removes O N) where
  -- The new file was put in the place of the old where a task came to its whole answer; where it couldn't be, that is a refusal. Else it was removed.
  abbrev pub IsPlaceEnded : (path file : List ℕ) → N → (by : Ran) → (o o' : O) → Ran → Type 0
  IsPlaceEnded path file n by o o' r =
      ((is_whole by ≡ false) × removes o n path o' × (r ≡ by))
      ⊎ (((is_whole by ≡ true) × puts o n path file (Ok (tt {0})) o' × (r ≡ by))
      ⊎ ((is_whole by ≡ true) × ((fault : DeviceFault) × puts o n path file (Err fault) o') × IsFault r (λ x. (x.blamed ≡ blamed.«Output») × (x.error.kind ≡ WriteFailed))))

module _ {O A N F : Type 0} (opens : Opens O A) (holds : A → Option (List ℕ)) (fails : A → ℕ)
    (makes : Makes O N) (puts : Puts O N) (removes : Removes O N) (holds_new : N → Option (List ℕ)) (fails_new : N → ℕ) (told : F → Option (List ℕ)) (tells : F → ℕ) where
  -- the new file was made, the task was done from the old file to it, and it ended
  pub record IsMadeRun (t : Task) (file : List ℕ) (source : A) (o o' : O) (f f' : F) (r : Ran) : Type 0 where
    pub new : N
    pub made : O
    pub is_made : makes o (new_path file) file (Ok new) made
    pub source_left : A
    pub new_left : N
    pub done : O
    pub by : Ran
    pub ran : IsRun opens holds fails holds fails holds_new fails_new told tells t made done source source_left new new_left f f' by
    pub is_ended : IsPlaceEnded puts removes (new_path file) file new_left by done o' r

  -- there was no memory for the new file's path; or the old file couldn't be opened; or the new one not be made; or it was
  abbrev pub IsPlaceRun : Task → (file : List ℕ) → (o o' : O) → (f f' : F) → Ran → Type 0
  IsPlaceRun t file o o' f f' r =
      (IsFault r (λ x. (x.blamed ≡ blamed.«Output») × (x.error.kind ≡ OutOfMemory)) × (o' ≡ o) × (f' ≡ f))
      ⊎ ((IsFault r (λ x. (x.blamed ≡ blamed.Input) × (x.error.kind ≡ ReadFailed)) × IsNotOpened opens o o' file × (f' ≡ f))
      ⊎ ((mid : O) × (source : A) × opens o file (Ok source) mid
      × ((IsFault r (λ x. (x.blamed ≡ blamed.«Output») × (x.error.kind ≡ WriteFailed)) × ((fault : DeviceFault) × makes mid (new_path file) file (Err fault) o') × (f' ≡ f))
      ⊎ IsMadeRun t file source mid o' f f' r)))

module _ {O A N : Type 0} (opens : Opens O A) (makes : Makes O N) (puts : Puts O N) (removes : Removes O N) where
  -- the new file of a path was asked for, or not
  abbrev pub IsMadeOrNot : (file : List ℕ) → (o o' : O) → Type 0
  IsMadeOrNot file o o' = (o' ≡ o) ⊎ ((answer : Result N DeviceFault) × makes o (new_path file) file answer o')

  -- it was put in its place or not, or removed; or there is none
  abbrev pub IsEndedOrNot : (file : List ℕ) → (o o' : O) → Type 0
  IsEndedOrNot file o o' = (o' ≡ o)
      ⊎ (((n : N) × (answer : Result ⊤ DeviceFault) × puts o n (new_path file) file answer o')
      ⊎ ((n : N) × removes o n (new_path file) o'))

  -- no file was opened but the one that is replaced and then those of the task, none made but the new one, and none else replaced or removed
  pub record IsPlaceNamed (t : Task) (file : List ℕ) (o o' : O) : Type 0 where
    pub asked : O
    pub made : O
    pub done : O
    pub place_asked : AsksAmong opens (file_paths (Some file)) o asked
    pub is_made : IsMadeOrNot file asked made
    pub task_asked : AsksAmong opens (task_paths t) made done
    pub is_ended : IsEndedOrNot file done o'
