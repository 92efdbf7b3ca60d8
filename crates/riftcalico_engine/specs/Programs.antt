-- What the program did with its words: its status, and what it told on standard error.
use Rattle.std.specs.Prelude.{ℕ, ◌≡◌, ◌⊎◌, List, cond, Option, None, Some, Ok, Err, string_bytes}
use Rattle.capnp_device.specs.declared.error.ErrorKind.TheVariants.{OutOfMemory}
use Rattle.capnp_show_engine.specs.Command.{IsTold, refusal_line}
use Rattle.capnp_show_engine.specs.Opened.{AsksAmong}
use Rattle.riftcalico_core.specs.Faults.{old_file, place_file}
use Rattle.riftcalico_engine.specs.Files.{Opens}
use Rattle.riftcalico_engine.specs.Outputs.{IsFaultTold, Ran}
use Rattle.riftcalico_engine.specs.Places.{IsPlaceNamed, IsPlaceRun, Makes, Puts, Removes}
use Rattle.riftcalico_engine.specs.Runs.{IsRunFrom, run_paths}
use Rattle.riftcalico_engine.specs.declared.ended.Ended.TheVariants as ended
use Rattle.riftcalico_words.specs.Requests.{AskedRequest, WordFault}
use Rattle.riftcalico_words.specs.Tasks.{Task}
use Rattle.riftcalico_words.specs.Usage.{fault_text}

-- the exit status: 1 where a call, a message or a set was refused
abbrev pub status_of : Ran → ℕ
status_of (Ok (ended.Answered refused)) = cond refused 1 0
status_of (Ok (ended.Unreadable line)) = 2
status_of (Ok (ended.NamesMeet line)) = 1
status_of (Err x) = 1

-- why words ask for nothing was told; where there is no memory for that the refusal's number
abbrev pub IsMisuseTold : WordFault → (status : ℕ) → (errors errors' : Option (List ℕ)) → (failures failures' : ℕ) → Type 0
IsMisuseTold m status errors errors' failures failures' =
    ((status ≡ 2) × IsTold (fault_text m) errors errors' failures failures')
    ⊎ ((status ≡ 1) × IsTold (refusal_line OutOfMemory) errors errors' failures failures')

module _ {F : Type 0} (told : F → Option (List ℕ)) (tells : F → ℕ) where
  -- what a task came to was told, beside what was told of its answers
  abbrev pub IsRanTold : Task → Ran → (f f' : F) → Type 0
  IsRanTold t (Ok (ended.Answered refused)) f f' = f' ≡ f
  IsRanTold t (Ok (ended.Unreadable line)) f f' = IsTold (string_bytes line) (told f) (told f') (tells f) (tells f')
  IsRanTold t (Ok (ended.NamesMeet line)) f f' = IsTold (string_bytes line) (told f) (told f') (tells f) (tells f')
  IsRanTold t (Err x) f f' = IsFaultTold t x (told f) (told f') (tells f) (tells f')

module _ {O A N S W F : Type 0} (opens : Opens O A) (holds : A → Option (List ℕ)) (fails : A → ℕ)
    (makes : Makes O N) (puts : Puts O N) (removes : Removes O N) (holds_new : N → Option (List ℕ)) (fails_new : N → ℕ)
    (left : S → Option (List ℕ)) (reads : S → ℕ) (written : W → Option (List ℕ)) (writes : W → ℕ) (told : F → Option (List ℕ)) (tells : F → ℕ) where
  -- a task was done on standard input and output, or from the file of an older message, or on a file that is replaced, and then what that stands for was not touched
  abbrev pub IsRunAt : (place : Option (List ℕ)) → Task → (o o' : O) → (s s' : S) → (w w' : W) → (f f' : F) → Ran → Type 0
  IsRunAt None t o o' s s' w w' f f' r = IsRunFrom opens holds fails left reads written writes told tells (old_file t) t o o' s s' w w' f f' r
  IsRunAt (Some file) t o o' s s' w w' f f' r =
      (s' ≡ s) × (w' ≡ w) × IsPlaceRun opens holds fails makes puts removes holds_new fails_new told tells t file o o' f f' r

  -- a task came to something, which the status and what was told say
  pub record IsTaskDone (t : Task) (status : ℕ) (o o' : O) (s s' : S) (w w' : W) (f f' : F) : Type 0 where
    pub by : Ran
    pub mid : F
    pub ran : IsRunAt (place_file t) t o o' s s' w w' f mid by
    pub status_is : status ≡ status_of by
    pub ended : IsRanTold told tells t by mid f'

  -- no file was opened, nothing was read and nothing written
  abbrev pub IsUntouched : (o o' : O) → (s s' : S) → (w w' : W) → Type 0
  IsUntouched o o' s s' w w' = (o' ≡ o) × (s' ≡ s) × (w' ≡ w)

  -- What words ask for was done; or why they ask for nothing was told. There may be no memory for the words: that is told.
  abbrev pub IsProgramDone : AskedRequest → (status : ℕ) → (o o' : O) → (s s' : S) → (w w' : W) → (f f' : F) → Type 0
  IsProgramDone (Ok t) status o o' s s' w w' f f' =
      IsTaskDone t status o o' s s' w w' f f'
      ⊎ ((status ≡ 1) × IsTold (refusal_line OutOfMemory) (told f) (told f') (tells f) (tells f') × IsUntouched o o' s s' w w')
  IsProgramDone (Err m) status o o' s s' w w' f f' = IsMisuseTold m status (told f) (told f') (tells f) (tells f') × IsUntouched o o' s s' w w'

module _ {O A N : Type 0} (opens : Opens O A) (makes : Makes O N) (puts : Puts O N) (removes : Removes O N) where
  abbrev pub IsNamedAt : (place : Option (List ℕ)) → Task → (o o' : O) → Type 0
  IsNamedAt None t o o' = AsksAmong opens (run_paths t) o o'
  IsNamedAt (Some file) t o o' = IsPlaceNamed opens makes puts removes t file o o'

  -- no files were opened but those that a task names, and none made, replaced or removed but where it replaces one
  abbrev pub IsNamed : Task → (o o' : O) → Type 0
  IsNamed t o o' = IsNamedAt (place_file t) t o o'
