-- What was done for a task, stage by stage. A stage stopped, or it came to something and the next one began. Of the streams
-- `s`, `w` and `f` are the message's source, the sink of what is written and that of what is told, each before and after.
use Rattle.std.specs.Prelude.{ℕ, ◌≡◌, ◌⊎◌, ◌++◌, List, [], Bool, true, false, Option, None, Some, Ok, Err}
use Rattle.capnp_device.specs.Device.{HasFailed}
use Rattle.capnp_device.specs.declared.error.ErrorKind.{ErrorKind}
use Rattle.capnp_device.specs.declared.error.ErrorKind.TheVariants.{OutOfMemory, ReadFailed}
use Rattle.capnp_schema.specs.Schema.{Schemas}
use Rattle.capnp_show_engine.specs.Opened.{IsNotOpened, file_paths}
use Rattle.capnp_show_engine.specs.Show.{IsRead}
use Rattle.riftcalico_core.specs.Faults.{old_file, task_set_file}
use Rattle.riftcalico_core.specs.Jobs.{IsJob, IsLineOfPlan, IsRootUnnamed, IsNoSetOf, IsSetOfFile, is_packed, wants_input}
use Rattle.riftcalico_core.specs.Names.{names_line}
use Rattle.riftcalico_core.specs.Plans.{Plan, calls_file, plan_limit, task_plan}
use Rattle.riftcalico_core.specs.declared.fault.Blamed.TheVariants as blamed
use Rattle.riftcalico_core.specs.declared.job.Job.{Job}
use Rattle.riftcalico_engine.specs.Files.{IsFileRead, IsFileUnread, Opens}
use Rattle.riftcalico_engine.specs.Outputs.{HasMetNames, IsAnsweredTo, IsFault, IsUnreadable, Ran}
use Rattle.riftcalico_engine.specs.Streams.{IsMessagesRead}
use Rattle.riftcalico_words.specs.Tasks.{Task, task_messages}
use Rattle.riftcalico_words.specs.declared.request.Messages.{Messages}
use Rattle.riftcalico_words.specs.declared.request.Messages.TheVariants as messages

-- the files that a task may open, in their order
abbrev pub task_paths : Task → List (List ℕ)
task_paths t = file_paths (calls_file t) ++ file_paths (task_set_file t)

-- the same, with that of an older message, which is opened first
abbrev pub run_paths : Task → List (List ℕ)
run_paths t = file_paths (old_file t) ++ task_paths t

-- ---- the answer to a message's bytes ----

-- these are the message's bytes, read to the end, or none is wanted, and then nothing was read
abbrev pub IsInputRead : (wanted : Bool) → (untouched : Type 0) → (left left' : Option (List ℕ)) → (bytes : List ℕ) → Type 0
IsInputRead true untouched left left' bytes = IsRead bytes left left'
IsInputRead false untouched left left' bytes = untouched × (bytes ≡ [])

-- a read failed, or there was no memory for what was read
abbrev pub IsInputUnread : (wanted : Bool) → (reads reads' : ℕ) → ErrorKind → Type 0
IsInputUnread true reads reads' kind = ((kind ≡ ReadFailed) × HasFailed reads reads') ⊎ (kind ≡ OutOfMemory)
IsInputUnread false reads reads' kind = ⊥

module _ {S W F : Type 0} (left : S → Option (List ℕ)) (reads : S → ℕ) (written : W → Option (List ℕ)) (writes : W → ℕ) (told : F → Option (List ℕ)) (tells : F → ℕ) where
  -- the message was read, if one is wanted, and answered to
  abbrev pub IsSingleRun : Job → (s s' : S) → (w w' : W) → (f f' : F) → Ran → Type 0
  IsSingleRun j s s' w w' f f' r =
      (IsFault r (λ x. (x.blamed ≡ blamed.Input) × IsInputUnread (wants_input j) (reads s) (reads s') x.error.kind) × (w' ≡ w) × (f' ≡ f))
      ⊎ ((bytes : List ℕ) × IsInputRead (wants_input j) (s' ≡ s) (left s) (left s') bytes × IsAnsweredTo written writes told tells j None bytes w w' f f' r)

  -- the message or the messages that are meant were read and answered to
  abbrev pub IsMessagesRun : Messages → Task → Job → (s s' : S) → (w w' : W) → (f f' : F) → Ran → Type 0
  IsMessagesRun messages.First t j s s' w w' f f' r = IsSingleRun j s s' w w' f f' r
  IsMessagesRun messages.Each t j s s' w w' f f' r = IsMessagesRead left reads written writes told tells (is_packed j) t j false s s' w w' f f' r
  IsMessagesRun messages.EachGoing t j s s' w w' f f' r = IsMessagesRead left reads written writes told tells (is_packed j) t j true s s' w w' f f' r

  abbrev pub IsJobRun : Task → Job → (s s' : S) → (w w' : W) → (f f' : F) → Ran → Type 0
  IsJobRun t j s s' w w' f f' r = IsMessagesRun (task_messages t) t j s s' w w' f f' r

  -- no message was read, and nothing written or told
  abbrev pub IsIdle : (s s' : S) → (w w' : W) → (f f' : F) → Type 0
  IsIdle s s' w w' f f' = (s' ≡ s) × (w' ≡ w) × (f' ≡ f)

  -- where JSON is asked for no names meet, the struct of the root is in the set, and the values of calls can be read
  abbrev pub IsUnderSchemas : Task → Plan → Schemas → (s s' : S) → (w w' : W) → (f f' : F) → Ran → Type 0
  IsUnderSchemas t p set s s' w w' f f' r =
      (HasMetNames r (names_line p set) × IsIdle s s' w w' f f')
      ⊎ ((IsFault r (λ x. (x.blamed ≡ blamed.Name) × ((x.error.kind ≡ OutOfMemory) ⊎ ((names_line p set ≡ None) × IsRootUnnamed p set x))) × IsIdle s s' w w' f f')
      ⊎ ((IsUnreadable r (λ line. IsLineOfPlan p set line) × IsIdle s s' w w' f f')
      ⊎ ((j : Job) × (names_line p set ≡ None) × IsJob p set j × IsJobRun t j s s' w w' f f' r)))

  -- the bytes of its file give the set within the plan's limit, or it is the built-in one
  abbrev pub IsSetRun : Task → (file : Option (List ℕ)) → (bytes : List ℕ) → Plan → (s s' : S) → (w w' : W) → (f f' : F) → Ran → Type 0
  IsSetRun t file bytes p s s' w w' f f' r =
      (IsFault r (λ x. (x.blamed ≡ blamed.«Set») × ((x.error.kind ≡ OutOfMemory) ⊎ IsNoSetOf (plan_limit p) file bytes x.error)) × IsIdle s s' w w' f f')
      ⊎ ((set : Schemas) × IsSetOfFile (plan_limit p) file bytes set × IsUnderSchemas t p set s s' w w' f f' r)

module _ {O A S W F : Type 0} (opens : Opens O A) (holds : A → Option (List ℕ)) (fails : A → ℕ)
    (left : S → Option (List ℕ)) (reads : S → ℕ) (written : W → Option (List ℕ)) (writes : W → ℕ) (told : F → Option (List ℕ)) (tells : F → ℕ) where
  -- the file of the set was read, if one is named
  abbrev pub IsPlanRun : Task → (file : Option (List ℕ)) → Plan → (o o' : O) → (s s' : S) → (w w' : W) → (f f' : F) → Ran → Type 0
  IsPlanRun t file p o o' s s' w w' f f' r =
      (IsFault r (λ x. (x.blamed ≡ blamed.«Set») × IsFileUnread opens fails o o' file x.error.kind) × IsIdle left reads written writes told tells s s' w w' f f')
      ⊎ ((bytes : List ℕ) × IsFileRead opens holds o o' file bytes × IsSetRun left reads written writes told tells t file bytes p s s' w w' f f' r)

  -- the words can be read; where one can't be, no set was opened
  abbrev pub IsWordsRun : Task → (calls : List ℕ) → (o o' : O) → (s s' : S) → (w w' : W) → (f f' : F) → Ran → Type 0
  IsWordsRun t calls o o' s s' w w' f f' r =
      (IsFault r (λ x. (x.blamed ≡ blamed.Calls) × (x.error.kind ≡ OutOfMemory)) × (o' ≡ o) × IsIdle left reads written writes told tells s s' w w' f f')
      ⊎ ((IsUnreadable r (λ line. task_plan t calls ≡ Err line) × (o' ≡ o) × IsIdle left reads written writes told tells s s' w w' f f')
      ⊎ ((p : Plan) × (task_plan t calls ≡ Ok p) × IsPlanRun t (task_set_file t) p o o' s s' w w' f f' r))

  -- the file of the calls was read, if one is named
  abbrev pub IsRun : Task → (o o' : O) → (s s' : S) → (w w' : W) → (f f' : F) → Ran → Type 0
  IsRun t o o' s s' w w' f f' r =
      (IsFault r (λ x. (x.blamed ≡ blamed.Calls) × IsFileUnread opens fails o o' (calls_file t) x.error.kind) × IsIdle left reads written writes told tells s s' w w' f f')
      ⊎ ((mid : O) × (calls : List ℕ) × IsFileRead opens holds o mid (calls_file t) calls × IsWordsRun t calls mid o' s s' w w' f f' r)

module _ {O A W F : Type 0} (opens : Opens O A) (holds : A → Option (List ℕ)) (fails : A → ℕ)
    (written : W → Option (List ℕ)) (writes : W → ℕ) (told : F → Option (List ℕ)) (tells : F → ℕ) where
  -- the file of an older message couldn't be opened; or it was, and what is done was done from it
  abbrev pub IsRunOf : (path : List ℕ) → Task → (o o' : O) → (w w' : W) → (f f' : F) → Ran → Type 0
  IsRunOf path t o o' w w' f f' r =
      (IsFault r (λ x. (x.blamed ≡ blamed.Input) × (x.error.kind ≡ ReadFailed)) × IsNotOpened opens o o' path × (w' ≡ w) × (f' ≡ f))
      ⊎ ((mid : O) × (source : A) × (source' : A) × opens o path (Ok source) mid × IsRun opens holds fails holds fails written writes told tells t mid o' source source' w w' f f' r)

module _ {O A S W F : Type 0} (opens : Opens O A) (holds : A → Option (List ℕ)) (fails : A → ℕ)
    (left : S → Option (List ℕ)) (reads : S → ℕ) (written : W → Option (List ℕ)) (writes : W → ℕ) (told : F → Option (List ℕ)) (tells : F → ℕ) where
  -- from the file of an older message, where one is named, and else from the source; what is not read from is not touched
  abbrev pub IsRunFrom : (file : Option (List ℕ)) → Task → (o o' : O) → (s s' : S) → (w w' : W) → (f f' : F) → Ran → Type 0
  IsRunFrom None t o o' s s' w w' f f' r = IsRun opens holds fails left reads written writes told tells t o o' s s' w w' f f' r
  IsRunFrom (Some path) t o o' s s' w w' f f' r = (s' ≡ s) × IsRunOf opens holds fails written writes told tells path t o o' w w' f f' r
