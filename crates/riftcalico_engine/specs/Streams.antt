-- What was done to messages that follow one another: each was answered to, until one ended it or none was left.
use Rattle.std.specs.Prelude.{ℕ, suc, ◌≡◌, ◌≢◌, ◌⊎◌, ◌++◌, ◌^◌, ◌||◌, List, [], ◌∷◌, All, Bool, true, false, ⊤, Option, Some, Ok, Err, length}
use Rattle.std.specs.Io.KnownBytes.{Consumes}
use Rattle.capnp_device.specs.Device.{HasFailed}
use Rattle.capnp_device.specs.declared.error.ErrorKind.{ErrorKind}
use Rattle.capnp_device.specs.declared.error.ErrorKind.TheVariants.{OutOfMemory, ReadFailed, TooLarge, WriteFailed}
use Rattle.std.specs.Option.{option_map}
use Rattle.capnp_packed.specs.Unpacking.{unpacked_bytes}
use Rattle.capnp_streams.specs.Lengths.{message_length}
use Rattle.capnp_streams.specs.Next.{IsNextRead, IsNextRefused, IsNoneLeft}
use Rattle.riftcalico_core.specs.Jobs.{reads_texts}
use Rattle.riftcalico_core.specs.declared.fault.Blamed.TheVariants as blamed
use Rattle.riftcalico_core.specs.declared.job.Job.{Job}
use Rattle.riftcalico_engine.specs.Outputs.{IsAnswered, IsMessageAnsweredTo, IsFault, IsFaultOf, IsFaultTold, Ran}
use Rattle.capnp_streams.specs.Texts.{AreTextsRead}
use Rattle.riftcalico_engine.specs.declared.ended.Ended.TheVariants as ended
use Rattle.riftcalico_words.specs.Tasks.{Task}

-- Behind a message the next one is taken: it was answered, and no call was refused or that doesn't count; or it was refused, which is told and doesn't count. A write that
-- failed ends it.
abbrev pub IsGoneOn : {F : Type 0} → (told : F → Option (List ℕ)) → (tells : F → ℕ) → Task → (going : Bool) → Ran → (f f' : F) → (refused : Bool) → Type 0
IsGoneOn told tells t going (Ok (ended.Answered x)) f f' refused = (f' ≡ f) × (refused ≡ x) × (x ≡ true → going ≡ true)
IsGoneOn told tells t going (Ok (ended.Unreadable line)) f f' refused = ⊥
IsGoneOn told tells t going (Ok (ended.NamesMeet line)) f f' refused = ⊥
IsGoneOn told tells t going (Err x) f f' refused =
    (going ≡ true) × (refused ≡ true) × (x.fault.error.kind ≢ WriteFailed) × IsFaultTold t x (told f) (told f') (tells f) (tells f')

-- or it isn't
abbrev pub IsStopped : (going : Bool) → Ran → Type 0
IsStopped going (Ok (ended.Answered x)) = (x ≡ true) × (going ≡ false)
IsStopped going (Ok (ended.Unreadable line)) = ⊤
IsStopped going (Ok (ended.NamesMeet line)) = ⊤
IsStopped going (Err x) = (going ≡ false) ⊎ (x.fault.error.kind ≡ WriteFailed)

-- a message was answered to, and the next one is taken
pub record IsPassed {W F : Type 0} (written : W → Option (List ℕ)) (writes : W → ℕ) (told : F → Option (List ℕ)) (tells : F → ℕ) (t : Task) (j : Job) (going : Bool)
    (number : ℕ) (bytes : List ℕ) (w w' : W) (f f' : F) (refused : Bool) : Type 0 where
  pub by : Ran
  pub mid : F
  pub answered : IsMessageAnsweredTo written writes told tells j (Some number) bytes w w' f mid by
  pub gone_on : IsGoneOn told tells t going by mid f' refused

-- these messages were, one after another, from the first on
pub data ArePassed {W F : Type 0} (written : W → Option (List ℕ)) (writes : W → ℕ) (told : F → Option (List ℕ)) (tells : F → ℕ) (t : Task) (j : Job) (going : Bool) :
    List (List ℕ) → W → W → F → F → Bool → Type 0 where
  none_passed : (w : W) (f : F) → ArePassed written writes told tells t j going [] w w f f false
  one_more : (ms : List (List ℕ)) (m : List ℕ) (w w' w'' : W) (f f' f'' : F) (some one : Bool) → ArePassed written writes told tells t j going ms w w' f f' some
      → IsPassed written writes told tells t j going (suc (length ms)) m w' w'' f' f'' one → ArePassed written writes told tells t j going (ms ++ m ∷ []) w w'' f f'' (some || one)

-- the bytes of messages
abbrev pub joined : List (List ℕ) → List ℕ
joined [] = []
joined (m ∷ ms) = m ++ joined ms

-- these messages, each of them whole, were read one after another
pub record AreMessagesRead (left left' : Option (List ℕ)) (messages : List (List ℕ)) : Type 0 where
  pub consumed : Consumes left left' (joined messages)
  pub whole : All (λ (m : List ℕ). message_length m ≡ Ok (length m)) messages

-- messages were, or texts, each a line
abbrev pub AreRead : (texts : Bool) → (left left' : Option (List ℕ)) → List (List ℕ) → Type 0
AreRead false left left' ms = AreMessagesRead left left' ms
AreRead true left left' ms = AreTextsRead left left' ms

-- the next one can't be read
abbrev pub IsMessageUnread : (texts : Bool) → (left left' : Option (List ℕ)) → (reads reads' : ℕ) → ErrorKind → Type 0
IsMessageUnread texts left left' reads reads' kind = ((kind ≡ ReadFailed) × HasFailed reads reads') ⊎ ((kind ≡ OutOfMemory) ⊎ IsNextRefused texts left left' kind)

module _ {S W F : Type 0} (left : S → Option (List ℕ)) (reads : S → ℕ) (written : W → Option (List ℕ)) (writes : W → ℕ) (told : F → Option (List ℕ)) (tells : F → ℕ) where
  -- so many messages or texts were read one after another, and answered to
  pub record IsSoFar (t : Task) (j : Job) (going : Bool) (number : ℕ) (s s' : S) (w w' : W) (f f' : F) (refused : Bool) : Type 0 where
    pub messages : List (List ℕ)
    pub count : length messages ≡ number
    pub are : AreRead (reads_texts j) (left s) (left s') messages
    pub passed : ArePassed written writes told tells t j going messages w w' f f' refused

  -- none is left; or the next one can't be read; or it was answered to and that ended it; or there is no number for it
  abbrev pub IsStreamEnd : Job → (going : Bool) → (number : ℕ) → (refused : Bool) → (s s' : S) → (w w' : W) → (f f' : F) → Ran → Type 0
  IsStreamEnd j going number refused s s' w w' f f' r =
      (IsNoneLeft (reads_texts j) (left s) (left s') × IsAnswered r refused × (w' ≡ w) × (f' ≡ f))
      ⊎ ((IsFaultOf (Some number) r (λ x. (x.blamed ≡ blamed.Input) × IsMessageUnread (reads_texts j) (left s) (left s') (reads s) (reads s') x.error.kind) × (w' ≡ w) × (f' ≡ f))
      ⊎ (((bytes : List ℕ) × IsNextRead (reads_texts j) (left s) (left s') bytes × IsMessageAnsweredTo written writes told tells j (Some number) bytes w w' f f' r × IsStopped going r)
      ⊎ ((number ≡ 2 ^ 64) × IsFault r (λ x. (x.blamed ≡ blamed.Input) × (x.error.kind ≡ TooLarge)) × (s' ≡ s) × (w' ≡ w) × (f' ≡ f))))

  pub record IsStreamRun (t : Task) (j : Job) (going : Bool) (s s' : S) (w w' : W) (f f' : F) (r : Ran) : Type 0 where
    pub at : S
    pub sink : W
    pub errors : F
    pub number : ℕ
    pub refused : Bool
    pub before : IsSoFar t j going number s at w sink f errors refused
    pub end : IsStreamEnd j going (suc number) refused at s' sink w' errors f' r

-- a source, by what it has left, where that is known, and by how many of its calls have failed
pub record Unread : Type 0 where
  pub left : Option (List ℕ)
  pub failures : ℕ

module _ {S W F : Type 0} (left : S → Option (List ℕ)) (written : W → Option (List ℕ)) (writes : W → ℕ) (told : F → Option (List ℕ)) (tells : F → ℕ) where
  -- packed messages were: those of a source of the bytes that the packed ones stand for
  abbrev pub IsPackedRun : Task → Job → (going : Bool) → (s : S) → (w w' : W) → (f f' : F) → Ran → Type 0
  IsPackedRun t j going s w w' f f' r =
      (end : Unread) × IsStreamRun (λ (u : Unread). u.left) (λ (u : Unread). u.failures) written writes told tells t j going
      (record { left = option_map unpacked_bytes (left s); failures = 0 }) end w w' f f' r

module _ {S W F : Type 0} (left : S → Option (List ℕ)) (reads : S → ℕ) (written : W → Option (List ℕ)) (writes : W → ℕ) (told : F → Option (List ℕ)) (tells : F → ℕ) where
  -- packed messages or others
  abbrev pub IsMessagesRead : (packed : Bool) → Task → Job → (going : Bool) → (s s' : S) → (w w' : W) → (f f' : F) → Ran → Type 0
  IsMessagesRead true t j going s s' w w' f f' r = IsPackedRun left written writes told tells t j going s w w' f f' r
  IsMessagesRead false t j going s s' w w' f f' r = IsStreamRun left reads written writes told tells t j going s s' w w' f f' r
