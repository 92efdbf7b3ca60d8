-- What is said of a file that an opener opened holds of some open file.
use Rattle.std.proofs.Common.{ℕ, ◌≡◌, ◌⊎◌, List, Option, Result, inl, inr}
use Rattle.std.specs.Prelude.{⊤}
use Rattle.capnp_device.specs.declared.device.DeviceFault.{DeviceFault}
use Rattle.capnp_device.specs.declared.error.Error.{Error}
use Rattle.capnp_show_engine.specs.Command.{ShowTask, built_in, in_file}
use Rattle.capnp_show_engine.specs.Opened.{IsNotOpened, IsFileOpened, IsSomeFile}
use Rattle.capnp_show_engine.specs.Run.{IsRefusedTask, IsShownTask}

either : {A B C : Type 0} → (A → C) → (B → C) → A ⊎ B → C
either f g (inl a) = f a
either f g (inr b) = g b

module _ {O F : Type 0} (opens : O → List ℕ → Result F DeviceFault → O → Type 0) (old new : O) where
  some : (path : List ℕ) (so : F → F → Type 0) → IsFileOpened opens old new path so → IsSomeFile path so
  some path so x = record { file = x.file; left = x.left; is_so = x.is_so }

  pub shown : (holds : F → Option (List ℕ)) (t : ShowTask) (left left' written written' : Option (List ℕ)) →
      IsShownTask (IsFileOpened opens old new) (new ≡ old) holds t left left' written written' → IsShownTask IsSomeFile ⊤ holds t left left' written written'
  shown holds (built_in r) left left' written written' x = (tt {0}, x.1)
  shown holds (in_file r) left left' written written' x = some r.path _ x

  pub refused : (holds : F → Option (List ℕ)) (fails : F → ℕ) (untouched : Type 0) (t : ShowTask) (e : Error) (left left' written written' : Option (List ℕ))
      (reads reads' writes writes' : ℕ) →
      IsRefusedTask (IsFileOpened opens old new) (IsNotOpened opens old new) (new ≡ old) holds fails untouched t e left left' written written' reads reads' writes writes' →
      IsRefusedTask IsSomeFile (λ _. ⊤) ⊤ holds fails untouched t e left left' written written' reads reads' writes writes'
  refused holds fails untouched (built_in r) e left left' written written' reads reads' writes writes' x = (tt {0}, x.1)
  refused holds fails untouched (in_file r) e left left' written written' reads reads' writes writes' x = (
    (λ h. some r.path _ (x.0 h)),
    (λ h. either (λ y. inl (tt {0}, y.1)) (λ y. inr (some r.path _ y)) (x.1 h)),
    x.2,
    (λ h. some r.path _ (x.3 h)),
    either (λ y. inl y) (λ y. inr (some r.path _ y)) x.4,
  )
