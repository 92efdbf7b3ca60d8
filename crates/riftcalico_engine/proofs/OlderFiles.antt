-- What is done from the file of an older message, which is opened first, or from the source, where no such file is named.
use Rattle.std.proofs.Common.{Bor, ◌++◌, ◌∷◌, ◌≡◌, List, None, Option, Result, Some, refl, subst, sym, ℕ}
use Rattle.std.specs.Option.{option_map}
use Rattle.capnp_device.specs.declared.device.DeviceFault.{DeviceFault}
use Rattle.capnp_show_engine.specs.Facts.Opening.{none_asked, one_asked, then_asked}
use Rattle.capnp_show_engine.specs.Opened.{AsksAmong, file_paths}
use Rattle.riftcalico_engine.specs.Files.{Opens}
use Rattle.riftcalico_engine.specs.Outputs.{Ran}
use Rattle.riftcalico_engine.specs.Runs.{IsRun, IsRunFrom, IsRunOf}
use Rattle.riftcalico_words.specs.Tasks.{Task}

-- the file that is named is this one, or none is
pub old_named : (found : Option (Bor (List ℕ))) (file : Option (List ℕ)) (path : Bor (List ℕ)) → option_map (λ f. f.now) found ≡ file → found ≡ Some path → file ≡ Some path.now
old_named found file path seen is = sym (subst (λ (x : Option (Bor (List ℕ))). option_map (λ f. f.now) x ≡ file) is seen)

pub none_named : (found : Option (Bor (List ℕ))) (file : Option (List ℕ)) → option_map (λ f. f.now) found ≡ file → found ≡ None → file ≡ None
none_named found file seen is = sym (subst (λ (x : Option (Bor (List ℕ))). option_map (λ f. f.now) x ≡ file) is seen)

module _ {O A S W F : Type 0} (opens : Opens O A) (holds : A → Option (List ℕ)) (fails : A → ℕ)
    (left : S → Option (List ℕ)) (reads : S → ℕ) (written : W → Option (List ℕ)) (writes : W → ℕ) (told : F → Option (List ℕ)) (tells : F → ℕ) where
  abbrev RunsFrom : Option (List ℕ) → Task → O → O → S → S → W → W → F → F → Ran → Type 0
  RunsFrom file t o o' s s' w w' f f' r = IsRunFrom opens holds fails left reads written writes told tells file t o o' s s' w w' f f' r

  -- from the source
  pub source_run : (file : Option (List ℕ)) (t : Task) (o o' : O) (s s' : S) (w w' : W) (f f' : F) (r : Ran) → file ≡ None → IsRun opens holds fails left reads written writes told tells t o o' s s' w w' f f' r →
      RunsFrom file t o o' s s' w w' f f' r
  source_run file t o o' s s' w w' f f' r is run = subst (λ (x : Option (List ℕ)). RunsFrom x t o o' s s' w w' f f' r) (sym is) run

  -- from the file
  pub older_run : (file : Option (List ℕ)) (path : List ℕ) (t : Task) (o o' : O) (s : S) (w w' : W) (f f' : F) (r : Ran) → file ≡ Some path → IsRunOf opens holds fails written writes told tells path t o o' w w' f f' r →
      RunsFrom file t o o' s s w w' f f' r
  older_run file path t o o' s w w' f f' r is run = subst (λ (x : Option (List ℕ)). RunsFrom x t o o' s s w w' f f' r) (sym is) (refl, run)

module _ {O A : Type 0} (opens : Opens O A) where
  -- the files that are opened, where none is first
  pub source_asked : (file : Option (List ℕ)) (paths : List (List ℕ)) (o o' : O) → file ≡ None → AsksAmong opens paths o o' → AsksAmong opens (file_paths file ++ paths) o o'
  source_asked file paths o o' is asked = subst (λ (x : Option (List ℕ)). AsksAmong opens (file_paths x ++ paths) o o') (sym is) asked

  -- where one is
  pub older_asked : (file : Option (List ℕ)) (path : List ℕ) (paths : List (List ℕ)) (o o' : O) → file ≡ Some path → AsksAmong opens (path ∷ paths) o o' → AsksAmong opens (file_paths file ++ paths) o o'
  older_asked file path paths o o' is asked = subst (λ (x : Option (List ℕ)). AsksAmong opens (file_paths x ++ paths) o o') (sym is) asked

  -- that one, and then some; where it couldn't be opened, none
  pub opened_asked : (path : List ℕ) (paths : List (List ℕ)) (o mid o' : O) (answer : Result A DeviceFault) → opens o path answer mid → AsksAmong opens paths mid o' → AsksAmong opens (path ∷ paths) o o'
  opened_asked path paths o mid o' answer opened asked = then_asked opens path paths o mid o' (one_asked opens path o mid answer opened) asked

  pub unopened_asked : (path : List ℕ) (paths : List (List ℕ)) (o o' : O) (answer : Result A DeviceFault) → opens o path answer o' → AsksAmong opens (path ∷ paths) o o'
  unopened_asked path paths o o' answer opened = opened_asked path paths o o' o' answer opened (none_asked opens paths o')
