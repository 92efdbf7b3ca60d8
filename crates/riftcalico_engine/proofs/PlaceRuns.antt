-- What becomes of a file that is replaced, step by step.
use Rattle.std.specs.Prelude.{⊤}
use Rattle.std.proofs.Common.{◌≡◌, ℕ, List, true, false, Option, Some, None, Result, Ok, Err, inl, inr, refl, subst, sym, string_bytes}
use Rattle.capnp_device.specs.declared.device.DeviceFault.{DeviceFault}
use Rattle.capnp_device.specs.declared.error.ErrorKind.TheVariants.{OutOfMemory, WriteFailed}
use Rattle.riftcalico_core.specs.Faults.{old_file}
use Rattle.riftcalico_engine.specs.Files.{Opens}
use Rattle.riftcalico_engine.specs.Outputs.{Ran}
use Rattle.riftcalico_engine.specs.Places.{IsPlaceEnded, IsPlaceNamed, IsPlaceRun, Makes, Puts, Removes, is_whole, new_path}
use Rattle.riftcalico_engine.specs.Steps.Placing.{HasPlace, IsPlaceOf, IsPlaced, IsUnread, IsUnwritten}
use Rattle.riftcalico_engine.specs.Programs.{IsNamedAt, IsRunAt}
use Rattle.riftcalico_engine.specs.Runs.{IsRun, IsRunFrom, run_paths}
use Rattle.capnp_show_engine.specs.Opened.{AsksAmong}
use Rattle.riftcalico_engine.specs.declared.place.Place.{Place}
use Rattle.riftcalico_words.specs.Tasks.{Task}

module _ {O N : Type 0} (puts : Puts O N) (removes : Removes O N) where
  -- it was put in its place, or couldn't be
  pub placed_end : (path file : List ℕ) (n : N) (by : Ran) (o o' : O) (put : Result ⊤ DeviceFault) (r : Ran) → is_whole by ≡ true → puts o n path file put o' → IsPlaced by put r →
      IsPlaceEnded puts removes path file n by o o' r
  placed_end path file n by o o' (Ok x) r whole h is = inr (inl (whole, h, is))
  placed_end path file n by o o' (Err fault) r whole h is = inr (inr (whole, (fault, h), is))

  -- it was removed
  pub removed_end : (path file : List ℕ) (n : N) (by : Ran) (o o' : O) → is_whole by ≡ false → removes o n path o' → IsPlaceEnded puts removes path file n by o o' by
  removed_end path file n by o o' whole h = inl (whole, h, refl)

module _ {O A S W N F : Type 0} (opens : Opens O A) (holds : A → Option (List ℕ)) (fails : A → ℕ)
    (makes : Makes O N) (puts : Puts O N) (removes : Removes O N) (holds_new : N → Option (List ℕ)) (fails_new : N → ℕ)
    (left : S → Option (List ℕ)) (reads : S → ℕ) (written : W → Option (List ℕ)) (writes : W → ℕ) (told : F → Option (List ℕ)) (tells : F → ℕ) where
  abbrev RunsAt : Option (List ℕ) → Task → O → O → S → W → F → F → Ran → Type 0
  RunsAt p t o o' s w f f' r = IsRunAt opens holds fails makes puts removes holds_new fails_new left reads written writes told tells p t o o' s s w w f f' r

  abbrev RunsPlace : Task → List ℕ → O → O → F → F → Ran → Type 0
  RunsPlace t file o o' f f' r = IsPlaceRun opens holds fails makes puts removes holds_new fails_new told tells t file o o' f f' r

  -- no file is replaced
  pub streams_run : (p : Option (List ℕ)) (t : Task) (o o' : O) (s s' : S) (w w' : W) (f f' : F) (r : Ran) → IsPlaceOf p None
      → IsRunFrom opens holds fails left reads written writes told tells (old_file t) t o o' s s' w w' f f' r
      → IsRunAt opens holds fails makes puts removes holds_new fails_new left reads written writes told tells p t o o' s s' w w' f f' r
  streams_run None t o o' s s' w w' f f' r none run = run
  streams_run (Some file) t o o' s s' w w' f f' r none run = absurd none

  -- there was no memory for the path of the new one
  pub pathless_run : (p : Option (List ℕ)) (t : Task) (o : O) (s : S) (w : W) (f : F) (r : Ran) → HasPlace p → IsUnwritten OutOfMemory r → RunsAt p t o o s w f f r
  pathless_run None t o s w f r has is = absurd has
  pathless_run (Some file) t o s w f r has is = (refl, refl, inl (is, refl, refl))

  at_place : (p : Option (List ℕ)) (place : Place) (t : Task) (o o' : O) (s : S) (w : W) (f f' : F) (r : Ran) → IsPlaceOf p (Some place)
      → RunsPlace t place.file.now o o' f f' r → RunsAt p t o o' s w f f' r
  at_place None place t o o' s w f f' r is run = absurd is
  at_place (Some file) place t o o' s w f f' r is run = (refl, refl, subst (λ (x : List ℕ). RunsPlace t x o o' f f' r) is.0 run)

  pub path_is : (p : Option (List ℕ)) (place : Place) → IsPlaceOf p (Some place) → string_bytes place.path ≡ new_path place.file.now
  path_is None place is = absurd is
  path_is (Some file) place is = subst (λ (x : List ℕ). string_bytes place.path ≡ new_path x) (sym is.0) is.1

  -- the old file couldn't be opened
  pub unread_run : (p : Option (List ℕ)) (place : Place) (t : Task) (o o' : O) (s : S) (w : W) (f : F) (r : Ran) (fault : DeviceFault) → IsPlaceOf p (Some place)
      → opens o place.file.now (Err fault) o' → IsUnread r → RunsAt p t o o' s w f f r
  unread_run p place t o o' s w f r fault is h unread = at_place p place t o o' s w f f r is (inr (inl (unread, (fault, h), refl)))

  -- the new one couldn't be made
  pub unmade_run : (p : Option (List ℕ)) (place : Place) (t : Task) (path : List ℕ) (o mid o' : O) (s : S) (w : W) (f : F) (r : Ran) (source : A) (fault : DeviceFault) → IsPlaceOf p (Some place)
      → path ≡ string_bytes place.path → opens o place.file.now (Ok source) mid → makes mid path place.file.now (Err fault) o' → IsUnwritten WriteFailed r → RunsAt p t o o' s w f f r
  unmade_run p place t path o mid o' s w f r source fault is e h k unwritten =
      let there = subst (λ (x : List ℕ). x ≡ new_path place.file.now) (sym e) (path_is p place is) in
      at_place p place t o o' s w f f r is
      (inr (inr (mid, source, h, inl (unwritten, (fault, subst (λ (x : List ℕ). makes mid x place.file.now (Err fault) o') there k), refl))))

  -- the task was done from the one to the other
  pub made_run : (p : Option (List ℕ)) (place : Place) (t : Task) (path after : List ℕ) (o mid made done o' : O) (s : S) (w : W) (f f' : F) (by r : Ran) (source source_left : A) (new new_left : N)
      → IsPlaceOf p (Some place) → path ≡ string_bytes place.path → after ≡ string_bytes place.path → opens o place.file.now (Ok source) mid → makes mid path place.file.now (Ok new) made
      → IsRun opens holds fails holds fails holds_new fails_new told tells t made done source source_left new new_left f f' by
      → IsPlaceEnded puts removes after place.file.now new_left by done o' r → RunsAt p t o o' s w f f' r
  made_run p place t path after o mid made done o' s w f f' by r source source_left new new_left is e e' h k run end =
      let new_there = path_is p place is in
      let there = subst (λ (x : List ℕ). x ≡ new_path place.file.now) (sym e) new_there in
      let there' = subst (λ (x : List ℕ). x ≡ new_path place.file.now) (sym e') new_there in
      at_place p place t o o' s w f f' r is (inr (inr (
        mid,
        source,
        h,
        inr (record {
          new = new;
          made = made;
          is_made = subst (λ (x : List ℕ). makes mid x place.file.now (Ok new) made) there k;
          source_left = source_left;
          new_left = new_left;
          done = done;
          by = by;
          ran = run;
          is_ended = subst (λ (x : List ℕ). IsPlaceEnded puts removes x place.file.now new_left by done o' r) there' end;
        }),
      )))

module _ {O A N : Type 0} (opens : Opens O A) (makes : Makes O N) (puts : Puts O N) (removes : Removes O N) where
  -- where no file is replaced
  pub streams_named : (p : Option (List ℕ)) (t : Task) (o o' : O) → IsPlaceOf p None → AsksAmong opens (run_paths t) o o' → IsNamedAt opens makes puts removes p t o o'
  streams_named None t o o' none h = h
  streams_named (Some file) t o o' none h = absurd none

  -- where one is
  pub place_named : (p : Option (List ℕ)) (place : Place) (t : Task) (o o' : O) → IsPlaceOf p (Some place) → IsPlaceNamed opens makes puts removes t place.file.now o o' →
      IsNamedAt opens makes puts removes p t o o'
  place_named None place t o o' is h = absurd is
  place_named (Some file) place t o o' is h = subst (λ (x : List ℕ). IsPlaceNamed opens makes puts removes t x o o') is.0 h
