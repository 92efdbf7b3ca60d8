-- What was asked of files where one is replaced.
use Rattle.std.proofs.Common.{List, ℕ, Option, Some, None, Result, Ok, Err, ◌≡◌, inl, inr, refl, subst}
use Rattle.capnp_device.specs.declared.device.DeviceFault.{DeviceFault}
use Rattle.capnp_show_engine.specs.Facts.Opening.{none_asked, one_asked}
use Rattle.capnp_show_engine.specs.Opened.{AsksAmong, file_paths}
use Rattle.riftcalico_engine.specs.Files.{Opens}
use Rattle.riftcalico_engine.specs.Outputs.{Ran}
use Rattle.riftcalico_engine.specs.Places.{IsEndedOrNot, IsPlaceEnded, IsPlaceNamed, Makes, Puts, Removes, new_path}
use Rattle.riftcalico_engine.specs.Programs.{IsNamed, IsNamedAt}
use Rattle.riftcalico_engine.specs.Runs.{run_paths, task_paths}
use Rattle.riftcalico_core.specs.Faults.{place_file}
use Rattle.riftcalico_words.specs.Tasks.{Task}

module _ {O A N : Type 0} (opens : Opens O A) (makes : Makes O N) (puts : Puts O N) (removes : Removes O N) where
  -- nothing
  pub unnamed : (t : Task) (file : List ℕ) (o : O) → IsPlaceNamed opens makes puts removes t file o o
  unnamed t file o = record {
    asked = o;
    made = o;
    done = o;
    place_asked = none_asked opens (file_paths (Some file)) o;
    is_made = inl refl;
    task_asked = none_asked opens (task_paths t) o;
    is_ended = inl refl;
  }

  -- the old file alone
  pub old_named : (t : Task) (file : List ℕ) (o o' : O) (answer : Result A DeviceFault) → opens o file answer o' → IsPlaceNamed opens makes puts removes t file o o'
  old_named t file o o' answer h = record {
    asked = o';
    made = o';
    done = o';
    place_asked = one_asked opens file o o' answer h;
    is_made = inl refl;
    task_asked = none_asked opens (task_paths t) o';
    is_ended = inl refl;
  }

  -- and a new file
  pub new_named : (t : Task) (file path : List ℕ) (o mid o' : O) (answer : Result A DeviceFault) (made : Result N DeviceFault) → path ≡ new_path file →
      opens o file answer mid → makes mid path file made o' → IsPlaceNamed opens makes puts removes t file o o'
  new_named t file path o mid o' answer made e h k = record {
    asked = mid;
    made = o';
    done = o';
    place_asked = one_asked opens file o mid answer h;
    is_made = inr (made, subst (λ (p : List ℕ). makes mid p file made o') e k);
    task_asked = none_asked opens (task_paths t) o';
    is_ended = inl refl;
  }

  ended_named : (file : List ℕ) (n : N) (by r : Ran) (o o' : O) → IsPlaceEnded puts removes (new_path file) file n by o o' r → IsEndedOrNot opens makes puts removes file o o'
  ended_named file n by r o o' (inl x) = inr (inr (n, x.1))
  ended_named file n by r o o' (inr (inl x)) = inr (inl (n, Ok (tt {0}), x.1))
  ended_named file n by r o o' (inr (inr x)) = inr (inl (n, Err x.1.0, x.1.1))

  -- and what the task asks for, and what it ended in
  pub all_named : (t : Task) (file path : List ℕ) (o mid made done o' : O) (answer : Result A DeviceFault) (new : Result N DeviceFault) (n : N) (by r : Ran) → path ≡ new_path file →
      opens o file answer mid → makes mid path file new made → AsksAmong opens (task_paths t) made done → IsPlaceEnded puts removes path file n by done o' r →
      IsPlaceNamed opens makes puts removes t file o o'
  all_named t file path o mid made done o' answer new n by r e h k asked end = record {
    asked = mid;
    made = made;
    done = done;
    place_asked = one_asked opens file o mid answer h;
    is_made = inr (new, subst (λ (p : List ℕ). makes mid p file new made) e k);
    task_asked = asked;
    is_ended = ended_named file n by r done o' (subst (λ (p : List ℕ). IsPlaceEnded puts removes p file n by done o' r) e end);
  }

  none_named_at : (place : Option (List ℕ)) (t : Task) (o : O) → IsNamedAt opens makes puts removes place t o o
  none_named_at None t o = none_asked opens (run_paths t) o
  none_named_at (Some file) t o = unnamed t file o

  -- a task that was not begun asks for none
  pub none_named : (t : Task) (o : O) → IsNamed opens makes puts removes t o o
  none_named t o = none_named_at (place_file t) t o
