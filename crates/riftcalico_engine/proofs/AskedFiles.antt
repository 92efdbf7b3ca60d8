-- The files that are opened for a task.
use Rattle.std.proofs.Common.{List, ◌++◌, ℕ, Option, Some, None, Result, Bor, subst, sym, ◌≡◌}
use Rattle.std.specs.Option.{option_map}
use Rattle.capnp_device.specs.declared.device.DeviceFault.{DeviceFault}
use Rattle.capnp_show_engine.specs.Facts.Opening.{none_asked, one_asked, then_asked}
use Rattle.capnp_show_engine.specs.Opened.{AsksAmong, file_paths}
use Rattle.riftcalico_engine.specs.Files.{Opens}

module _ {O F : Type 0} (opens : Opens O F) where
  -- a file that is named
  pub file_asked : (file : Option (Bor (List ℕ))) (path : Bor (List ℕ)) (old new : O) (answer : Result F DeviceFault) → file ≡ Some path → opens old path.now answer new →
      AsksAmong opens (file_paths (option_map (λ f. f.now) file)) old new
  file_asked file path old new answer e h =
      subst (λ (x : Option (Bor (List ℕ))). AsksAmong opens (file_paths (option_map (λ f. f.now) x)) old new) (sym e) (one_asked opens path.now old new answer h)

  -- one file, and then another
  pub both_asked : (first second : Option (List ℕ)) (old mid new : O) → AsksAmong opens (file_paths first) old mid → AsksAmong opens (file_paths second) mid new →
      AsksAmong opens (file_paths first ++ file_paths second) old new
  unfolding AsksAmong
  both_asked None second old mid new h k = subst (λ (o : O). AsksAmong opens (file_paths second) o new) h k
  both_asked (Some path) second old mid new h k = then_asked opens path (file_paths second) old mid new h k

  -- the first alone
  pub first_asked : (first second : Option (List ℕ)) (old new : O) → AsksAmong opens (file_paths first) old new → AsksAmong opens (file_paths first ++ file_paths second) old new
  first_asked first second old new h = both_asked first second old new new h (none_asked opens (file_paths second) new)
