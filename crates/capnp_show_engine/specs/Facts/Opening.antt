-- Which files an opener was asked for.
use Rattle.std.proofs.Common.{List, [], ◌∷◌, ℕ, Result, inl, inr, refl, subst}
use Rattle.capnp_device.specs.declared.device.DeviceFault.{DeviceFault}
use Rattle.capnp_show_engine.specs.Opened.{AsksAmong}

module _ {O F : Type 0} (opens : O → List ℕ → Result F DeviceFault → O → Type 0) where
  -- for none, which is among all
  pub none_asked : (paths : List (List ℕ)) (o : O) → AsksAmong opens paths o o
  unfolding AsksAmong
  none_asked [] o = refl
  none_asked (path ∷ paths) o = inl (none_asked paths o)

  -- for one
  pub one_asked : (path : List ℕ) (old new : O) (answer : Result F DeviceFault) → opens old path answer new → AsksAmong opens (path ∷ []) old new
  unfolding AsksAmong
  one_asked path old new answer h = inr (new, record { answer = answer; opened = h }, refl)

  -- for one, and then for some
  pub then_asked : (path : List ℕ) (paths : List (List ℕ)) (old mid new : O) → AsksAmong opens (path ∷ []) old mid → AsksAmong opens paths mid new → AsksAmong opens (path ∷ paths) old new
  unfolding AsksAmong
  then_asked path paths old mid new (inl same) h = inl (subst (λ (o : O). AsksAmong opens paths o new) same h)
  then_asked path paths old mid new (inr (o, asked, same)) h = inr (o, asked, subst (λ (x : O). AsksAmong opens paths x new) same h)
