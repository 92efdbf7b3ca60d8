-- What was taken out of a value, and why it was not.
use Rattle.std.proofs.Common.{◌≡◌, Result, Ok, Err, IfErr, IfOk, sym, subst}
use Rattle.capnp_device.specs.declared.error.Error.{Error}
use Rattle.capnp_records.specs.Record as value
use Rattle.capnp_records.specs.Record.{Value}

module _ {A B : Type 0} (make : A → B) (v : B) where
  -- what is said of the value is said of what was taken out of it
  pub taken : (P : B → Type 0) (r : Result A Error) → IfOk r (λ a. make a ≡ v) → P v → IfOk r (λ a. P (make a))
  taken P (Ok a) e h = subst P (sym e) h
  taken P (Err x) e h = tt

-- why a value that was read is not taken
pub read_refused : {A : Type 0} (only : Value → Value) (v w : Value) (r : Result A Error) → v ≡ w → IfErr r (λ e. value.Fault e.kind ≡ only v) → IfErr r (λ e. value.Fault e.kind ≡ only w)
read_refused only v w r e h = subst (λ (z : Value). IfErr r (λ e. value.Fault e.kind ≡ only z)) e h
