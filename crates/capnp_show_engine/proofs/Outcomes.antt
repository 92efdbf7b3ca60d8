-- What holds of a call's refusals.
use Rattle.std.proofs.Common.{ℕ, ◌<◌, List, length, take, Option, Result, Ok, Err, OnOk, OnErr, IfErr, inl, inr}
use Rattle.std.specs.Io.KnownBytes.{Appends}
use Rattle.capnp_device.specs.Device.{HasFailed}
use Rattle.capnp_show_engine.specs.Command.{IsTold}

-- where each refusal comes with a fact, and that gives another, each refusal of a kind comes with the other
pub refusal_gives : {T E P Q : Type 0} (K : E → Type 0) (r : Result T E) → (P → Q) → OnErr r P → IfErr r (λ e. K e → Q)
refusal_gives K (Ok x) f h = tt {0}
refusal_gives K (Err e) f h = λ k. f h

-- what each refusal says, of what it said before
pub each_refusal : {T E : Type 0} {P Q : E → Type 0} (r : Result T E) → ((e : E) → P e → Q e) → IfErr r P → IfErr r Q
each_refusal (Ok x) f h = tt {0}
each_refusal (Err e) f h = f e h

-- a line that a write of it was told of
pub told_by_write : {T E : Type 0} (r : Result T E) (line : List ℕ) (written written' : Option (List ℕ)) (failures failures' : ℕ) →
    OnOk r (Appends written written' line) → OnErr r (HasFailed failures failures') →
    OnErr r ((n : ℕ) × (n < length line) × Appends written written' (take n line)) → IsTold line written written' failures failures'
told_by_write (Ok x) line written written' failures failures' whole failed part = inl whole
told_by_write (Err e) line written written' failures failures' whole failed part = inr (failed, part)

-- four facts of each refusal, and one that holds whatever comes, as one
pub all_four : {T E U : Type 0} (P Q R S : E → Type 0) (r : Result T E) → U → IfErr r P → IfErr r Q → IfErr r R → IfErr r S →
    IfErr r (λ e. U × (P e × Q e × R e × S e))
all_four P Q R S (Ok x) u a b c d = tt {0}
all_four P Q R S (Err e) u a b c d = (u, (a, b, c, d))

pub all_five : {T E V : Type 0} (P Q R S : E → Type 0) (r : Result T E) → IfErr r P → IfErr r Q → IfErr r R → IfErr r S → V →
    IfErr r (λ e. P e × Q e × R e × S e × V)
all_five P Q R S (Ok x) a b c d v = tt {0}
all_five P Q R S (Err e) a b c d v = (a, b, c, d, v)
