-- The text of a value that stands alone.
use Rattle.std.proofs.Common.{ℕ, [], ◌≡◌, ◌≢◌, Result, Err, IfErr, ap, sym, subst, ◌∙◌}
use Rattle.capnp_device.specs.declared.error.ErrorKind.{ErrorKind}
use Rattle.capnp_device.specs.declared.error.ErrorKind.TheVariants.{OutOfMemory, TooLarge}
use Rattle.capnp_records.specs.Text.{Out}
use Rattle.capnp_dynamic_readers.specs.Pieces.{IsLonger, Taken, Within, stopped_kind}
use Rattle.capnp_dynamic_readers.specs.Steps.Pieces.{IsStopped}
use Rattle.capnp_dynamic_readers.specs.declared.walk.output.Stop.{Stop}
use Rattle.capnp_dynamic_readers.specs.declared.walk.output.Stop.TheVariants.{Full, Refused, TooLong}
use Rattle.capnp_dynamic_readers.proofs.Pieces.{longer_whole}

-- where it is printed as a value, why that stopped is why the whole did
pub root_stopped : {T : Type 0} (old : Taken) (result : Result T Stop) (x y : Out) → x ≡ y → IfErr result (IsStopped old y) → IfErr result (IsStopped old x)
root_stopped old result x y e h = subst (λ (o : Out). IfErr result (IsStopped old o)) (sym e) h

-- why a string was not made, where there was memory and it was not too long
pub stopped_refused : (a : Taken) (o : Out) (stop : Stop) (kind : ErrorKind) → kind ≡ stopped_kind stop → IsStopped a o stop → kind ≢ OutOfMemory → kind ≢ TooLarge → o ≡ Err kind
stopped_refused a o (Refused e) kind is h other short = h (subst (λ (k : ErrorKind). k ≢ OutOfMemory) is other) ∙ ap Err (sym is)
stopped_refused a o Full kind is h other short = absurd (other is)
stopped_refused a o TooLong kind is h other short = absurd (short is)

-- and where it was
pub stopped_longer : (limit : ℕ) (o : Out) (stop : Stop) (kind : ErrorKind) → kind ≡ stopped_kind stop → IsStopped (Within limit []) o stop → kind ≡ TooLarge → IsLonger limit o
stopped_longer limit o (Refused e) kind is h long = subst (IsLonger limit) (sym (h (not_memory e.kind (sym is ∙ long)))) (tt {0})
  where
    not_memory : (k : ErrorKind) → k ≡ TooLarge → k ≢ OutOfMemory
    not_memory k e f = cc
stopped_longer limit o Full kind is h long = absurd (other_kind (sym is ∙ long))
  where
    other_kind : OutOfMemory ≡ TooLarge → ⊥
    other_kind e = cc
stopped_longer limit o TooLong kind is h long = longer_whole limit o h
