-- A record stands for lists, or a cause of a refusal stands in it, and never both.
use Rattle.std.proofs.Common.{◌≡◌, refl, inl, None, Ok, Err}
use Rattle.capnp_device.specs.declared.error.ErrorKind.{ErrorKind}
use Rattle.capnp_sets.specs.Causes.{Both, Causes, HasCause, IsAmong, One, SetRead}
use Rattle.capnp_sets.specs.Laws.{CausesRefuse, RefusalsHaveCauses}
use Rattle.capnp_sets.specs.Lists.{read_or_none, set_meant}

refused_by : {A : Type 0} (x : SetRead A) (kind : ErrorKind) → HasCause x kind → read_or_none x ≡ None
unfolding HasCause
refused_by (Ok a) kind h = absurd h
refused_by (Err causes) kind h = refl

first : Causes → ErrorKind
first (One kind) = kind
first (Both causes others) = first causes

first_among : (causes : Causes) → IsAmong causes (first causes)
unfolding first
first_among (One kind) = refl
first_among (Both causes others) = inl (first_among causes)

cause_of : {A : Type 0} (x : SetRead A) → read_or_none x ≡ None → (kind : ErrorKind) × HasCause x kind
unfolding HasCause
cause_of (Ok a) e = cc
cause_of (Err causes) e = (first causes, first_among causes)

pub causes_refuse : CausesRefuse
causes_refuse r kind h = refused_by (set_meant r) kind h

pub refusals_have_causes : RefusalsHaveCauses
refusals_have_causes r e = cause_of (set_meant r) e
