-- What is made of parts, and which causes stand in it.
use Rattle.std.proofs.Common.{◌≡◌, refl, ap, subst, sym, inl, inr, Ok, Err}
use Rattle.capnp_device.specs.declared.error.ErrorKind.{ErrorKind}
use Rattle.capnp_sets.specs.Causes.{HasCause, SetRead, flat, refused_read, ◌<*>◌}

ok_ok : {A B : Type 0} (f : A → B) (a : A) → Ok f <*> Ok a ≡ Ok (f a)
unfolding ◌<*>◌
ok_ok f a = refl

-- a function of parts that are there
pub made : {A B : Type 0} {x : SetRead (A → B)} {y : SetRead A} {f : A → B} {a : A} → x ≡ Ok f → y ≡ Ok a → x <*> y ≡ Ok (f a)
made {x = x} {y = y} {f = f} {a = a} e h = subst (λ z. x <*> z ≡ Ok (f a)) (sym h) (subst (λ z. z <*> Ok a ≡ Ok (f a)) (sym e) (ok_ok f a))

-- the causes of each part stand in what is made of them
pub cause_left : {A B : Type 0} (x : SetRead (A → B)) (y : SetRead A) (kind : ErrorKind) → HasCause x kind → HasCause (x <*> y) kind
unfolding ◌<*>◌ HasCause
cause_left (Ok f) y kind h = absurd h
cause_left (Err causes) (Ok a) kind h = h
cause_left (Err causes) (Err others) kind h = inl h

pub cause_right : {A B : Type 0} (x : SetRead (A → B)) (y : SetRead A) (kind : ErrorKind) → HasCause y kind → HasCause (x <*> y) kind
unfolding ◌<*>◌ HasCause
cause_right x (Ok a) kind h = absurd h
cause_right (Ok f) (Err others) kind h = h
cause_right (Err causes) (Err others) kind h = inr h

pub flat_ok : {A : Type 0} {x : SetRead (SetRead A)} {y : SetRead A} → x ≡ Ok y → flat x ≡ y
unfolding flat
flat_ok {y = y} e = ap flat e

-- one cause
pub only_cause : {A : Type 0} (kind : ErrorKind) (x : SetRead A) → x ≡ refused_read kind → HasCause x kind
unfolding HasCause
only_cause kind x e = subst (λ z. HasCause z kind) (sym e) refl

pub flat_inner : {A : Type 0} (x : SetRead (SetRead A)) (y : SetRead A) (kind : ErrorKind) → x ≡ Ok y → HasCause y kind → HasCause (flat x) kind
flat_inner x y kind e h = subst (λ z. HasCause z kind) (sym (flat_ok e)) h
