-- Refusals of parts and of wholes.
use Rattle.std.proofs.Common.{ℕ, ◌≡◌, Err, ap, sym, subst, ◌∙◌}
use Rattle.capnp_value_texts.specs.Errors.{IsErrorOf, Read, read_as, read_then, refused}
use Rattle.capnp_value_texts.specs.declared.error.Error.{Error}
use Rattle.capnp_value_texts.specs.declared.error.Error.TheVariants.{NotMade, OutOfMemory, Refused}
use Rattle.capnp_value_texts.specs.declared.error.Refusal.{Refusal}
use Rattle.capnp_value_texts.specs.declared.error.RefusalKind.{RefusalKind}

-- a refusal of a part is one of the whole
pub error_through : {A B : Type 0} (f : Read A → Read B) → ((x : Refusal) → f (Err x) ≡ Err x) → (r : Read A) (e : Error) → IsErrorOf r e → IsErrorOf (f r) e
error_through f goes r OutOfMemory h = tt
error_through f goes r (NotMade kind) h = absurd h
error_through f goes r (Refused x) h = ap f h ∙ goes x

pub error_as : {A B : Type 0} (f : A → B) (r : Read A) (e : Error) → IsErrorOf r e → IsErrorOf (read_as f r) e
error_as f r OutOfMemory h = tt
error_as f r (NotMade kind) h = absurd h
error_as f r (Refused x) h = ap (read_as f) h

pub error_then : {A B : Type 0} (f : A → Read B) (r : Read A) (e : Error) → IsErrorOf r e → IsErrorOf (read_then r f) e
error_then f r OutOfMemory h = tt
error_then f r (NotMade kind) h = absurd h
error_then f r (Refused x) h = ap (λ q. read_then q f) h

-- one of what is read alike
pub error_same : {A : Type 0} (q r : Read A) (e : Error) → q ≡ r → IsErrorOf r e → IsErrorOf q e
error_same q r e is h = subst (λ x. IsErrorOf x e) (sym is) h

-- one by its kind and its place
pub error_at : {A : Type 0} (r : Read A) (e : Error) (kind : RefusalKind) (p q : ℕ) → e ≡ Refused (record { kind = kind; place = p }) → p ≡ q → r ≡ refused kind q → IsErrorOf r e
error_at r e kind p q is same read = subst (IsErrorOf r) (sym is) (read ∙ ap (λ n. Err (record { kind = kind; place = n })) (sym same))
