-- Work that is refused for a bound only where one is passed.
use Rattle.std.proofs.Common.{◌≡◌, refl, subst, Bool, true, false, Result, Ok, Err}
use Rattle.capnp_device.specs.declared.error.ErrorKind.{ErrorKind}
use Rattle.capnp_device.specs.declared.error.ErrorKind.TheVariants.{TooManyTypes}
use Rattle.capnp_request.specs.Order.{and_said}
use Rattle.capnp_request.specs.Terms.{Said}
use Rattle.capnp_request.specs.Work.{Named, Seen, Work, nothing_seen, seen_in, where_else, where_so, work_continued, work_of, work_said, work_unnoted, ◌>>=◌}
use Rattle.capnp_request_meaning.specs.Passed.{bounds}
use Rattle.capnp_request_meaning.specs.Sound.{IsSaidSo}
use Rattle.capnp_request_meaning.proofs.Works.{IfDone}

-- a refusal for a bound gives something
abbrev pub IfPassed : {A : Type 0} → Type 0 → Result A ErrorKind → Type 0
IfPassed X (Ok a) = Unit {0}
IfPassed X (Err kind) = kind ≡ TooManyTypes → X

-- what holds of a result that is given
pub done_at : {A : Type 0} (Q : A → Named → Type 0) (x : Result (A × Named) ErrorKind) (p : A × Named) → IfDone Q x → x ≡ Ok p → Q p.0 p.1
done_at Q x p h e = subst (IfDone Q) e h

module _ (X : Type 0) where
  pub passed_where : {A : Type 0} (b : Bool) (kind : ErrorKind) (r : Result A ErrorKind) → (b ≡ false → kind ≡ TooManyTypes → X) → (b ≡ true → IfPassed X r) → IfPassed X (where_so b kind r)
  passed_where true kind r f g = g refl
  passed_where false kind r f g = f refl

  pub passed_else : {A : Type 0} (b : Bool) (r other : Result A ErrorKind) → (b ≡ true → IfPassed X r) → (b ≡ false → IfPassed X other) → IfPassed X (where_else b r other)
  passed_else true r other f g = f refl
  passed_else false r other f g = g refl

  pub passed_bind : {A B : Type 0} (w : Work A) (f : A → Work B) (s : Named) → IfPassed X (w s) → ((p : A × Named) → w s ≡ Ok p → IfPassed X (f p.0 p.1)) → IfPassed X ((w >>= f) s)
  passed_bind {A = A} w f s h k = go (w s) refl h
    where
      go : (x : Result (A × Named) ErrorKind) → w s ≡ x → IfPassed X x → IfPassed X (work_continued f x)
      go (Err kind) e h = h
      go (Ok p) e h = k p e

  -- what is said
  pub passed_so : {A : Type 0} (strict : Bool) (P : A → Type 0) (d : Said A) → IsSaidSo (bounds strict) P d → IfPassed X d
  passed_so strict P (Ok a) so = tt
  passed_so strict P (Err kind) so = λ same. absurd (so same)

  pub passed_from : {A B : Type 0} (d : Said A) (f : A → Work B) (s : Named) → IfPassed X d → ((a : A) → d ≡ Ok a → IfPassed X (f a s)) → IfPassed X ((work_said d >>= f) s)
  passed_from (Ok a) f s h k = k a refl
  passed_from (Err kind) f s h k = h

  pub passed_said : {A B : Type 0} (d : Said A) (f : A → Said B) → IfPassed X d → ((a : A) → d ≡ Ok a → IfPassed X (f a)) → IfPassed X (and_said d f)
  passed_said (Ok a) f h k = k a refl
  passed_said (Err kind) f h k = h

  pub passed_seen : {A : Type 0} (w : Work A) (s : Named) → IfPassed X (w (record s { seen = nothing_seen })) → IfPassed X (seen_in w s)
  passed_seen {A = A} w s h = go (w (record s { seen = nothing_seen })) h
    where
      go : (x : Result (A × Named) ErrorKind) → IfPassed X x → IfPassed {A = (A × Seen) × Named} X (work_continued (λ (a : A) (t : Named). Ok ((a, t.seen), record t { seen = nothing_seen })) x)
      go (Err kind) h = h
      go (Ok p) h = tt

  pub passed_unnoted : {A : Type 0} (w : Work A) (s : Named) → IfPassed X (w (record s { seen = nothing_seen })) → IfPassed X (work_unnoted w s)
  passed_unnoted w s h = passed_bind (seen_in w) (λ p. work_of p.0) s (passed_seen w s h) (λ p e. tt)
