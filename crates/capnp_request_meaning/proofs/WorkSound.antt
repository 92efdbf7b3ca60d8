-- Work that isn't refused for a cause, and that keeps something of what was named.
use Rattle.std.proofs.Common.{◌≡◌, ◌≢◌, refl, Bool, true, false, List, [], ◌∷◌, Result, Ok, Err}
use Rattle.capnp_device.specs.declared.error.ErrorKind.{ErrorKind}
use Rattle.capnp_device.specs.declared.error.ErrorKind.TheVariants.{TooManyTypes}
use Rattle.capnp_request.specs.Terms.{Said}
use Rattle.capnp_request.specs.Work.{Named, Seen, Work, each, each_read, nothing_seen, seen_in, where_else, where_so, work_continued, work_of, work_said, work_unnoted, ◌>>=◌}
use Rattle.capnp_request_meaning.specs.Sound.{EachSaidSo, IsSaidSo, Refusal}

-- a bound that is passed is another refusal
abbrev pub IsOther : Refusal → Type 0
IsOther cause = TooManyTypes ≢ cause.kind

abbrev pub IfGood : {A : Type 0} → Refusal → (Named → Type 0) → Result (A × Named) ErrorKind → Type 0
IfGood cause I (Ok p) = I p.1
IfGood cause I (Err kind) = kind ≢ cause.kind

abbrev pub IsGood : {A : Type 0} → Refusal → (Named → Type 0) → Work A → Type 0
IsGood cause I w = (s : Named) → I s → IfGood cause I (w s)

module _ (cause : Refusal) (I : Named → Type 0) where
  pub good_of : {A : Type 0} (a : A) → IsGood cause I (work_of a)
  good_of a s i = i

  pub good_where : {A : Type 0} (b : Bool) (kind : ErrorKind) (r : Result (A × Named) ErrorKind) → (kind ≡ cause.kind → b ≡ true) → IfGood cause I r → IfGood cause I (where_so b kind r)
  good_where true kind r e h = h
  good_where false kind r e h = λ same. let f : false ≡ true = e same in cc

  pub good_bound : {A : Type 0} (b : Bool) (kind : ErrorKind) (r : Result (A × Named) ErrorKind) → kind ≢ cause.kind → IfGood cause I r → IfGood cause I (where_so b kind r)
  good_bound true kind r e h = h
  good_bound false kind r e h = e

  pub good_else : {A : Type 0} (b : Bool) (r other : Result (A × Named) ErrorKind) → IfGood cause I r → IfGood cause I other → IfGood cause I (where_else b r other)
  good_else true r other h k = h
  good_else false r other h k = k

  pub good_bind : {A B : Type 0} (w : Work A) (f : A → Work B) → IsGood cause I w → ((a : A) → IsGood cause I (f a)) → IsGood cause I (w >>= f)
  good_bind {A = A} w f hw hf s i = go (w s) (hw s i)
    where
      go : (x : Result (A × Named) ErrorKind) → IfGood cause I x → IfGood cause I (work_continued f x)
      go (Err kind) h = h
      go (Ok p) h = hf p.0 p.1 h

  pub good_said : {A B : Type 0} (d : Said A) (f : A → Work B) (P : A → Type 0) → IsSaidSo cause P d → ((a : A) → d ≡ Ok a → P a → IsGood cause I (f a)) → IsGood cause I (work_said d >>= f)
  good_said (Ok a) f P so h = h a refl so
  good_said (Err kind) f P so h = λ s i. so

  pub good_each : {A B : Type 0} (f : A → Work B) → ((x : A) → IsGood cause I (f x)) → (xs : List A) → IsGood cause I (each f xs)
  good_each f h [] = λ s i. i
  good_each f h (x ∷ xs) = good_bind (f x) (λ y. each f xs >>= (λ ys. work_of (y ∷ ys))) (h x) (λ y. good_bind (each f xs) (λ ys. work_of (y ∷ ys)) (good_each f h xs) (λ ys. good_of (y ∷ ys)))

  module _ {A B : Type 0} (f : A → Work B) (P : A → Type 0) (h : (x : A) → P x → IsGood cause I (f x)) where
    pub good_each_read : (xs : List (Said A)) → EachSaidSo cause P xs → IsGood cause I (each_read f xs)
    good_each_read [] so = λ s i. i
    good_each_read (Err kind ∷ xs) so = λ s i. so.0
    good_each_read (Ok x ∷ xs) so = good_bind (f x) (λ y. each_read f xs >>= (λ ys. work_of (y ∷ ys))) (h x so.0) (λ y. good_bind (each_read f xs) (λ ys. work_of (y ∷ ys)) (good_each_read xs so.1) (λ ys. good_of (y ∷ ys)))

    pub good_all : (d : Said (List (Said A))) → IsSaidSo cause (EachSaidSo cause P) d → IsGood cause I (work_said d >>= each_read f)
    good_all (Ok xs) so = good_each_read xs so
    good_all (Err kind) so = λ s i. so

  module _ {A : Type 0} (w : Work A) (hw : IsGood cause I w) (keeps : (s : Named) (x : Seen) → I s → I (record s { seen = x })) where
    pub good_seen : IsGood cause I (seen_in w)
    good_seen s i = go (w (record s { seen = nothing_seen })) (hw (record s { seen = nothing_seen }) (keeps s nothing_seen i))
      where
        go : (x : Result (A × Named) ErrorKind) → IfGood cause I x → IfGood {A = A × Seen} cause I (work_continued (λ (a : A) (t : Named). Ok ((a, t.seen), record t { seen = nothing_seen })) x)
        go (Err kind) h = h
        go (Ok p) h = keeps p.1 nothing_seen h

    pub good_unnoted : IsGood cause I (work_unnoted w)
    good_unnoted = good_bind (seen_in w) (λ p. work_of p.0) good_seen (λ p. good_of p.0)
