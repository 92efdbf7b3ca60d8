-- Work step by step.
use Rattle.std.proofs.Common.{ℕ, ◌+◌, ◌≡◌, ◌∙◌, ap, refl, sym, append_assoc, Bool, List, [], ◌∷◌, ◌++◌, Result, Ok, Err}
use Rattle.capnp_device.specs.declared.error.ErrorKind.{ErrorKind}
use Rattle.capnp_request.specs.Conversion.{Converted, field_of, fields_of}
use Rattle.capnp_request.specs.Terms.{FieldTerm, Said, SchemaNode}
use Rattle.capnp_request.specs.Work.{Bound, Named, Work, each_read, work_of, ◌>>=◌, work_continued}

pub then_ok : {A B : Type 0} (w : Work A) (f : A → Work B) (s after : Named) (a : A) → w s ≡ Ok (a, after) → (w >>= f) s ≡ f a after
then_ok w f s after a e = ap (work_continued f) e

pub then_err : {A B : Type 0} (w : Work A) (f : A → Work B) (s : Named) (kind : ErrorKind) → w s ≡ Err kind → (w >>= f) s ≡ Err kind
then_err w f s kind e = ap (work_continued f) e

-- what was given before the rest of a list
abbrev pub ahead : {A : Type 0} → List A → Result (List A × Named) ErrorKind → Result (List A × Named) ErrorKind
ahead xs (Ok p) = Ok (xs ++ p.0, p.1)
ahead xs (Err kind) = Err kind

pub ahead_none : {A : Type 0} (r : Result (List A × Named) ErrorKind) → ahead [] r ≡ r
ahead_none (Ok p) = refl
ahead_none (Err kind) = refl

one_ahead : {A : Type 0} (xs : List A) (x : A) (r : Result (List A × Named) ErrorKind) → ahead xs (work_continued (λ rest. work_of (x ∷ rest)) r) ≡ ahead (xs ++ x ∷ []) r
one_ahead xs x (Ok p) = ap (λ ys. Ok (ys, p.1)) (sym (append_assoc xs (x ∷ []) p.0))
one_ahead xs x (Err kind) = refl

module _ {A B : Type 0} (f : A → Work B) (x : A) (xs : List (Said A)) (s after : Named) (ys : List B) where
  pub read_more : (y : B) → f x s ≡ Ok (y, after) → ahead ys (each_read f (Ok x ∷ xs) s) ≡ ahead (ys ++ y ∷ []) (each_read f xs after)
  read_more y e = ap (λ r. ahead ys (work_continued (λ first. each_read f xs >>= (λ rest. work_of (first ∷ rest))) r)) e ∙ one_ahead ys y (each_read f xs after)

  pub read_refused : (kind : ErrorKind) → f x s ≡ Err kind → ahead ys (each_read f (Ok x ∷ xs) s) ≡ Err kind
  read_refused kind e = ap (λ r. ahead ys (work_continued (λ first. each_read f xs >>= (λ rest. work_of (first ∷ rest))) r)) e

module _ (nodes : List SchemaNode) (inside : List Bound) where
  pub field_more : (strict : Bool) (n i : ℕ) (f : FieldTerm) (fs : List (Said FieldTerm)) (s after : Named) (cs : List Converted) (c : Converted) →
      field_of nodes strict inside n i f s ≡ Ok (c, after) → ahead cs (fields_of nodes strict inside n i (Ok f ∷ fs) s) ≡ ahead (cs ++ c ∷ []) (fields_of nodes strict inside n (i + 1) fs after)
  field_more strict n i f fs s after cs c e =
      ap (λ r. ahead cs (work_continued (λ first. fields_of nodes strict inside n (i + 1) fs >>= (λ rest. work_of (first ∷ rest))) r)) e ∙ one_ahead cs c (fields_of nodes strict inside n (i + 1) fs after)

  pub field_refused : (strict : Bool) (n i : ℕ) (f : FieldTerm) (fs : List (Said FieldTerm)) (s : Named) (cs : List Converted) (kind : ErrorKind) →
      field_of nodes strict inside n i f s ≡ Err kind → ahead cs (fields_of nodes strict inside n i (Ok f ∷ fs) s) ≡ Err kind
  field_refused strict n i f fs s cs kind e = ap (λ r. ahead cs (work_continued (λ first. fields_of nodes strict inside n (i + 1) fs >>= (λ rest. work_of (first ∷ rest))) r)) e
