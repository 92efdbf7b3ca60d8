-- The work of each item of a list, as a loop does it: what is done, and what is left.
use Rattle.std.proofs.Common.{ℕ, ◌+◌, ◌<◌, ◌≤◌, ◌≡◌, ◌∙◌, ap, refl, sym, append_assoc, List, [], ◌∷◌, ◌++◌, Result, Ok, Err}
use Rattle.std.proofs.lemmas.List.{append-nil}
use Rattle.capnp_device.specs.declared.error.ErrorKind.{ErrorKind}
use Rattle.capnp_records.specs.Record as value
use Rattle.capnp_records.specs.Record.{Record}
use Rattle.capnp_request.specs.Steps.Seen.{element_seen}
use Rattle.capnp_request.specs.declared.handles.RequestList.{RequestList}
use Rattle.capnp_request.specs.Steps.Handles.{IsListOf, values_left}
use Rattle.capnp_request.specs.Reading.{each_said}
use Rattle.capnp_request.specs.Terms.{Said}
use Rattle.capnp_request.specs.Work.{Named, Work, each, each_read, work_of, work_said, ◌>>=◌, work_continued}
use Rattle.capnp_request.proofs.ListsRead.{count_of, each_err, each_none, each_ok}

-- what is left, behind what is done
abbrev pub prefixed : {B : Type 0} → List B → Result (List B × Named) ErrorKind → Result (List B × Named) ErrorKind
prefixed ys (Ok p) = Ok (ys ++ p.0, p.1)
prefixed ys (Err kind) = Err kind

pub nothing_done : {B : Type 0} (r : Result (List B × Named) ErrorKind) → r ≡ prefixed [] r
nothing_done (Ok p) = refl
nothing_done (Err kind) = refl

-- at the beginning nothing is done
pub begun_with : {B : Type 0} (ys : List B) (r : Result (List B × Named) ErrorKind) → ys ≡ [] → r ≡ prefixed ys r
begun_with {B = B} ys r none = nothing_done r ∙ ap (λ (zs : List B). prefixed zs r) (sym none)

pub more_done : {B : Type 0} (ys : List B) (y : B) (r : Result (List B × Named) ErrorKind) → prefixed ys (work_continued (λ zs. work_of (y ∷ zs)) r) ≡ prefixed (ys ++ y ∷ []) r
more_done {B = B} ys y (Ok p) = ap (λ (zs : List B). Ok (zs, p.1)) (sym (append_assoc ys (y ∷ []) p.0))
more_done ys y (Err kind) = refl

module _ {A B : Type 0} (f : A → Work B) (ys : List B) where
  pub step_ok : (x : A) (xs : List A) (y : B) (s t : Named) → f x s ≡ Ok (y, t) → prefixed ys (each f (x ∷ xs) s) ≡ prefixed (ys ++ y ∷ []) (each f xs t)
  step_ok x xs y s t e = ap (λ r. prefixed ys (work_continued (λ y. each f xs >>= (λ zs. work_of (y ∷ zs))) r)) e ∙ more_done ys y (each f xs t)

  pub step_err : (x : A) (xs : List A) (s : Named) (kind : ErrorKind) → f x s ≡ Err kind → prefixed ys (each f (x ∷ xs) s) ≡ Err kind
  step_err x xs s kind e = ap (λ r. prefixed ys (work_continued (λ y. each f xs >>= (λ zs. work_of (y ∷ zs))) r)) e

  pub all_done : (s : Named) → prefixed ys (each f [] s) ≡ Ok (ys, s)
  all_done s = ap (λ (zs : List B). Ok (zs, s)) (append-nil ys)

-- the same over the structs of a list that is read
module _ {A B : Type 0} (f : A → Work B) (b : ℕ) (g : Record → A) (l : RequestList) (i : ℕ) (ys : List B) (s : Named) where
  pub walk_ok : (r : Record) (y : B) (t : Named) → IsListOf b l → i < count_of l → value.Struct r ≡ element_seen l i → f (g r) s ≡ Ok (y, t) →
      prefixed ys (each_read f (each_said b g (values_left l i)) s) ≡ prefixed (ys ++ y ∷ []) (each_read f (each_said b g (values_left l (i + 1))) t)
  walk_ok r y t is h e done =
      ap (λ xs. prefixed ys (each_read f xs s)) (each_ok b g l i r is h e) ∙ step_ok (λ (x : Said A). work_said x >>= f) ys (Ok (g r)) (each_said b g (values_left l (i + 1))) y s t done

  pub walk_refused : (r : Record) (kind : ErrorKind) → IsListOf b l → i < count_of l → value.Struct r ≡ element_seen l i → f (g r) s ≡ Err kind → prefixed ys (each_read f (each_said b g (values_left l i)) s) ≡ Err kind
  walk_refused r kind is h e done =
      ap (λ xs. prefixed ys (each_read f xs s)) (each_ok b g l i r is h e) ∙ step_err (λ (x : Said A). work_said x >>= f) ys (Ok (g r)) (each_said b g (values_left l (i + 1))) s kind done

  pub walk_unread : (kind : ErrorKind) → IsListOf b l → i < count_of l → value.Fault kind ≡ element_seen l i → prefixed ys (each_read f (each_said b g (values_left l i)) s) ≡ Err kind
  walk_unread kind is h e =
      ap (λ xs. prefixed ys (each_read f xs s)) (each_err b g l i kind is h e) ∙ step_err (λ (x : Said A). work_said x >>= f) ys (Err kind) (each_said b g (values_left l (i + 1))) s kind refl

  pub walk_end : count_of l ≤ i → prefixed ys (each_read f (each_said b g (values_left l i)) s) ≡ Ok (ys, s)
  walk_end h = ap (λ xs. prefixed ys (each_read f xs s)) (each_none b g l i h) ∙ all_done (λ (x : Said A). work_said x >>= f) ys s
