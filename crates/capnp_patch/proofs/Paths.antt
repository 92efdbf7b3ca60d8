-- Where a path leads, by its first step.
use Rattle.std.proofs.Common.{ℕ, zero, suc, ◌+◌, ◌<◌, ◌≤◌, List, [], ◌∷◌, Bool, Option, drop, length, nat_eq, ◌≡◌, ◌∙◌, add-one, ap, arith, get_or, refl, subst, sym, Ok, Err}
use Rattle.std.proofs.lemmas.Bool.Decides.{nat_tests}
use Rattle.std.proofs.lemmas.List.{at_drop_all, drop_more}
use Rattle.capnp_device.specs.declared.error.ErrorKind.{ErrorKind}
use Rattle.capnp_schema.specs.Schema.{Schemas}
use Rattle.capnp_schema.specs.declared.schema.structs.StructSchema.{StructSchema}
use Rattle.capnp_records.specs.Call.{PathStep}
use Rattle.capnp_call.specs.Seen.{path_seen, step_seen}
use Rattle.capnp_call.specs.declared.calls.Step.{Step}
use Rattle.capnp_patch.specs.Gets.{Part, Reached, is_empty, path_read, step_read}
use Rattle.capnp_patch.specs.Places.{IsRefusedStep, IsWithin}

seen_empty : (ps : List Step) → is_empty (path_seen ps) ≡ is_empty ps
seen_empty [] = refl
seen_empty (p ∷ ps) = refl

path_next : (set : Schemas) (ps : List Step) (s : Step) (rest : List Step) (p : Part) (q : Bool) → ps ≡ s ∷ rest → q ≡ is_empty rest →
    path_read set (path_seen ps) (Ok p) ≡ path_read set (path_seen rest) (step_read set q p (step_seen s))
path_next set ps s rest p q is e =
    ap (λ (xs : List Step). path_read set (path_seen xs) (Ok p)) is ∙ ap (λ (b : Bool). path_read set (path_seen rest) (step_read set b p (step_seen s))) (seen_empty rest ∙ sym e)

-- whether no step is left behind one
none_left : (path : List Step) (left : ℕ) → left ≡ length path → nat_eq left 0 ≡ is_empty path
none_left [] left e = ap (λ (n : ℕ). nat_eq n 0) e
none_left (s ∷ path) left e = grind (arith, nat_tests, e)

last_at : (path : List Step) (i left : ℕ) → suc i + left ≡ length path → nat_eq left 0 ≡ is_empty (drop (suc i) path)
last_at [] i left e = absurd (omega (arith, e))
last_at (s ∷ path) zero left e = none_left path left (omega (arith, e))
last_at (s ∷ path) (suc i) left e = last_at path i left (omega (arith, e))

-- the step at an index, so many before the end
pub path_at : (set : Schemas) (path : List Step) (i left : ℕ) (d : Step) (p : Part) → i < length path → suc i + left ≡ length path →
    path_read set (path_seen (drop i path)) (Ok p) ≡ path_read set (path_seen (drop (i + 1) path)) (step_read set (nat_eq left 0) p (step_seen (get_or path i d)))
path_at set path i left d p inside count = path_next set (drop i path) (get_or path i d) (drop (i + 1) path) p (nat_eq left 0) (drop_more path i d inside)
    (last_at path i left count ∙ ap (λ (n : ℕ). is_empty (drop n path)) (sym (add-one i)))

-- the same of a step that is known to stand there
pub path_from : (set : Schemas) (path : List Step) (i left : ℕ) (d s : Step) (p : Part) → i < length path → suc i + left ≡ length path → s ≡ get_or path i d →
    path_read set (path_seen (drop i path)) (Ok p) ≡ path_read set (path_seen (drop (i + 1) path)) (step_read set (nat_eq left 0) p (step_seen s))
path_from set path i left d s p inside count is =
    path_at set path i left d p inside count
    ∙ ap (λ (x : Step). path_read set (path_seen (drop (i + 1) path)) (step_read set (nat_eq left 0) p (step_seen x))) (sym is)

-- ---- a step that is refused ----

-- the path begins at its first step
pub from_start : (set : Schemas) (path : List PathStep) (p : Part) (k : ℕ) (kind : ErrorKind) (w : Option StructSchema) → IsRefusedStep set path p k kind w → IsRefusedStep set path p (0 + k) kind w
from_start set path p k kind w h = subst (λ (n : ℕ). IsRefusedStep set path p n kind w) number h
  where
    number : k ≡ 0 + k
    number = omega arith

module _ (set : Schemas) (path : List Step) (i left : ℕ) (d s : Step) (p : Part) (inside : i < length path) (count : suc i + left ≡ length path) (is : s ≡ get_or path i d) where
  stands : drop i path ≡ s ∷ drop (i + 1) path
  stands = drop_more path i d inside ∙ ap (λ (x : Step). x ∷ drop (i + 1) path) (sym is)

  last : nat_eq left 0 ≡ is_empty (path_seen (drop (i + 1) path))
  last = last_at path i left count ∙ (ap (λ (n : ℕ). is_empty (drop n path)) (sym (add-one i)) ∙ sym (seen_empty (drop (i + 1) path)))

  stands_last : {y : Reached} → y ≡ step_read set (nat_eq left 0) p (step_seen s) → step_read set (is_empty (path_seen (drop (i + 1) path))) p (step_seen s) ≡ y
  stands_last e = ap (λ (b : Bool). step_read set b p (step_seen s)) (sym last) ∙ sym e

  refused_at : (kind : ErrorKind) (w : Option StructSchema) → Err kind ≡ step_read set (nat_eq left 0) p (step_seen s) → IsWithin set w p.type → IsRefusedStep set (path_seen (drop i path)) p 0 kind w
  unfolding IsRefusedStep
  refused_at kind w e within = subst (λ (xs : List Step). IsRefusedStep set (path_seen xs) p 0 kind w) (sym stands) (stands_last e, within)

  refused_behind : (q : Part) (k : ℕ) (kind : ErrorKind) (w : Option StructSchema) → Ok q ≡ step_read set (nat_eq left 0) p (step_seen s) → IsRefusedStep set (path_seen (drop (i + 1) path)) q k kind w →
      IsRefusedStep set (path_seen (drop i path)) p (suc k) kind w
  unfolding IsRefusedStep
  refused_behind q k kind w e rest = subst (λ (xs : List Step). IsRefusedStep set (path_seen xs) p (suc k) kind w) (sym stands) (q, stands_last e, rest)

  -- what is so of a step of the rest is so of the path
  module _ (whole : List PathStep) (from : Part) (so : (k : ℕ) (kind : ErrorKind) (w : Option StructSchema) → IsRefusedStep set (path_seen (drop i path)) p k kind w → IsRefusedStep set whole from (i + k) kind w) where
    pub refused_here : (kind : ErrorKind) (w : Option StructSchema) → Err kind ≡ step_read set (nat_eq left 0) p (step_seen s) → IsWithin set w p.type → IsRefusedStep set whole from i kind w
    refused_here kind w e within = subst (λ (n : ℕ). IsRefusedStep set whole from n kind w) number (so 0 kind w (refused_at kind w e within))
      where
        number : i + 0 ≡ i
        number = omega arith

    pub refused_later : (q : Part) → Ok q ≡ step_read set (nat_eq left 0) p (step_seen s) → (k : ℕ) (kind : ErrorKind) (w : Option StructSchema) → IsRefusedStep set (path_seen (drop (i + 1) path)) q k kind w →
        IsRefusedStep set whole from (i + 1 + k) kind w
    refused_later q e k kind w rest = subst (λ (n : ℕ). IsRefusedStep set whole from n kind w) number (so (suc k) kind w (refused_behind q k kind w e rest))
      where
        number : i + suc k ≡ i + 1 + k
        number = omega arith

-- behind the last
pub path_done : (set : Schemas) (path : List Step) (i : ℕ) (p : Part) → length path ≤ i → path_read set (path_seen (drop i path)) (Ok p) ≡ Ok p
path_done set path i p past = ap (λ (xs : List Step). path_read set (path_seen xs) (Ok p)) (at_drop_all (λ (xs : List Step). xs) path i past)
