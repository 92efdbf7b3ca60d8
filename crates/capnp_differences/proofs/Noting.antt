-- Notes of pairs one after another, and of the pairs that are compared.
use Rattle.std.proofs.Common.{ℕ, zero, suc, ◌+◌, ◌≡◌, ⊎_elim, List, [], ◌∷◌, ◌++◌, Some, drop, slice_get, add-one, arith, ap, append_assoc, sym, ◌∙◌}
use Rattle.std.proofs.lemmas.Bool.{cases_lt}
use Rattle.capnp_schema.specs.Schema.{Schemas}
use Rattle.capnp_differences.specs.Notes.{AreNotes, notes_of, pair_notes}
use Rattle.capnp_differences.specs.Steps.Comparing.{Compares}
use Rattle.capnp_differences.specs.declared.noted.Note.{Note}
use Rattle.capnp_differences.specs.declared.differences.Difference.{Difference}
use Rattle.capnp_differences.specs.declared.differences.Pair.{Pair}
use Rattle.capnp_differences.proofs.Explaining.{all_listed}
use Rattle.capnp_differences.proofs.Turns.{stands_once}

-- ---- one pair more ----

drop_suc : (ps : List Pair) (i : ℕ) (p : Pair) → slice_get ps i ≡ Some p → drop i ps ≡ p ∷ drop (suc i) ps
drop_suc [] i p e = cc
drop_suc (x ∷ xs) zero p e = let s : x ≡ p = cc in ap (λ (y : Pair). y ∷ xs) s
drop_suc (x ∷ xs) (suc i) p e = drop_suc xs i p e

drop_at : (ps : List Pair) (i : ℕ) (p : Pair) → slice_get ps i ≡ Some p → drop i ps ≡ p ∷ drop (i + 1) ps
drop_at ps i p e = drop_suc ps i p e ∙ ap (λ (n : ℕ). p ∷ drop n ps) (sym (add-one i))

pub next_noted : (set : Schemas) (ps : List Pair) (i : ℕ) (p : Pair) (before after all : List Note) → slice_get ps i ≡ Some p → before ++ notes_of set (drop i ps) ≡ all →
    after ≡ before ++ pair_notes set p → after ++ notes_of set (drop (i + 1) ps) ≡ all
next_noted set ps i p before after all at left more =
    ap (λ (ns : List Note). ns ++ notes_of set (drop (i + 1) ps)) more
    ∙ (append_assoc before (pair_notes set p) (notes_of set (drop (i + 1) ps))
    ∙ (ap (λ (qs : List Pair). before ++ notes_of set qs) (sym (drop_at ps i p at)) ∙ left))

-- ---- the pairs that are compared ----

module _ (set : Schemas) (asked ps : List Pair) (ts : List Difference) (w : Compares set asked ps ts) where
  once : (i j : ℕ) (p : Pair) → slice_get ps i ≡ Some p → slice_get ps j ≡ Some p → i ≡ j
  once i j p e f =
      ⊎_elim (λ lt. absurd (stands_once ps w.apart i j lt p e f))
      (λ le. ⊎_elim (λ lt. absurd (stands_once ps w.apart j i lt p f e)) (λ ge. omega arith) (cases_lt j i)) (cases_lt i j)

  pub are_notes : (notes : List Note) → notes ≡ notes_of set ps → AreNotes set asked notes
  are_notes notes e = record {
    pairs = ps;
    compared = λ a b. (w.compared a b, all_listed set asked ps ts w a b);
    once = once;
    told = e;
  }
