-- The structs of one display name in two sets, and their comparison.
use Rattle.std.proofs.Common.{[], ℕ, ◌+◌, ◌-◌, ◌≡◌, ◌≤◌, ◌↔◌, ◌++◌, List, Bool, Some, Result, Ok, Err, IfOk, AllPairs, Contains, arith, ap, length, string_bytes, sym, ◌∙◌, subst}
use Rattle.capnp_schema.specs.ByName.{brand_asked}
use Rattle.capnp_schema.specs.Schema.{Schemas}
use Rattle.capnp_differences.specs.Differences.{AreAnswered, ComesFirst, IsDifferenceOf}
use Rattle.capnp_differences.specs.Notes.{AreNotes}
use Rattle.capnp_differences.specs.declared.differences.Difference.{Difference}
use Rattle.capnp_differences.specs.declared.differences.Pair.{Pair}
use Rattle.capnp_differences.specs.declared.noted.Note.{Note}
use Rattle.capnp_joined_sets.specs.Joined.{joined}
use Rattle.capnp_dynamic_readers.specs.Pieces.{IsAppended}
use Rattle.capnp_versions.specs.Changes.{changes_text}
use Rattle.capnp_versions.specs.Lines.{differences_text}
use Rattle.capnp_versions.specs.Shared.{count_true, first_at, moved_pair, name_at, notes_text, pair_of_first, shared_pair, shared_pairs}
use Rattle.capnp_versions.specs.Versions.{IsComparisonOf, IsFullComparison}
use Rattle.capnp_versions.specs.declared.every.FullComparison.{FullComparison}

-- a pair whose structs were found
pub found_pair : (older newer : Schemas) (b a n : ℕ) (name : List ℕ) → Some a ≡ first_at older b → name ≡ name_at older a → Some n ≡ brand_asked newer name → shared_pair older newer b ≡ Some (record { older = a; newer = n + length older.brands })
found_pair older newer b a n name e named f =
    ap (pair_of_first older newer) (sym e) ∙ ap (moved_pair (length older.brands) a) (sym (f ∙ ap (brand_asked newer) named))

-- what an explanation of pairs in a set has
pub record IsExplained (set : Schemas) (ps : List Pair) (told : List Difference) (follows : List Bool) (changes : List Note) : Type 0 where
  pub exactly : (d : Difference) → (Contains told d ↔ IsDifferenceOf set ps d)
  pub order : AllPairs ComesFirst told
  pub answered : AreAnswered set ps follows
  pub noted : AreNotes set ps changes

-- what a comparison has of it: its texts, and how many structs follow
pub record IsReported (set : Schemas) (told : List Difference) (follows : List Bool) (changes : List Note) (behind : List ℕ) (c : FullComparison) : Type 0 where
  pub text : IsAppended [] (differences_text set told) (string_bytes c.text)
  pub compatible : c.compatible ≡ count_true follows
  pub few : c.compatible ≤ length follows
  pub incompatible : c.incompatible ≡ length follows - c.compatible
  pub notes : string_bytes c.notes ≡ changes_text set changes ++ behind

-- what was told of the pairs
compared_by : (set : Schemas) (ps : List Pair) (told : List Difference) (follows : List Bool) (changes : List Note) (behind : List ℕ) (c : FullComparison)
    → IsExplained set ps told follows changes → IsReported set told follows changes behind c → IsComparisonOf set ps behind c
compared_by set ps told follows changes behind c explained reported = record {
  told = told;
  exactly = explained.exactly;
  order = explained.order;
  text = reported.text;
  follows = follows;
  answered = explained.answered;
  compatible = reported.compatible;
  incompatible = let all = explained.answered.count in let k = reported.incompatible in let few = reported.few in omega arith;
  changes = changes;
  noted = explained.noted;
  notes = reported.notes;
}

pub compared_pairs : (set : Schemas) (ps qs : List Pair) (told : List Difference) (follows : List Bool) (changes : List Note) (behind : List ℕ) (c : FullComparison)
    → ps ≡ qs → IsExplained set ps told follows changes → IsReported set told follows changes behind c → IsComparisonOf set qs behind c
compared_pairs set ps qs told follows changes behind c same explained reported =
    subst (λ (xs : List Pair). IsComparisonOf set xs behind c) same (compared_by set ps told follows changes behind c explained reported)

-- the pairs of one name in the joined set
pub compared_all : (older newer set : Schemas) (ps : List Pair) (behind : List ℕ) (c : FullComparison)
    → set ≡ joined older newer → ps ≡ shared_pairs older newer → behind ≡ notes_text older newer → IsComparisonOf set ps behind c → IsFullComparison older newer c
compared_all older newer set ps behind c same shared notes h =
    subst (λ (s : Schemas). IsComparisonOf s (shared_pairs older newer) (notes_text older newer) c) same
    (subst (λ (qs : List Pair). IsComparisonOf set qs (notes_text older newer) c) shared
    (subst (λ (text : List ℕ). IsComparisonOf set ps text c) notes h))

pub if_ok : {A E : Type 0} {P Q : A → Type 0} (r : Result A E) → ((a : A) → P a → Q a) → IfOk r P → IfOk r Q
if_ok (Ok a) f h = f a h
if_ok (Err e) f h = tt
