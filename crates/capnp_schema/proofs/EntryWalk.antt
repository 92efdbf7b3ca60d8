-- All entries of a list, one after another.
use Rattle.std.proofs.Common.{All, ℕ, ◌≡◌, ◌<◌, ◌≤◌, ◌+◌, ⊎_elim, List, length, get_or, map, slice_get, Option, Some, None, refl, sym, ap, ◌∙◌, subst, arith}
use Rattle.std.specs.Option.{option_map, unwrap_or}
use Rattle.std.proofs.lemmas.Bool.{cases_lt}
use Rattle.std.proofs.lemmas.Option.{get_or_from_slice_get, slice_get-get_or, slice_get-map, slice_get_read, slice_get_within, same_Some}
use Rattle.capnp_schema.specs.Schema.{Schemas, Node, no_node, node_at}
use Rattle.capnp_schema.specs.Broken.{EntryBreaks}
use Rattle.capnp_schema.specs.Steps.Checking.Entry.{IsSoAt}

-- P of the first so many entries
abbrev pub StandBelow : {A : Type 0} → List A → (A → Type 0) → ℕ → Type 0
StandBelow {A} entries P n = (k : ℕ) (x : A) → k < n → slice_get entries k ≡ Some x → P x

-- what is so of all is so of an entry that is there
pub entry_has : {A : Type 0} (P : A → Type 0) (xs : List A) (i : ℕ) (x : A) → All P xs → Some x ≡ slice_get xs i → P x
entry_has P xs i x all e = subst P (get_or_from_slice_get xs i x x (sym e)) (all i x (slice_get_within xs i x (sym e)))

-- and of a node by its number, where it is so of what stands past the last
pub at_node : (set : Schemas) (P : Node → Type 0) → All P set.nodes → P no_node → (n : ℕ) → P (node_at set n)
at_node set P all none n = by_entry (slice_get set.nodes n) refl
  where
    by_entry : (o : Option Node) → slice_get set.nodes n ≡ o → P (unwrap_or o no_node)
    by_entry None e = none
    by_entry (Some x) e = entry_has P set.nodes n x all (sym e)

module _ {A : Type 0} (entries : List A) (P : A → Type 0) where
  pub none_stand : StandBelow entries P 0
  none_stand k x h at = absurd (omega arith)

  pub is_so_here : (n : ℕ) (x : A) → Some x ≡ slice_get entries n → P x → IsSoAt entries P n
  is_so_here n x is here = λ y at. subst P (same_Some x y (is ∙ at)) here

  pub more_stand : (n : ℕ) → StandBelow entries P n → IsSoAt entries P n → StandBelow entries P (n + 1)
  more_stand n before here k y h at = ⊎_elim (λ lt. before k y lt at) (λ le. let e : n ≡ k = omega arith in here y (ap (slice_get entries) e ∙ at)) (cases_lt k n)

  pub one_stands : (n : ℕ) (x : A) → Some x ≡ slice_get entries n → P x → StandBelow entries P n → StandBelow entries P (n + 1)
  one_stands n x is here before = more_stand n before (is_so_here n x is here)

  pub all_stand : (n : ℕ) → StandBelow entries P n → length entries ≤ n → All P entries
  all_stand n before end k d h = before k (get_or entries k d) (omega arith) (slice_get-get_or entries k d h)

  pub entry_breaks : (n : ℕ) (x : A) → Some x ≡ slice_get entries n → (P x → ⊥) → EntryBreaks entries P n
  entry_breaks n x is broken = record { entry = x; is = sym is; broken = broken }

  pub breaks_within : (n : ℕ) → EntryBreaks entries P n → n < length entries
  breaks_within n b = slice_get_within entries n b.entry b.is

  -- where an entry breaks P, P isn't so of them all
  pub breaks_all : (n : ℕ) → EntryBreaks entries P n → All P entries → ⊥
  breaks_all n b all = b.broken (entry_has P entries n b.entry all (sym b.is))

-- an entry that is found, as specs see it
pub seen_at : {A B : Type 0} (v : A → B) (xs : List A) (i : ℕ) (x : A) → Some x ≡ slice_get xs i → Some (v x) ≡ slice_get (map v xs) i
seen_at v xs i x is = ap (option_map v) is ∙ sym (slice_get-map v xs i)

-- and one that is read
pub seen_read : {A B : Type 0} (v : A → B) (xs : List A) (i : ℕ) (x : A) → i < length xs → x ≡ get_or xs i x → Some (v x) ≡ slice_get (map v xs) i
seen_read v xs i x h e = seen_at v xs i x (sym (slice_get_read xs (length xs) i x refl h e))
