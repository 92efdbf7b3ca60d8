-- Pairs that are put into a list one after another.
use Rattle.std.proofs.Common.{ℕ, ◌+◌, ◌≡◌, ◌⊎◌, inl, inr, List, [], IsTrue, All, Some, slice_get, arith, ap, sym, ◌∙◌, subst, below_more}
use Rattle.std.proofs.lemmas.List.Elements.{All-contains}
use Rattle.capnp_schema.specs.Schema.{Schemas}
use Rattle.capnp_differences.specs.Closing.{listed_pairs}
use Rattle.capnp_differences.specs.Differences.{IsBrandPair}
use Rattle.capnp_differences.specs.Steps.Comparing.{Adds, IsPairOf, Within, brand_pairs, pair_of}
use Rattle.capnp_differences.specs.Steps.Gathering.{Gathers, IsAt, IsToldAt}
use Rattle.capnp_differences.specs.declared.differences.Difference.{Difference}
use Rattle.capnp_differences.specs.declared.differences.Pair.{Pair}
use Rattle.capnp_differences.proofs.BrandPairs.{in_brands}
use Rattle.capnp_differences.proofs.Listings.{contains_at}

module _ (Is : ℕ → Pair → Type 0) where
  pub gather_none : (ps : List Pair) → ps ≡ [] → Gathers Is ps 0
  gather_none ps e = subst (λ (x : List Pair). Gathers Is x 0) (sym e) (record {
    all = λ k lt p h. absurd (omega arith);
    only = λ a b h. cc;
    apart = tt;
  })

  -- an index has one pair
  pub gather_more : (ps qs : List Pair) (count : ℕ) (p : Pair) → Gathers Is ps count → Is count p → ((q : Pair) → Is count q → q ≡ p) → Adds ps qs (IsPairOf p) → Gathers Is qs (count + 1)
  gather_more ps qs count p g here one adds = record {
    all = below_more (λ k. (q : Pair) → Is k q → IsTrue (listed_pairs qs q.older q.newer)) count
        (λ k below q h. (adds.joined q.older q.newer).1 (inl (g.all k below q h)))
        (λ q h. (adds.joined q.older q.newer).1 (inr (let e = one q h in (ap (λ (x : Pair). x.older) e, ap (λ (x : Pair). x.newer) e))));
    only = λ a b h. from a b ((adds.joined a b).0 h);
    apart = adds.apart g.apart;
  }
    where
      from : (a b : ℕ) → IsTrue (listed_pairs ps a b) ⊎ IsPairOf p a b → (k : ℕ) × Is k (pair_of a b)
      from a b (inl h) = g.only a b h
      from a b (inr e) = (count, subst (λ (y : ℕ). Is count (pair_of a y)) (sym e.1) (subst (λ (x : ℕ). Is count (pair_of x p.newer)) (sym e.0) here))

  pub gather_all : (ps : List Pair) (count all : ℕ) → count ≡ all → Gathers Is ps count → Gathers Is ps all
  gather_all ps count all e g = subst (Gathers Is ps) e g

pub one_told : (told : List Difference) (k : ℕ) (x : Difference) (q : Pair) → slice_get told k ≡ Some x → IsToldAt told k q → q ≡ x.pair
one_told told k x q e (d, f, g) = let same : Some d ≡ Some x = sym f ∙ e in let eq : d ≡ x = cc in sym g ∙ ap (λ (y : Difference). y.pair) eq

-- pairs of brands stay that
pub gathered_brands : (set : Schemas) (asked ps : List Pair) (count : ℕ) → Gathers (IsAt asked) ps count → All (IsBrandPair set) asked → Within (listed_pairs ps) (brand_pairs set)
gathered_brands set asked ps count g brands a b h =
    let at = g.only a b h in
    let both = All-contains (IsBrandPair set) asked (pair_of a b) brands (contains_at asked at.0 (pair_of a b) at.1) in
    in_brands set a b both.0 both.1
