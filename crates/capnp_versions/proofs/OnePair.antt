-- What is told where one pair is asked.
use Rattle.std.proofs.Common.{zero, suc, ◌≡◌, ◌↔◌, List, [], ◌∷◌, Contains, arith, refl, subst, sym}
use Rattle.capnp_schema.specs.Schema.{Schemas}
use Rattle.capnp_records.specs.Compatible.{IsCompatibleOrUpgraded}
use Rattle.capnp_differences.specs.Differences.{IsCompared, IsDifference, IsDifferenceOf}
use Rattle.capnp_differences.specs.declared.differences.Difference.{Difference}
use Rattle.capnp_differences.specs.declared.differences.Pair.{Pair}

is_only : (g p : Pair) → Contains (g ∷ []) p → g ≡ p
is_only g p (zero, lt, e) = e
is_only g p (suc k, lt, e) = absurd (omega arith)

here : (g : Pair) → Contains (g ∷ []) g
here g = (0, omega arith, refl)

pub one_told : (set : Schemas) (g : Pair) (told : List Difference) → ((d : Difference) → (Contains told d ↔ IsDifferenceOf set (g ∷ []) d)) → (d : Difference) → (Contains told d ↔ IsDifference set g.older g.newer d)
one_told set g told exactly d = (λ h. to ((exactly d).0 h), λ h. (exactly d).1 (record { compared = record { given = g; stands = here g; compared = h.compared }; holds = h.holds }))
  where
    to : IsDifferenceOf set (g ∷ []) d → IsDifference set g.older g.newer d
    to h = record { compared = subst (λ (p : Pair). IsCompared set p.older p.newer d.pair.older d.pair.newer) (sym (is_only g h.compared.given h.compared.stands)) h.compared.compared; holds = h.holds }

pub one_follows : (set : Schemas) (g : Pair) (told : List Difference) → ((told ≡ []) ↔ ((p : Pair) → Contains (g ∷ []) p → IsCompatibleOrUpgraded set p.older p.newer)) → ((told ≡ []) ↔ IsCompatibleOrUpgraded set g.older g.newer)
one_follows set g told all = (λ e. all.0 e g (here g), λ c. all.1 (λ p h. subst (λ (q : Pair). IsCompatibleOrUpgraded set q.older q.newer) (is_only g p h) c))
