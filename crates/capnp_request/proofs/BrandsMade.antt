-- One more node with its brand.
use Rattle.std.proofs.Common.{ℕ, ◌+◌, ◌≡◌, suc, arith, subst, sym, List, [], ◌∷◌, ◌++◌, length}
use Rattle.capnp_schema.specs.declared.record.BrandRecord.{BrandRecord}
use Rattle.capnp_schema.specs.declared.record.NodeRecord.{NodeRecord}
use Rattle.capnp_request.specs.Shapes.{AreBrandsFrom, AreBrandsOf, IsBrandOf}

one_more : (i : ℕ) (ns : List NodeRecord) (bs : List BrandRecord) (n : NodeRecord) (b : BrandRecord) → AreBrandsFrom i ns bs → IsBrandOf (i + length ns) n b → AreBrandsFrom i (ns ++ n ∷ []) (bs ++ b ∷ [])
one_more i [] [] n b h is = let e : i + 0 ≡ i = omega arith in (subst (λ k. IsBrandOf k n b) e is, tt)
one_more i [] (c ∷ bs) n b h is = absurd h
one_more i (m ∷ ns) [] n b h is = absurd h
one_more i (m ∷ ns) (c ∷ bs) n b h is = let e : i + suc (length ns) ≡ suc i + length ns = omega arith in (h.0, one_more (suc i) ns bs n b h.1 (subst (λ k. IsBrandOf k n b) e is))

pub brand_made : (ns ns' : List NodeRecord) (bs bs' : List BrandRecord) (n : NodeRecord) (b : BrandRecord) (k : ℕ) → AreBrandsOf ns bs → k ≡ length ns → IsBrandOf k n b → ns' ≡ ns ++ n ∷ [] → bs' ≡ bs ++ b ∷ [] → AreBrandsOf ns' bs'
brand_made ns ns' bs bs' n b k h e is nodes brands =
    let at : k ≡ 0 + length ns = omega (arith, e) in
    subst (λ x. AreBrandsOf x bs') (sym nodes) (subst (λ y. AreBrandsOf (ns ++ n ∷ []) y) (sym brands) (one_more 0 ns bs n b h (subst (λ j. IsBrandOf j n b) at is)))
