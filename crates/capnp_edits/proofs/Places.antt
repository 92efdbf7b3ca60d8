-- The place of an edit lies in the list.
use Rattle.std.proofs.Common.{◌≡◌, ℕ, ◌+◌, ◌-◌, ◌≤◌, Bool, true, false, cond, nat_lt, Result, Ok, Err, refl, subst, arith}
use Rattle.std.proofs.lemmas.Bool.{ltb-false, ltb-true}
use Rattle.std.specs.Prelude.{min}
use Rattle.capnp_device.specs.declared.error.ErrorKind.{ErrorKind}
use Rattle.capnp_device.specs.declared.error.ErrorKind.TheVariants.{NoSuchElement}
use Rattle.capnp_edits.specs.Changes.{Append, Edit, Insert, Place, Remove, Resize, place_of}

abbrev found : Place → Result Place ErrorKind
found p = Ok p

abbrev refused : ErrorKind → Result Place ErrorKind
refused kind = Err kind

no_place : (p : Place) (kind : ErrorKind) → refused kind ≡ found p → ⊥
no_place p kind h = cc

same_place : (p q : Place) → found p ≡ found q → p ≡ q
same_place p q h = cc

pub place_within : (edit : Edit) (n : ℕ) (p : Place) → place_of edit n ≡ Ok p → p.at + p.removed ≤ n
place_within (Append ss) n p h = subst (λ (q : Place). q.at + q.removed ≤ n) (same_place (record { at = n; removed = 0 }) p h) (omega arith)
place_within (Insert i s) n p h = go (nat_lt n i) refl h
  where
    go : (b : Bool) → nat_lt n i ≡ b → cond b (refused NoSuchElement) (found (record { at = i; removed = 0 })) ≡ found p → p.at + p.removed ≤ n
    go true e h = absurd (no_place p NoSuchElement h)
    go false e h = subst (λ (q : Place). q.at + q.removed ≤ n) (same_place (record { at = i; removed = 0 }) p h) (omega (arith, ltb-false n i e))
place_within (Remove i) n p h = go (nat_lt i n) refl h
  where
    go : (b : Bool) → nat_lt i n ≡ b → cond b (found (record { at = i; removed = 1 })) (refused NoSuchElement) ≡ found p → p.at + p.removed ≤ n
    go true e h = subst (λ (q : Place). q.at + q.removed ≤ n) (same_place (record { at = i; removed = 1 }) p h) (omega (arith, ltb-true i n e))
    go false e h = absurd (no_place p NoSuchElement h)
place_within (Resize m) n p h = subst (λ (q : Place). q.at + q.removed ≤ n) (same_place (record { at = min m n; removed = n - m }) p h) (omega arith)
