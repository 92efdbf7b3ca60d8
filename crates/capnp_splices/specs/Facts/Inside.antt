-- The elements that come into a spliced list lie inside their lists.
use Rattle.std.proofs.Common.{◌≡◌, ℕ, ◌+◌, ◌-◌, ◌<◌, ◌≤◌, refl, Bool, true, false, cond, nat_lt, arith}
use Rattle.std.proofs.lemmas.Bool.{ltb-false, ltb-true}
use Rattle.capnp_wire.specs.Reading.{list_length}
use Rattle.capnp_splices.specs.Splices.{Element, Splice, picked, spliced_count}

-- a fact of all elements of both lists holds of each that is picked
pub picked_has : (P : Element → Type 0) (s : Splice) (i : ℕ) → s.at + s.removed ≤ list_length s.old → i < spliced_count s
    → ((j : ℕ) → j < list_length s.old → P (record { list = s.old; index = j })) → ((j : ℕ) → j < list_length s.added → P (record { list = s.added; index = j }))
    → P (picked s i)
picked_has P s i within inside old added = first (nat_lt i s.at) refl
  where
    n : ℕ
    n = list_length s.added

    later : (b : Bool) → nat_lt (i - s.at) n ≡ b → s.at ≤ i
        → P (cond b (record { list = s.added; index = i - s.at }) (record { list = s.old; index = i - n + s.removed }))
    later true e from = added (i - s.at) (ltb-true (i - s.at) n e)
    later false e from = old (i - n + s.removed) (omega (arith, ltb-false (i - s.at) n e, inside, within, from))

    first : (b : Bool) → nat_lt i s.at ≡ b
        → P (cond b (record { list = s.old; index = i }) (cond (nat_lt (i - s.at) n) (record { list = s.added; index = i - s.at }) (record { list = s.old; index = i - n + s.removed })))
    first true e = old i (omega (arith, ltb-true i s.at e, within))
    first false e = later (nat_lt (i - s.at) n) refl (ltb-false i s.at e)
