-- What is read next is shorter than what it was read from.
use Rattle.std.proofs.Common.{ℕ, suc, ◌≡◌, ◌<◌, ◌≤◌, ◌==◌, Bool, true, false, cond, List, [], ◌∷◌, length, Some, None, Ok, Err, arith, ap}
use Rattle.capnp_json_text.specs.Readings.{Rest, after_blanks}
use Rattle.capnp_json_text.specs.Texts.{after_name, after_value}
use Rattle.capnp_json_text.specs.Values.{closing, first_item, following_item, left, member_value, next_item}
use Rattle.capnp_json_text.specs.declared.kinds.Bracket.{Bracket}
use Rattle.capnp_json_text.specs.declared.kinds.Part.TheVariants.{Value}
use Rattle.capnp_json_text.proofs.Enough.{name_shrinks, part_at_stays}
use Rattle.capnp_json_text.proofs.Shorter.{Below, blanks_shorter}
use Rattle.capnp_from_json.specs.Held.{bytes_left}

left_below : (n : ℕ) (r : Rest) → Below (suc n) r → length (left r) ≤ n
left_below n (Ok rest) h = omega (arith, h)
left_below n (Err fault) h = omega arith

-- the value of a member
pub value_shorter : (bs : List ℕ) → length (member_value bs) ≤ length bs
value_shorter bs = go (after_name bs) (name_shrinks bs)
  where
    go : (r : Rest) → Below (length bs) r → length (left r) ≤ length bs
    go (Ok rest) h = omega (arith, h)
    go (Err fault) h = omega arith

-- the first item
pub item_shorter : (bracket : Bracket) (bs : List ℕ) → bytes_left (first_item bracket bs) ≤ length bs
item_shorter bracket [] = omega arith
item_shorter bracket (b ∷ bs) = go (b == closing bracket)
  where
    go : (q : Bool) → bytes_left (cond q None (Some (b ∷ bs))) ≤ suc (length bs)
    go true = omega arith
    go false = omega arith

pub first_shorter : (bracket : Bracket) (bs : List ℕ) → bytes_left (first_item bracket (after_blanks bs)) ≤ length bs
first_shorter bracket bs = omega (arith, item_shorter bracket (after_blanks bs), blanks_shorter bs)

next_shorter : (bs more : List ℕ) → next_item bs ≡ Some more → length more < length bs
next_shorter [] more e = absurd (none e)
  where
    none : {xs : List ℕ} → None ≡ Some xs → ⊥
    none e = cc
next_shorter (b ∷ bs) more e = go (b == 44) e
  where
    none : {xs : List ℕ} → None ≡ Some xs → ⊥
    none e = cc

    same : {xs ys : List ℕ} → Some xs ≡ Some ys → xs ≡ ys
    same e = cc

    go : (q : Bool) → cond q (Some (after_blanks bs)) None ≡ Some more → length more < suc (length bs)
    go true h = omega (arith, blanks_shorter bs, ap length (same h))
    go false h = absurd (none h)

-- the item behind another
pub following_shorter : (bs more : List ℕ) → following_item bs ≡ Some more → length more < length bs
following_shorter bs more e =
    omega (arith, next_shorter (after_blanks (left (after_value bs))) more e, blanks_shorter (left (after_value bs)), left_below (length bs) (after_value bs) (part_at_stays Value bs))
