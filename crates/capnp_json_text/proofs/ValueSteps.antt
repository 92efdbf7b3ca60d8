-- What arrays and objects hold, one after another: the bounds of the definitions are enough.
use Rattle.std.proofs.Common.{◌≡◌, ℕ, zero, suc, ◌-◌, ◌≤◌, ◌==◌, Bool, true, false, cond, List, [], ◌∷◌, length, drop, Option, Some, None, Ok, Err, refl, ap, ◌∙◌, arith}
use Rattle.capnp_json_text.specs.Readings.{Rest, after_blanks}
use Rattle.capnp_json_text.specs.Contents.{string_content}
use Rattle.capnp_json_text.specs.Texts.{after_name, after_value, kind_of}
use Rattle.capnp_json_text.specs.Values.{Json, NoElement, Element, NoMember, Member, Null, Number, Array, Object, closing, elements_of, elements_within, first_item, following_item, json_at, json_by, json_value, json_within, left, member_value, members_of, members_within, most_items, next_item, value_unless}
use Rattle.capnp_json_text.specs.Faults.{fault_of}
use Rattle.capnp_json_text.specs.Laws.{IsReadInSteps, StandsInSteps}
use Rattle.capnp_json_text.specs.declared.kinds.Kind.{Kind}
use Rattle.capnp_json_text.specs.declared.kinds.Kind.TheVariants as kind
use Rattle.capnp_json_text.specs.declared.kinds.Bracket.{Bracket}
use Rattle.capnp_json_text.specs.declared.kinds.Bracket.TheVariants.{Square, Curly}
use Rattle.capnp_json_text.specs.declared.kinds.Part.TheVariants.{Value}
use Rattle.capnp_json_text.proofs.Shorter.{Below, blanks_shorter, shrinks_stays}
use Rattle.capnp_json_text.proofs.Enough.{name_shrinks, part_at_stays, part_equation, string_equation}
use Rattle.capnp_json_text.proofs.ContentSteps.{content_equation}

-- ---- lengths ----

left_shorter : (n : ℕ) (r : Rest) → Below (suc n) r → length (left r) ≤ n
left_shorter n (Ok rest) h = omega (arith, h)
left_shorter n (Err fault) h = omega arith

most_either : (n : ℕ) (t : Bool) (p q : Option (List ℕ)) → most_items p ≤ n → most_items q ≤ n → most_items (cond t p q) ≤ n
most_either n true p q h k = h
most_either n false p q h k = k

next_few : (bs : List ℕ) → most_items (next_item bs) ≤ length bs
next_few [] = omega arith
next_few (b ∷ bs) = most_either (suc (length bs)) (b == 44) (Some (after_blanks bs)) None (let h = blanks_shorter bs in omega (arith, h)) (omega arith)

first_few : (bracket : Bracket) (bs : List ℕ) → most_items (first_item bracket bs) ≤ suc (length bs)
first_few bracket [] = omega arith
first_few bracket (b ∷ bs) = most_either (suc (suc (length bs))) (b == closing bracket) None (Some (b ∷ bs)) (omega arith) (omega arith)

following_few : (bs : List ℕ) → most_items (following_item bs) ≤ length bs
following_few bs =
    let value = left_shorter (length bs) (after_value bs) (part_at_stays Value bs) in
    let blanks = blanks_shorter (left (after_value bs)) in
    let next = next_few (after_blanks (left (after_value bs))) in
    omega (arith, value, blanks, next)

member_shorter : (bs : List ℕ) → length (member_value bs) ≤ length bs
member_shorter bs = left_shorter (length bs) (after_name bs) (shrinks_stays after_name name_shrinks bs)

-- ---- elements ----

elements_enough : (json : List ℕ → Json) (k m : ℕ) (at : Option (List ℕ)) → most_items at ≤ k → most_items at ≤ m → elements_within json k at ≡ elements_within json m at
elements_enough json zero zero at h g = refl
elements_enough json zero (suc m) None h g = refl
elements_enough json zero (suc m) (Some bs) h g = absurd (omega (arith, h))
elements_enough json (suc k) zero None h g = refl
elements_enough json (suc k) zero (Some bs) h g = absurd (omega (arith, g))
elements_enough json (suc k) (suc m) None h g = refl
elements_enough json (suc k) (suc m) (Some bs) h g =
    let few = following_few bs in
    ap (Element (json bs)) (elements_enough json k m (following_item bs) (omega (arith, h, few)) (omega (arith, g, few)))

elements_next : (json : List ℕ → Json) (bs : List ℕ) → elements_of json (Some bs) ≡ Element (json bs) (elements_of json (following_item bs))
unfolding elements_of
elements_next json bs = ap (Element (json bs)) (elements_enough json (length bs) (most_items (following_item bs)) (following_item bs) (following_few bs) (omega arith))

elements_same : (f g : List ℕ → Json) (n k : ℕ) (at : Option (List ℕ)) → most_items at ≤ suc n → ((bs : List ℕ) → length bs ≤ n → f bs ≡ g bs) → elements_within f k at ≡ elements_within g k at
elements_same f g n zero at h same = refl
elements_same f g n (suc k) None h same = refl
elements_same f g n (suc k) (Some bs) h same =
    let few = following_few bs in
    ap (λ x. Element x (elements_within f k (following_item bs))) (same bs (omega (arith, h)))
    ∙ ap (Element (g bs)) (elements_same f g n k (following_item bs) (omega (arith, h, few)) same)

-- ---- members ----

members_few : (bs : List ℕ) → most_items (following_item (member_value bs)) ≤ length bs
members_few bs =
    let few = following_few (member_value bs) in
    let short = member_shorter bs in
    omega (arith, few, short)

members_enough : (json : List ℕ → Json) (whole k m : ℕ) (at : Option (List ℕ)) → most_items at ≤ k → most_items at ≤ m → members_within json whole k at ≡ members_within json whole m at
members_enough json whole zero zero at h g = refl
members_enough json whole zero (suc m) None h g = refl
members_enough json whole zero (suc m) (Some bs) h g = absurd (omega (arith, h))
members_enough json whole (suc k) zero None h g = refl
members_enough json whole (suc k) zero (Some bs) h g = absurd (omega (arith, g))
members_enough json whole (suc k) (suc m) None h g = refl
members_enough json whole (suc k) (suc m) (Some bs) h g =
    let few = members_few bs in
    ap (Member (whole - length bs) (string_content (drop 1 bs)) (json (member_value bs)))
    (members_enough json whole k m (following_item (member_value bs)) (omega (arith, h, few)) (omega (arith, g, few)))

members_next : (json : List ℕ → Json) (whole : ℕ) (bs : List ℕ)
    → members_of json whole (Some bs) ≡ Member (whole - length bs) (string_content (drop 1 bs)) (json (member_value bs)) (members_of json whole (following_item (member_value bs)))
unfolding members_of
members_next json whole bs =
    ap (Member (whole - length bs) (string_content (drop 1 bs)) (json (member_value bs)))
    (members_enough json whole (length bs) (most_items (following_item (member_value bs))) (following_item (member_value bs)) (members_few bs) (omega arith))

members_same : (f g : List ℕ → Json) (whole n k : ℕ) (at : Option (List ℕ)) → most_items at ≤ suc n → ((bs : List ℕ) → length bs ≤ n → f bs ≡ g bs) → members_within f whole k at ≡ members_within g whole k at
members_same f g whole n zero at h same = refl
members_same f g whole n (suc k) None h same = refl
members_same f g whole n (suc k) (Some bs) h same =
    let few = members_few bs in
    let short = member_shorter bs in
    ap (λ x. Member (whole - length bs) (string_content (drop 1 bs)) x (members_within f whole k (following_item (member_value bs)))) (same (member_value bs) (omega (arith, h, short)))
    ∙ ap (Member (whole - length bs) (string_content (drop 1 bs)) (g (member_value bs))) (members_same f g whole n k (following_item (member_value bs)) (omega (arith, h, few)) same)

-- ---- values ----

by_same : (f g : List ℕ → Json) (whole : ℕ) (k : Option Kind) (b : ℕ) (bs : List ℕ) → ((cs : List ℕ) → length cs ≤ length bs → f cs ≡ g cs) → json_by f whole k b bs ≡ json_by g whole k b bs
unfolding elements_of members_of
by_same f g whole None b bs same = refl
by_same f g whole (Some kind.Null) b bs same = refl
by_same f g whole (Some kind.True) b bs same = refl
by_same f g whole (Some kind.False) b bs same = refl
by_same f g whole (Some kind.Number) b bs same = refl
by_same f g whole (Some kind.String) b bs same = refl
by_same f g whole (Some kind.Array) b bs same =
    let first = first_few Square (after_blanks bs) in
    let blanks = blanks_shorter bs in
    ap (Array (whole - length (b ∷ bs))) (elements_same f g (length bs) (most_items (first_item Square (after_blanks bs))) (first_item Square (after_blanks bs)) (omega (arith, first, blanks)) same)
by_same f g whole (Some kind.Object) b bs same =
    let first = first_few Curly (after_blanks bs) in
    let blanks = blanks_shorter bs in
    ap (Object (whole - length (b ∷ bs))) (members_same f g whole (length bs) (most_items (first_item Curly (after_blanks bs))) (first_item Curly (after_blanks bs)) (omega (arith, first, blanks)) same)

json_enough : (k m whole : ℕ) (bs : List ℕ) → length bs ≤ k → length bs ≤ m → json_within k whole bs ≡ json_within m whole bs
json_enough zero zero whole bs h g = refl
json_enough zero (suc m) whole [] h g = let e : whole - 0 ≡ whole = omega arith in ap Null e
json_enough zero (suc m) whole (b ∷ bs) h g = absurd (omega (arith, h))
json_enough (suc k) zero whole [] h g = let e : whole ≡ whole - 0 = omega arith in ap Null e
json_enough (suc k) zero whole (b ∷ bs) h g = absurd (omega (arith, g))
json_enough (suc k) (suc m) whole [] h g = refl
json_enough (suc k) (suc m) whole (b ∷ bs) h g =
    by_same (json_within k whole) (json_within m whole) whole (kind_of b) b bs (λ cs q. json_enough k m whole cs (omega (arith, h, q)) (omega (arith, g, q)))

value_next : (whole b : ℕ) (bs : List ℕ) → json_at whole (b ∷ bs) ≡ json_by (json_at whole) whole (kind_of b) b bs
unfolding json_at
value_next whole b bs =
    by_same (json_within (length bs) whole) (λ cs. json_within (length cs) whole cs) whole (kind_of b) b bs (λ cs q. json_enough (length bs) (length cs) whole cs q (omega arith))

no_elements : (json : List ℕ → Json) → elements_of json None ≡ NoElement
unfolding elements_of
no_elements json = refl

no_members : (json : List ℕ → Json) (whole : ℕ) → members_of json whole None ≡ NoMember
unfolding members_of
no_members json whole = refl

text_value : (bs : List ℕ) → fault_of bs ≡ None → json_value bs ≡ Ok (json_at (length bs) (after_blanks bs))
unfolding json_value
text_value bs e = ap (λ f. value_unless f (json_at (length bs) (after_blanks bs))) e

no_value : (bs : List ℕ) (place : ℕ) → fault_of bs ≡ Some place → json_value bs ≡ Err place
unfolding json_value
no_value bs place e = ap (λ f. value_unless f (json_at (length bs) (after_blanks bs))) e

pub read_in_steps : IsReadInSteps
read_in_steps = record { strings = string_equation; contents = content_equation; parts = part_equation }

pub stands_in_steps : StandsInSteps
stands_in_steps = record { texts = text_value; refused = no_value; values = value_next; no_elements = no_elements; elements = elements_next; no_members = no_members; members = members_next }
