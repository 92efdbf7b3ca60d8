-- Worked rows of iterators: the states are the indices still to come of a list that answers each index by itself.
use Rattle.std.proofs.Common.{◌≡◌, refl, ℕ, ◌≤◌, List, [], ◌∷◌, length, Some, None, ap, arith, lit≤}
use Rattle.capnp_base.specs.Taking.{indices, TakesFirst, TakesLast, TakesNth, TakesFromEnds, taken_none, taken_first, taken_last}

abbrev pub source : List ℕ → List ℕ
source s = []

abbrev pub to_come : List ℕ → List ℕ
to_come s = s

abbrev pub answers : List ℕ → ℕ → ℕ → Type 0
answers l i x = x ≡ i

-- ---- indices ----

pub five : indices 0 5 ≡ 0 ∷ 1 ∷ 2 ∷ 3 ∷ 4 ∷ []
unfolding indices
five = refl

-- from an index on, and none at the size and past it
pub two_to_five : indices 2 5 ≡ 2 ∷ 3 ∷ 4 ∷ []
unfolding indices
two_to_five = refl

pub at_size : indices 5 5 ≡ []
unfolding indices
at_size = refl

pub past_size : indices 7 5 ≡ []
unfolding indices
past_size = refl

-- ---- five items: the last, then the second of the others, then none is the tenth ----

pub last_of_five : TakesLast source to_come answers (0 ∷ 1 ∷ 2 ∷ 3 ∷ 4 ∷ []) (Some 4) (0 ∷ 1 ∷ 2 ∷ 3 ∷ [])
last_of_five = (4, refl, refl, refl)

pub four_left : length (to_come (0 ∷ 1 ∷ 2 ∷ 3 ∷ [])) ≡ 4
four_left = refl

pub second_of_four : TakesNth source to_come answers 1 (0 ∷ 1 ∷ 2 ∷ 3 ∷ []) (Some 1) (2 ∷ 3 ∷ [])
second_of_four = (refl, (1, refl, refl))

pub tenth_of_two : TakesNth source to_come answers 9 (2 ∷ 3 ∷ []) None []
tenth_of_two = (refl, (lit≤ tt, refl))

-- the third of two is none too, as far past the end as any
pub third_of_two : TakesNth source to_come answers 2 (2 ∷ 3 ∷ []) None []
third_of_two = (refl, (lit≤ tt, refl))

-- more than a u16 counts
pub far_past_the_end : TakesNth source to_come answers 70_000 (2 ∷ 3 ∷ []) None []
far_past_the_end = (refl, (lit≤ tt, refl))

-- at its end it stays there, from either side
pub end_stays : TakesFirst source to_come answers [] None []
end_stays = (refl, refl)

pub back_end_stays : TakesLast source to_come answers [] None []
back_end_stays = (refl, refl)

pub first_of_two : TakesFirst source to_come answers (2 ∷ 3 ∷ []) (Some 2) (3 ∷ [])
first_of_two = (2, refl, refl, refl)

-- ---- what no call may do ----

-- give the last item and leave it in
pub last_is_taken : ¬ (TakesLast source to_come answers (0 ∷ []) (Some 0) (0 ∷ []))
last_is_taken h = let e : 1 ≡ 2 = ap length h.1 in omega (arith, e)

-- end while an item is left
pub one_is_given : ¬ (TakesFirst source to_come answers (0 ∷ []) None (0 ∷ []))
one_is_given h = let e : 1 ≡ 0 = ap length h.0 in omega (arith, e)

-- skip one too few, where both are left over
pub nth_skips : ¬ (TakesNth source to_come answers 1 (0 ∷ 1 ∷ []) None [])
nth_skips h = let e : 2 ≤ 1 = h.1.0 in omega (arith, e)

-- ---- both ends ----

-- the first, the last, and then the one between them
pub three_from_ends : TakesFromEnds source to_come answers (0 ∷ 1 ∷ 2 ∷ []) (0 ∷ 1 ∷ []) (2 ∷ []) []
three_from_ends =
    taken_first (0 ∷ 1 ∷ 2 ∷ []) (1 ∷ 2 ∷ []) [] 0 (1 ∷ []) (2 ∷ []) (0, refl, refl, refl)
    (taken_last (1 ∷ 2 ∷ []) (1 ∷ []) [] 2 (1 ∷ []) [] (2, refl, refl, refl)
    (taken_first (1 ∷ []) [] [] 1 [] [] (1, refl, refl, refl) (taken_none [])))
