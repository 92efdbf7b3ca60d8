-- Worked rows: edits of elements.
use Rattle.std.specs.Prelude.{◌≡◌, refl, ℕ, pos}
use Rattle.capnp_records.specs.Record as value
use Rattle.capnp_records.specs.Record.{MoreValues, NoValues, Value, Values}
use Rattle.capnp_edits.specs.Edits.{appended, inserted, resized, spliced, without}

abbrev number : ℕ → Value
number n = value.Number (pos n)

abbrev two : ℕ → ℕ → Values
two a b = MoreValues (number a) (MoreValues (number b) NoValues)

abbrev three : ℕ → ℕ → ℕ → Values
three a b c = MoreValues (number a) (two b c)

behind_the_last : appended (two 7 8) (three 1 2 3) ≡ MoreValues (number 1) (MoreValues (number 2) (three 3 7 8))
behind_the_last = refl

to_an_empty_list : appended (two 7 8) NoValues ≡ two 7 8
to_an_empty_list = refl

nothing_appended : appended NoValues (three 1 2 3) ≡ three 1 2 3
nothing_appended = refl

in_front_of_the_first : inserted 0 (number 9) (two 1 2) ≡ three 9 1 2
in_front_of_the_first = refl

in_front_of_the_last : inserted 1 (number 9) (two 1 2) ≡ three 1 9 2
in_front_of_the_last = refl

inserted_at_the_length : inserted 2 (number 9) (two 1 2) ≡ three 1 2 9
inserted_at_the_length = refl

without_the_first : without 0 (three 1 2 3) ≡ two 2 3
without_the_first = refl

without_the_last : without 2 (three 1 2 3) ≡ two 1 2
without_the_last = refl

shorter : resized 2 (number 0) (three 1 2 3) ≡ two 1 2
shorter = refl

longer : resized 3 (number 0) (MoreValues (number 1) NoValues) ≡ three 1 0 0
longer = refl

of_one_length : resized 3 (number 0) (three 1 2 3) ≡ three 1 2 3
of_one_length = refl

to_nothing : resized 0 (number 0) (three 1 2 3) ≡ NoValues
to_nothing = refl

two_in_the_place_of_one : spliced 1 1 (two 8 9) (three 1 2 3) ≡ MoreValues (number 1) (three 8 9 3)
two_in_the_place_of_one = refl
