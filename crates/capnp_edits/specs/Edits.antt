-- Elements of lists that are added, taken out, and put in others' place.
use Rattle.std.specs.Prelude.{ℕ, zero, suc, ◌+◌, ◌-◌, min}
use Rattle.capnp_records.specs.Part.{value_count}
use Rattle.capnp_records.specs.Record.{MoreValues, NoValues, Value, Values, values_from}

-- ---- values in a row ----

abbrev pub append_values : Values → Values → Values
append_values NoValues ws = ws
append_values (MoreValues v vs) ws = MoreValues v (append_values vs ws)

-- the first so many, all where there are no more
abbrev pub first_values : ℕ → Values → Values
first_values zero vs = NoValues
first_values (suc n) NoValues = NoValues
first_values (suc n) (MoreValues v vs) = MoreValues v (first_values n vs)

-- those behind the first so many
abbrev pub values_behind : ℕ → Values → Values
values_behind zero vs = vs
values_behind (suc n) NoValues = NoValues
values_behind (suc n) (MoreValues v vs) = values_behind n vs

-- ---- edits ----

-- elements with others at a place, where so many are taken out
abbrev pub spliced : (at removed : ℕ) → (added elements : Values) → Values
spliced at removed added elements = append_values (first_values at elements) (append_values added (values_behind (at + removed) elements))

-- with others behind the last
abbrev pub appended : (added elements : Values) → Values
appended added elements = spliced (value_count elements) 0 added elements

-- with one in front of another
abbrev pub inserted : ℕ → Value → Values → Values
inserted i v elements = spliced i 0 (MoreValues v NoValues) elements

-- without one
abbrev pub without : ℕ → Values → Values
without i elements = spliced i 1 NoValues elements

-- the first so many, with so many of one value behind them as are missing
abbrev pub resized : ℕ → Value → Values → Values
resized n v elements = spliced (min n (value_count elements)) (value_count elements - n) (values_from (λ _. v) 0 (n - value_count elements)) elements
