-- The numbers of a list, one after another, and those that an iterator over them has left.
use Rattle.std.specs.Prelude.{ℕ, zero, suc, ◌+◌, ◌-◌, List, [], ◌∷◌}
use Rattle.capnp_wire.specs.Tree.{Tree}
use Rattle.capnp_wire.specs.Found.{found_tree}
use Rattle.capnp_wire.specs.Reading.{element_number, list_length}
use Rattle.capnp_wire.specs.Standing.{list_of}
use Rattle.capnp_wire.specs.declared.numbers.Numbers.{Numbers}
use Rattle.capnp_wire.specs.declared.numbers.NumberIter.{NumberIter}

-- the values of the numbers at so many elements of a list, from an index on
abbrev pub numbers_from : {A : Type 0} → (ℕ → A) → ℕ → Tree → ℕ → ℕ → List A
numbers_from of_number width t i zero = []
numbers_from of_number width t i (suc n) = of_number (element_number width t i) ∷ numbers_from of_number width t (i + 1) n

-- those of all its elements
abbrev pub numbers_in_list : {A : Type 0} → (ℕ → A) → ℕ → Tree → List A
numbers_in_list of_number width t = numbers_from of_number width t 0 (list_length t)

-- the list whose numbers are read
unfoldable pub numbers_tree : {T : Type 0} → Numbers T → Tree
numbers_tree numbers = list_of numbers.list

-- the values that an iterator has left
unfoldable pub items_left : {T : Type 0} → (ℕ → T) → ℕ → NumberIter T → List T
items_left of_number width items = numbers_from of_number width (found_tree items.found) items.index (items.count - items.index)
