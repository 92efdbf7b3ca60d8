-- Worked rows: what the format lets a tree be, at its limits.
use Rattle.std.proofs.Common.{◌≡◌, ◌<◌, refl, ℕ, [], ◌∷◌, true, false, map, arith}
use Rattle.capnp_wire.specs.Tree.{Null, Struct, Voids, Numbers, Pointers, Composite, NoTrees, NoStructs}
use Rattle.capnp_wire.specs.WellFormed.{IsWellFormed, is_width}
use Rattle.capnp_wire.proofs.Rows.{trees, flat_structs, bad}

-- numbers take 1, 2, 4 or 8 bytes
pub widths : map is_width (0 ∷ 1 ∷ 2 ∷ 3 ∷ 4 ∷ 5 ∷ 6 ∷ 7 ∷ 8 ∷ 9 ∷ 16 ∷ []) ≡ false ∷ true ∷ true ∷ false ∷ true ∷ false ∷ false ∷ false ∷ true ∷ false ∷ false ∷ []
widths = refl

-- the greatest count of a list
pub most_voids_fit : IsWellFormed (Voids 536870911)
most_voids_fit = omega arith

-- one element more
pub one_void_more : IsWellFormed (Voids 536870912) → ⊥
one_void_more h = omega arith

-- the greatest sizes of a composite list's elements, where there are none too
pub greatest_elements_fit : IsWellFormed (Composite 65535 65535 NoStructs)
greatest_elements_fit = (omega arith, omega arith, omega arith, omega arith, tt)

-- one data word more
pub one_data_word_more : IsWellFormed (Composite 65536 0 NoStructs) → ⊥
one_data_word_more h = let few : 65536 < 65536 = h.0 in omega arith

-- one pointer more
pub one_pointer_more : IsWellFormed (Composite 0 65536 NoStructs) → ⊥
one_pointer_more h = let few : 65536 < 65536 = h.1 in omega arith

-- a number isn't equal to a greater one
pub less_is_not : (a b : ℕ) → a < b → a ≡ b → ⊥
less_is_not a b less same = omega arith

-- in the other direction
pub more_is_not : (a b : ℕ) → b < a → a ≡ b → ⊥
more_is_not a b more same = omega arith

-- an element that is smaller than its list says
pub smaller_element : IsWellFormed (Composite 1 0 (flat_structs ([] ∷ []))) → ⊥
smaller_element h = less_is_not 0 8 (omega arith) h.4.1

-- data that ends within a word
pub broken_word : IsWellFormed (Struct (1 ∷ 2 ∷ 3 ∷ []) NoTrees) → ⊥
broken_word h = more_is_not 3 0 (omega arith) h.1

-- a number that ends within its width
pub broken_number : IsWellFormed (Numbers 2 (1 ∷ 2 ∷ 3 ∷ [])) → ⊥
broken_number h = more_is_not 3 2 (omega arith) h.2

-- a byte past 255
pub byte_past_255 : IsWellFormed (Numbers 1 (256 ∷ [])) → ⊥
byte_past_255 h = let small : 256 < 256 = h.0 0 in omega arith

-- a fault leaf stands in a well-formed tree, and so does a null
pub leaves_fit : IsWellFormed (Pointers (trees (bad ∷ Null ∷ [])))
leaves_fit = (omega arith, (tt, (tt, tt)))
