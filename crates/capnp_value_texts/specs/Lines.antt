-- Texts on one line of what is written, and what is read of them.
use Rattle.std.specs.Prelude.{ℕ, zero, suc, ◌+◌, ◌-◌, ◌<◌, ◌≡◌, ⊤, List, [], ◌∷◌, ◌++◌, false, get_or, length, ◌==◌, None, Ok}
use Rattle.capnp_value_texts.specs.Lengths.{is_end, name_length, plain_length}
use Rattle.capnp_value_texts.specs.Written.{Fields, Items, Leaf, NoPart, Part, Parts, Written, bracket_of, closing, most_levels, written}
use Rattle.capnp_value_texts.specs.declared.parts.Bracket.{Bracket}
use Rattle.capnp_value_texts.specs.declared.parts.Bracket.TheVariants.{Round, Square}

-- ---- texts ----

-- the name of a field before its value; an item has none
abbrev pub name_on : Bracket → (name : List ℕ) → List ℕ → List ℕ
name_on Round name rest = name ++ (32 ∷ 61 ∷ 32 ∷ rest)
name_on Square name rest = rest

-- before what follows
abbrev mutual
  pub line_on : Written → List ℕ → List ℕ
  line_on (Leaf place bs) rest = bs ++ rest
  line_on (Fields place ps) rest = 40 ∷ first_on Round ps rest
  line_on (Items place ps) rest = 91 ∷ first_on Square ps rest

  -- parts with commas between them, and the closing bracket
  pub first_on : Bracket → Parts → List ℕ → List ℕ
  first_on k NoPart rest = closing k ∷ rest
  first_on k (Part place name v ps) rest = name_on k name (line_on v (more_on k ps rest))

  pub more_on : Bracket → Parts → List ℕ → List ℕ
  more_on k NoPart rest = closing k ∷ rest
  more_on k (Part place name v ps) rest = 44 ∷ 32 ∷ name_on k name (line_on v (more_on k ps rest))

-- ---- places ----

abbrev pub name_kept : Bracket → List ℕ → List ℕ
name_kept Round name = name
name_kept Square name = []

-- the same with the places that it has in a text of so many bytes, before what follows
abbrev mutual
  pub placed : (whole : ℕ) → Written → List ℕ → Written
  placed whole (Leaf place bs) rest = Leaf (whole - length (bs ++ rest)) bs
  placed whole (Fields place ps) rest = Fields (whole - length (line_on (Fields place ps) rest)) (placed_parts whole Round ps rest)
  placed whole (Items place ps) rest = Items (whole - length (line_on (Items place ps) rest)) (placed_parts whole Square ps rest)

  pub placed_parts : (whole : ℕ) → Bracket → Parts → List ℕ → Parts
  placed_parts whole k NoPart rest = NoPart
  placed_parts whole k (Part place name v ps) rest =
      Part (whole - length (name_on k name (line_on v (more_on k ps rest)))) (name_kept k name) (placed whole v (more_on k ps rest)) (placed_parts whole k ps rest)

-- ---- what has a text ----

-- a leaf, whatever follows that ends it
pub record IsLeafText (bs : List ℕ) : Type 0 where
  pub some : 0 < length bs
  pub begins : is_end (get_or bs 0 0) ≡ false
  pub opens : bracket_of (get_or bs 0 0) ≡ None
  pub opaque : (get_or bs 0 0 == 60) ≡ false
  pub goes_on : (rest : List ℕ) → plain_length (bs ++ rest) ≡ length bs + plain_length rest

-- a name, whatever blank follows
pub record IsNameText (name : List ℕ) : Type 0 where
  pub some : 0 < length name
  pub begins : is_end (get_or name 0 0) ≡ false
  pub goes_on : (rest : List ℕ) → name_length (name ++ 32 ∷ rest) ≡ length name

abbrev pub IsNamed : Bracket → List ℕ → Type 0
IsNamed Round name = IsNameText name
IsNamed Square name = ⊤

-- with so many brackets within one another at the most
abbrev mutual
  pub HasLine : (levels : ℕ) → Written → Type 0
  HasLine levels (Leaf place bs) = IsLeafText bs
  HasLine zero (Fields place ps) = ⊥
  HasLine zero (Items place ps) = ⊥
  HasLine (suc levels) (Fields place ps) = HaveLines levels Round ps
  HasLine (suc levels) (Items place ps) = HaveLines levels Square ps

  pub HaveLines : (levels : ℕ) → Bracket → Parts → Type 0
  HaveLines levels k NoPart = ⊤
  HaveLines levels k (Part place name v ps) = IsNamed k name × HasLine levels v × HaveLines levels k ps

-- its text on one line is read as what was written, with its places there
abbrev pub LinesAreRead : Type 0
LinesAreRead = (w : Written) → HasLine most_levels w → written (line_on w []) ≡ Ok (placed (length (line_on w [])) w [])
