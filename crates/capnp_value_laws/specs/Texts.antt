-- Texts of what is written, on one line and on lines, and what is the same but for its places.
use Rattle.std.specs.Prelude.{ℕ, ◌≡◌, ◌⊎◌, ⊤, List, [], ◌∷◌, ◌++◌, false, Ok}
use Rattle.capnp_records.specs.Text.{Layout, deeper, line, separator}
use Rattle.capnp_value_texts.specs.Lines.{HasLine, name_on}
use Rattle.capnp_value_texts.specs.Written.{Fields, Items, Leaf, NoPart, Part, Parts, Written, closing, most_levels, written}
use Rattle.capnp_value_texts.specs.declared.parts.Bracket.{Bracket}
use Rattle.capnp_value_texts.specs.declared.parts.Bracket.TheVariants.{Round, Square}

-- Each part on a line of its own where there are lines. Brackets that hold nothing may be closed on the next line.
abbrev mutual
  pub IsTextOf : Layout → Written → List ℕ → Type 0
  IsTextOf at (Leaf place bs) text = text ≡ bs
  IsTextOf at (Fields place ps) text = (rest : List ℕ) × AreFirst at Round ps rest × (text ≡ 40 ∷ rest)
  IsTextOf at (Items place ps) text = (rest : List ℕ) × AreFirst at Square ps rest × (text ≡ 91 ∷ rest)

  -- parts from the first on, and the closing bracket
  pub AreFirst : Layout → Bracket → Parts → List ℕ → Type 0
  AreFirst at k NoPart text = (text ≡ closing k ∷ []) ⊎ (text ≡ line at ++ closing k ∷ [])
  AreFirst at k (Part place name w ps) text =
      (value : List ℕ) × (more : List ℕ) × IsTextOf (deeper at) w value × AreMore at k ps more × (text ≡ line (deeper at) ++ name_on k name (value ++ more))

  pub AreMore : Layout → Bracket → Parts → List ℕ → Type 0
  AreMore at k NoPart text = text ≡ line at ++ closing k ∷ []
  AreMore at k (Part place name w ps) text =
      (value : List ℕ) × (more : List ℕ) × IsTextOf (deeper at) w value × AreMore at k ps more × (text ≡ separator (deeper at) false ++ name_on k name (value ++ more))

-- an item of a list has no name
abbrev pub IsSameName : Bracket → List ℕ → List ℕ → Type 0
IsSameName Round name other = name ≡ other
IsSameName Square name other = ⊤

abbrev mutual
  pub AreAlike : Written → Written → Type 0
  AreAlike (Leaf place bs) (Leaf other cs) = bs ≡ cs
  AreAlike (Fields place ps) (Fields other qs) = ArePartsAlike Round ps qs
  AreAlike (Items place ps) (Items other qs) = ArePartsAlike Square ps qs
  AreAlike w v = ⊥

  pub ArePartsAlike : Bracket → Parts → Parts → Type 0
  ArePartsAlike k NoPart NoPart = ⊤
  ArePartsAlike k (Part place name w ps) (Part other given v qs) = IsSameName k name given × AreAlike w v × ArePartsAlike k ps qs
  ArePartsAlike k ps qs = ⊥

-- each text of what is written is read as that
abbrev pub TextsAreRead : Type 0
TextsAreRead = (at : Layout) (w : Written) (text : List ℕ) → HasLine most_levels w → IsTextOf at w text → (v : Written) × AreAlike w v × (written text ≡ Ok v)
