-- What a JSON consists of, and how it is laid out.
use Rattle.std.specs.Prelude.{ℕ, ℤ, ◌-◌, ◌≡◌, List, [], ◌∷◌, ◌++◌, map, Bool, true, false, codes, Some, None, Result, Ok, Err}
use Rattle.capnp_floats.specs.Floats.{IsDecimalOf}
use Rattle.capnp_floats.specs.Layout.{is_negative, layout, sign_text}
use Rattle.capnp_floats.specs.declared.width.Width.{Width}
use Rattle.capnp_floats.specs.declared.width.Width.TheVariants.{Float64}
use Rattle.capnp_records.specs.Text.{Layout, deeper, line}
use Rattle.capnp_json.specs.declared.error.JsonError.{JsonError}

-- Bytes that are known; and a finite float, whose digits are said by the shortest decimal of its bits.
pub data Piece : Type 0 where
  Byte : ℕ → Piece
  FloatNumber : Width → (bits : ℕ) → Piece

abbrev pub Pieces : Type 0
Pieces = List Piece

abbrev pub known_pieces : List ℕ → Pieces
known_pieces bytes = map Byte bytes

-- The number of a finite float: its shortest decimal, behind a sign where one is set. Both widths are laid out as 64 bits are.
abbrev pub IsNumberOf : Width → (bits : ℕ) → List ℕ → Type 0
IsNumberOf w bits text = (d : ℕ) × (k : ℤ) × IsDecimalOf w bits d k × (text ≡ sign_text (is_negative w bits) ++ layout Float64 d k)

-- the bytes of these pieces
unfoldable pub IsSpelled : Pieces → List ℕ → Type 0
IsSpelled [] bytes = bytes ≡ []
IsSpelled (Byte b ∷ pieces) bytes = (rest : List ℕ) × IsSpelled pieces rest × (bytes ≡ b ∷ rest)
IsSpelled (FloatNumber w bits ∷ pieces) bytes = (text : List ℕ) × (rest : List ℕ) × IsNumberOf w bits text × IsSpelled pieces rest × (bytes ≡ text ++ rest)

-- A JSON; or why there is none. Of two that stand one after the other the first that has none counts.
abbrev pub Out : Type 0
Out = Result Pieces JsonError

abbrev pub said : List ℕ → Out
said bytes = Ok (known_pieces bytes)

abbrev pub after : Out → Out → Out
after (Err why) o = Err why
after (Ok a) (Err why) = Err why
after (Ok a) (Ok b) = Ok (a ++ b)

-- the bytes of a JSON that there is
abbrev pub IsJson : Out → List ℕ → Type 0
IsJson (Ok pieces) bytes = IsSpelled pieces bytes
IsJson (Err why) bytes = ⊥

-- ---- lines and brackets ----

-- one bracket further out
abbrev pub shallower : Layout → Layout
shallower None = None
shallower (Some n) = Some (n - 1)

-- what stands before an item or element: its line break, and before that a comma, unless it is the first
abbrev pub separator : Layout → (first : Bool) → List ℕ
separator at true = line at
separator at false = codes "," ++ line at

-- what stands before a closing bracket: a line break, but for brackets without items
abbrev pub ending : Layout → (first : Bool) → List ℕ
ending at true = []
ending at false = line (shallower at)

-- the items that are left within brackets, and the closing bracket
abbrev pub items_left : (closing : List ℕ) → Layout → (first : Bool) → List Out → Out
items_left closing at first [] = said (ending at first ++ closing)
items_left closing at first (x ∷ xs) = after (said (separator at first)) (after x (items_left closing at false xs))

abbrev pub bracketed : (opening closing : List ℕ) → Layout → List Out → Out
bracketed opening closing at items = after (said opening) (items_left closing (deeper at) true items)

abbrev pub array : Layout → List Out → Out
array at items = bracketed (codes "[") (codes "]") at items

abbrev pub object : Layout → List Out → Out
object at items = bracketed (codes "{") (codes "}") at items

-- what stands between a name and its value
abbrev pub colon : Layout → List ℕ
colon None = codes ":"
colon (Some n) = codes ": "
