-- Bytes that are a value, whatever follows that may.
use Rattle.std.specs.Prelude.{ℕ, ◌≡◌, ⊤, List, [], ◌∷◌, ◌++◌, Bool, true, false, ◌||◌, ◌==◌, Ok}
use Rattle.std.specs.Str.{IsUtf8}
use Rattle.capnp_json_text.specs.Readings.{is_blank}
use Rattle.capnp_json_text.specs.Texts.{after_value}
use Rattle.capnp_json_text.specs.Values.{Json, Elements, Members, NoElement, Element, NoMember, Member, Null, Truth, Number, Text, Array, Object, json_at, json_value}

-- what may stand behind a value: a comma, a closing bracket or a line break
abbrev pub is_behind : ℕ → Bool
is_behind b = b == 44 || b == 93 || b == 125 || b == 10

-- the end of the text, or such a byte
abbrev pub MayFollow : List ℕ → Type 0
MayFollow [] = ⊤
MayFollow (b ∷ bs) = is_behind b ≡ true

-- Bytes in UTF-8 that begin with no blank and no closing bracket. Whatever follows that may, one value is read of them, and
-- nothing more; and it is such a value.
pub record IsValue (bytes : List ℕ) (Is : Json → Type 0) : Type 0 where
  pub utf8 : IsUtf8 bytes
  pub first : ℕ
  pub others : List ℕ
  pub begins : bytes ≡ first ∷ others
  pub no_blank : is_blank first ≡ false
  pub no_end : (first == 93) ≡ false
  pub read : (rest : List ℕ) → MayFollow rest → after_value (bytes ++ rest) ≡ Ok rest
  pub stands : (whole : ℕ) (rest : List ℕ) → MayFollow rest → Is (json_at whole (bytes ++ rest))

-- ---- values of each kind, wherever they stand ----

abbrev pub IsNull : Json → Type 0
IsNull j = (place : ℕ) × (j ≡ Null place)

abbrev pub IsTruth : Bool → Json → Type 0
IsTruth b j = (place : ℕ) × (j ≡ Truth place b)

-- a number, by its bytes
abbrev pub IsNumber : List ℕ → Json → Type 0
IsNumber token j = (place : ℕ) × (j ≡ Number place token)

-- a string, by what it stands for
abbrev pub IsString : List ℕ → Json → Type 0
IsString bytes j = (place : ℕ) × (j ≡ Text place bytes)

abbrev pub IsArray : (Elements → Type 0) → Json → Type 0
IsArray Are j = (place : ℕ) × (es : Elements) × Are es × (j ≡ Array place es)

abbrev pub IsObject : (Members → Type 0) → Json → Type 0
IsObject Are j = (place : ℕ) × (ms : Members) × Are ms × (j ≡ Object place ms)

abbrev pub AreNone : Elements → Type 0
AreNone es = es ≡ NoElement

-- one such element, and those behind it
abbrev pub AreMore : (Json → Type 0) → (Elements → Type 0) → Elements → Type 0
AreMore Is Are es = (j : Json) × (others : Elements) × Is j × Are others × (es ≡ Element j others)

abbrev pub AreNoMembers : Members → Type 0
AreNoMembers ms = ms ≡ NoMember

-- a member of a name, and those behind it
abbrev pub AreMembersBehind : List ℕ → (Json → Type 0) → (Members → Type 0) → Members → Type 0
AreMembersBehind name Is Are ms = (place : ℕ) × (j : Json) × (others : Members) × Is j × Are others × (ms ≡ Member place name j others)

-- ---- whole texts ----

-- the text has a value, and it is such a one
abbrev pub HasValue : List ℕ → (Json → Type 0) → Type 0
HasValue text Is = (j : Json) × Is j × (json_value text ≡ Ok j)
