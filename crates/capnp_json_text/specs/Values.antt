-- The value of a JSON text. Each value and each name has its place: that of its first byte.
use Rattle.std.specs.Prelude.{ℕ, zero, suc, ◌-◌, List, [], ◌∷◌, Bool, true, false, cond, ◌==◌, length, drop, Option, Some, None, Result, Ok, Err}
use Rattle.capnp_json_text.specs.Readings.{Rest, after_blanks}
use Rattle.capnp_json_text.specs.Numbers.{after_number}
use Rattle.capnp_json_text.specs.Contents.{string_content}
use Rattle.capnp_json_text.specs.Decimals.{before}
use Rattle.capnp_json_text.specs.Texts.{after_name, after_value, kind_of}
use Rattle.capnp_json_text.specs.Faults.{fault_of}
use Rattle.capnp_json_text.specs.declared.kinds.Kind.{Kind}
use Rattle.capnp_json_text.specs.declared.kinds.Kind.TheVariants as kind
use Rattle.capnp_json_text.specs.declared.kinds.Bracket.{Bracket}
use Rattle.capnp_json_text.specs.declared.kinds.Bracket.TheVariants.{Square, Curly}

mutual
  pub data Json : Type 0 where
    Null : (place : ℕ) → Json
    Truth : (place : ℕ) → Bool → Json
    -- a number, by its bytes
    Number : (place : ℕ) → List ℕ → Json
    -- a string, by what it stands for
    Text : (place : ℕ) → List ℕ → Json
    Array : (place : ℕ) → Elements → Json
    Object : (place : ℕ) → Members → Json

  pub data Elements : Type 0 where
    NoElement : Elements
    Element : Json → Elements → Elements

  pub data Members : Type 0 where
    NoMember : Members
    -- a name, with its place, and its value
    Member : (place : ℕ) → List ℕ → Json → Members → Members

-- what is left behind what was read, nothing where it can't stand
abbrev pub left : Rest → List ℕ
left (Ok rest) = rest
left (Err fault) = []

abbrev pub closing : Bracket → ℕ
closing Square = 93
closing Curly = 125

-- where the first element or name begins, behind the opening bracket and blanks; none at the closing one
abbrev pub first_item : Bracket → List ℕ → Option (List ℕ)
first_item bracket [] = None
first_item bracket (b ∷ bs) = cond (b == closing bracket) None (Some (b ∷ bs))

-- where the next begins, behind an element or a member's value and blanks
abbrev pub next_item : List ℕ → Option (List ℕ)
next_item [] = None
next_item (b ∷ bs) = cond (b == 44) (Some (after_blanks bs)) None

-- where the next begins, from the value on that stands before it
abbrev pub following_item : List ℕ → Option (List ℕ)
following_item bs = next_item (after_blanks (left (after_value bs)))

-- the value of a member, from its name on
abbrev pub member_value : List ℕ → List ℕ
member_value bs = left (after_name bs)

-- so many elements at the most
abbrev pub elements_within : (List ℕ → Json) → ℕ → Option (List ℕ) → Elements
elements_within json zero at = NoElement
elements_within json (suc n) None = NoElement
elements_within json (suc n) (Some bs) = Element (json bs) (elements_within json n (following_item bs))

abbrev pub members_within : (List ℕ → Json) → (whole : ℕ) → ℕ → Option (List ℕ) → Members
members_within json whole zero at = NoMember
members_within json whole (suc n) None = NoMember
members_within json whole (suc n) (Some bs) =
    Member (whole - length bs) (string_content (drop 1 bs)) (json (member_value bs)) (members_within json whole n (following_item (member_value bs)))

-- there are no more than bytes
abbrev pub most_items : Option (List ℕ) → ℕ
most_items None = 0
most_items (Some bs) = suc (length bs)

-- the elements from one on, and the members
unfoldable pub elements_of : (List ℕ → Json) → Option (List ℕ) → Elements
elements_of json at = elements_within json (most_items at) at

unfoldable pub members_of : (List ℕ → Json) → (whole : ℕ) → Option (List ℕ) → Members
members_of json whole at = members_within json whole (most_items at) at

-- the value of a kind with which bytes begin; the values that it holds are read by json
abbrev pub json_by : (List ℕ → Json) → (whole : ℕ) → Option Kind → ℕ → List ℕ → Json
json_by json whole None b bs = Null (whole - length (b ∷ bs))
json_by json whole (Some kind.Null) b bs = Null (whole - length (b ∷ bs))
json_by json whole (Some kind.True) b bs = Truth (whole - length (b ∷ bs)) true
json_by json whole (Some kind.False) b bs = Truth (whole - length (b ∷ bs)) false
json_by json whole (Some kind.Number) b bs = Number (whole - length (b ∷ bs)) (before (b ∷ bs) (left (after_number (b ∷ bs))))
json_by json whole (Some kind.String) b bs = Text (whole - length (b ∷ bs)) (string_content bs)
json_by json whole (Some kind.Array) b bs = Array (whole - length (b ∷ bs)) (elements_of json (first_item Square (after_blanks bs)))
json_by json whole (Some kind.Object) b bs = Object (whole - length (b ∷ bs)) (members_of json whole (first_item Curly (after_blanks bs)))

-- with so many levels of brackets at the most
abbrev pub json_within : ℕ → (whole : ℕ) → List ℕ → Json
json_within zero whole bs = Null (whole - length bs)
json_within (suc n) whole [] = Null whole
json_within (suc n) whole (b ∷ bs) = json_by (json_within n whole) whole (kind_of b) b bs

-- the value with which bytes begin, the last ones of so many
unfoldable pub json_at : (whole : ℕ) → List ℕ → Json
json_at whole bs = json_within (length bs) whole bs

abbrev pub value_unless : Option ℕ → Json → Result Json ℕ
value_unless None json = Ok json
value_unless (Some place) json = Err place

-- the value of a text, or the place of the first byte that can't stand
unfoldable pub json_value : List ℕ → Result Json ℕ
json_value bs = value_unless (fault_of bs) (json_at (length bs) (after_blanks bs))
