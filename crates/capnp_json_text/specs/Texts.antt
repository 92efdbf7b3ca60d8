-- JSON texts (RFC 8259, sections 2 to 5), as bytes.
use Rattle.std.specs.Prelude.{ℕ, zero, suc, List, [], ◌∷◌, ◌||◌, cond, ◌==◌, length, Option, Some, None, Result, Ok, Err}
use Rattle.std.specs.Char.{is_ascii_digit}
use Rattle.capnp_json_text.specs.Readings.{Rest, then_read, after_only, after_blanks}
use Rattle.capnp_json_text.specs.Numbers.{after_number}
use Rattle.capnp_json_text.specs.Strings.{after_string}
use Rattle.capnp_json_text.specs.declared.kinds.Kind.{Kind}
use Rattle.capnp_json_text.specs.declared.kinds.Kind.TheVariants as kind
use Rattle.capnp_json_text.specs.declared.kinds.Bracket.{Bracket}
use Rattle.capnp_json_text.specs.declared.kinds.Bracket.TheVariants.{Square, Curly}
use Rattle.capnp_json_text.specs.declared.kinds.Part.{Part}
use Rattle.capnp_json_text.specs.declared.kinds.Part.TheVariants.{Value, Behind}

-- the kind of the value that begins with a byte
abbrev pub kind_of : ℕ → Option Kind
kind_of b =
    cond (b == 110) (Some kind.Null)
    (cond (b == 116) (Some kind.True)
    (cond (b == 102) (Some kind.False)
    (cond (b == 45 || is_ascii_digit b) (Some kind.Number)
    (cond (b == 34) (Some kind.String)
    (cond (b == 91) (Some kind.Array)
    (cond (b == 123) (Some kind.Object) None))))))

-- `null`, `true` and `false`, behind their first letters
abbrev pub after_null : List ℕ → Rest
after_null bs = then_read (then_read (after_only 117 bs) (after_only 108)) (after_only 108)

abbrev pub after_true : List ℕ → Rest
after_true bs = then_read (then_read (after_only 114 bs) (after_only 117)) (after_only 101)

abbrev pub after_false : List ℕ → Rest
after_false bs = then_read (then_read (then_read (after_only 97 bs) (after_only 108)) (after_only 115)) (after_only 101)

-- How a part of a text begins. It has ended before these bytes; or a bracket is open, and a value that it holds begins
-- with these bytes.
abbrev pub Begun : Type 0
Begun = Result (Option Bracket × List ℕ) (List ℕ)

abbrev pub ended : Rest → Begun
ended (Ok rest) = Ok (None, rest)
ended (Err fault) = Err fault

abbrev pub held : Bracket → Rest → Begun
held bracket (Ok rest) = Ok (Some bracket, rest)
held bracket (Err fault) = Err fault

-- a colon, with the blanks around it
abbrev pub after_colon : List ℕ → Rest
after_colon bs = then_read (after_only 58 (after_blanks bs)) (λ rest. Ok (after_blanks rest))

-- the name of a member and its colon
abbrev pub after_name : List ℕ → Rest
after_name bs = then_read (then_read (after_only 34 bs) after_string) after_colon

-- behind the opening bracket of an array, and blanks
abbrev pub first_element : List ℕ → Begun
first_element [] = Err []
first_element (b ∷ bs) = cond (b == 93) (Ok (None, bs)) (Ok (Some Square, b ∷ bs))

-- behind that of an object, and blanks
abbrev pub first_member : List ℕ → Begun
first_member [] = Err []
first_member (b ∷ bs) = cond (b == 125) (Ok (None, bs)) (held Curly (after_name (b ∷ bs)))

-- behind an element, and blanks: a comma before the next, or the closing bracket
abbrev pub next_element : List ℕ → Begun
next_element [] = Err []
next_element (b ∷ bs) = cond (b == 93) (Ok (None, bs)) (cond (b == 44) (Ok (Some Square, after_blanks bs)) (Err (b ∷ bs)))

-- the same behind the value of a member
abbrev pub next_member : List ℕ → Begun
next_member [] = Err []
next_member (b ∷ bs) = cond (b == 125) (Ok (None, bs)) (cond (b == 44) (held Curly (after_name (after_blanks bs))) (Err (b ∷ bs)))

abbrev pub begun_by : Option Kind → ℕ → List ℕ → Begun
begun_by None b bs = Err (b ∷ bs)
begun_by (Some kind.Null) b bs = ended (after_null bs)
begun_by (Some kind.True) b bs = ended (after_true bs)
begun_by (Some kind.False) b bs = ended (after_false bs)
begun_by (Some kind.Number) b bs = ended (after_number (b ∷ bs))
begun_by (Some kind.String) b bs = ended (after_string bs)
begun_by (Some kind.Array) b bs = first_element (after_blanks bs)
begun_by (Some kind.Object) b bs = first_member (after_blanks bs)

abbrev pub begun_value : List ℕ → Begun
begun_value [] = Err []
begun_value (b ∷ bs) = begun_by (kind_of b) b bs

-- A part is a value, or what stands behind a value in a bracket, up to the closing one.
unfoldable pub begun : Part → List ℕ → Begun
begun Value bs = begun_value bs
begun (Behind Square) bs = next_element (after_blanks bs)
begun (Behind Curly) bs = next_member (after_blanks bs)

abbrev pub gone_on : (Part → List ℕ → Rest) → Begun → Rest
gone_on again (Ok (None, rest)) = Ok rest
gone_on again (Ok (Some bracket, rest)) = then_read (again Value rest) (again (Behind bracket))
gone_on again (Err fault) = Err fault

-- so many parts within one another, or behind one another, at the most
abbrev pub after_part_within : ℕ → Part → List ℕ → Rest
after_part_within zero part bs = Err bs
after_part_within (suc n) part bs = gone_on (after_part_within n) (begun part bs)

-- each part takes a byte at least, so there are no more than bytes
unfoldable pub after_part : Part → List ℕ → Rest
after_part part bs = after_part_within (length bs) part bs

abbrev pub after_value : List ℕ → Rest
after_value bs = after_part Value bs

abbrev pub at_end : List ℕ → Rest
at_end [] = Ok []
at_end (b ∷ bs) = Err (b ∷ bs)

-- a text: one value, with blanks around it
abbrev pub after_text : List ℕ → Rest
after_text bs = then_read (after_value (after_blanks bs)) (λ rest. at_end (after_blanks rest))
