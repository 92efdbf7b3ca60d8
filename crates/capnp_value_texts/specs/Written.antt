-- What a text says, without types: leaves, and brackets with parts. Each has its place, that of its first byte.
use Rattle.std.specs.Prelude.{ℕ, zero, suc, ◌-◌, List, [], ◌∷◌, Bool, true, false, cond, ◌==◌, length, drop, take, Option, Some, None, Ok}
use Rattle.capnp_json_text.specs.Readings.{after_blanks}
use Rattle.capnp_value_texts.specs.Errors.{Read, cannot_stand, read_as, read_then, refused}
use Rattle.capnp_value_texts.specs.Lengths.{leaf_length, name_length}
use Rattle.capnp_value_texts.specs.declared.error.RefusalKind.TheVariants.{CannotStand, TooDeep}
use Rattle.capnp_value_texts.specs.declared.lengths.Within.TheVariants.{Plain}
use Rattle.capnp_value_texts.specs.declared.parts.Bracket.{Bracket}
use Rattle.capnp_value_texts.specs.declared.parts.Bracket.TheVariants.{Round, Square}

mutual
  pub data Written : Type 0 where
    -- what stands without brackets, by its bytes
    Leaf : (place : ℕ) → List ℕ → Written
    -- in round brackets, parts with names; in square ones without
    Fields : (place : ℕ) → Parts → Written
    Items : (place : ℕ) → Parts → Written

  pub data Parts : Type 0 where
    NoPart : Parts
    -- the place of its first byte, and its name, which no item has
    Part : (place : ℕ) → (name : List ℕ) → Written → Parts → Parts

-- a reading at the front of bytes, with what is left behind it
abbrev pub Parse : Type 0 → Type 0
Parse A = List ℕ → Read (A × List ℕ)

-- ---- leaves ----

abbrev pub leaf_of : (place : ℕ) → (count : ℕ) → List ℕ → Read (Written × List ℕ)
leaf_of place count bs = cond (count == 0) (refused CannotStand place) (Ok (Leaf place (take count bs), drop count bs))

-- What is printed of an untyped pointer, or of a text that is no UTF-8, begins with `<`, and is no leaf.
abbrev pub leaf_at : (whole : ℕ) → Parse Written
leaf_at whole [] = cannot_stand whole []
leaf_at whole (b ∷ bs) = cond (b == 60) (cannot_stand whole (b ∷ bs)) (leaf_of (whole - length (b ∷ bs)) (leaf_length Plain (b ∷ bs)) (b ∷ bs))

-- ---- names ----

-- a place, and a name that may be none
abbrev pub Name : Type 0
Name = ℕ × List ℕ

-- behind the equals sign, with blanks around it
abbrev pub after_equals : (whole : ℕ) → List ℕ → Read (List ℕ)
after_equals whole [] = cannot_stand whole []
after_equals whole (b ∷ bs) = cond (b == 61) (Ok (after_blanks bs)) (cannot_stand whole (b ∷ bs))

abbrev pub name_of : (whole count : ℕ) → Parse Name
name_of whole count bs =
    cond (count == 0) (cannot_stand whole bs) (read_as (λ rest. ((whole - length bs, take count bs), rest)) (after_equals whole (after_blanks (drop count bs))))

abbrev pub name_at : Bracket → (whole : ℕ) → Parse Name
name_at Round whole bs = name_of whole (name_length bs) bs
name_at Square whole bs = Ok ((whole - length bs, []), bs)

-- ---- parts ----

abbrev pub bracket_of : ℕ → Option Bracket
bracket_of b = cond (b == 40) (Some Round) (cond (b == 91) (Some Square) None)

abbrev pub closing : Bracket → ℕ
closing Round = 41
closing Square = 93

-- from behind a part and blanks on: whether another follows, and behind the comma or the closing bracket
abbrev pub behind_part : Bracket → (whole : ℕ) → Parse Bool
behind_part bracket whole [] = cannot_stand whole []
behind_part bracket whole (b ∷ bs) = cond (b == closing bracket) (Ok (false, bs)) (cond (b == 44) (Ok (true, after_blanks bs)) (cannot_stand whole (b ∷ bs)))

-- a part, and whether another follows
abbrev pub OnePart : Type 0
OnePart = (Name × Written) × Bool

abbrev pub part_behind : Bracket → (whole : ℕ) → Name → Written → List ℕ → Read (OnePart × List ℕ)
part_behind bracket whole name v rest = read_as (λ e. (((name, v), e.0), e.1)) (behind_part bracket whole (after_blanks rest))

abbrev pub part_at : Parse Written → Bracket → (whole : ℕ) → Parse OnePart
part_at value bracket whole bs = read_then (name_at bracket whole bs) (λ n. read_then (value n.1) (λ v. part_behind bracket whole n.0 v.0 v.1))

abbrev pub with_part : Name × Written → Parts × List ℕ → Parts × List ℕ
with_part p ps = (Part p.0.0 p.0.1 p.1 ps.0, ps.1)

abbrev pub parts_step : Parse Parts → OnePart × List ℕ → Read (Parts × List ℕ)
parts_step more ((p, true), rest) = read_as (with_part p) (more rest)
parts_step more ((p, false), rest) = Ok (with_part p (NoPart, rest))

-- Parts up to the closing bracket, so many at the most. Each takes a byte, so one more than bytes is enough.
unfoldable pub parts_within : Parse OnePart → ℕ → Parse Parts
parts_within one zero bs = refused CannotStand 0
parts_within one (suc n) bs = read_then (one bs) (parts_step (parts_within one n))

-- what brackets hold, from behind the opening one and blanks on
abbrev pub held_at : Parse Written → Bracket → (whole : ℕ) → Parse Parts
held_at value bracket whole [] = cannot_stand whole []
held_at value bracket whole (b ∷ bs) = cond (b == closing bracket) (Ok (NoPart, bs)) (parts_within (part_at value bracket whole) (suc (length (b ∷ bs))) (b ∷ bs))

-- ---- values ----

-- what an opening bracket at a place holds, from behind it on
abbrev pub Held : Type 0
Held = Bracket → (place : ℕ) → Parse Parts

abbrev pub no_level : Held
no_level bracket place bs = refused TooDeep place

abbrev pub one_level : Parse Written → (whole : ℕ) → Held
one_level value whole bracket place bs = held_at value bracket whole (after_blanks bs)

abbrev pub bracketed : Bracket → (place : ℕ) → Parts → Written
bracketed Round place ps = Fields place ps
bracketed Square place ps = Items place ps

abbrev pub bracketed_read : Bracket → (place : ℕ) → Parts × List ℕ → Written × List ℕ
bracketed_read bracket place p = (bracketed bracket place p.0, p.1)

abbrev pub written_by : Held → (whole : ℕ) → ℕ → List ℕ → Option Bracket → Read (Written × List ℕ)
written_by held whole b bs None = leaf_at whole (b ∷ bs)
written_by held whole b bs (Some bracket) = read_as (bracketed_read bracket (whole - length (b ∷ bs))) (held bracket (whole - length (b ∷ bs)) bs)

abbrev pub written_with : Held → (whole : ℕ) → Parse Written
written_with held whole [] = cannot_stand whole []
written_with held whole (b ∷ bs) = written_by held whole b bs (bracket_of b)

-- one with which bytes begin, the last ones of so many, with so many brackets within one another at the most
unfoldable pub written_within : ℕ → (whole : ℕ) → Parse Written
written_within zero whole = written_with no_level whole
written_within (suc levels) whole = written_with (one_level (written_within levels whole) whole) whole

abbrev pub most_levels : ℕ
most_levels = 64

abbrev pub at_end : (whole : ℕ) → Written → List ℕ → Read Written
at_end whole v [] = Ok v
at_end whole v (b ∷ bs) = cannot_stand whole (b ∷ bs)

-- a text: one, with blanks around it
abbrev pub written : List ℕ → Read Written
written bs = read_then (written_within most_levels (length bs) (after_blanks bs)) (λ v. at_end (length bs) v.0 (after_blanks v.1))
