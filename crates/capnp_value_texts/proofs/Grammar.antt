-- The grammar's loops, a turn at a time.
use Rattle.std.proofs.Common.{◌≡◌, ℕ, zero, suc, ◌-◌, ◌<◌, ◌≤◌, List, [], ◌∷◌, drop, get_or, length, take, Bool, true, false, Some, None, Ok, refl, subst, sym, ap, ◌∙◌, arith}
use Rattle.capnp_json_text.specs.Readings.{after_blanks}
use Rattle.capnp_value_texts.specs.Errors.{IsErrorOf, read_as, read_then, refused}
use Rattle.capnp_value_texts.specs.Written.{Held, Name, NoPart, OnePart, Parse, Parts, Written, bracket_of, bracketed, bracketed_read, held_at, leaf_at, no_level, one_level, parts_step, parts_within, with_part, written_by, written_with, written_within}
use Rattle.capnp_value_texts.specs.declared.error.Error.{Error}
use Rattle.capnp_value_texts.specs.declared.error.Error.TheVariants.{Refused}
use Rattle.capnp_value_texts.specs.declared.error.RefusalKind.TheVariants.{CannotStand, TooDeep}
use Rattle.capnp_value_texts.specs.declared.parts.Bracket.{Bracket}
use Rattle.capnp_value_texts.proofs.Refusals.{error_as, error_same, error_then}

-- what is held where so many levels are left
abbrev pub held_within : ℕ → (whole : ℕ) → Held
held_within zero whole = no_level
held_within (suc levels) whole = one_level (written_within levels whole) whole

pub written_is : (levels whole : ℕ) (bs : List ℕ) → written_within levels whole bs ≡ written_with (held_within levels whole) whole bs
unfolding written_within
written_is zero whole bs = refl
written_is (suc levels) whole bs = refl

pub held_below : (levels whole : ℕ) → 0 < levels → held_within levels whole ≡ one_level (written_within (levels - 1) whole) whole
held_below zero whole h = let never : ⊥ = omega arith in absurd never
held_below (suc levels) whole h = let e : levels ≡ suc levels - 1 = omega arith in ap (λ k. one_level (written_within k whole) whole) e

-- ---- where no byte is left, and at a leaf or a bracket ----

take_whole : (n : ℕ) (xs : List ℕ) → length xs ≤ n → take n xs ≡ xs
take_whole zero [] h = refl
take_whole zero (x ∷ xs) h = absurd (omega (arith, h))
take_whole (suc n) [] h = refl
take_whole (suc n) (x ∷ xs) h = ap (λ ys. x ∷ ys) (take_whole n xs (omega (arith, h)))

behind_first : (b : ℕ) (bs : List ℕ) → take (length (b ∷ bs) - 1) bs ≡ bs
behind_first b bs = take_whole (length (b ∷ bs) - 1) bs (omega arith)

pub nothing_left : (levels whole : ℕ) (bs : List ℕ) (e : Error) → length bs < 1 → e ≡ Refused (record { kind = CannotStand; place = whole - length bs }) → IsErrorOf (written_within levels whole bs) e
nothing_left levels whole (b ∷ bs) e h is = absurd (omega (arith, h))
nothing_left levels whole [] e h is = subst (λ x. IsErrorOf (written_within levels whole []) x) (sym is) (written_is levels whole [])

pub at_leaf : (levels whole : ℕ) (bs : List ℕ) → 1 ≤ length bs → bracket_of (get_or bs 0 0) ≡ None → written_within levels whole bs ≡ leaf_at whole bs
at_leaf levels whole [] h e = absurd (omega (arith, h))
at_leaf levels whole (b ∷ bs) h e = written_is levels whole (b ∷ bs) ∙ ap (written_by (held_within levels whole) whole b bs) e

at_bracket : (levels whole : ℕ) (bs : List ℕ) (k : Bracket) → 1 ≤ length bs → bracket_of (get_or bs 0 0) ≡ Some k
    → written_within levels whole bs ≡ read_as (bracketed_read k (whole - length bs)) (held_within levels whole k (whole - length bs) (take (length bs - 1) (drop 1 bs)))
at_bracket levels whole [] k h e = absurd (omega (arith, h))
at_bracket levels whole (b ∷ bs) k h e =
    written_is levels whole (b ∷ bs) ∙ (ap (written_by (held_within levels whole) whole b bs) e
    ∙ ap (λ xs. read_as (bracketed_read k (whole - length (b ∷ bs))) (held_within levels whole k (whole - length (b ∷ bs)) xs)) (sym (behind_first b bs)))

pub bracket_too_deep : (levels whole : ℕ) (bs : List ℕ) (k : Bracket) → 1 ≤ length bs → bracket_of (get_or bs 0 0) ≡ Some k → levels ≡ 0 → written_within levels whole bs ≡ refused TooDeep (whole - length bs)
bracket_too_deep levels whole bs k h e none =
    at_bracket levels whole bs k h e ∙ ap (λ n. read_as (bracketed_read k (whole - length bs)) (held_within n whole k (whole - length bs) (take (length bs - 1) (drop 1 bs)))) none

-- what the brackets hold, behind blanks
bracket_is : (levels whole : ℕ) (bs blanks : List ℕ) (k : Bracket) → 1 ≤ length bs → bracket_of (get_or bs 0 0) ≡ Some k → 0 < levels → blanks ≡ after_blanks (take (length bs - 1) (drop 1 bs))
    → written_within levels whole bs ≡ read_as (bracketed_read k (whole - length bs)) (held_at (written_within (levels - 1) whole) k whole blanks)
bracket_is levels whole bs blanks k h e some is =
    at_bracket levels whole bs k h e
    ∙ (ap (λ (held : Held). read_as (bracketed_read k (whole - length bs)) (held k (whole - length bs) (take (length bs - 1) (drop 1 bs)))) (held_below levels whole some)
    ∙ ap (λ xs. read_as (bracketed_read k (whole - length bs)) (held_at (written_within (levels - 1) whole) k whole xs)) (sym is))

pub bracket_read : (levels whole place : ℕ) (bs blanks rest : List ℕ) (k : Bracket) (ps : Parts) (v : Written) → 1 ≤ length bs → bracket_of (get_or bs 0 0) ≡ Some k → 0 < levels
    → blanks ≡ after_blanks (take (length bs - 1) (drop 1 bs)) → place ≡ whole - length bs → held_at (written_within (levels - 1) whole) k whole blanks ≡ Ok (ps, rest) → v ≡ bracketed k place ps
    → written_within levels whole bs ≡ Ok (v, rest)
bracket_read levels whole place bs blanks rest k ps v h e some is at held seen =
    bracket_is levels whole bs blanks k h e some is
    ∙ (ap (read_as (bracketed_read k (whole - length bs))) held ∙ ap (λ (w : Written). Ok (w, rest)) (ap (λ n. bracketed k n ps) (sym at) ∙ sym seen))

pub bracket_refused : (levels whole : ℕ) (bs blanks : List ℕ) (k : Bracket) (e : Error) → 1 ≤ length bs → bracket_of (get_or bs 0 0) ≡ Some k → 0 < levels
    → blanks ≡ after_blanks (take (length bs - 1) (drop 1 bs)) → IsErrorOf (held_at (written_within (levels - 1) whole) k whole blanks) e → IsErrorOf (written_within levels whole bs) e
bracket_refused levels whole bs blanks k e h opens some is held =
    error_same _ _ e (bracket_is levels whole bs blanks k h opens some is) (error_as (bracketed_read k (whole - length bs)) (held_at (written_within (levels - 1) whole) k whole blanks) e held)

-- ---- parts ----

module _ (one : Parse OnePart) where
  pub parts_more : (n : ℕ) (bs rest : List ℕ) (p : Name × Written) (goes_on : Bool) → 0 < n → goes_on ≡ true → one bs ≡ Ok ((p, goes_on), rest) → parts_within one n bs ≡ read_as (with_part p) (parts_within one (n - 1) rest)
  unfolding parts_within
  parts_more zero bs rest p goes_on h t e = let never : ⊥ = omega arith in absurd never
  parts_more (suc n) bs rest p true h t e =
      let k : n ≡ suc n - 1 = omega arith in
      ap (λ r. read_then r (parts_step (parts_within one n))) e ∙ ap (λ m. read_as (with_part p) (parts_within one m rest)) k
  parts_more (suc n) bs rest p false h t e = cc

  pub parts_end : (n : ℕ) (bs rest : List ℕ) (p : Name × Written) (goes_on : Bool) → 0 < n → goes_on ≡ false → one bs ≡ Ok ((p, goes_on), rest) → parts_within one n bs ≡ Ok (with_part p (NoPart, rest))
  unfolding parts_within
  parts_end zero bs rest p goes_on h t e = let never : ⊥ = omega arith in absurd never
  parts_end (suc n) bs rest p false h t e = ap (λ r. read_then r (parts_step (parts_within one n))) e
  parts_end (suc n) bs rest p true h t e = cc

  pub parts_fail : (n : ℕ) (bs : List ℕ) (e : Error) → 0 < n → IsErrorOf (one bs) e → IsErrorOf (parts_within one n bs) e
  unfolding parts_within
  parts_fail zero bs e h is = let never : ⊥ = omega arith in absurd never
  parts_fail (suc n) bs e h is = error_then (parts_step (parts_within one n)) (one bs) e is
