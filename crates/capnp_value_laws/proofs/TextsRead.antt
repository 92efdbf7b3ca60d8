-- Each text of what is written is read as that, but for its places.
use Rattle.std.proofs.Common.{◌≡◌, ℕ, zero, suc, ◌-◌, ◌*◌, ◌<◌, ◌≤◌, List, [], ◌∷◌, ◌++◌, inl, inr, append_assoc, append-nil, length, length-append, replicate, Bool, true, false, None, Ok, Some, refl, ap, sym, ◌∙◌, subst, arith}
use Rattle.std.specs.Prelude.{⊤}
use Rattle.capnp_json_text.specs.Readings.{after_blanks}
use Rattle.capnp_records.specs.Text.{Layout, deeper, line, separator}
use Rattle.capnp_value_texts.specs.Errors.{read_as, read_then}
use Rattle.capnp_value_texts.specs.Lengths.{plain_length}
use Rattle.capnp_value_texts.specs.Lines.{HasLine, HaveLines, IsNamed, name_kept, name_on}
use Rattle.capnp_value_texts.specs.Written.{Fields, Items, Leaf, Name, NoPart, Part, Parts, Written, at_end, behind_part, bracketed_read, closing, held_at, part_at, part_behind, parts_within, with_part, written_within}
use Rattle.capnp_value_texts.specs.declared.parts.Bracket.{Bracket}
use Rattle.capnp_value_texts.specs.declared.parts.Bracket.TheVariants.{Round, Square}
use Rattle.capnp_value_texts.proofs.Grammar.{parts_end, parts_more, written_is}
use Rattle.capnp_value_texts.proofs.LinesRead.{Begins, begins_on, front_longer, leaf_reads, name_reads, named_longer, no_blanks, unclosed}
use Rattle.capnp_value_laws.specs.Texts.{AreAlike, AreFirst, AreMore, ArePartsAlike, IsSameName, IsTextOf, TextsAreRead}

-- ---- blanks ----

spaces_pass : (n : ℕ) (xs : List ℕ) → after_blanks (replicate n 32 ++ xs) ≡ after_blanks xs
spaces_pass zero xs = refl
spaces_pass (suc n) xs = spaces_pass n xs

line_passes : (at : Layout) (xs : List ℕ) → after_blanks (line at ++ xs) ≡ after_blanks xs
line_passes None xs = refl
line_passes (Some n) xs = spaces_pass (2 * n) xs

-- a comma, and blanks
comma_passes : (at : Layout) (xs : List ℕ) → (blanks : List ℕ) × (separator at false ++ xs ≡ 44 ∷ blanks) × (after_blanks blanks ≡ after_blanks xs)
comma_passes None xs = (32 ∷ xs, refl, refl)
comma_passes (Some n) xs = (line (Some n) ++ xs, refl, line_passes (Some n) xs)

-- ---- what a text begins with, and what stands behind a value ----

text_begins : (levels : ℕ) (at : Layout) (w : Written) (text rest : List ℕ) → HasLine levels w → IsTextOf at w text → Begins (text ++ rest)
text_begins levels at (Leaf place bs) text rest h is = subst (λ (xs : List ℕ). Begins (xs ++ rest)) (sym is) (begins_on bs rest h.some h.begins)
text_begins levels at (Fields place ps) text rest h is = subst (λ (xs : List ℕ). Begins (xs ++ rest)) (sym is.2) (record { some = omega arith; first = refl })
text_begins levels at (Items place ps) text rest h is = subst (λ (xs : List ℕ). Begins (xs ++ rest)) (sym is.2) (record { some = omega arith; first = refl })

named_begins : (k : Bracket) (name xs : List ℕ) → IsNamed k name → Begins xs → Begins (name_on k name xs)
named_begins Round name xs n begins = begins_on name (32 ∷ 61 ∷ 32 ∷ xs) n.some n.begins
named_begins Square name xs n begins = begins

named_joined : (k : Bracket) (name xs ys zs : List ℕ) → name_on k name (xs ++ ys) ++ zs ≡ name_on k name (xs ++ (ys ++ zs))
named_joined Round name xs ys zs = append_assoc name (32 ∷ 61 ∷ 32 ∷ (xs ++ ys)) zs ∙ ap (λ (us : List ℕ). name ++ (32 ∷ 61 ∷ 32 ∷ us)) (append_assoc xs ys zs)
named_joined Square name xs ys zs = append_assoc xs ys zs

close_stops : (k : Bracket) (at : Layout) (rest : List ℕ) → plain_length ((line at ++ closing k ∷ []) ++ rest) ≡ 0
close_stops Round None rest = refl
close_stops Square None rest = refl
close_stops Round (Some n) rest = refl
close_stops Square (Some n) rest = refl

comma_stops : (at : Layout) (xs rest : List ℕ) → plain_length ((separator at false ++ xs) ++ rest) ≡ 0
comma_stops None xs rest = refl
comma_stops (Some n) xs rest = refl

more_stops : (at : Layout) (k : Bracket) (ps : Parts) (text rest : List ℕ) → AreMore at k ps text → plain_length (text ++ rest) ≡ 0
more_stops at k NoPart text rest is = subst (λ (xs : List ℕ). plain_length (xs ++ rest) ≡ 0) (sym is) (close_stops k at rest)
more_stops at k (Part place name w ps) text rest is =
    subst (λ (xs : List ℕ). plain_length (xs ++ rest) ≡ 0) (sym is.4) (comma_stops (deeper at) (name_on k name (is.0 ++ is.1)) rest)

-- ---- a part ----

abbrev Reads : (levels whole : ℕ) → Written → List ℕ → Type 0
Reads levels whole w text = (rest : List ℕ) → plain_length rest ≡ 0 → (v : Written) × AreAlike w v × (written_within levels whole (text ++ rest) ≡ Ok (v, rest))

part_reads : (levels whole : ℕ) (k : Bracket) (name value behind next : List ℕ) (v : Written) (goes_on : Bool) → IsNamed k name → Begins (value ++ behind) → written_within levels whole (value ++ behind) ≡ Ok (v, behind)
    → behind_part k whole (after_blanks behind) ≡ Ok (goes_on, next)
    → part_at (written_within levels whole) k whole (name_on k name (value ++ behind)) ≡ Ok ((((whole - length (name_on k name (value ++ behind)), name_kept k name), v), goes_on), next)
part_reads levels whole k name value behind next v goes_on n begins read more =
    let named : Name = (whole - length (name_on k name (value ++ behind)), name_kept k name) in
    ap (λ r. read_then r (λ m. read_then (written_within levels whole m.1) (λ w. part_behind k whole m.0 w.0 w.1))) (name_reads k whole name (value ++ behind) n begins)
    ∙ (ap (λ r. read_then r (λ w. part_behind k whole named w.0 w.1)) read ∙ ap (read_as (λ e. (((named, v), e.0), e.1))) more)

end_reads : (at : Layout) (k : Bracket) (whole : ℕ) (rest : List ℕ) → behind_part k whole (after_blanks ((line at ++ closing k ∷ []) ++ rest)) ≡ Ok (false, rest)
end_reads at k whole rest = ap (λ xs. behind_part k whole (after_blanks xs)) (append_assoc (line at) (closing k ∷ []) rest) ∙ (ap (behind_part k whole) (line_passes at (closing k ∷ rest)) ∙ closes k)
  where
    closes : (j : Bracket) → behind_part j whole (after_blanks (closing j ∷ rest)) ≡ Ok (false, rest)
    closes Round = refl
    closes Square = refl

comma_goes : (k : Bracket) (whole : ℕ) (blanks : List ℕ) → behind_part k whole (after_blanks (44 ∷ blanks)) ≡ Ok (true, after_blanks blanks)
comma_goes Round whole blanks = refl
comma_goes Square whole blanks = refl

comma_reads : (at : Layout) (k : Bracket) (whole : ℕ) (xs rest : List ℕ) → Begins (xs ++ rest) → behind_part k whole (after_blanks ((separator at false ++ xs) ++ rest)) ≡ Ok (true, xs ++ rest)
comma_reads at k whole xs rest begins =
    let passes = comma_passes at (xs ++ rest) in
    ap (λ ys. behind_part k whole (after_blanks ys)) (append_assoc (separator at false) xs rest ∙ passes.1)
    ∙ (comma_goes k whole passes.0 ∙ ap (λ ys. Ok (true, ys)) (passes.2 ∙ no_blanks (xs ++ rest) begins))

same_name : (k : Bracket) (name : List ℕ) → IsSameName k name (name_kept k name)
same_name Round name = refl
same_name Square name = tt

-- ---- parts ----

abbrev count : Parts → ℕ
count NoPart = 0
count (Part place name v ps) = suc (count ps)

-- the values in parts are read, each by its texts
abbrev AllRead : (levels whole : ℕ) → Parts → Type 0
AllRead levels whole NoPart = ⊤
AllRead levels whole (Part place name w ps) = ((at : Layout) (text : List ℕ) → IsTextOf at w text → Reads levels whole w text) × AllRead levels whole ps

parts_read : (levels whole n : ℕ) (at : Layout) (k : Bracket) (place : ℕ) (name : List ℕ) (w : Written) (ps : Parts) (value more rest : List ℕ) → HaveLines levels k (Part place name w ps) → AllRead levels whole (Part place name w ps) → count ps < n
    → IsTextOf (deeper at) w value → AreMore at k ps more
    → (qs : Parts) × ArePartsAlike k (Part place name w ps) qs × (parts_within (part_at (written_within levels whole) k whole) n (name_on k name (value ++ (more ++ rest))) ≡ Ok (qs, rest))
parts_read levels whole n at k place name w NoPart value more rest h reads less is more_is =
    let read = reads.0 (deeper at) value is (more ++ rest) (more_stops at k NoPart more rest more_is) in
    let named : Name = (whole - length (name_on k name (value ++ (more ++ rest))), name_kept k name) in (
      Part named.0 named.1 read.0 NoPart,
      (same_name k name, read.1, tt),
      parts_end (part_at (written_within levels whole) k whole) n (name_on k name (value ++ (more ++ rest))) rest (named, read.0) false (omega (arith, less)) refl
          (part_reads levels whole k name value (more ++ rest) rest read.0 false h.0 (text_begins levels (deeper at) w value (more ++ rest) h.1 is) read.2
          (ap (λ xs. behind_part k whole (after_blanks (xs ++ rest))) more_is ∙ end_reads at k whole rest)),
    )
parts_read levels whole n at k place name w (Part other given x ps) value more rest h reads less is more_is =
    let read = reads.0 (deeper at) value is (more ++ rest) (more_stops at k (Part other given x ps) more rest more_is) in
    let named : Name = (whole - length (name_on k name (value ++ (more ++ rest))), name_kept k name) in
    let next = name_on k given (more_is.0 ++ (more_is.1 ++ rest)) in
    let begins = named_begins k given (more_is.0 ++ (more_is.1 ++ rest)) h.2.0 (text_begins levels (deeper at) x more_is.0 (more_is.1 ++ rest) h.2.1 more_is.2) in
    let others = parts_read levels whole (n - 1) at k other given x ps more_is.0 more_is.1 rest h.2 reads.1 (omega (arith, less)) more_is.2 more_is.3 in (
      Part named.0 named.1 read.0 others.0,
      (same_name k name, read.1, others.1),
      parts_more (part_at (written_within levels whole) k whole) n (name_on k name (value ++ (more ++ rest))) next (named, read.0) true (omega (arith, less)) refl
          (part_reads levels whole k name value (more ++ rest) next read.0 true h.0 (text_begins levels (deeper at) w value (more ++ rest) h.1 is) read.2
          (ap (λ xs. behind_part k whole (after_blanks (xs ++ rest))) more_is.4
          ∙ (comma_reads (deeper at) k whole (name_on k given (more_is.0 ++ more_is.1)) rest (subst Begins (sym (named_joined k given more_is.0 more_is.1 rest)) begins)
          ∙ ap (λ xs. Ok (true, xs)) (named_joined k given more_is.0 more_is.1 rest))))
          ∙ ap (read_as (with_part (named, read.0))) others.2,
    )

-- ---- brackets ----

comma_longer : (at : Layout) (xs : List ℕ) → length xs < length (separator at false ++ xs)
comma_longer None xs = omega arith
comma_longer (Some n) xs = omega (arith, length-append (replicate (2 * n) 32) xs)

more_counted : (at : Layout) (k : Bracket) (ps : Parts) (text : List ℕ) → AreMore at k ps text → count ps ≤ length text
more_counted at k NoPart text is = omega arith
more_counted at k (Part place name w ps) text is =
    let longer = comma_longer (deeper at) (name_on k name (is.0 ++ is.1)) in
    let same : length text ≡ length (separator (deeper at) false ++ name_on k name (is.0 ++ is.1)) = ap length is.4 in
    omega (arith, longer, same, named_longer k name (is.0 ++ is.1), front_longer is.0 is.1, more_counted at k ps is.1 is.3)

abbrev Held : (levels whole : ℕ) → Bracket → Parts → List ℕ → List ℕ → Type 0
Held levels whole k ps text rest = (qs : Parts) × ArePartsAlike k ps qs × (held_at (written_within levels whole) k whole (after_blanks (text ++ rest)) ≡ Ok (qs, rest))

closed_at : (levels whole : ℕ) (k : Bracket) (rest : List ℕ) → held_at (written_within levels whole) k whole (after_blanks (closing k ∷ rest)) ≡ Ok (NoPart, rest)
closed_at levels whole Round rest = refl
closed_at levels whole Square rest = refl

none_held : (levels whole : ℕ) (at : Layout) (k : Bracket) (text rest : List ℕ) → AreFirst at k NoPart text → Held levels whole k NoPart text rest
none_held levels whole at k text rest (inl is) = (NoPart, tt, ap (λ xs. held_at (written_within levels whole) k whole (after_blanks (xs ++ rest))) is ∙ closed_at levels whole k rest)
none_held levels whole at k text rest (inr is) = (
  NoPart,
  tt,
  ap (λ xs. held_at (written_within levels whole) k whole (after_blanks (xs ++ rest))) is
      ∙ (ap (λ xs. held_at (written_within levels whole) k whole (after_blanks xs)) (append_assoc (line at) (closing k ∷ []) rest)
      ∙ (ap (held_at (written_within levels whole) k whole) (line_passes at (closing k ∷ rest)) ∙ closed_at levels whole k rest)),
)

held_by : (levels whole : ℕ) (k : Bracket) (bs : List ℕ) (ps : Parts) (rest : List ℕ) → Begins bs → parts_within (part_at (written_within levels whole) k whole) (suc (length bs)) bs ≡ Ok (ps, rest)
    → held_at (written_within levels whole) k whole (after_blanks bs) ≡ Ok (ps, rest)
held_by levels whole k [] ps rest begins read = absurd (omega (arith, begins.some))
held_by levels whole k (b ∷ bs) ps rest begins read = ap (held_at (written_within levels whole) k whole) (no_blanks (b ∷ bs) begins) ∙ rw (unclosed k b begins.first) read

held_reads : (levels whole : ℕ) (at : Layout) (k : Bracket) (ps : Parts) (text rest : List ℕ) → HaveLines levels k ps → AllRead levels whole ps → AreFirst at k ps text → Held levels whole k ps text rest
held_reads levels whole at k NoPart text rest h reads is = none_held levels whole at k text rest is
held_reads levels whole at k (Part place name w ps) text rest h reads is =
    let bs = name_on k name (is.0 ++ (is.1 ++ rest)) in
    let fewer : count ps < suc (length bs) =
    omega (arith, named_longer k name (is.0 ++ (is.1 ++ rest)), front_longer is.0 (is.1 ++ rest), length-append is.1 rest, more_counted at k ps is.1 is.3) in
    let read = parts_read levels whole (suc (length bs)) at k place name w ps is.0 is.1 rest h reads fewer is.2 is.3 in (
      read.0,
      read.1,
      ap (λ xs. held_at (written_within levels whole) k whole (after_blanks (xs ++ rest))) is.4
          ∙ (ap (λ xs. held_at (written_within levels whole) k whole (after_blanks xs)) (append_assoc (line (deeper at)) (name_on k name (is.0 ++ is.1)) rest)
          ∙ (ap (held_at (written_within levels whole) k whole) (line_passes (deeper at) (name_on k name (is.0 ++ is.1) ++ rest))
          ∙ (ap (λ xs. held_at (written_within levels whole) k whole (after_blanks xs)) (named_joined k name is.0 is.1 rest)
          ∙ held_by levels whole k bs read.0 rest (named_begins k name (is.0 ++ (is.1 ++ rest)) h.0 (text_begins levels (deeper at) w is.0 (is.1 ++ rest) h.1 is.2)) read.2))),
    )

-- ---- all ----

mutual
  value_reads : (w : Written) (levels whole : ℕ) (at : Layout) (text : List ℕ) → HasLine levels w → IsTextOf at w text → Reads levels whole w text
  value_reads (Leaf place bs) levels whole at text h is rest stops =
      (Leaf (whole - length (bs ++ rest)) bs, refl, ap (λ xs. written_within levels whole (xs ++ rest)) is ∙ leaf_reads levels whole bs rest h stops)
  value_reads (Fields place ps) zero whole at text h is rest stops = absurd h
  value_reads (Items place ps) zero whole at text h is rest stops = absurd h
  value_reads (Fields place ps) (suc levels) whole at text h is rest stops =
      let held = held_reads levels whole at Round ps is.0 rest h (all_read ps levels whole Round h) is.1 in (
        Fields (whole - length (40 ∷ (is.0 ++ rest))) held.0,
        held.1,
        ap (λ xs. written_within (suc levels) whole (xs ++ rest)) is.2
            ∙ (written_is (suc levels) whole (40 ∷ (is.0 ++ rest)) ∙ ap (read_as (bracketed_read Round (whole - length (40 ∷ (is.0 ++ rest))))) held.2),
      )
  value_reads (Items place ps) (suc levels) whole at text h is rest stops =
      let held = held_reads levels whole at Square ps is.0 rest h (all_read ps levels whole Square h) is.1 in (
        Items (whole - length (91 ∷ (is.0 ++ rest))) held.0,
        held.1,
        ap (λ xs. written_within (suc levels) whole (xs ++ rest)) is.2
            ∙ (written_is (suc levels) whole (91 ∷ (is.0 ++ rest)) ∙ ap (read_as (bracketed_read Square (whole - length (91 ∷ (is.0 ++ rest))))) held.2),
      )

  all_read : (ps : Parts) (levels whole : ℕ) (k : Bracket) → HaveLines levels k ps → AllRead levels whole ps
  all_read NoPart levels whole k h = tt
  all_read (Part place name w ps) levels whole k h = (λ at text is. value_reads w levels whole at text h.1 is, all_read ps levels whole k h.2)

pub texts_read : TextsAreRead
texts_read at w text h is =
    let read = value_reads w 64 (length text) at text h is [] refl in
    let begins : Begins text = subst Begins (append-nil text) (text_begins 64 at w text [] h is) in (
      read.0,
      read.1,
      ap (λ xs. read_then (written_within 64 (length text) xs) (λ v. at_end (length text) v.0 (after_blanks v.1))) (no_blanks text begins ∙ sym (append-nil text))
          ∙ ap (λ r. read_then r (λ v. at_end (length text) v.0 (after_blanks v.1))) read.2,
    )
