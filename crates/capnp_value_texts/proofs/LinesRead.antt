-- Texts on one line are read as what was written.
use Rattle.std.proofs.Common.{◌≡◌, ◌+◌, ℕ, zero, suc, ◌-◌, ◌<◌, ◌≤◌, ◌==◌, List, [], ◌∷◌, ◌++◌, drop, get_or, length, take, Bool, true, false, Ok, refl, ap, ◌∙◌, length-append, arith}
use Rattle.std.proofs.lemmas.Bool.Decides.{nat_tests}
use Rattle.capnp_json_text.specs.Readings.{after_blanks, is_blank}
use Rattle.capnp_value_texts.specs.Errors.{read_as, read_then}
use Rattle.capnp_value_texts.specs.Lengths.{is_end, leaf_length, name_length}
use Rattle.capnp_value_texts.specs.Lines.{HasLine, HaveLines, IsLeafText, IsNamed, LinesAreRead, first_on, line_on, more_on, name_kept, name_on, placed, placed_parts}
use Rattle.capnp_value_texts.specs.Written.{Fields, Items, Leaf, Name, NoPart, Part, Parts, Written, at_end, behind_part, bracketed_read, closing, held_at, leaf_of, name_at, name_of, part_at, part_behind, parts_within, with_part, written_within}
use Rattle.capnp_value_texts.specs.declared.lengths.Within.TheVariants.{Plain}
use Rattle.capnp_value_texts.specs.declared.parts.Bracket.{Bracket}
use Rattle.capnp_value_texts.specs.declared.parts.Bracket.TheVariants.{Round, Square}
use Rattle.capnp_value_texts.proofs.Grammar.{at_leaf, parts_end, parts_more, written_is}

-- ---- what begins with no end ----

pub record Begins (bs : List ℕ) : Type 0 where
  pub some : 0 < length bs
  pub first : is_end (get_or bs 0 0) ≡ false

pub begins_on : (xs ys : List ℕ) → 0 < length xs → is_end (get_or xs 0 0) ≡ false → Begins (xs ++ ys)
begins_on [] ys h e = absurd (omega arith)
begins_on (x ∷ xs) ys h e = record { some = omega arith; first = e }

unblank : (b : ℕ) → is_end b ≡ false → is_blank b ≡ false
unblank b e = grind (arith, nat_tests)

pub no_blanks : (bs : List ℕ) → Begins bs → after_blanks bs ≡ bs
no_blanks [] h = refl
no_blanks (b ∷ bs) h = rw (unblank b h.first) refl

pub unclosed : (k : Bracket) (b : ℕ) → is_end b ≡ false → (b == closing k) ≡ false
unclosed Round b e = grind (arith, nat_tests)
unclosed Square b e = grind (arith, nat_tests)

line_begins : (levels : ℕ) (w : Written) (rest : List ℕ) → HasLine levels w → Begins (line_on w rest)
line_begins levels (Leaf place bs) rest h = begins_on bs rest h.some h.begins
line_begins zero (Fields place ps) rest h = absurd h
line_begins zero (Items place ps) rest h = absurd h
line_begins (suc levels) (Fields place ps) rest h = record { some = omega arith; first = refl }
line_begins (suc levels) (Items place ps) rest h = record { some = omega arith; first = refl }

named_begins : (levels : ℕ) (k : Bracket) (name : List ℕ) (w : Written) (rest : List ℕ) → IsNamed k name → HasLine levels w → Begins (name_on k name (line_on w rest))
named_begins levels Round name w rest n h = begins_on name (32 ∷ 61 ∷ 32 ∷ line_on w rest) n.some n.begins
named_begins levels Square name w rest n h = line_begins levels w rest h

more_stops : (k : Bracket) (ps : Parts) (rest : List ℕ) → leaf_length Plain (more_on k ps rest) ≡ 0
more_stops Round NoPart rest = refl
more_stops Square NoPart rest = refl
more_stops k (Part place name v ps) rest = refl

-- ---- leaves and names ----

take_front : (xs ys : List ℕ) → take (length xs) (xs ++ ys) ≡ xs
take_front [] ys = refl
take_front (x ∷ xs) ys = ap (λ zs. x ∷ zs) (take_front xs ys)

drop_front : (xs ys : List ℕ) → drop (length xs) (xs ++ ys) ≡ ys
drop_front [] ys = refl
drop_front (x ∷ xs) ys = drop_front xs ys

some_count : (n : ℕ) → 0 < n → (n == 0) ≡ false
some_count n h = grind (arith, nat_tests)

leaf_front : (place n : ℕ) (xs ys : List ℕ) → 0 < length xs → n ≡ length xs → leaf_of place n (xs ++ ys) ≡ Ok (Leaf place xs, ys)
leaf_front place n xs ys h e =
    ap (λ m. leaf_of place m (xs ++ ys)) e ∙ rw (some_count (length xs) h, take_front xs ys, drop_front xs ys) refl

pub leaf_reads : (levels whole : ℕ) (bs rest : List ℕ) → IsLeafText bs → leaf_length Plain rest ≡ 0 → written_within levels whole (bs ++ rest) ≡ Ok (Leaf (whole - length (bs ++ rest)) bs, rest)
leaf_reads levels whole [] rest h stops = absurd (omega (arith, h.some))
leaf_reads levels whole (b ∷ bs) rest h stops =
    let goes : leaf_length Plain (b ∷ (bs ++ rest)) ≡ length (b ∷ bs) + leaf_length Plain rest = h.goes_on rest in
    let n : leaf_length Plain (b ∷ (bs ++ rest)) ≡ length (b ∷ bs) = omega (arith, goes, stops) in
    at_leaf levels whole (b ∷ (bs ++ rest)) (omega arith) h.opens ∙ rw h.opaque (leaf_front (whole - length (b ∷ (bs ++ rest))) (leaf_length Plain (b ∷ (bs ++ rest))) (b ∷ bs) rest (omega arith) n)

name_front : (whole n : ℕ) (xs rest : List ℕ) → 0 < length xs → n ≡ length xs → Begins rest → name_of whole n (xs ++ (32 ∷ 61 ∷ 32 ∷ rest)) ≡ Ok ((whole - length (xs ++ (32 ∷ 61 ∷ 32 ∷ rest)), xs), rest)
name_front whole n xs rest h e begins =
    let all = xs ++ (32 ∷ 61 ∷ 32 ∷ rest) in
    ap (λ m. name_of whole m all) e
    ∙ rw (some_count (length xs) h, take_front xs (32 ∷ 61 ∷ 32 ∷ rest), drop_front xs (32 ∷ 61 ∷ 32 ∷ rest), no_blanks rest begins) refl

pub name_reads : (k : Bracket) (whole : ℕ) (name rest : List ℕ) → IsNamed k name → Begins rest → name_at k whole (name_on k name rest) ≡ Ok ((whole - length (name_on k name rest), name_kept k name), rest)
name_reads Round whole name rest n begins = name_front whole (name_length (name ++ (32 ∷ 61 ∷ 32 ∷ rest))) name rest n.some (n.goes_on (61 ∷ 32 ∷ rest)) begins
name_reads Square whole name rest n begins = refl

-- ---- parts ----

-- whether more follow
abbrev goes_on : Parts → Bool
goes_on NoPart = false
goes_on (Part place name v ps) = true

-- what stands behind a part and its comma, or its bracket
abbrev next_on : Bracket → Parts → List ℕ → List ℕ
next_on k NoPart rest = rest
next_on k (Part place name v ps) rest = name_on k name (line_on v (more_on k ps rest))

behind_reads : (levels : ℕ) (k : Bracket) (whole : ℕ) (ps : Parts) (rest : List ℕ) → HaveLines levels k ps → behind_part k whole (after_blanks (more_on k ps rest)) ≡ Ok (goes_on ps, next_on k ps rest)
behind_reads levels Round whole NoPart rest h = refl
behind_reads levels Square whole NoPart rest h = refl
behind_reads levels Round whole (Part place name v ps) rest h = ap (λ xs. Ok (true, xs)) (no_blanks (name_on Round name (line_on v (more_on Round ps rest))) (named_begins levels Round name v (more_on Round ps rest) h.0 h.1))
behind_reads levels Square whole (Part place name v ps) rest h = ap (λ xs. Ok (true, xs)) (no_blanks (line_on v (more_on Square ps rest)) (line_begins levels v (more_on Square ps rest) h.1))

abbrev ReadsAs : (levels whole : ℕ) → Written → Type 0
ReadsAs levels whole v = (rest : List ℕ) → leaf_length Plain rest ≡ 0 → written_within levels whole (line_on v rest) ≡ Ok (placed whole v rest, rest)

part_reads : (levels whole : ℕ) (k : Bracket) (name : List ℕ) (v : Written) (ps : Parts) (rest : List ℕ) → IsNamed k name → HasLine levels v → HaveLines levels k ps → ReadsAs levels whole v
    → part_at (written_within levels whole) k whole (name_on k name (line_on v (more_on k ps rest)))
    ≡ Ok ((((whole - length (name_on k name (line_on v (more_on k ps rest))), name_kept k name), placed whole v (more_on k ps rest)), goes_on ps), next_on k ps rest)
part_reads levels whole k name v ps rest n h hs reads =
    let inner = line_on v (more_on k ps rest) in
    let named : Name = (whole - length (name_on k name inner), name_kept k name) in
    ap (λ r. read_then r (λ m. read_then (written_within levels whole m.1) (λ w. part_behind k whole m.0 w.0 w.1))) (name_reads k whole name inner n (line_begins levels v (more_on k ps rest) h))
    ∙ (ap (λ r. read_then r (λ w. part_behind k whole named w.0 w.1)) (reads (more_on k ps rest) (more_stops k ps rest))
    ∙ ap (read_as (λ e. (((named, placed whole v (more_on k ps rest)), e.0), e.1))) (behind_reads levels k whole ps rest hs))

abbrev count : Parts → ℕ
count NoPart = 0
count (Part place name v ps) = suc (count ps)

-- the values in parts are read
abbrev AllRead : (levels whole : ℕ) → Parts → Type 0
AllRead levels whole NoPart = Unit {0}
AllRead levels whole (Part place name v ps) = ReadsAs levels whole v × AllRead levels whole ps

parts_read : (levels whole n : ℕ) (k : Bracket) (place : ℕ) (name : List ℕ) (v : Written) (ps : Parts) (rest : List ℕ) → HaveLines levels k (Part place name v ps) → AllRead levels whole (Part place name v ps) → count ps < n
    → parts_within (part_at (written_within levels whole) k whole) n (name_on k name (line_on v (more_on k ps rest))) ≡ Ok (placed_parts whole k (Part place name v ps) rest, rest)
parts_read levels whole n k place name v NoPart rest h reads less =
    let named : Name = (whole - length (name_on k name (line_on v (closing k ∷ rest))), name_kept k name) in
    parts_end (part_at (written_within levels whole) k whole) n (name_on k name (line_on v (closing k ∷ rest))) rest (named, placed whole v (closing k ∷ rest)) false (omega (arith, less)) refl
    (part_reads levels whole k name v NoPart rest h.0 h.1 h.2 reads.0)
parts_read levels whole n k place name v (Part at other w qs) rest h reads less =
    let ps = Part at other w qs in
    let next = name_on k other (line_on w (more_on k qs rest)) in
    let named : Name = (whole - length (name_on k name (line_on v (more_on k ps rest))), name_kept k name) in
    parts_more (part_at (written_within levels whole) k whole) n (name_on k name (line_on v (more_on k ps rest))) next (named, placed whole v (more_on k ps rest)) true (omega (arith, less)) refl
    (part_reads levels whole k name v ps rest h.0 h.1 h.2 reads.0)
    ∙ ap (read_as (with_part (named, placed whole v (more_on k ps rest)))) (parts_read levels whole (n - 1) k at other w qs rest h.2 reads.1 (omega (arith, less)))

-- parts take a byte each
pub named_longer : (k : Bracket) (name xs : List ℕ) → length xs ≤ length (name_on k name xs)
named_longer Round name xs = omega (arith, length-append name (32 ∷ 61 ∷ 32 ∷ xs))
named_longer Square name xs = omega arith

pub front_longer : (xs ys : List ℕ) → length ys ≤ length (xs ++ ys)
front_longer xs ys = omega (arith, length-append xs ys)

mutual
  line_longer : (levels : ℕ) (w : Written) (rest : List ℕ) → HasLine levels w → length rest ≤ length (line_on w rest)
  line_longer levels (Leaf place bs) rest h = front_longer bs rest
  line_longer zero (Fields place ps) rest h = absurd h
  line_longer zero (Items place ps) rest h = absurd h
  line_longer (suc levels) (Fields place ps) rest h = omega (arith, first_longer levels Round ps rest h)
  line_longer (suc levels) (Items place ps) rest h = omega (arith, first_longer levels Square ps rest h)

  first_longer : (levels : ℕ) (k : Bracket) (ps : Parts) (rest : List ℕ) → HaveLines levels k ps → length rest ≤ length (first_on k ps rest)
  first_longer levels k NoPart rest h = omega arith
  first_longer levels k (Part place name v ps) rest h = omega (arith, named_longer k name (line_on v (more_on k ps rest)), line_longer levels v (more_on k ps rest) h.1, more_longer levels k ps rest h.2)

  more_longer : (levels : ℕ) (k : Bracket) (ps : Parts) (rest : List ℕ) → HaveLines levels k ps → length rest ≤ length (more_on k ps rest)
  more_longer levels k NoPart rest h = omega arith
  more_longer levels k (Part place name v ps) rest h = omega (arith, named_longer k name (line_on v (more_on k ps rest)), line_longer levels v (more_on k ps rest) h.1, more_longer levels k ps rest h.2)

more_counted : (levels : ℕ) (k : Bracket) (ps : Parts) (rest : List ℕ) → HaveLines levels k ps → count ps ≤ length (more_on k ps rest)
more_counted levels k NoPart rest h = omega arith
more_counted levels k (Part place name v ps) rest h =
    omega (arith, named_longer k name (line_on v (more_on k ps rest)), line_longer levels v (more_on k ps rest) h.1, more_counted levels k ps rest h.2)

-- ---- brackets ----

held_by : (levels whole : ℕ) (k : Bracket) (bs : List ℕ) (ps : Parts) (rest : List ℕ) → Begins bs → parts_within (part_at (written_within levels whole) k whole) (suc (length bs)) bs ≡ Ok (ps, rest)
    → held_at (written_within levels whole) k whole (after_blanks bs) ≡ Ok (ps, rest)
held_by levels whole k [] ps rest begins read = absurd (omega (arith, begins.some))
held_by levels whole k (b ∷ bs) ps rest begins read =
    ap (held_at (written_within levels whole) k whole) (no_blanks (b ∷ bs) begins) ∙ rw (unclosed k b begins.first) read

held_reads : (levels whole : ℕ) (k : Bracket) (ps : Parts) (rest : List ℕ) → HaveLines levels k ps → AllRead levels whole ps
    → held_at (written_within levels whole) k whole (after_blanks (first_on k ps rest)) ≡ Ok (placed_parts whole k ps rest, rest)
held_reads levels whole Round NoPart rest h reads = refl
held_reads levels whole Square NoPart rest h reads = refl
held_reads levels whole k (Part place name v ps) rest h reads =
    let text = name_on k name (line_on v (more_on k ps rest)) in
    held_by levels whole k text (placed_parts whole k (Part place name v ps) rest) rest (named_begins levels k name v (more_on k ps rest) h.0 h.1)
    (parts_read levels whole (suc (length text)) k place name v ps rest h reads
    (omega (arith, named_longer k name (line_on v (more_on k ps rest)), line_longer levels v (more_on k ps rest) h.1, more_counted levels k ps rest h.2)))

-- ---- all ----

mutual
  value_reads : (w : Written) (levels whole : ℕ) → HasLine levels w → ReadsAs levels whole w
  value_reads (Leaf place bs) levels whole h rest stops = leaf_reads levels whole bs rest h stops
  value_reads (Fields place ps) zero whole h rest stops = absurd h
  value_reads (Items place ps) zero whole h rest stops = absurd h
  value_reads (Fields place ps) (suc levels) whole h rest stops =
      written_is (suc levels) whole (40 ∷ first_on Round ps rest)
      ∙ ap (read_as (bracketed_read Round (whole - length (40 ∷ first_on Round ps rest)))) (held_reads levels whole Round ps rest h (all_read ps levels whole Round h))
  value_reads (Items place ps) (suc levels) whole h rest stops =
      written_is (suc levels) whole (91 ∷ first_on Square ps rest)
      ∙ ap (read_as (bracketed_read Square (whole - length (91 ∷ first_on Square ps rest)))) (held_reads levels whole Square ps rest h (all_read ps levels whole Square h))

  all_read : (ps : Parts) (levels whole : ℕ) (k : Bracket) → HaveLines levels k ps → AllRead levels whole ps
  all_read NoPart levels whole k h = tt
  all_read (Part place name v ps) levels whole k h = (value_reads v levels whole h.1, all_read ps levels whole k h.2)

pub lines_read : LinesAreRead
lines_read w h =
    let text = line_on w [] in
    ap (λ xs. read_then (written_within 64 (length text) xs) (λ v. at_end (length text) v.0 (after_blanks v.1))) (no_blanks text (line_begins 64 w [] h))
    ∙ ap (λ r. read_then r (λ v. at_end (length text) v.0 (after_blanks v.1))) (value_reads w 64 (length text) h [] refl)
