-- Lines, as walks over a set's brands and a struct's fields make them.
use Rattle.std.proofs.Common.{ℕ, zero, suc, ◌+◌, ◌-◌, ◌<◌, ◌≤◌, List, [], ◌∷◌, ◌++◌, drop, length, length-append, slice_get, Result, IfErr, IsErrAnd, ◌≡◌, ◌≢◌, ◌∙◌, ap, append_assoc, arith, refl, subst, sym}
use Rattle.std.proofs.lemmas.Result.{err_from_is_err_and}
use Rattle.capnp_device.specs.declared.error.Error.{Error}
use Rattle.capnp_device.specs.declared.error.ErrorKind.TheVariants.{OutOfMemory, TooLarge}
use Rattle.std.specs.Option.{unwrap_or}
use Rattle.std.proofs.lemmas.List.{drop_more}
use Rattle.capnp_schema.specs.Schema.{Schemas, Brand, fields_of, no_brand}
use Rattle.capnp_structs.specs.Fields.{UnionLine, all_lines, field_lines, lines_within}
use Rattle.capnp_structs.specs.Names.{struct_line, struct_lines}

pub next : (i : ℕ) → i + 1 ≡ suc i
next i = omega arith

-- the lines of the brands from one on are that brand's line and those of the rest
lines_from : (set : Schemas) (i : ℕ) → i < length set.brands → struct_lines set (drop i set.brands) i ≡ struct_line set i ++ struct_lines set (drop (i + 1) set.brands) (i + 1)
lines_from set i inside =
    ap (λ (bs : List Brand). struct_lines set bs i) (drop_more set.brands i (no_brand set) inside)
    ∙ ap (λ (n : ℕ). struct_line set i ++ struct_lines set (drop (i + 1) set.brands) n) (sym (next i))

pub next_struct : (set : Schemas) (i : ℕ) (text text' whole : List ℕ) → i < length set.brands → text ++ struct_lines set (drop i set.brands) i ≡ whole →
    text' ≡ text ++ struct_line set i → text' ++ struct_lines set (drop (i + 1) set.brands) (i + 1) ≡ whole
next_struct set i text text' whole inside before put =
    ap (λ (xs : List ℕ). xs ++ struct_lines set (drop (i + 1) set.brands) (i + 1)) put
    ∙ (append_assoc text (struct_line set i) (struct_lines set (drop (i + 1) set.brands) (i + 1))
    ∙ (sym (ap (λ (xs : List ℕ). text ++ xs) (lines_from set i inside)) ∙ before))

-- the lines so far are longer than they may be, and so are all of them
pub past_whole : {T : Type 0} (r : Result T Error) (e : Error) (limit : ℕ) (text rest whole : List ℕ) → text ++ rest ≡ whole → IsErrAnd r (λ y. y ≡ e) → (e.kind ≡ TooLarge) × (limit < length text) →
    IfErr r (λ y. y.kind ≢ OutOfMemory → (y.kind ≡ TooLarge) × (limit < length whole))
past_whole {T} r e limit text rest whole is h (kind, long) =
    let q = err_from_is_err_and r h in
    let more : limit < length whole = omega (arith, long, ap length is, length-append text rest) in
    subst (λ (x : Result T Error). IfErr x (λ y. y.kind ≢ OutOfMemory → (y.kind ≡ TooLarge) × (limit < length whole))) (sym q.1)
    (subst (λ (y : Error). y.kind ≢ OutOfMemory → (y.kind ≡ TooLarge) × (limit < length whole)) (sym q.2) (λ some. (kind, more)))

-- ---- entries of lists, and fields ----

-- an entry stands before those that follow
from_next : {A : Type 0} (d : A) (xs : List A) (i : ℕ) → i < length xs → drop i xs ≡ unwrap_or (slice_get xs i) d ∷ drop (suc i) xs
from_next d [] i inside = absurd (omega (arith, inside))
from_next d (x ∷ xs) zero inside = refl
from_next d (x ∷ xs) (suc i) inside = from_next d xs i (omega (arith, inside))

pub from_entry : {A : Type 0} (d : A) (xs : List A) (i : ℕ) → i < length xs → drop i xs ≡ unwrap_or (slice_get xs i) d ∷ drop (i + 1) xs
from_entry d xs i inside = from_next d xs i inside ∙ ap (λ (n : ℕ). unwrap_or (slice_get xs i) d ∷ drop n xs) (sym (next i))

pub none_left : {A : Type 0} (xs : List A) (i : ℕ) → length xs ≤ i → drop i xs ≡ []
none_left [] zero past = refl
none_left [] (suc i) past = refl
none_left (x ∷ xs) zero past = absurd (omega (arith, past))
none_left (x ∷ xs) (suc i) past = none_left xs i (omega (arith, past))

-- through no group there is no line
pub within_none : (set : Schemas) (groups : ℕ) (prefix : List ℕ) (b : ℕ) → groups ≡ 0 → lines_within set groups prefix b ≡ []
unfolding lines_within
within_none set zero prefix b e = refl
within_none set (suc groups) prefix b e = absurd (omega (arith, e))

-- through one more group there are the line of the union, and those of the fields one after another
pub within_next : (set : Schemas) (groups : ℕ) (prefix : List ℕ) (b : ℕ) → 0 < groups →
    lines_within set groups prefix b ≡ UnionLine prefix b ∷ all_lines (field_lines b (lines_within set (groups - 1)) prefix) 0 (fields_of set b)
unfolding lines_within
within_next set zero prefix b e = absurd (omega (arith, e))
within_next set (suc groups) prefix b e = ap (λ (n : ℕ). UnionLine prefix b ∷ all_lines (field_lines b (lines_within set n) prefix) 0 (fields_of set b)) (fewer groups)
  where
    fewer : (n : ℕ) → n ≡ suc n - 1
    fewer n = omega arith
