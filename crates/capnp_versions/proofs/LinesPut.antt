-- What stands on a side, and lines one after another.
use Rattle.std.proofs.Common.{ℕ, ◌+◌, ◌<◌, ◌≤◌, List, ◌∷◌, ◌++◌, Bool, true, false, Option, None, Some, codes, drop, get_or, length, nat_lt, arith, ap, append_assoc, subst, sym, ◌≡◌, ◌∙◌}
use Rattle.std.proofs.lemmas.Bool.Decides.{nat_tests}
use Rattle.std.proofs.lemmas.List.{drop_more}
use Rattle.capnp_schema.specs.Schema.{Schemas, field_at, fields_of}
use Rattle.capnp_records.specs.Text.{Out, after, said_text}
use Rattle.capnp_differences.specs.declared.differences.Difference.{Difference}
use Rattle.capnp_dynamic_readers.specs.Facts.Appended.{both, nothing, two_put}
use Rattle.capnp_dynamic_readers.specs.Pieces.{IsAppended}
use Rattle.capnp_structs.proofs.Appended.{IsLeft, ended, led, left_more}
use Rattle.capnp_structs.specs.Sides.{field_side}
use Rattle.capnp_versions.specs.Lines.{behind_word, difference_line, differences_text, field_at_side, side_of, union_side, union_words}

-- ---- the union ----

pub no_union : (word : List ℕ) (members : ℕ) (tag : Option ℕ) (old : List ℕ) → tag ≡ None → IsAppended old (behind_word word (union_side members tag)) old
no_union word members tag old none = subst (λ (o : Option ℕ). IsAppended old (behind_word word (union_side members o)) old) (sym none) (nothing old)

pub some_union : (word : List ℕ) (members bit : ℕ) (old new m d : List ℕ) → new ≡ old ++ (word ++ (m ++ (codes " members, tag at data bit " ++ d))) → m ++ codes " members, tag at data bit " ++ d ≡ union_words members bit →
    IsAppended old (behind_word word (union_side members (Some bit))) new
some_union word members bit old new m d e is =
    two_put word (union_words members bit) old new (e ∙ ap (λ (xs : List ℕ). old ++ (word ++ xs)) (sym (append_assoc m (codes " members, tag at data bit ") d) ∙ is))

-- ---- a field ----

not_below : (i n : ℕ) → n ≤ i → nat_lt i n ≡ false
not_below i n le = grind (arith, nat_tests, le)

is_below : (i n : ℕ) → i < n → nat_lt i n ≡ true
is_below i n le = grind (arith, nat_tests, le)

pub no_field : (set : Schemas) (b i : ℕ) (word old : List ℕ) → length (fields_of set b) ≤ i → IsAppended old (behind_word word (side_of set b (Some i))) old
no_field set b i word old past = subst (λ (t : Bool). IsAppended old (behind_word word (field_at_side set b i t)) old) (sym (not_below i (length (fields_of set b)) past)) (nothing old)

pub some_field : (set : Schemas) (b i : ℕ) (word old new : List ℕ) → i < length (fields_of set b) → IsAppended old (after (said_text word) (field_side set b (field_at set b i))) new →
    IsAppended old (behind_word word (side_of set b (Some i))) new
some_field set b i word old new inside put =
    subst (λ (t : Bool). IsAppended old (behind_word word (field_at_side set b i t)) new) (sym (is_below i (length (fields_of set b)) inside)) put

-- ---- a line ----

pub side_here : (word : List ℕ) (set set' : Schemas) (b b' : ℕ) (field : Option ℕ) (old new : List ℕ) → set ≡ set' → b ≡ b' → IsAppended old (behind_word word (side_of set b field)) new → IsAppended old (behind_word word (side_of set' b' field)) new
side_here word set set' b b' field old new same_set same put =
    subst (λ (n : ℕ). IsAppended old (behind_word word (side_of set' n field)) new) same
    (subst (λ (z : Schemas). IsAppended old (behind_word word (side_of z b field)) new) same_set put)

pub line_put : (words end : List ℕ) (was is : Out) (old a b c new : List ℕ) → a ≡ old ++ words → IsAppended a was b → IsAppended b is c → new ≡ c ++ end → IsAppended old (after (said_text words) (after was (after is (said_text end)))) new
line_put words end was is old a b c new e was_put is_put f =
    led words (after was (after is (said_text end))) old a new e (both was (after is (said_text end)) a b new was_put (ended is end b c new is_put f))

-- ---- lines ----

pub next_line : (set : Schemas) (ds : List Difference) (i : ℕ) (d z : Difference) (start : List ℕ) (whole : Out) (text text' : List ℕ) → i < length ds → d ≡ get_or ds i z → IsLeft start whole text (differences_text set (drop i ds)) →
    IsAppended text (difference_line set d) text' → IsLeft start whole text' (differences_text set (drop (i + 1) ds))
next_line set ds i d z start whole text text' inside is before put =
    let here : drop i ds ≡ d ∷ drop (i + 1) ds = drop_more ds i z inside ∙ ap (λ (x : Difference). x ∷ drop (i + 1) ds) (sym is) in
    left_more start whole (difference_line set d) (differences_text set (drop (i + 1) ds)) text text' (subst (λ (xs : List Difference). IsLeft start whole text (differences_text set xs)) here before) put
