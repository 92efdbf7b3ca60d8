-- Pieces of texts, as they are put one after another.
use Rattle.std.proofs.Common.{codes, decimal, arith, append_assoc, ◌≡◌, refl, ap, ap₂, sym, ◌∙◌, ℕ, zero, suc, subst, Bool, true, false, List, [], ◌∷◌, ◌++◌, Some, None, Result, Ok, Err, IfErr, OnOk, cond, ◌<◌, ◌≤◌, ◌*◌, get_or, length, length-append, nat_lt, ◌==◌, ◌||◌, take, ◌+◌, ◌/◌, ◌%◌}
use Rattle.std.specs.Char.{digit_char, is_ascii}
use Rattle.std.specs.Fmt.{AppendsText, debug_escape, debug_escape_letter, debug_str, digits}
use Rattle.std.specs.List.{flat_map, list_all}
use Rattle.std.specs.Str.{IsAscii, IsNotAscii, IsUtf8, is_utf8}
use Rattle.std.specs.List.{slice_get}
use Rattle.std.specs.Option.{unwrap_or}
use Rattle.capnp_schema.specs.Annotated.{enumerant_at}
use Rattle.capnp_schema.specs.Enumerants.{IsEnumerantOf, enumerant_in, ordinal_of}
use Rattle.capnp_schema.specs.Enums.{enum_in, enum_number, enum_set}
use Rattle.capnp_schema.specs.Schema.{Enumerant as Named}
use Rattle.capnp_schema.specs.declared.schema.enums.EnumSchema.{EnumSchema}
use Rattle.capnp_schema.specs.declared.schema.enums.Enumerant.{Enumerant}
use Rattle.capnp_records.specs.Facts.Spelled.{form_spelled, known_spelled, some_bytes, some_spelled}
use Rattle.capnp_records.specs.Text.{DebugForm, IsText, Out, Pieces, debug_pieces, decimals, form_or, known_pieces, name_or, quoted_text, said_text}
use Rattle.capnp_dynamic_readers.specs.Handles.{enum_of, enum_value_number}
use Rattle.capnp_dynamic_readers.specs.Steps.Leaf.{enumerant_text, two_digits}
use Rattle.capnp_dynamic_readers.specs.declared.dynamic_value.Enum.{Enum}
use Rattle.capnp_dynamic_readers.specs.Pieces.{IsAppended, IsLonger, Taken, Untold, Within}
use Rattle.capnp_dynamic_readers.specs.Facts.Written.{grown, written, written_too_long}
use Rattle.capnp_dynamic_readers.specs.Steps.Pieces.{IsPast, IsPut, IsStopped}
use Rattle.capnp_dynamic_readers.specs.declared.walk.output.Stop.{Stop}
use Rattle.capnp_dynamic_readers.specs.declared.walk.output.Stop.TheVariants.{TooLong}
use Rattle.capnp_dynamic_readers.proofs.Streams.{known_stopped, nothing_put, stopped_inside, three_put, two_put}
use Rattle.std.proofs.lemmas.Bool.{true≢false}
use Rattle.std.proofs.lemmas.Bool.Decides.{nat_tests}
use Rattle.std.proofs.lemmas.List.{flat_map_more, length-take, take_more}
use Rattle.std.proofs.lemmas.Str.{IsUtf8-from_is_utf8, is_utf8-from_IsUtf8}

all_ascii : (bs : List ℕ) → ((i : ℕ) → get_or bs i 0 < 128) → list_all is_ascii bs ≡ true
all_ascii [] h = refl
all_ascii (b ∷ bs) h =
    let e : list_all is_ascii bs ≡ true = all_ascii bs (λ i. h (suc i)) in
    let f : b < 128 = h 0 in
    grind (arith, nat_tests, e, f)

some_other : (bs : List ℕ) (i : ℕ) → 128 ≤ get_or bs i 0 → list_all is_ascii bs ≡ false
some_other [] i h = absurd (omega (arith, h))
some_other (b ∷ bs) zero h = grind (arith, nat_tests)
some_other (b ∷ bs) (suc i) h =
    let e : list_all is_ascii bs ≡ false = some_other bs i h in
    grind (arith, nat_tests, e)

-- ---- a string that is being made ----

within_sum : (limit : ℕ) (old new bytes : List ℕ) → new ≡ old ++ bytes → length old + length bytes ≤ limit → length new ≤ limit
within_sum limit old new bytes e h = omega (arith, h, ap length e ∙ length-append old bytes)

-- a piece that was pushed, as it was allowed
pub pushed : (limit : ℕ) (old new bytes : List ℕ) → length old + length bytes ≤ limit → new ≡ old ++ bytes → IsPut (Within limit old) (said_text bytes) (Within limit new)
pushed limit old new bytes h e = grown limit old new bytes e (λ _. within_sum limit old new bytes e h)

-- ---- its debug forms ----

-- the text of an ASCII string is its debug form, which std says; another's is some UTF-8
abbrev form_body : List ℕ → List ℕ
form_body piece = 34 ∷ (flat_map (debug_escape 34) piece ++ 34 ∷ [])

abbrev form_if : List ℕ → Bool → Pieces
form_if piece q = form_or piece (cond q (Some (form_body piece)) None)

ascii_form : (piece : List ℕ) → IsAscii piece → debug_pieces piece ≡ known_pieces (form_body piece)
ascii_form piece h = ap (form_if piece) (all_ascii piece h)

other_form : (piece : List ℕ) → IsNotAscii piece → debug_pieces piece ≡ DebugForm piece ∷ []
other_form piece h = ap (form_if piece) (some_other piece h.0 h.1)

escaped_some : (b : ℕ) → 1 ≤ length (debug_escape 34 b)
unfolding debug_escape
escaped_some b = go (debug_escape_letter b 34 == 0) (nat_lt b 32 || b == 127)
  where
    go : (q r : Bool) → 1 ≤ length (cond q (cond r (92 ∷ 117 ∷ 123 ∷ (digits 16 false b ++ 125 ∷ [])) (b ∷ [])) (92 ∷ debug_escape_letter b 34 ∷ []))
    go true true = omega arith
    go true false = omega arith
    go false r = omega arith

escaped_longer : (piece : List ℕ) → length piece ≤ length (flat_map (debug_escape 34) piece)
escaped_longer [] = omega arith
escaped_longer (b ∷ bs) = omega (arith, escaped_some b, escaped_longer bs, length-append (debug_escape 34 b) (flat_map (debug_escape 34) bs))

form_longer : (piece : List ℕ) → length piece ≤ length (form_body piece)
form_longer piece = omega (arith, escaped_longer piece, length-append (flat_map (debug_escape 34) piece) (34 ∷ []))

-- a form is longer than its string, or may be the string
form_past : (limit : ℕ) (old piece : List ℕ) → IsUtf8 piece → limit < length old + length piece → IsPast (Within limit old) (Ok (debug_pieces piece))
form_past limit old piece u h = go (list_all is_ascii piece)
  where
    go : (q : Bool) → IsPast (Within limit old) (Ok (form_if piece q))
    go true = (form_body piece, known_spelled (form_body piece), omega (arith, h, form_longer piece))
    go false = (piece, form_spelled piece piece u, h)

pub form_too_long : (limit : ℕ) (old piece : List ℕ) (stop : Stop) → IsUtf8 piece → (stop ≡ TooLong) × (limit < length old + length piece) → IsStopped (Within limit old) (Ok (debug_pieces piece)) stop
form_too_long limit old piece stop u (e, h) = subst (IsStopped (Within limit old) (Ok (debug_pieces piece))) (sym e) (form_past limit old piece u h)

-- an ASCII string's form, as it was written
form_written : (old new piece : List ℕ) → IsAscii piece → AppendsText old new (debug_str piece) → new ≡ old ++ form_body piece
form_written old new piece h a = go (list_all is_ascii piece) (all_ascii piece h) a
  where
    go : (q : Bool) → q ≡ true → AppendsText old new (cond q (Some (form_body piece)) None) → new ≡ old ++ form_body piece
    go true e b = b
    go false e b = absurd (true≢false (sym e))

pub ascii_put : {T : Type 0} (r : Result T Stop) (limit : ℕ) (old new piece : List ℕ) → IsAscii piece → AppendsText old new (debug_str piece) → OnOk r (length new + 0 ≤ limit) →
    OnOk r (IsPut (Within limit old) (Ok (debug_pieces piece)) (Within limit new))
ascii_put r limit old new piece h a within =
    subst (λ (p : Pieces). OnOk r (IsPut (Within limit old) (Ok p) (Within limit new))) (sym (ascii_form piece h))
    (written r limit old new (form_body piece) (form_written old new piece h a) within)

pub ascii_too_long : {T : Type 0} (r : Result T Stop) (limit : ℕ) (old new piece : List ℕ) → IsAscii piece → AppendsText old new (debug_str piece) → IfErr r (λ stop. (stop ≡ TooLong) × (limit < length new + 0)) →
    IfErr r (IsStopped (Within limit old) (Ok (debug_pieces piece)))
ascii_too_long r limit old new piece h a long =
    subst (λ (p : Pieces). IfErr r (IsStopped (Within limit old) (Ok p))) (sym (ascii_form piece h))
    (written_too_long r limit old new (form_body piece) (form_written old new piece h a) long)

-- and another's
pub other_put : (limit : ℕ) (old new piece form : List ℕ) → IsNotAscii piece → IsUtf8 form → length old + length form ≤ limit → new ≡ old ++ form → IsPut (Within limit old) (Ok (debug_pieces piece)) (Within limit new)
other_put limit old new piece form h u le e =
    subst (λ (p : Pieces). IsPut (Within limit old) (Ok p) (Within limit new)) (sym (other_form piece h))
    (form, form_spelled piece form u, ap (Within limit) (sym e), λ _. within_sum limit old new form e le)

pub other_too_long : (limit : ℕ) (old piece form : List ℕ) (stop : Stop) → IsNotAscii piece → IsUtf8 form → (stop ≡ TooLong) × (limit < length old + length form) → IsStopped (Within limit old) (Ok (debug_pieces piece)) stop
other_too_long limit old piece form stop h u (t, long) =
    subst (λ (p : Pieces). IsStopped (Within limit old) (Ok p) stop) (sym (other_form piece h))
    (subst (IsStopped (Within limit old) (Ok (DebugForm piece ∷ []))) (sym t) (form, form_spelled piece form u, long))

-- ---- a formatter ----

-- it takes each piece, and nothing is said of what it took
pub untold : {T E : Type 0} (r : Result T E) (pieces : Pieces) → OnOk r (IsPut Untold (Ok pieces) Untold)
untold (Ok x) pieces = (some_bytes pieces, some_spelled pieces, refl, λ h. h)
untold (Err x) pieces = tt {0}

-- ---- the whole ----

-- what a string that was made from nothing has
made_whole : (o : Out) (limit bound : ℕ) (made : List ℕ) → IsPut (Within limit []) o (Within bound made) → IsText o made × (length made ≤ limit)
made_whole o limit bound made (bytes, h, e, within) = (
  subst (IsText o) (same_bytes bytes limit made bound e) h,
  subst (λ (n : ℕ). length made ≤ n) (sym (same_limit bytes limit made bound e)) (within (omega arith)),
)
  where
    same_bytes : (x : List ℕ) (m : ℕ) (y : List ℕ) (n : ℕ) → Within m x ≡ Within n y → x ≡ y
    same_bytes x m y n e = cc

    same_limit : (x : List ℕ) (m : ℕ) (y : List ℕ) (n : ℕ) → Within m x ≡ Within n y → m ≡ n
    same_limit x m y n e = cc

-- a string to which it was appended
pub appended_whole : (o : Out) (limit bound : ℕ) (old new made : List ℕ) → IsPut (Within limit []) o (Within bound made) → new ≡ old ++ made → IsAppended old o new
appended_whole o limit bound old new made put f = (made, (made_whole o limit bound made put).0, f)

pub appended_within : (o : Out) (limit bound : ℕ) (old new made : List ℕ) → IsPut (Within limit []) o (Within bound made) → new ≡ old ++ made → length new ≤ length old + limit
appended_within o limit bound old new made put f = omega (arith, (made_whole o limit bound made put).1, ap length f ∙ length-append old made)

-- a text that was too long for an empty string is longer than that may be
pub longer_whole : (limit : ℕ) (o : Out) → IsPast (Within limit []) o → IsLonger limit o
longer_whole limit (Ok pieces) (bytes, spelled, long) = (bytes, spelled, omega (arith, long))
longer_whole limit (Err kind) h = tt {0}

-- ---- bytes, one after another ----

-- one byte more
pub more_put : (f : ℕ → List ℕ) (a b c : Taken) (bs : List ℕ) (i : ℕ) → i < length bs → IsPut a (said_text (flat_map f (take i bs))) b → IsPut b (said_text (f (get_or bs i 0))) c →
    IsPut a (said_text (flat_map f (take (i + 1) bs))) c
more_put f a b c bs i h d e =
    let grown : flat_map f (take i bs) ++ f (get_or bs i 0) ≡ flat_map f (take (i + 1) bs) =
    flat_map_more f [] (take i bs) (get_or bs i 0) ∙ ap (flat_map f) (sym (take_more bs i 0 h)) in
    subst (λ (z : List ℕ). IsPut a (said_text z) c) grown (two_put a b c (flat_map f (take i bs)) (f (get_or bs i 0)) d e)

-- a byte by its two digits
pub byte_put : (a b c : Taken) (n : ℕ) (x y : List ℕ) → n < 256 → x ≡ digit_char (n / 16) ∷ [] → y ≡ digit_char (n % 16) ∷ [] → IsPut a (said_text x) b → IsPut b (said_text y) c →
    IsPut a (said_text (two_digits n)) c
byte_put a b c n x y small e f h i =
    let high : n / 16 ≡ n / 16 % 16 = omega (arith, small) in
    let low : n % 16 ≡ n / 1 % 16 = omega arith in
    subst (λ (z : List ℕ). IsPut a (said_text z) c) (ap₂ (λ (u v : List ℕ). u ++ v) (e ∙ ap (λ m. digit_char m ∷ []) high) (f ∙ ap (λ m. digit_char m ∷ []) low)) (two_put a b c x y h i)

-- each byte has two digits
digits_length : (bs : List ℕ) → length (flat_map two_digits bs) ≡ 2 * length bs
digits_length [] = refl
digits_length (b ∷ bs) = omega (arith, digits_length bs)

-- why the digits of bytes were not put: the first or the second of one byte was not
pub digit_stopped : (a b : Taken) (bs : List ℕ) (i : ℕ) (x : List ℕ) (n : ℕ) (stop : Stop) → i < length bs → x ≡ n ∷ [] → IsPut a (said_text (flat_map two_digits (take i bs))) b → IsStopped b (said_text x) stop →
    IsStopped a (said_text (flat_map two_digits bs)) stop
digit_stopped a b bs i x n stop h e p s =
    stopped_inside a b (flat_map two_digits (take i bs)) x (flat_map two_digits bs) stop
    (omega (arith, h, ap length e, digits_length (take i bs), digits_length bs, length-take {A = ℕ} i bs)) p s

pub second_stopped : (a b c : Taken) (bs : List ℕ) (i : ℕ) (x y : List ℕ) (m n : ℕ) (stop : Stop) → i < length bs → x ≡ m ∷ [] → y ≡ n ∷ [] → IsPut a (said_text (flat_map two_digits (take i bs))) b →
    IsPut b (said_text x) c → IsStopped c (said_text y) stop → IsStopped a (said_text (flat_map two_digits bs)) stop
second_stopped a b c bs i x y m n stop h e f p q s =
    stopped_inside a c (flat_map two_digits (take i bs) ++ x) y (flat_map two_digits bs) stop
    (omega (arith, h, ap length e, ap length f, digits_length (take i bs), digits_length bs, length-take {A = ℕ} i bs, length-append (flat_map two_digits (take i bs)) x))
    (two_put a b c (flat_map two_digits (take i bs)) x p q) s

decimals_last : (bs : List ℕ) (c : ℕ) → 0 < length bs → decimals (bs ++ c ∷ []) ≡ decimals bs ++ (codes ", " ++ decimal c)
decimals_last [] c h = absurd (omega (arith, h))
decimals_last (a ∷ []) c h = append_assoc (decimal a) (codes ", ") (decimal c)
decimals_last (a ∷ b ∷ bs) c h =
    ap (λ (z : List ℕ). (decimal a ++ codes ", ") ++ z) (decimals_last (b ∷ bs) c (omega arith))
    ∙ sym (append_assoc (decimal a ++ codes ", ") (decimals (b ∷ bs)) (codes ", " ++ decimal c))

pub no_decimals : (a : Taken) (bs : List ℕ) → length bs ≡ 0 → IsPut a (said_text (decimals bs)) a
no_decimals a [] h = nothing_put a
no_decimals a (b ∷ bs) h = absurd (omega (arith, h))

-- one byte more, after a comma and a space
pub more_decimals : (a b c d : Taken) (bs : List ℕ) (i : ℕ) → 0 < i → i < length bs → IsPut a (said_text (decimals (take i bs))) b →
    IsPut b (said_text (codes ", ")) c → IsPut c (said_text (decimal (get_or bs i 0))) d → IsPut a (said_text (decimals (take (i + 1) bs))) d
more_decimals a b c d bs i k h e f g =
    let grown : decimals (take i bs) ++ (codes ", " ++ decimal (get_or bs i 0)) ≡ decimals (take (i + 1) bs) =
    sym (decimals_last (take i bs) (get_or bs i 0) (omega (arith, length-take {A = ℕ} i bs))) ∙ ap decimals (sym (take_more bs i 0 h)) in
    subst (λ (z : List ℕ). IsPut a (said_text z) d) grown (three_put a b c d (decimals (take i bs)) (codes ", ") (decimal (get_or bs i 0)) e f g)

-- the decimals of the bytes up to one, and that one's, are no longer than all
decimals_first : (b : ℕ) (bs : List ℕ) → length (decimal b) ≤ length (decimals (b ∷ bs))
decimals_first b [] = omega arith
decimals_first b (c ∷ bs) = omega (arith, length-append (decimal b ++ codes ", ") (decimals (c ∷ bs)), length-append (decimal b) (codes ", "))

decimals_shorter : (bs : List ℕ) (i : ℕ) → 0 < i → i < length bs → length (decimals (take i bs)) + (2 + length (decimal (get_or bs i 0))) ≤ length (decimals bs)
decimals_shorter [] i k h = absurd (omega (arith, h))
decimals_shorter (a ∷ []) i k h = absurd (omega (arith, k, h))
decimals_shorter (a ∷ b ∷ bs) zero k h = absurd (omega (arith, k))
decimals_shorter (a ∷ b ∷ bs) (suc zero) k h =
    omega (arith, decimals_first b bs, length-append (decimal a ++ codes ", ") (decimals (b ∷ bs)), length-append (decimal a) (codes ", "))
decimals_shorter (a ∷ b ∷ bs) (suc (suc i)) k h =
    let e = decimals_shorter (b ∷ bs) (suc i) (omega arith) (omega (arith, h)) in
    omega (arith, e, length-append (decimal a ++ codes ", ") (decimals (b ∷ bs)), length-append (decimal a ++ codes ", ") (decimals (b ∷ take i bs)), length-append (decimal a) (codes ", "))

pub decimal_stopped_first : (a : Taken) (bs : List ℕ) (stop : Stop) → 0 < length bs → IsStopped a (said_text (decimal (get_or bs 0 0))) stop → IsStopped a (said_text (decimals bs)) stop
decimal_stopped_first a [] stop h s = absurd (omega (arith, h))
decimal_stopped_first a (b ∷ bs) stop h s = known_stopped a (decimal b) (decimals (b ∷ bs)) stop (decimals_first b bs) s

pub comma_stopped : (a b : Taken) (bs : List ℕ) (i : ℕ) (stop : Stop) → 0 < i → i < length bs → IsPut a (said_text (decimals (take i bs))) b → IsStopped b (said_text (codes ", ")) stop → IsStopped a (said_text (decimals bs)) stop
comma_stopped a b bs i stop k h p s = stopped_inside a b (decimals (take i bs)) (codes ", ") (decimals bs) stop (omega (arith, decimals_shorter bs i k h)) p s

pub decimal_stopped : (a b c : Taken) (bs : List ℕ) (i : ℕ) (stop : Stop) → 0 < i → i < length bs → IsPut a (said_text (decimals (take i bs))) b → IsPut b (said_text (codes ", ")) c →
    IsStopped c (said_text (decimal (get_or bs i 0))) stop → IsStopped a (said_text (decimals bs)) stop
decimal_stopped a b c bs i stop k h p q s =
    stopped_inside a c (decimals (take i bs) ++ codes ", ") (decimal (get_or bs i 0)) (decimals bs) stop
    (omega (arith, decimals_shorter bs i k h, length-append (decimals (take i bs)) (codes ", "))) (two_put a b c (decimals (take i bs)) (codes ", ") p q) s

-- ---- enums ----

-- an enum's value within its enumerants has the name of one, and past them none
name_inside : (m : ℕ) (xs : List Named) (n : ℕ) (other : Named) → n < length xs → (unwrap_or (slice_get xs n) other).name ≡ name_or m (slice_get xs n)
name_inside m [] n other h = absurd (omega (arith, h))
name_inside m (x ∷ xs) zero other h = refl
name_inside m (x ∷ xs) (suc n) other h = name_inside m xs n other (omega (arith, h))

name_past : (m : ℕ) (xs : List Named) (n : ℕ) → length xs ≤ n → decimal m ≡ name_or m (slice_get xs n)
name_past m [] n h = refl
name_past m (x ∷ xs) zero h = absurd (omega (arith, h))
name_past m (x ∷ xs) (suc n) h = name_past m xs n (omega (arith, h))

pub enumerant_named : (e : Enum) (x : Enumerant) (named : Named) → IsEnumerantOf (enum_of e) (enum_value_number e) x → named ≡ enumerant_in x → named.name ≡ enumerant_text e
enumerant_named e x named of is =
    ap (λ (y : Named). y.name) is
    ∙ (ap (λ (s : EnumSchema). (enumerant_at (enum_set s) (enum_number s) (ordinal_of x)).name) of.containing
    ∙ (ap (λ (n : ℕ). (enumerant_at (enum_set (enum_of e)) (enum_number (enum_of e)) n).name) of.ordinal
    ∙ name_inside (enum_value_number e) (enum_in (enum_of e)).enumerants (enum_value_number e) _ of.inside))

pub enumerant_numbered : (e : Enum) (n : ℕ) → length (enum_in (enum_of e)).enumerants ≤ enum_value_number e → n ≡ enum_value_number e → decimal n ≡ enumerant_text e
enumerant_numbered e n past is = ap decimal is ∙ name_past (enum_value_number e) (enum_in (enum_of e)).enumerants (enum_value_number e) past

-- ---- texts ----

no_utf8 : (bs : List ℕ) (b : Bool) → is_utf8 bs ≡ b → (IsUtf8 bs → ⊥) → is_utf8 bs ≡ false
no_utf8 bs true e h = absurd (h (IsUtf8-from_is_utf8 bs e))
no_utf8 bs false e h = e

abbrev quoted_by : List ℕ → Bool → Out
quoted_by bs b = elim b [ true ↦ Ok (debug_pieces bs) | false ↦ said_text (codes "<invalid utf-8: [" ++ decimals bs ++ codes "]>") ]

pub string_put : (bs s : List ℕ) (a b : Taken) → (s ≡ bs) × IsUtf8 bs → IsPut a (Ok (debug_pieces s)) b → IsPut a (quoted_text bs) b
string_put bs s a b h e =
    subst (λ (q : Bool). IsPut a (quoted_by bs q) b) (sym (is_utf8-from_IsUtf8 bs h.1)) (subst (λ (z : List ℕ). IsPut a (Ok (debug_pieces z)) b) h.0 e)

pub numbers_put : (bs : List ℕ) (a b c d : Taken) → (IsUtf8 bs → ⊥) → IsPut a (said_text (codes "<invalid utf-8: [")) b → IsPut b (said_text (decimals bs)) c → IsPut c (said_text (codes "]>")) d →
    IsPut a (quoted_text bs) d
numbers_put bs a b c d h e f g =
    subst (λ (z : Bool). IsPut a (quoted_by bs z) d) (sym (no_utf8 bs (is_utf8 bs) refl h)) (three_put a b c d (codes "<invalid utf-8: [") (decimals bs) (codes "]>") e f g)

-- why a text was not put: the form of a string was not
pub string_stopped : (bs s : List ℕ) (a : Taken) (stop : Stop) → (s ≡ bs) × IsUtf8 bs → IsStopped a (Ok (debug_pieces s)) stop → IsStopped a (quoted_text bs) stop
string_stopped bs s a stop h k =
    subst (λ (q : Bool). IsStopped a (quoted_by bs q) stop) (sym (is_utf8-from_IsUtf8 bs h.1)) (subst (λ (z : List ℕ). IsStopped a (Ok (debug_pieces z)) stop) h.0 k)

-- or the numbers of bytes were not
pub numbers_stopped : (bs : List ℕ) (a : Taken) (stop : Stop) → (IsUtf8 bs → ⊥) → IsStopped a (said_text (codes "<invalid utf-8: [" ++ (decimals bs ++ codes "]>"))) stop → IsStopped a (quoted_text bs) stop
numbers_stopped bs a stop h s = subst (λ (z : Bool). IsStopped a (quoted_by bs z) stop) (sym (no_utf8 bs (is_utf8 bs) refl h)) s
