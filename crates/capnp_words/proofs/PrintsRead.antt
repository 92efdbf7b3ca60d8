-- What the printer prints of a value is read as that value.
use Rattle.std.proofs.Common.{Option, pos, negsuc, decimal, codes, flat_map, slice_get, ◌≡◌, ℕ, zero, suc, ◌-◌, ◌*◌, ◌^◌, ◌<◌, ◌≤◌, List, [], ◌∷◌, ◌++◌, Bool, true, false, cond, Some, None, Ok, refl, ap, sym, ◌∙◌, map, arith, subst}
use Rattle.std.specs.Option.{option_map}
use Rattle.std.specs.List.{AllByRecursion, list_all}
use Rattle.std.specs.Char.{is_ascii}
use Rattle.std.specs.Fmt.{debug_escape, signed_decimal}
use Rattle.std.specs.Str.{IsAscii}
use Rattle.std.proofs.Math.Nat.{pow-le-pow_right}
use Rattle.std.proofs.lemmas.Bool.Decides.{nat_tests}
use Rattle.std.proofs.lemmas.Option.{slice_get-map}
use Rattle.std.proofs.lemmas.Str.{IsUtf8-from_ascii, is_utf8-from_IsUtf8}
use Rattle.capnp_schema.specs.Types.{SchemaType, VoidType, BoolType, IntType, UIntType, EnumType, TextType, DataType}
use Rattle.capnp_schema.specs.Schema.{Schemas, Enumerant, enum_at}
use Rattle.capnp_records.specs.Record as value
use Rattle.capnp_records.specs.Record.{Value}
use Rattle.capnp_records.specs.Facts.Spelled.{same_said}
use Rattle.capnp_records.specs.Text.{Out, data_text, name_or, quoted_text, said_text}
use Rattle.capnp_words.specs.Reads.{read_as}
use Rattle.capnp_words.specs.Values.{enumerant_by_word, greatest_signed, greatest_unsigned, truth_at, value_by_word}
use Rattle.capnp_words.specs.Laws.{AreNames, PrintedValuesAreRead}
use Rattle.capnp_words.proofs.DigitsRead.{decimal_again}
use Rattle.capnp_words.proofs.DigitsSigned.{negative_again, positive_again}
use Rattle.capnp_words.proofs.NamesRead.{name_found, number_read}
use Rattle.capnp_words.proofs.QuotedRead.{data_again, text_again}

-- ---- numbers ----

signed_fits : (bytes n : ℕ) → bytes ≤ 8 → n ≤ greatest_signed bytes → suc n < 2 ^ 64
signed_fits bytes n h k =
    let l : 8 * bytes - 1 ≤ 63 = omega arith in
    let p : 2 ^ (8 * bytes - 1) ≤ 2 ^ 63 = pow-le-pow_right {n = 2} (omega arith) l in
    omega (arith, p, k)

unsigned_fits : (bytes n : ℕ) → bytes ≤ 8 → n ≤ greatest_unsigned bytes → n < 2 ^ 64
unsigned_fits bytes n h k =
    let l : 8 * bytes ≤ 64 = omega arith in
    let p : 2 ^ (8 * bytes) ≤ 2 ^ 64 = pow-le-pow_right {n = 2} (omega arith) l in
    omega (arith, p, k)

-- ---- texts ----

all_ascii : (bs : List ℕ) → AllByRecursion (λ b. is_ascii b ≡ true) bs → list_all is_ascii bs ≡ true
all_ascii [] h = refl
all_ascii (b ∷ bs) h = rw (h.0, all_ascii bs h.1) refl

ascii_at : (bs : List ℕ) → AllByRecursion (λ b. is_ascii b ≡ true) bs → IsAscii bs
ascii_at [] h i = omega arith
ascii_at (b ∷ bs) h zero = grind (arith, nat_tests, h.0)
ascii_at (b ∷ bs) h (suc i) = ascii_at bs h.1 i

quoted_ascii : (bs : List ℕ) → AllByRecursion (λ b. is_ascii b ≡ true) bs → quoted_text bs ≡ said_text (34 ∷ (flat_map (debug_escape 34) bs ++ 34 ∷ []))
quoted_ascii bs h = rw (is_utf8-from_IsUtf8 bs (IsUtf8-from_ascii bs (ascii_at bs h)), quoted_text) (rw (all_ascii bs h) refl)

-- ---- enumerants ----

enumerant_again : (xs : List Enumerant) (n : ℕ) → AreNames (map (λ (x : Enumerant). x.name) xs) → n ≤ 65535 → enumerant_by_word (map (λ (x : Enumerant). x.name) xs) (name_or n (slice_get xs n)) ≡ Ok n
enumerant_again xs n h small = by_found (slice_get xs n) refl
  where
    by_found : (o : Option Enumerant) → slice_get xs n ≡ o → enumerant_by_word (map (λ (x : Enumerant). x.name) xs) (name_or n o) ≡ Ok n
    by_found None e = number_read (map (λ (x : Enumerant). x.name) xs) n h.begin small
    by_found (Some x) e =
        let there : slice_get (map (λ (y : Enumerant). y.name) xs) n ≡ Some x.name = slice_get-map (λ (y : Enumerant). y.name) xs n ∙ ap (option_map (λ (y : Enumerant). y.name)) e in
        rw (name_found (map (λ (y : Enumerant). y.name) xs) 0 0 n x.name h.distinct there) (ap Ok (omega arith))

-- ---- all ----

truth_again : (b : Bool) → truth_at (cond b (codes "true") (codes "false")) ≡ Ok b
truth_again true = refl
truth_again false = refl

-- a value is read of the word that its text is
abbrev IsText : Out → List ℕ → Type 0
IsText text word = text ≡ said_text word

of_word : (set : Schemas) (t : SchemaType) (v : Value) (text word : List ℕ) → IsText (said_text text) word → value_by_word set t text ≡ Ok v → value_by_word set t word ≡ Ok v
of_word set t v text word e h = subst (λ (x : List ℕ). value_by_word set t x ≡ Ok v) (same_said text word e) h

pub printed_values_read : PrintedValuesAreRead
printed_values_read set indented VoidType value.Void word w e = of_word set VoidType value.Void (codes "()") word e refl
printed_values_read set indented BoolType (value.Truth b) word w e =
    of_word set BoolType (value.Truth b) (cond b (codes "true") (codes "false")) word e (ap (read_as value.Truth) (truth_again b))
printed_values_read set indented (IntType bytes) (value.Number (pos n)) word w e =
    of_word set (IntType bytes) (value.Number (pos n)) (signed_decimal (pos n)) word e
    (ap (read_as value.Number) (positive_again (greatest_signed bytes) n (omega (arith, signed_fits bytes n w.0 w.1)) w.1))
printed_values_read set indented (IntType bytes) (value.Number (negsuc n)) word w e =
    of_word set (IntType bytes) (value.Number (negsuc n)) (signed_decimal (negsuc n)) word e
    (ap (read_as value.Number) (negative_again (greatest_signed bytes) n (signed_fits bytes n w.0 w.1) w.1))
printed_values_read set indented (UIntType bytes) (value.Number (pos n)) word w e =
    of_word set (UIntType bytes) (value.Number (pos n)) (decimal n) word e
    (ap (read_as (λ m. value.Number (pos m))) (decimal_again (greatest_unsigned bytes) 0 n (unsigned_fits bytes n w.0 w.1) w.1))
printed_values_read set indented (EnumType number) (value.Enum n) word w e =
    of_word set (EnumType number) (value.Enum n) (name_or n (slice_get (enum_at set number).enumerants n)) word e
    (ap (read_as value.Enum) (enumerant_again (enum_at set number).enumerants n w.0 w.1))
printed_values_read set indented TextType (value.Text bs) word w e =
    of_word set TextType (value.Text bs) (34 ∷ (flat_map (debug_escape 34) bs ++ 34 ∷ [])) word (sym (quoted_ascii bs w) ∙ e) (ap (read_as value.Text) (text_again bs w))
printed_values_read set indented DataType (value.Data bs) word w e =
    of_word set DataType (value.Data bs) (data_text bs) word e (ap (read_as value.Data) (data_again bs w))
printed_values_read set indented t v word w e = absurd w
