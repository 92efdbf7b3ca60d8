-- What is printed of a value that holds no others is read as the call that sets it.
use Rattle.std.proofs.Common.{pos, negsuc, decimal, codes, flat_map, slice_get, ◌≡◌, ℕ, zero, suc, ◌-◌, ◌*◌, ◌^◌, ◌<◌, ◌≤◌, List, [], ◌∷◌, ◌++◌, Bool, true, false, cond, map, Ok, refl, ap, sym, ◌∙◌, subst, arith}
use Rattle.std.specs.List.{AllByRecursion, list_all}
use Rattle.std.specs.Char.{is_ascii}
use Rattle.std.specs.Fmt.{debug_escape, signed_decimal}
use Rattle.std.specs.Str.{IsAscii}
use Rattle.std.proofs.Math.Nat.{pow-le-pow_right}
use Rattle.std.proofs.lemmas.Bool.Decides.{nat_tests}
use Rattle.std.proofs.lemmas.Str.{IsUtf8-from_ascii, is_utf8-from_IsUtf8}
use Rattle.capnp_schema.specs.Schema.{Enumerant, Schemas, TypedField, enum_at}
use Rattle.capnp_schema.specs.Types.{SchemaType, VoidType, BoolType, IntType, UIntType, EnumType, TextType, DataType, StructType, ListType, AnyPointerType}
use Rattle.capnp_records.specs.Facts.Spelled.{same_said}
use Rattle.capnp_records.specs.Record as value
use Rattle.capnp_records.specs.Record.{Value}
use Rattle.capnp_records.specs.Text.{data_text, name_or, quoted_text, said_text, text_of}
use Rattle.capnp_json_fields.specs.Marks.{is_float}
use Rattle.capnp_words.specs.Laws.{IsWritable, PrintedValuesAreRead}
use Rattle.capnp_words.specs.Marked.{marked_value_by_word}
use Rattle.capnp_words.specs.Values.{greatest_signed, greatest_unsigned, value_by_word}
use Rattle.capnp_value_texts.specs.Calls.{PartsMake, at_place, field_of_text, field_target, fields_calls, parts_calls, set_call, value_calls}
use Rattle.capnp_value_texts.specs.Errors.{read_as, read_then}
use Rattle.capnp_value_texts.specs.Laws.{HasLeafNames, IsLeafName, PrintedLeavesAreSet}
use Rattle.capnp_value_texts.specs.Written.{Fields, NoPart, parts_within, written, written_within}
use Rattle.capnp_value_texts.proofs.LeavesStand.{StandsAlone, data_stands, leaf_alone, negative_stands, number_stands, plain_stands, text_stands}

-- ---- a leaf is set ----

pub unmarked : (set : Schemas) (t : SchemaType) (bs : List ℕ) → marked_value_by_word set false t bs ≡ value_by_word set t bs
unmarked set VoidType bs = refl
unmarked set BoolType bs = refl
unmarked set (IntType bytes) bs = refl
unmarked set (UIntType bytes) bs = refl
unmarked set (EnumType e) bs = refl
unmarked set TextType bs = refl
unmarked set DataType bs = refl
unmarked set (StructType b g) bs = refl
unmarked set (ListType e) bs = refl
unmarked set AnyPointerType bs = refl

field_is : (set : Schemas) (f : TypedField) (i : ℕ) (text : List ℕ) → field_of_text set f i text ≡ read_then (written text) (λ w. value_calls set w (field_target f i))
unfolding field_of_text
field_is set f i text = refl

leaf_set : (set : Schemas) (f : TypedField) (i : ℕ) (v : Value) (text : List ℕ) → StandsAlone text → is_float f ≡ false → value_by_word set f.type text ≡ Ok v
    → field_of_text set f i text ≡ Ok (set_call (field_target f i) v)
leaf_set set f i v text stands floats read =
    field_is set f i text
    ∙ (ap (λ r. read_then r (λ w. value_calls set w (field_target f i))) (leaf_alone text stands)
    ∙ (ap (λ q. read_as (set_call (field_target f i)) (at_place 0 (marked_value_by_word set q f.type text))) floats
    ∙ ap (λ r. read_as (set_call (field_target f i)) (at_place 0 r)) (unmarked set f.type text ∙ read)))

nothing_written : written (codes "()") ≡ Ok (Fields 0 NoPart)
unfolding written_within parts_within
nothing_written = refl

void_calls_are : (parts : PartsMake) (f : TypedField) (i : ℕ) (t : SchemaType) → t ≡ VoidType → f.type ≡ t → fields_calls 0 0 parts (field_target f i) f.type ≡ Ok (set_call (field_target f i) value.Void)
void_calls_are parts f i t e is =
    ap (fields_calls 0 0 parts (field_target f i)) (is ∙ e)
    ∙ ap (λ (u : SchemaType). Ok (set_call (record { step = (field_target f i).step; type = u; floats = (field_target f i).floats; stands = false }) value.Void)) (sym (is ∙ e))

void_set : (set : Schemas) (f : TypedField) (i : ℕ) (text : List ℕ) → f.type ≡ VoidType → codes "()" ≡ text → field_of_text set f i text ≡ Ok (set_call (field_target f i) value.Void)
void_set set f i text is e =
    field_is set f i text
    ∙ (ap (λ r. read_then r (λ w. value_calls set w (field_target f i))) (ap written (sym e) ∙ nothing_written)
    ∙ void_calls_are (parts_calls set NoPart) f i VoidType refl is)

-- ---- texts of values ----

pub signed_fits : (bytes n : ℕ) → bytes ≤ 8 → n ≤ greatest_signed bytes → suc n < 2 ^ 64
signed_fits bytes n h k =
    let l : 8 * bytes - 1 ≤ 63 = omega arith in
    let p : 2 ^ (8 * bytes - 1) ≤ 2 ^ 63 = pow-le-pow_right {n = 2} (omega arith) l in
    omega (arith, p, k)

pub unsigned_fits : (bytes n : ℕ) → bytes ≤ 8 → n ≤ greatest_unsigned bytes → n < 2 ^ 64
unsigned_fits bytes n h k =
    let l : 8 * bytes ≤ 64 = omega arith in
    let p : 2 ^ (8 * bytes) ≤ 2 ^ 64 = pow-le-pow_right {n = 2} (omega arith) l in
    omega (arith, p, k)

all_ascii : (bs : List ℕ) → AllByRecursion (λ b. is_ascii b ≡ true) bs → list_all is_ascii bs ≡ true
all_ascii [] h = refl
all_ascii (b ∷ bs) h = rw (h.0, all_ascii bs h.1) refl

ascii_at : (bs : List ℕ) → AllByRecursion (λ b. is_ascii b ≡ true) bs → IsAscii bs
ascii_at [] h i = omega arith
ascii_at (b ∷ bs) h zero = grind (arith, nat_tests, h.0)
ascii_at (b ∷ bs) h (suc i) = ascii_at bs h.1 i

pub quoted_ascii : (bs : List ℕ) → AllByRecursion (λ b. is_ascii b ≡ true) bs → quoted_text bs ≡ said_text (34 ∷ (flat_map (debug_escape 34) bs ++ 34 ∷ []))
quoted_ascii bs h = rw (is_utf8-from_IsUtf8 bs (IsUtf8-from_ascii bs (ascii_at bs h)), quoted_text) (rw (all_ascii bs h) refl)

pub truth_stands : (b : Bool) → StandsAlone (cond b (codes "true") (codes "false"))
truth_stands true = plain_stands (codes "true") (omega arith) refl
truth_stands false = plain_stands (codes "false") (omega arith) refl

pub name_stands : (xs : List Enumerant) (n : ℕ) → AllByRecursion IsLeafName (map (λ (x : Enumerant). x.name) xs) → n < 2 ^ 64 → StandsAlone (name_or n (slice_get xs n))
name_stands xs n h small = go xs n h
  where
    go : (ys : List Enumerant) (k : ℕ) → AllByRecursion IsLeafName (map (λ (x : Enumerant). x.name) ys) → StandsAlone (name_or n (slice_get ys k))
    go [] zero g = number_stands n small
    go [] (suc k) g = number_stands n small
    go (y ∷ ys) zero g = plain_stands y.name g.0.0 g.0.1
    go (y ∷ ys) (suc k) g = go ys k g.1

-- ---- all ----

module _ (read : PrintedValuesAreRead) (set : Schemas) (indented : Bool) (f : TypedField) (i : ℕ) where
  of_text : (t : SchemaType) (v : Value) (own text : List ℕ) → f.type ≡ t → IsWritable set t v → is_float f ≡ false → text_of set indented t v ≡ said_text text → own ≡ text → StandsAlone own
      → field_of_text set f i text ≡ Ok (set_call (field_target f i) v)
  of_text t v own text is w floats said same stands =
      leaf_set set f i v text (subst StandsAlone same stands) floats (ap (λ (u : SchemaType). value_by_word set u text) is ∙ read set indented t v text w said)

  by_type : (t : SchemaType) (v : Value) (text : List ℕ) → f.type ≡ t → IsWritable set t v → HasLeafNames set t → is_float f ≡ false → text_of set indented t v ≡ said_text text
      → field_of_text set f i text ≡ Ok (set_call (field_target f i) v)
  by_type VoidType value.Void text is w names floats said = void_set set f i text is (same_said (codes "()") text said)
  by_type BoolType (value.Truth b) text is w names floats said =
      of_text BoolType (value.Truth b) (cond b (codes "true") (codes "false")) text is w floats said (same_said (cond b (codes "true") (codes "false")) text said) (truth_stands b)
  by_type (IntType bytes) (value.Number (pos n)) text is w names floats said =
      of_text (IntType bytes) (value.Number (pos n)) (decimal n) text is w floats said (same_said (decimal n) text said) (number_stands n (omega (arith, signed_fits bytes n w.0 w.1)))
  by_type (IntType bytes) (value.Number (negsuc n)) text is w names floats said =
      of_text (IntType bytes) (value.Number (negsuc n)) (signed_decimal (negsuc n)) text is w floats said (same_said (signed_decimal (negsuc n)) text said) (negative_stands (suc n) (signed_fits bytes n w.0 w.1))
  by_type (UIntType bytes) (value.Number (pos n)) text is w names floats said =
      of_text (UIntType bytes) (value.Number (pos n)) (decimal n) text is w floats said (same_said (decimal n) text said) (number_stands n (unsigned_fits bytes n w.0 w.1))
  by_type (EnumType e) (value.Enum n) text is w names floats said =
      of_text (EnumType e) (value.Enum n) (name_or n (slice_get (enum_at set e).enumerants n)) text is w floats said (same_said (name_or n (slice_get (enum_at set e).enumerants n)) text said)
      (name_stands (enum_at set e).enumerants n names (omega (arith, w.1)))
  by_type TextType (value.Text bs) text is w names floats said =
      of_text TextType (value.Text bs) (34 ∷ (flat_map (debug_escape 34) bs ++ 34 ∷ [])) text is w floats said
      (same_said (34 ∷ (flat_map (debug_escape 34) bs ++ 34 ∷ [])) text (sym (quoted_ascii bs w) ∙ said)) (text_stands bs w)
  by_type DataType (value.Data bs) text is w names floats said =
      of_text DataType (value.Data bs) (data_text bs) text is w floats said (same_said (data_text bs) text said) (data_stands bs w)
  by_type t v text is w names floats said = absurd w

pub leaves_set : PrintedValuesAreRead → PrintedLeavesAreSet
leaves_set read set indented f i v text w names floats said = by_type read set indented f i f.type v text refl w names floats said
