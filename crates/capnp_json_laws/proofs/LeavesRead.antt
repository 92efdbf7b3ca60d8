-- The trees of values that hold no others are read as these values.
use Rattle.std.proofs.Common.{◌≡◌, ℕ, suc, ◌-◌, ◌*◌, ◌^◌, ◌<◌, ◌≤◌, ◌==◌, ◌||◌, ◌⊎◌, inl, inr, nat_lt, Bool, true, false, List, [], ◌∷◌, All, length, get_or, decimal, slice_get, Option, Some, None, Ok, refl, ap, sym, subst, ◌∙◌, arith, append-nil}
use Rattle.std.specs.Prelude.{bytes_eq, position}
use Rattle.std.proofs.lemmas.Bool.{cases_Bool, eqb-true, lt-ltb, ltb-true}
use Rattle.std.proofs.lemmas.Grind.{common_steps}
use Rattle.std.proofs.lemmas.List.Elements.{All-head, All-tail}
use Rattle.std.proofs.lemmas.List.Sums.{position_or_len_is}
use Rattle.std.proofs.lemmas.Option.{get_or_from_slice_get, slice_get-get_or, slice_get_within}
use Rattle.std.proofs.lemmas.Slice.Eq.{bytes_eq-Decides}
use Rattle.std.specs.Fmt.{signed_decimal}
use Rattle.std.specs.List.{position_or_len}
use lib.IntN.{ℤ, pos, negsuc}
use Rattle.capnp_wire.specs.Locate.{words_past_format}
use Rattle.capnp_floats.specs.Floats.{is_finite}
use Rattle.capnp_floats.specs.Laws.{IsOfWidth}
use Rattle.capnp_floats.specs.declared.width.Width.{Width}
use Rattle.capnp_floats.specs.declared.width.Width.TheVariants.{Float32, Float64}
use Rattle.capnp_schema.specs.Schema.{Enumerant, Schemas, enum_at}
use Rattle.capnp_schema.specs.Types.{SchemaType, VoidType, BoolType, IntType, UIntType, EnumType, TextType, DataType, StructType, ListType, AnyPointerType}
use Rattle.capnp_records.specs.Record as value
use Rattle.capnp_records.specs.Record.{Endless, Values, NoValues, MoreValues}
use Rattle.capnp_json_fields.specs.Marks.{has_float_base}
use Rattle.capnp_json_fields.specs.Names.{enumerant_name, enumerant_of_name}
use Rattle.capnp_json_fields.specs.declared.fields.DataForm.{DataForm}
use Rattle.capnp_json_fields.specs.declared.fields.DataForm.TheVariants.{Array, Base64, Hexadecimal}
use Rattle.capnp_json_text.specs.Numbers.{after_number}
use Rattle.capnp_json_text.specs.Values as json
use Rattle.capnp_json_text.specs.Values.{Json, Elements}
use Rattle.capnp_json.specs.Leaves.{bits_of}
use Rattle.capnp_from_json.specs.Errors.{refused}
use Rattle.capnp_from_json.specs.Integers.{signed_of, unsigned_of}
use Rattle.capnp_from_json.specs.Leaves.{OfElement, OfGroup, OfSlot, Part, data_read, enum_named, enum_value, float_read, float_width, float_word, in_range, is_all_read, is_number, null_read, number_by, within_format}
use Rattle.capnp_from_json.specs.Records.{Rules, as_data, byte_target, bytes_of, element_count, elements_of_json, first_of_two, unless, value_of_json}
use Rattle.capnp_from_json.specs.declared.error.RefusalKind.TheVariants.{SizePastFormat}
use Rattle.capnp_json_messages.proofs.DataBack.{data_back}
use Rattle.capnp_json_messages.proofs.IntegersBack.{integer_back}
use Rattle.capnp_json_laws.specs.AsRead.{HasDistinctNames, float_as_read, number_as_read, quiet_bits}
use Rattle.capnp_json_laws.specs.Fitting.{HoldsNumber, MayBeNull}
use Rattle.capnp_json_laws.specs.Laws.{AreFair, target_of}
use Rattle.capnp_json_laws.specs.Stands.{IsNull, IsNumber, IsString, IsTruth}
use Rattle.capnp_json_laws.specs.Trees.{AreBytes, IsDataTree, IsEnumTree, IsFloatBy, IsIntegerTree, IsNameOr, IsNumberTree, IsUnsignedTree, float_in, infinite_name}
use Rattle.capnp_json_laws.proofs.FloatsRead.{finite_quiet, infinite_quiet}
use Rattle.capnp_json_laws.proofs.Numbers.{holds_small, integer_word}
use Rattle.capnp_json_laws.proofs.Tokens.{IsWord}

-- ---- integers ----

word_number : (word : List ℕ) → IsWord word → is_number word ≡ true
word_number word w = ap is_all_read (ap after_number (sym (append-nil word)) ∙ w.read [] tt)

module _ (rules : Rules) (levels : ℕ) (p : Part) (form : DataForm) where
  -- an integer by what reads its digits
  integer_by : (t : SchemaType) (is_float : Bool) (read : List ℕ → Option ℤ) (n : ℤ) (wide : Bool) (j : Json) → IsWord (signed_decimal n) → read (signed_decimal n) ≡ Some n
      → ((place : ℕ) (s : List ℕ) → value_of_json rules (json.Text place s) levels (target_of t p is_float form) ≡ number_by place read (is_number s) s)
      → ((place : ℕ) (s : List ℕ) → value_of_json rules (json.Number place s) levels (target_of t p is_float form) ≡ in_range place value.Number (read s))
      → IsIntegerTree wide n j → value_of_json rules j levels (target_of t p is_float form) ≡ Ok (value.Number n)
  integer_by t is_float read n true j w e texts numbers (place, same) =
      ap (λ x. value_of_json rules x levels (target_of t p is_float form)) same ∙ texts place (signed_decimal n)
      ∙ ap (λ q. number_by place read q (signed_decimal n)) (word_number (signed_decimal n) w) ∙ ap (in_range place value.Number) e
  integer_by t is_float read n false j w e texts numbers (place, same) =
      ap (λ x. value_of_json rules x levels (target_of t p is_float form)) same ∙ numbers place (signed_decimal n) ∙ ap (in_range place value.Number) e

  signed_read : (is_float : Bool) (w : ℕ) (n : ℤ) (j : Json) → HoldsNumber (IntType w) n → IsIntegerTree (w == 8) n j → value_of_json rules j levels (target_of (IntType w) p is_float form) ≡ Ok (value.Number n)
  signed_read is_float w n j holds h =
      let few : w ≤ 8 = holds.0 in
      integer_by (IntType w) is_float (signed_of (8 * w)) n (w == 8) j (integer_word n (holds_small (IntType w) n holds)) ((integer_back (8 * w) n (omega arith)).signed holds.1)
      (λ place s. refl) (λ place s. refl) h

  unsigned_read : (w : ℕ) (n : ℤ) (j : Json) → HoldsNumber (UIntType w) n → IsIntegerTree (w == 8) n j → value_of_json rules j levels (target_of (UIntType w) p false form) ≡ Ok (value.Number n)
  unsigned_read w n j holds h =
      let few : w ≤ 8 = holds.0 in
      integer_by (UIntType w) false (unsigned_of (8 * w)) n (w == 8) j (integer_word n (holds_small (UIntType w) n holds)) ((integer_back (8 * w) n (omega arith)).unsigned holds.1)
      (λ place s. refl) (λ place s. refl) h

  -- ---- floats ----

  float_by : AreFair rules → (w : ℕ) (width : Width) (bits : ℕ) (j : Json) → float_width w ≡ width → IsOfWidth width bits → (finite : Bool) → is_finite width bits ≡ finite → IsFloatBy finite width bits j
      → value_of_json rules j levels (target_of (UIntType w) p true form) ≡ Ok (value.Number (pos (quiet_bits width bits)))
  float_by fair w width bits j same wide true finite (text, number, (place, e)) =
      ap (λ x. value_of_json rules x levels (target_of (UIntType w) p true form)) e ∙ ap (λ x. float_read place (rules.floats x text)) same
      ∙ ap (float_read place) (finite_quiet rules.floats fair.floats width bits text wide finite number)
  float_by fair w width bits j same wide false finite (place, e) =
      ap (λ x. value_of_json rules x levels (target_of (UIntType w) p true form)) e ∙ ap (λ x. float_read place (rules.floats x (float_word (infinite_name width bits)))) same
      ∙ ap (float_read place) (infinite_quiet rules.floats fair.floats width bits wide finite)

  marked_read : AreFair rules → (w : ℕ) (n : ℤ) (j : Json) → (w ≡ 8) ⊎ (w ≡ 4) → HoldsNumber (UIntType w) n → IsUnsignedTree (float_in true w) (w == 8) n j
      → value_of_json rules j levels (target_of (UIntType w) p true form) ≡ Ok (value.Number (float_as_read (float_in true w) n))
  marked_read fair w n j (inl e) holds h =
      subst (λ x. HoldsNumber (UIntType x) n → IsUnsignedTree (float_in true x) (x == 8) n j → value_of_json rules j levels (target_of (UIntType x) p true form) ≡ Ok (value.Number (float_as_read (float_in true x) n)))
      (sym e) (eight n) holds h
    where
      eight : (n : ℤ) → HoldsNumber (UIntType 8) n → IsFloatBy (is_finite Float64 (bits_of n)) Float64 (bits_of n) j
          → value_of_json rules j levels (target_of (UIntType 8) p true form) ≡ Ok (value.Number (pos (quiet_bits Float64 (bits_of n))))
      eight (pos k) holds h = float_by fair 8 Float64 k j refl (ltb-true k (2 ^ 64) holds.1) (is_finite Float64 k) refl h
      eight (negsuc k) holds h = let q : false ≡ true = holds.1 in let no : ⊥ = cc in absurd no
  marked_read fair w n j (inr e) holds h =
      subst (λ x. HoldsNumber (UIntType x) n → IsUnsignedTree (float_in true x) (x == 8) n j → value_of_json rules j levels (target_of (UIntType x) p true form) ≡ Ok (value.Number (float_as_read (float_in true x) n)))
      (sym e) (four n) holds h
    where
      four : (n : ℤ) → HoldsNumber (UIntType 4) n → IsFloatBy (is_finite Float32 (bits_of n)) Float32 (bits_of n) j
          → value_of_json rules j levels (target_of (UIntType 4) p true form) ≡ Ok (value.Number (pos (quiet_bits Float32 (bits_of n))))
      four (pos k) holds h = float_by fair 4 Float32 k j refl (ltb-true k (2 ^ 32) holds.1) (is_finite Float32 k) refl h
      four (negsuc k) holds h = let q : false ≡ true = holds.1 in let no : ⊥ = cc in absurd no

-- a type of floats has four bytes or eight
pub float_bytes : (w : ℕ) → ((w == 4) || (w == 8)) ≡ true → (w ≡ 8) ⊎ (w ≡ 4)
float_bytes w h = go (w == 4) (w == 8) refl refl h
  where
    go : (x y : Bool) → (w == 4) ≡ x → (w == 8) ≡ y → (x || y) ≡ true → (w ≡ 8) ⊎ (w ≡ 4)
    go true y e f k = inr (eqb-true w 4 e)
    go false true e f k = inl (eqb-true w 8 f)
    go false false e f k = let no : ⊥ = cc in absurd no

pub number_is_read : (rules : Rules) (levels : ℕ) (p : Part) (form : DataForm) → AreFair rules → (is_float : Bool) (t : SchemaType) (n : ℤ) (j : Json) → (is_float ≡ true → has_float_base t ≡ true) → HoldsNumber t n
    → IsNumberTree is_float t n j → value_of_json rules j levels (target_of t p is_float form) ≡ Ok (value.Number (number_as_read is_float t n))
number_is_read rules levels p form fair is_float (IntType w) n j marked holds h = signed_read rules levels p form is_float w n j holds h
number_is_read rules levels p form fair true (UIntType w) n j marked holds h = marked_read rules levels p form fair w n j (float_bytes w (marked refl)) holds h
number_is_read rules levels p form fair false (UIntType w) n j marked holds h = unsigned_read rules levels p form w n j holds h
number_is_read rules levels p form fair is_float VoidType n j marked holds h = absurd holds
number_is_read rules levels p form fair is_float BoolType n j marked holds h = absurd holds
number_is_read rules levels p form fair is_float (EnumType number) n j marked holds h = absurd holds
number_is_read rules levels p form fair is_float TextType n j marked holds h = absurd holds
number_is_read rules levels p form fair is_float DataType n j marked holds h = absurd holds
number_is_read rules levels p form fair is_float (StructType number generic) n j marked holds h = absurd holds
number_is_read rules levels p form fair is_float (ListType element) n j marked holds h = absurd holds
number_is_read rules levels p form fair is_float AnyPointerType n j marked holds h = absurd holds

-- ---- the first that has a name ----

before_it : {X : Type 0} (passes : X → Bool) (xs : List X) (i : ℕ) (d : X) → i ≤ length xs → ((k : ℕ) (y : X) → k < i → slice_get xs k ≡ Some y → passes y ≡ true → ⊥)
    → (k : ℕ) → k < i → passes (get_or xs k d) ≡ false
before_it passes xs i d le none k h = elim (cases_Bool (passes (get_or xs k d))) [ inl is ↦ absurd (none k (get_or xs k d) h (slice_get-get_or xs k d (omega arith)) is) | inr fails ↦ fails ]

pub found : {X : Type 0} (passes : X → Bool) (xs : List X) (i : ℕ) (x : X) → slice_get xs i ≡ Some x → passes x ≡ true → ((k : ℕ) (y : X) → k < i → slice_get xs k ≡ Some y → passes y ≡ true → ⊥)
    → position passes xs ≡ Some i
found passes xs i x here is none =
    let inside : i < length xs = slice_get_within xs i x here in
    let at : position_or_len passes xs ≡ i = position_or_len_is passes xs i x (omega arith) (before_it passes xs i x (omega arith) none) (λ h. ap passes (get_or_from_slice_get xs i x x here) ∙ is) in
    rw at (grind (arith, common_steps))

pub same_bytes : (xs ys : List ℕ) → xs ≡ ys → bytes_eq xs ys ≡ true
same_bytes xs ys e = (bytes_eq-Decides xs ys).1 e

pub bytes_same : (xs ys : List ℕ) → bytes_eq xs ys ≡ true → xs ≡ ys
bytes_same xs ys e = (bytes_eq-Decides xs ys).0 e

-- ---- enums ----

named : (set : Schemas) → HasDistinctNames set → (e n : ℕ) (x : Enumerant) → slice_get (enum_at set e).enumerants n ≡ Some x → enumerant_of_name (enum_at set e) (enumerant_name x) ≡ Some n
named set names e n x here =
    found (λ (y : Enumerant). bytes_eq (enumerant_name y) (enumerant_name x)) (enum_at set e).enumerants n x here (same_bytes (enumerant_name x) (enumerant_name x) refl)
    (λ k y less there same. let is : k ≡ n = names.enumerants e k n y x there here (bytes_same (enumerant_name y) (enumerant_name x) same) in let no : ⊥ = omega arith in no)

enum_by : (rules : Rules) (levels : ℕ) (p : Part) (is_float : Bool) (form : DataForm) → AreFair rules → (e n : ℕ) (o : Option Enumerant) (j : Json) → n < 65536 → slice_get (enum_at rules.set e).enumerants n ≡ o
    → IsNameOr n o j → value_of_json rules j levels (target_of (EnumType e) p is_float form) ≡ Ok (value.Enum n)
enum_by rules levels p is_float form fair e n None j small here (place, same) =
    ap (λ x. value_of_json rules x levels (target_of (EnumType e) p is_float form)) same ∙ ap (in_range place enum_value) ((integer_back 16 (pos n) (omega arith)).unsigned (lt-ltb n 65536 small))
enum_by rules levels p is_float form fair e n (Some x) j small here (place, same) =
    ap (λ x. value_of_json rules x levels (target_of (EnumType e) p is_float form)) same ∙ ap (enum_named place) (named rules.set fair.names e n x here)

pub enum_is_read : (rules : Rules) (levels : ℕ) (p : Part) (is_float : Bool) (form : DataForm) → AreFair rules → (t : SchemaType) (e n : ℕ) (j : Json) → t ≡ EnumType e → n < 65536
    → IsEnumTree rules.set t n j → value_of_json rules j levels (target_of t p is_float form) ≡ Ok (value.Enum n)
enum_is_read rules levels p is_float form fair t e n j is small h =
    subst (λ x. value_of_json rules j levels (target_of x p is_float form) ≡ Ok (value.Enum n)) (sym is)
    (enum_by rules levels p is_float form fair e n (slice_get (enum_at rules.set e).enumerants n) j small refl (subst (λ x. IsEnumTree rules.set x n j) is h))

-- ---- texts and data ----

pub text_is_read : (rules : Rules) (levels : ℕ) (p : Part) (is_float : Bool) (form : DataForm) (t : SchemaType) (bytes : List ℕ) (j : Json) → t ≡ TextType → nat_lt (words_past_format - 2) (length bytes) ≡ false
    → IsString bytes j → value_of_json rules j levels (target_of t p is_float form) ≡ Ok (value.Text bytes)
text_is_read rules levels p is_float form t bytes j is short (place, same) =
    ap (λ x. value_of_json rules x levels (target_of t p is_float form)) same ∙ ap (λ x. value_of_json rules (json.Text place bytes) levels (target_of x p is_float form)) is
    ∙ ap (λ q. within_format place q (value.Text bytes)) short

byte_values : List ℕ → Values
byte_values [] = NoValues
byte_values (b ∷ bs) = MoreValues (value.Number (pos b)) (byte_values bs)

bytes_of_values : (bs : List ℕ) → bytes_of (byte_values bs) ≡ bs
unfolding byte_values
bytes_of_values [] = refl
bytes_of_values (b ∷ bs) = ap (λ x. b ∷ x) (bytes_of_values bs)

byte_read : (rules : Rules) (levels b : ℕ) (j : Json) → b < 256 → IsNumber (decimal b) j → value_of_json rules j levels byte_target ≡ Ok (value.Number (pos b))
byte_read rules levels b j small (place, same) =
    ap (λ x. value_of_json rules x levels byte_target) same ∙ ap (in_range place value.Number) ((integer_back 8 (pos b) (omega arith)).unsigned (lt-ltb b 256 small))

record AreReadBytes (rules : Rules) (levels : ℕ) (bs : List ℕ) (es : Elements) : Type 0 where
  values : elements_of_json rules es levels byte_target ≡ Ok (byte_values bs)
  count : element_count es ≡ length bs

bytes_read : (rules : Rules) (levels : ℕ) (bs : List ℕ) (es : Elements) → All (λ (b : ℕ). b < 256) bs → AreBytes bs es → AreReadBytes rules levels bs es
unfolding byte_values
bytes_read rules levels [] es small h = record { values = ap (λ x. elements_of_json rules x levels byte_target) h; count = ap element_count h }
bytes_read rules levels (b ∷ bs) es small (j, others, first, more, same) =
    let rest = bytes_read rules levels bs others (All-tail (λ (x : ℕ). x < 256) b bs small) more in
    record {
      values = ap (λ x. elements_of_json rules x levels byte_target) same
          ∙ ap (λ x. first_of_two x (elements_of_json rules others levels byte_target)) (byte_read rules levels b j (All-head (λ (x : ℕ). x < 256) b bs small) first)
          ∙ ap (first_of_two (Ok (value.Number (pos b)))) rest.values;
      count = ap element_count same ∙ ap suc rest.count;
    }

data_by : (rules : Rules) (levels : ℕ) (p : Part) (is_float : Bool) (form : DataForm) (bytes : List ℕ) (j : Json) → nat_lt (words_past_format - 1) (length bytes) ≡ false → All (λ (b : ℕ). b < 256) bytes
    → IsDataTree form bytes j → value_of_json rules j levels (target_of DataType p is_float form) ≡ Ok (value.Data bytes)
data_by rules levels p is_float Array bytes j short small (place, es, are, same) =
    let r = bytes_read rules levels bytes es small are in
    ap (λ x. value_of_json rules x levels (target_of DataType p is_float Array)) same
    ∙ ap (λ n. unless (nat_lt (words_past_format - 1) n) (refused SizePastFormat place) (as_data (elements_of_json rules es levels byte_target))) r.count
    ∙ ap (λ q. unless q (refused SizePastFormat place) (as_data (elements_of_json rules es levels byte_target))) short
    ∙ ap as_data r.values ∙ ap (λ x. Ok (value.Data x)) (bytes_of_values bytes)
data_by rules levels p is_float Base64 bytes j short small (place, same) =
    ap (λ x. value_of_json rules x levels (target_of DataType p is_float Base64)) same ∙ ap (data_read place) (data_back bytes small).base64
    ∙ ap (λ q. within_format place q (value.Data bytes)) short
data_by rules levels p is_float Hexadecimal bytes j short small (place, same) =
    ap (λ x. value_of_json rules x levels (target_of DataType p is_float Hexadecimal)) same ∙ ap (data_read place) (data_back bytes small).hexadecimal
    ∙ ap (λ q. within_format place q (value.Data bytes)) short

pub data_is_read : (rules : Rules) (levels : ℕ) (p : Part) (is_float : Bool) (form : DataForm) (t : SchemaType) (bytes : List ℕ) (j : Json) → t ≡ DataType → nat_lt (words_past_format - 1) (length bytes) ≡ false
    → All (λ (b : ℕ). b < 256) bytes → IsDataTree form bytes j → value_of_json rules j levels (target_of t p is_float form) ≡ Ok (value.Data bytes)
data_is_read rules levels p is_float form t bytes j is short small h =
    ap (λ x. value_of_json rules j levels (target_of x p is_float form)) is ∙ data_by rules levels p is_float form bytes j short small h

-- ---- null ----

null_by : (rules : Rules) (levels place : ℕ) (p : Part) (is_float : Bool) (form : DataForm) (t : SchemaType) → MayBeNull p t → null_read rules.floats place (target_of t p is_float form) t ≡ Ok (value.Missing Endless)
null_by rules levels place OfSlot is_float form TextType h = refl
null_by rules levels place OfSlot is_float form DataType h = refl
null_by rules levels place OfSlot is_float form (StructType b g) h = refl
null_by rules levels place OfSlot is_float form (ListType e) h = refl
null_by rules levels place OfSlot is_float form AnyPointerType h = refl
null_by rules levels place OfSlot is_float form VoidType h = let no : ⊥ = cc in absurd no
null_by rules levels place OfSlot is_float form BoolType h = let no : ⊥ = cc in absurd no
null_by rules levels place OfSlot is_float form (IntType w) h = let no : ⊥ = cc in absurd no
null_by rules levels place OfSlot is_float form (UIntType w) h = let no : ⊥ = cc in absurd no
null_by rules levels place OfSlot is_float form (EnumType e) h = let no : ⊥ = cc in absurd no
null_by rules levels place OfElement is_float form TextType h = refl
null_by rules levels place OfElement is_float form DataType h = refl
null_by rules levels place OfElement is_float form (StructType b g) h = absurd h
null_by rules levels place OfElement is_float form (ListType e) h = refl
null_by rules levels place OfElement is_float form AnyPointerType h = refl
null_by rules levels place OfElement is_float form VoidType h = absurd h
null_by rules levels place OfElement is_float form BoolType h = absurd h
null_by rules levels place OfElement is_float form (IntType w) h = absurd h
null_by rules levels place OfElement is_float form (UIntType w) h = absurd h
null_by rules levels place OfElement is_float form (EnumType e) h = absurd h
null_by rules levels place OfGroup is_float form t h = absurd h

pub null_is_read : (rules : Rules) (levels : ℕ) (p : Part) (is_float : Bool) (form : DataForm) (t : SchemaType) (j : Json) → MayBeNull p t → IsNull j
    → value_of_json rules j levels (target_of t p is_float form) ≡ Ok (value.Missing Endless)
null_is_read rules levels p is_float form t j may (place, same) =
    ap (λ x. value_of_json rules x levels (target_of t p is_float form)) same ∙ null_by rules levels place p is_float form t may

pub void_is_read : (rules : Rules) (levels : ℕ) (p : Part) (is_float : Bool) (form : DataForm) (t : SchemaType) (j : Json) → t ≡ VoidType → IsNull j
    → value_of_json rules j levels (target_of t p is_float form) ≡ Ok value.Void
void_is_read rules levels p is_float form t j is (place, same) =
    ap (λ x. value_of_json rules x levels (target_of t p is_float form)) same ∙ ap (λ x. value_of_json rules (json.Null place) levels (target_of x p is_float form)) is

pub truth_is_read : (rules : Rules) (levels : ℕ) (p : Part) (is_float : Bool) (form : DataForm) (t : SchemaType) (b : Bool) (j : Json) → t ≡ BoolType → IsTruth b j
    → value_of_json rules j levels (target_of t p is_float form) ≡ Ok (value.Truth b)
truth_is_read rules levels p is_float form t b j is (place, same) =
    ap (λ x. value_of_json rules x levels (target_of t p is_float form)) same ∙ ap (λ x. value_of_json rules (json.Truth place b) levels (target_of x p is_float form)) is
