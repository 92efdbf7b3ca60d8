-- What is read of values, by the words of the code.
use Rattle.std.proofs.Common.{ℕ, ◌≡◌, ◌-◌, ◌*◌, ◌^◌, ◌<◌, ◌≤◌, List, [], ◌∷◌, length, refl, sym, ap, ◌∙◌, arith, Bool, true, false, cond, ltb, Some, None, Ok, Err, Option, Result, inl, inr, ◌⊎◌, ⊎_elim, lit≤}
use Rattle.std.proofs.lemmas.Bool.{cond_both, lt-ltb, ltb-true}
use Rattle.std.specs.Prelude.{ℤ, pos, negsuc, IfErr, IfOk}
use Rattle.std.specs.Option.{option_map}
use Rattle.capnp_schema.specs.Types.{IntType, UIntType}
use Rattle.capnp_records.specs.Record as value
use Rattle.capnp_records.specs.Record.{Value}
use Rattle.capnp_floats.specs.declared.width.Width.{Width}
use Rattle.capnp_floats.specs.declared.width.Width.TheVariants.{Float32, Float64}
use Rattle.capnp_floats.specs.declared.word.Refusal.{Refusal as FloatRefusal}
use Rattle.capnp_floats.specs.Words.{IsFloatOf}
use Rattle.capnp_json_text.specs.Decimals.{decimal_of}
use Rattle.capnp_json_text.specs.Values as json
use Rattle.capnp_json_text.specs.Values.{Json, json_at}
use Rattle.capnp_json_fields.specs.declared.fields.DataForm.{DataForm}
use Rattle.capnp_json_fields.specs.declared.fields.DataForm.TheVariants as forms
use Rattle.capnp_from_json.specs.Errors.{IsErrorOf, Read, refused}
use Rattle.capnp_from_json.specs.Integers.{integer_of, is_in_signed, is_in_unsigned, only_if, signed_of, unsigned_of}
use Rattle.capnp_from_json.specs.Leaves.{AreFloats, OfElement, Part, enum_value, float_read, in_range, is_number, number_by}
use Rattle.capnp_from_json.specs.LeafReads.{IsLeafOf, float_bytes, float_word_of, integer_of_type, integer_token, integer_type, leaf_value, out_of_range, place_of, token_read, under, word_read}
use Rattle.capnp_from_json.specs.Looks.{look_seen}
use Rattle.capnp_from_json.specs.Records.{Rules, byte_target, value_of_json}
use Rattle.capnp_from_json.specs.declared.error.Error.{Error}
use Rattle.capnp_from_json.specs.declared.leaves.Leaf.{Leaf}
use Rattle.capnp_from_json.specs.declared.error.RefusalKind.TheVariants.{NumberOutOfRange, WrongJsonKind}
use Rattle.capnp_from_json.specs.declared.leaves.IntegerType.{IntegerType}
use Rattle.capnp_from_json.specs.declared.leaves.IntegerType.TheVariants as integer
use Rattle.capnp_from_json.specs.declared.looks.Look.{Look}
use Rattle.capnp_from_json.specs.declared.looks.Look.TheVariants as look

pub nothing_there : (whole : ℕ) (bs : List ℕ) → length bs < 1 → json.Null (whole - length bs) ≡ json_at whole bs
unfolding json_at
nothing_there whole [] h = refl
nothing_there whole (b ∷ bs) h = absurd (omega arith)

-- ---- fewer bits ----

either : (b : Bool) → (b ≡ true) ⊎ (b ≡ false)
either true = inl refl
either false = inr refl

none_below : (b c : Bool) (x : ℤ) → (b ≡ true → c ≡ true) → c ≡ false → None ≡ cond b (Some x) None
none_below b c x h f = ⊎_elim
    (λ (t : b ≡ true). let e : c ≡ true = h t in let z : ⊥ = cc in absurd z)
    (λ (g : b ≡ false). sym (ap (λ y. cond y (Some x) None) g))
    (either b)

narrowed : (p q : ℤ → Bool) (o : Option ℤ) → ((x : ℤ) → p x ≡ true → q x ≡ true) → only_if p (only_if q o) ≡ only_if p o
narrowed p q None h = refl
narrowed p q (Some x) h = cond_both (q x) (Some x) None (λ o. only_if p o ≡ cond (p x) (Some x) None) (λ t. refl) (λ f. none_below (p x) (q x) x (h x) f)

wider : (m l n : ℕ) → m ≤ l → ltb n m ≡ true → ltb n l ≡ true
wider m l n h t = let k : n < m = ltb-true n m t in lt-ltb n l (omega arith)

signed_wider : (bits : ℕ) → 2 ^ (bits - 1) ≤ 2 ^ 63 → (x : ℤ) → is_in_signed bits x ≡ true → is_in_signed 64 x ≡ true
signed_wider bits h (pos n) t = wider (2 ^ (bits - 1)) (2 ^ 63) n h t
signed_wider bits h (negsuc n) t = wider (2 ^ (bits - 1)) (2 ^ 63) n h t

unsigned_wider : (bits : ℕ) → 2 ^ bits ≤ 2 ^ 64 → (x : ℤ) → is_in_unsigned bits x ≡ true → is_in_unsigned 64 x ≡ true
unsigned_wider bits h (pos n) t = wider (2 ^ bits) (2 ^ 64) n h t
unsigned_wider bits h (negsuc n) t = t

pub signed_narrow : (bits : ℕ) (token : List ℕ) → 2 ^ (bits - 1) ≤ 2 ^ 63 → option_map value.Number (only_if (is_in_signed bits) (signed_of 64 token)) ≡ option_map value.Number (signed_of bits token)
unfolding signed_of
signed_narrow bits token h = ap (option_map value.Number) (narrowed (is_in_signed bits) (is_in_signed 64) (integer_of (decimal_of token)) (signed_wider bits h))

pub unsigned_narrow : (bits : ℕ) (token : List ℕ) → 2 ^ bits ≤ 2 ^ 64 → option_map value.Number (only_if (is_in_unsigned bits) (unsigned_of 64 token)) ≡ option_map value.Number (unsigned_of bits token)
unfolding unsigned_of
unsigned_narrow bits token h = ap (option_map value.Number) (narrowed (is_in_unsigned bits) (is_in_unsigned 64) (integer_of (decimal_of token)) (unsigned_wider bits h))

-- ---- integers ----

by_number : (place : ℕ) (read : List ℕ → Option ℤ) (b : Bool) (string : List ℕ) → number_by place read b string ≡ token_read place read (cond b (Some string) None)
by_number place read true string = refl
by_number place read false string = refl

signed_is : (rules : Rules) (bytes : ℕ) (j : Json) (levels : ℕ) (part : Part) (form : DataForm)
    → value_of_json rules j levels (under (IntType bytes) part false form) ≡ token_read (place_of j) (signed_of (8 * bytes)) (integer_token j)
signed_is rules bytes (json.Null place) levels part form = refl
signed_is rules bytes (json.Truth place b) levels part form = refl
signed_is rules bytes (json.Number place token) levels part form = refl
signed_is rules bytes (json.Text place string) levels part form = by_number place (signed_of (8 * bytes)) (is_number string) string
signed_is rules bytes (json.Array place es) levels part form = refl
signed_is rules bytes (json.Object place ms) levels part form = refl

unsigned_is : (rules : Rules) (bytes : ℕ) (j : Json) (levels : ℕ) (part : Part) (form : DataForm)
    → value_of_json rules j levels (under (UIntType bytes) part false form) ≡ token_read (place_of j) (unsigned_of (8 * bytes)) (integer_token j)
unsigned_is rules bytes (json.Null place) levels part form = refl
unsigned_is rules bytes (json.Truth place b) levels part form = refl
unsigned_is rules bytes (json.Number place token) levels part form = refl
unsigned_is rules bytes (json.Text place string) levels part form = by_number place (unsigned_of (8 * bytes)) (is_number string) string
unsigned_is rules bytes (json.Array place es) levels part form = refl
unsigned_is rules bytes (json.Object place ms) levels part form = refl

pub integer_is : (rules : Rules) (of : IntegerType) (j : Json) (levels : ℕ) (part : Part) (form : DataForm)
    → value_of_json rules j levels (under (integer_type of) part false form) ≡ token_read (place_of j) (integer_of_type of) (integer_token j)
integer_is rules integer.Int8 j levels part form = signed_is rules 1 j levels part form
integer_is rules integer.Int16 j levels part form = signed_is rules 2 j levels part form
integer_is rules integer.Int32 j levels part form = signed_is rules 4 j levels part form
integer_is rules integer.Int64 j levels part form = signed_is rules 8 j levels part form
integer_is rules integer.UInt8 j levels part form = unsigned_is rules 1 j levels part form
integer_is rules integer.UInt16 j levels part form = unsigned_is rules 2 j levels part form
integer_is rules integer.UInt32 j levels part form = unsigned_is rules 4 j levels part form
integer_is rules integer.UInt64 j levels part form = unsigned_is rules 8 j levels part form

pub seen_place : (whole place : ℕ) (l : Look) → place_of (look_seen whole place l) ≡ place
seen_place whole place look.Null = refl
seen_place whole place (look.Truth b) = refl
seen_place whole place (look.Number token) = refl
seen_place whole place (look.Text content) = refl
seen_place whole place (look.Array behind) = refl
seen_place whole place (look.Object behind) = refl

-- an answer for a number that is there or not
abbrev pub number_answer : (place : ℕ) → Option Value → Read Value
number_answer place None = refused NumberOutOfRange place
number_answer place (Some v) = Ok v

answer_is : (place : ℕ) (o : Option ℤ) → in_range place value.Number o ≡ number_answer place (option_map value.Number o)
answer_is place None = refl
answer_is place (Some x) = refl

module _ (rules : Rules) (of : IntegerType) (whole place levels : ℕ) (l : Look) (part : Part) (form : DataForm) where
  pub no_integer : None ≡ integer_token (look_seen whole place l)
      → refused WrongJsonKind place ≡ value_of_json rules (look_seen whole place l) levels (under (integer_type of) part false form)
  no_integer e = sym (integer_is rules of (look_seen whole place l) levels part form
      ∙ ap (λ p. token_read p (integer_of_type of) (integer_token (look_seen whole place l))) (seen_place whole place l)
      ∙ ap (token_read place (integer_of_type of)) (sym e))

  pub an_integer : (token : List ℕ) (o : Option Value) → Some token ≡ integer_token (look_seen whole place l) → o ≡ option_map value.Number (integer_of_type of token)
      → number_answer place o ≡ value_of_json rules (look_seen whole place l) levels (under (integer_type of) part false form)
  an_integer token o e v = sym (integer_is rules of (look_seen whole place l) levels part form
      ∙ ap (λ p. token_read p (integer_of_type of) (integer_token (look_seen whole place l))) (seen_place whole place l)
      ∙ ap (token_read place (integer_of_type of)) (sym e)
      ∙ answer_is place (integer_of_type of token) ∙ ap (number_answer place) (sym v))

-- ---- floats ----

float_is : (rules : Rules) (w : Width) (j : Json) (levels : ℕ) (part : Part) (form : DataForm)
    → value_of_json rules j levels (under (UIntType (float_bytes w)) part true form) ≡ word_read (place_of j) (rules.floats w) (float_word_of j)
float_is rules Float32 (json.Null place) levels part form = refl
float_is rules Float32 (json.Truth place b) levels part form = refl
float_is rules Float32 (json.Number place token) levels part form = refl
float_is rules Float32 (json.Text place string) levels part form = refl
float_is rules Float32 (json.Array place es) levels part form = refl
float_is rules Float32 (json.Object place ms) levels part form = refl
float_is rules Float64 (json.Null place) levels part form = refl
float_is rules Float64 (json.Truth place b) levels part form = refl
float_is rules Float64 (json.Number place token) levels part form = refl
float_is rules Float64 (json.Text place string) levels part form = refl
float_is rules Float64 (json.Array place es) levels part form = refl
float_is rules Float64 (json.Object place ms) levels part form = refl

module _ (rules : Rules) (w : Width) (whole place levels : ℕ) (l : Look) (part : Part) (form : DataForm) where
  pub no_float : None ≡ float_word_of (look_seen whole place l)
      → refused WrongJsonKind place ≡ value_of_json rules (look_seen whole place l) levels (under (UIntType (float_bytes w)) part true form)
  no_float e = sym (float_is rules w (look_seen whole place l) levels part form
      ∙ ap (λ p. word_read p (rules.floats w) (float_word_of (look_seen whole place l))) (seen_place whole place l)
      ∙ ap (word_read place (rules.floats w)) (sym e))

  pub a_float : AreFloats rules.floats → (word : List ℕ) (r : Result ℕ FloatRefusal) → Some word ≡ float_word_of (look_seen whole place l) → IsFloatOf w word r
      → float_read place r ≡ value_of_json rules (look_seen whole place l) levels (under (UIntType (float_bytes w)) part true form)
  a_float floats word r e h = sym (float_is rules w (look_seen whole place l) levels part form
      ∙ ap (λ p. word_read p (rules.floats w) (float_word_of (look_seen whole place l))) (seen_place whole place l)
      ∙ ap (word_read place (rules.floats w)) (sym e)
      ∙ ap (float_read place) (floats w word r h))

-- ---- bytes and enums ----

pub enum_narrow : (place : ℕ) (token : List ℕ) → in_range place enum_value (only_if (is_in_unsigned 16) (unsigned_of 64 token)) ≡ in_range place enum_value (unsigned_of 16 token)
unfolding unsigned_of
enum_narrow place token = ap (in_range place enum_value) (narrowed (is_in_unsigned 16) (is_in_unsigned 64) (integer_of (decimal_of token)) (unsigned_wider 16 (lit≤ tt)))

module _ (rules : Rules) (whole place levels : ℕ) (l : Look) (j : Json) (token : List ℕ) (here : look_seen whole place l ≡ j) (e : Some token ≡ integer_token (look_seen whole place l)) where
  pub byte_read : (byte : ℕ) → Some (pos byte) ≡ only_if (is_in_unsigned 8) (unsigned_of 64 token) → value_of_json rules j levels byte_target ≡ Ok (value.Number (pos byte))
  byte_read byte v =
      ap (λ k. value_of_json rules k levels byte_target) (sym here)
      ∙ sym (an_integer rules integer.UInt8 whole place levels l OfElement forms.Array token (Some (value.Number (pos byte))) e (ap (option_map value.Number) v ∙ unsigned_narrow 8 token (lit≤ tt)))

  pub byte_out : None ≡ only_if (is_in_unsigned 8) (unsigned_of 64 token) → value_of_json rules j levels byte_target ≡ Err (out_of_range place)
  byte_out v =
      ap (λ k. value_of_json rules k levels byte_target) (sym here)
      ∙ sym (an_integer rules integer.UInt8 whole place levels l OfElement forms.Array token None e (ap (option_map value.Number) v ∙ unsigned_narrow 8 token (lit≤ tt)))

pub leaf_or_error : (r : Read Value) (o : Result Leaf Error) → IfOk o (λ l. r ≡ Ok (leaf_value l)) → IfErr o (λ e. IsErrorOf r e) → IsLeafOf r o
leaf_or_error r (Ok l) h k = h
leaf_or_error r (Err e) h k = k
