-- The call of what is printed of a leaf, and what it gives.
use Rattle.std.proofs.Common.{decimal, pos, negsuc, codes, ◌≡◌, ℕ, ◌≤◌, List, ◌==◌, ◌&&◌, Bool, true, false, cond, Ok, refl, ap, sym, subst, arith}
use Rattle.std.specs.Prelude.{⊤}
use Rattle.std.specs.Fmt.{signed_decimal}
use Rattle.std.proofs.lemmas.Bool.{eq-eqb, true≢false}
use Rattle.std.proofs.lemmas.Bool.Decides.{nat_tests}
use Rattle.capnp_device.specs.declared.error.ErrorKind.TheVariants.{TypeMismatch}
use Rattle.capnp_floats.specs.Laws.{IsOfWidth}
use Rattle.capnp_floats.specs.declared.width.Width.{Width}
use Rattle.capnp_floats.specs.declared.width.Width.TheVariants.{Float32, Float64}
use Rattle.capnp_schema.specs.Schema.{Schemas}
use Rattle.capnp_schema.specs.Types.{BoolType, DataType, EnumType, IntType, SchemaType, TextType, UIntType, VoidType}
use Rattle.capnp_records.specs.Call.{PathStep, Set}
use Rattle.capnp_records.specs.Given.{Fails, Gives}
use Rattle.capnp_records.specs.Record as value
use Rattle.capnp_records.specs.Record.{Value}
use Rattle.capnp_records.specs.Text.{data_text, enum_text}
use Rattle.capnp_float_texts.specs.Numbers.{float_bytes}
use Rattle.capnp_float_texts.specs.Texts.{number_text}
use Rattle.capnp_words.specs.Laws.{IsWritable, PrintedValuesAreRead}
use Rattle.capnp_words.specs.Marked.{FloatsAreReadBack, float_by_word, marked_value_by_word, unsigned_by_word}
use Rattle.capnp_words.specs.Reads as word
use Rattle.capnp_words.specs.Values.{greatest_unsigned, uint_at}
use Rattle.capnp_diffs.specs.Changes.{Either}
use Rattle.capnp_diffs.specs.Laws.{Brings, IsValueGiven}
use Rattle.capnp_value_texts.specs.Calls.{Target, at_place, one_call, set_call, source_taken, value_calls}
use Rattle.capnp_value_texts.specs.Errors.{read_as}
use Rattle.capnp_value_texts.proofs.LeavesSet.{quoted_ascii}
use Rattle.capnp_value_laws.specs.Trees.{printed_value, quoted_bytes}
use Rattle.capnp_value_laws.specs.Whole.{IsNoNan, IsNumber}
use Rattle.capnp_value_laws.proofs.Decimals.{float_text}

-- a place by what it takes
abbrev pub target_at : PathStep → (floats : Bool) → SchemaType → (stands : Bool) → Target
target_at step floats t stands = record { step = step; type = t; floats = floats; stands = stands }

-- ---- numbers without a sign ----

same_number : (n m : ℕ) → n == m ≡ true → n ≡ m
same_number n m e = grind (arith, nat_tests)

abbrev width_bytes : Width → ℕ
width_bytes Float32 = 4
width_bytes Float64 = 8

of_width : (w : Width) (bytes n : ℕ) → bytes ≡ width_bytes w → n ≤ greatest_unsigned bytes → IsOfWidth w n
of_width Float32 bytes n e h = let k : n ≤ greatest_unsigned 4 = subst (λ x. n ≤ greatest_unsigned x) e h in omega (arith, k)
of_width Float64 bytes n e h = let k : n ≤ greatest_unsigned 8 = subst (λ x. n ≤ greatest_unsigned x) e h in omega (arith, k)

float_read : FloatsAreReadBack → (w : Width) (bits : ℕ) → IsOfWidth w bits → IsNumber w bits → float_by_word w (float_bytes w bits) ≡ Ok (value.Number (pos bits))
float_read back w bits wide number = ap (word.read_as (λ n. value.Number (pos n))) (back w bits (float_bytes w bits) wide number (float_text w bits))

unsigned_read : FloatsAreReadBack → (floats : Bool) (bytes n : ℕ) → n ≤ greatest_unsigned bytes → IsNoNan floats (UIntType bytes) (value.Number (pos n)) → uint_at bytes (decimal n) ≡ Ok (value.Number (pos n))
    → unsigned_by_word floats bytes (number_text floats (UIntType bytes) (pos n)) ≡ Ok (value.Number (pos n))
unsigned_read back floats bytes n few number plain = by_bytes floats (bytes == 4) (bytes == 8) refl refl number
  where
    of_two : bytes == 4 ≡ true → bytes == 8 ≡ true → ⊥
    of_two e g = let a : bytes ≡ 4 = same_number bytes 4 e in let b : bytes ≡ 8 = same_number bytes 8 g in omega (arith, a, b)

    by_bytes : (f p q : Bool) → bytes == 4 ≡ p → bytes == 8 ≡ q → Either (f && p) (IsNumber Float32 n) (Either (f && q) (IsNumber Float64 n) ⊤)
        → (cond (f && p) (float_by_word Float32 (cond q (cond f (float_bytes Float64 n) (decimal n)) (cond p (cond f (float_bytes Float32 n) (decimal n)) (decimal n))))
        (cond (f && q) (float_by_word Float64 (cond q (cond f (float_bytes Float64 n) (decimal n)) (cond p (cond f (float_bytes Float32 n) (decimal n)) (decimal n))))
        (uint_at bytes (cond q (cond f (float_bytes Float64 n) (decimal n)) (cond p (cond f (float_bytes Float32 n) (decimal n)) (decimal n))))))
        ≡ Ok (value.Number (pos n))
    by_bytes true true true e g h = absurd (of_two e g)
    by_bytes true true false e g h = float_read back Float32 n (of_width Float32 bytes n (same_number bytes 4 e) few) h
    by_bytes true false true e g h = float_read back Float64 n (of_width Float64 bytes n (same_number bytes 8 g) few) h
    by_bytes true false false e g h = plain
    by_bytes false true true e g h = plain
    by_bytes false true false e g h = plain
    by_bytes false false true e g h = plain
    by_bytes false false false e g h = plain

-- ---- calls ----

module _ (read : PrintedValuesAreRead) (back : FloatsAreReadBack) (set : Schemas) (step : PathStep) (floats stands : Bool) where
  -- by the bytes that are printed
  of_bytes : (t : SchemaType) (v : Value) (bs : List ℕ) → marked_value_by_word set floats t bs ≡ Ok v
      → read_as (set_call (target_at step floats t stands)) (at_place 0 (marked_value_by_word set floats t bs)) ≡ Ok (one_call step (Set (source_taken t v)))
  of_bytes t v bs is = ap (λ r. read_as (set_call (target_at step floats t stands)) (at_place 0 r)) is

  pub leaf_calls_are : (t : SchemaType) (v : Value) → IsWritable set t v → IsNoNan floats t v → value_calls set (printed_value set floats t v) (target_at step floats t stands) ≡ Ok (one_call step (Set (source_taken t v)))
  leaf_calls_are VoidType value.Void w k = refl
  leaf_calls_are BoolType (value.Truth b) w k = of_bytes BoolType (value.Truth b) (cond b (codes "true") (codes "false")) (read set false BoolType (value.Truth b) (cond b (codes "true") (codes "false")) w refl)
  leaf_calls_are (IntType bytes) (value.Number (pos n)) w k = of_bytes (IntType bytes) (value.Number (pos n)) (signed_decimal (pos n)) (read set false (IntType bytes) (value.Number (pos n)) (signed_decimal (pos n)) w refl)
  leaf_calls_are (IntType bytes) (value.Number (negsuc n)) w k = of_bytes (IntType bytes) (value.Number (negsuc n)) (signed_decimal (negsuc n)) (read set false (IntType bytes) (value.Number (negsuc n)) (signed_decimal (negsuc n)) w refl)
  leaf_calls_are (UIntType bytes) (value.Number (pos n)) w k =
      of_bytes (UIntType bytes) (value.Number (pos n)) (number_text floats (UIntType bytes) (pos n))
      (unsigned_read back floats bytes n w.1 k (read set false (UIntType bytes) (value.Number (pos n)) (signed_decimal (pos n)) w refl))
  leaf_calls_are (EnumType e) (value.Enum n) w k = of_bytes (EnumType e) (value.Enum n) (enum_text set (EnumType e) n) (read set false (EnumType e) (value.Enum n) (enum_text set (EnumType e) n) w refl)
  leaf_calls_are TextType (value.Text bs) w k = of_bytes TextType (value.Text bs) (quoted_bytes bs) (read set false TextType (value.Text bs) (quoted_bytes bs) w (quoted_ascii bs w))
  leaf_calls_are DataType (value.Data bs) w k = of_bytes DataType (value.Data bs) (data_text bs) (read set false DataType (value.Data bs) (data_text bs) w refl)
  leaf_calls_are t v w k = absurd w

-- ---- what is set ----

-- a number of the slot's own bytes
own_bytes : (k : ℕ) (v : Value) → IsValueGiven (cond (k == k) (Gives v) (Fails TypeMismatch)) v
own_bytes k v = go (k == k) (eq-eqb k k refl)
  where
    go : (q : Bool) → q ≡ true → IsValueGiven (cond q (Gives v) (Fails TypeMismatch)) v
    go true e = refl
    go false e = absurd (true≢false (sym e))

pub leaf_brings : (set : Schemas) (t : SchemaType) (v : Value) → IsWritable set t v → Brings set t (source_taken t v) v
leaf_brings set VoidType value.Void w = refl
leaf_brings set BoolType (value.Truth b) w = refl
leaf_brings set (IntType bytes) (value.Number (pos n)) w = own_bytes bytes (value.Number (pos n))
leaf_brings set (IntType bytes) (value.Number (negsuc n)) w = own_bytes bytes (value.Number (negsuc n))
leaf_brings set (UIntType bytes) (value.Number (pos n)) w = own_bytes bytes (value.Number (pos n))
leaf_brings set (EnumType e) (value.Enum n) w = refl
leaf_brings set TextType (value.Text bs) w = (refl, refl)
leaf_brings set DataType (value.Data bs) w = (refl, refl)
leaf_brings set t v w = absurd w
