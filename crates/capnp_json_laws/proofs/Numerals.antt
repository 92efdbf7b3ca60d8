-- Numbers that are read are of their type.
use Rattle.std.proofs.Common.{◌≡◌, ℕ, suc, ◌-◌, ◌*◌, ◌^◌, ◌<◌, ◌≤◌, ◌==◌, ◌||◌, nat_lt, IsTrue, Bool, true, false, cond, List, All, drop, refl, subst, arith}
use Rattle.std.proofs.lemmas.Bool.{lt-ltb, ltb-false}
use Rattle.std.proofs.lemmas.Bool.Decides.{nat_tests}
use Rattle.std.proofs.lemmas.List.Elements.{All-from_get_or}
use Rattle.std.proofs.lemmas.Nat.{xor_lt}
use lib.IntN.{pos, negsuc}
use Rattle.capnp_wire.specs.Facts.ByteRuns.{AreBytes_drop, little_endian_take_lt}
use Rattle.capnp_wire.specs.Slot.{number_at}
use Rattle.capnp_wire.specs.WellFormed.{AreBytes, is_width}
use Rattle.capnp_schema.specs.Facts.Bits.{bits_at_bounded}
use Rattle.capnp_schema.specs.Ranges.{HasWidths}
use Rattle.capnp_schema.specs.Schema.{Schemas, Value as SchemaValue}
use Rattle.capnp_schema.specs.SlotValue.{bits_at, default_bits, slot_number}
use Rattle.capnp_schema.specs.Types.{SchemaType, VoidType, BoolType, IntType, UIntType, EnumType, TextType, DataType, StructType, ListType, AnyPointerType, is_pointer, width}
use Rattle.capnp_records.specs.Facts.Numbers.{pow_half}
use Rattle.capnp_records.specs.Reading.{number_value, signed_number}
use Rattle.capnp_from_json.specs.Integers.{is_in_signed}
use Rattle.capnp_from_json.specs.Leaves.{Part}
use Rattle.capnp_json_laws.specs.Fitting.{Fits, IsNoGroup}

-- ---- widths ----

pub few_bytes : (w : ℕ) → IsTrue (is_width w) → (0 < w) × (w ≤ 8)
few_bytes w h = go (w == 1) (w == 2) (w == 4) (w == 8) refl refl refl refl h
  where
    is : (n : ℕ) → (w == n) ≡ true → w ≡ n
    is n e = grind (arith, nat_tests)

    go : (a b c d : Bool) → (w == 1) ≡ a → (w == 2) ≡ b → (w == 4) ≡ c → (w == 8) ≡ d → IsTrue (a || b || c || d) → (0 < w) × (w ≤ 8)
    go true b c d ea eb ec ed k = let e : w ≡ 1 = is 1 ea in (omega arith, omega arith)
    go false true c d ea eb ec ed k = let e : w ≡ 2 = is 2 eb in (omega arith, omega arith)
    go false false true d ea eb ec ed k = let e : w ≡ 4 = is 4 ec in (omega arith, omega arith)
    go false false false true ea eb ec ed k = let e : w ≡ 8 = is 8 ed in (omega arith, omega arith)
    go false false false false ea eb ec ed k = let no : ⊥ = cc in absurd no

bytes_power : (w : ℕ) → IsTrue (is_width w) → 256 ^ w ≡ 2 ^ (8 * w)
bytes_power w h = go (w == 1) (w == 2) (w == 4) (w == 8) refl refl refl refl h
  where
    is : (n : ℕ) → (w == n) ≡ true → n ≡ w
    is n e = grind (arith, nat_tests)

    go : (a b c d : Bool) → (w == 1) ≡ a → (w == 2) ≡ b → (w == 4) ≡ c → (w == 8) ≡ d → IsTrue (a || b || c || d) → 256 ^ w ≡ 2 ^ (8 * w)
    go true b c d ea eb ec ed k = subst (λ n. 256 ^ n ≡ 2 ^ (8 * n)) (is 1 ea) refl
    go false true c d ea eb ec ed k = subst (λ n. 256 ^ n ≡ 2 ^ (8 * n)) (is 2 eb) refl
    go false false true d ea eb ec ed k = subst (λ n. 256 ^ n ≡ 2 ^ (8 * n)) (is 4 ec) refl
    go false false false true ea eb ec ed k = subst (λ n. 256 ^ n ≡ 2 ^ (8 * n)) (is 8 ed) refl
    go false false false false ea eb ec ed k = let no : ⊥ = cc in absurd no

-- ---- numbers ----

pub signed_in : (bits n : ℕ) → 0 < bits → n < 2 ^ bits → is_in_signed bits (signed_number bits n) ≡ true
signed_in bits n some small = go (nat_lt n (2 ^ (bits - 1))) refl
  where
    go : (q : Bool) → nat_lt n (2 ^ (bits - 1)) ≡ q → is_in_signed bits (cond q (pos n) (negsuc (2 ^ bits - suc n))) ≡ true
    go true e = e
    go false e =
        let half : 2 ^ bits ≡ 2 * 2 ^ (bits - 1) = pow_half bits some in
        let high : 2 ^ (bits - 1) ≤ n = ltb-false n (2 ^ (bits - 1)) e in
        lt-ltb (2 ^ bits - suc n) (2 ^ (bits - 1)) (omega arith)

-- a number below its width is one of its type
pub number_fits : (set : Schemas) (p : Part) (t : SchemaType) (n : ℕ) → IsNoGroup p → HasWidths t → is_pointer t ≡ false → n < 2 ^ width t → Fits set p t (number_value t n)
number_fits set p VoidType n alone widths plain small = (alone, refl)
number_fits set p BoolType n alone widths plain small = (alone, refl)
number_fits set p (IntType w) n alone widths plain small =
    let few = few_bytes w widths in
    let some : 0 < w = few.0 in
    (alone, (few.1, signed_in (8 * w) n (omega arith) small))
number_fits set p (UIntType w) n alone widths plain small = let few = few_bytes w widths in (alone, (few.1, lt-ltb n (2 ^ (8 * w)) small))
number_fits set p (EnumType e) n alone widths plain small = (alone, (let less : n < 65536 = small in less), e, refl)
number_fits set p TextType n alone widths plain small = let no : ⊥ = cc in absurd no
number_fits set p DataType n alone widths plain small = let no : ⊥ = cc in absurd no
number_fits set p (StructType b g) n alone widths plain small = let no : ⊥ = cc in absurd no
number_fits set p (ListType e) n alone widths plain small = let no : ⊥ = cc in absurd no
number_fits set p AnyPointerType n alone widths plain small = let no : ⊥ = cc in absurd no

pub slot_small : (bytes : List ℕ) (offset : ℕ) (d : SchemaValue) (t : SchemaType) → default_bits d < 2 ^ width t → slot_number bytes offset d t < 2 ^ width t
slot_small bytes offset d t small = xor_lt (width t) (bits_at bytes (offset * width t) (width t)) (default_bits d) (bits_at_bounded bytes (offset * width t) (width t)) small

pub run_small : (w i : ℕ) (bytes : List ℕ) → IsTrue (is_width w) → AreBytes bytes → number_at w i bytes < 2 ^ (8 * w)
run_small w i bytes h are = subst (λ x. number_at w i bytes < x) (bytes_power w h) (little_endian_take_lt w (drop (i * w) bytes) (AreBytes_drop (i * w) bytes are))

pub all_bytes : (bytes : List ℕ) → AreBytes bytes → All (λ (b : ℕ). b < 256) bytes
all_bytes bytes are = All-from_get_or (λ (b : ℕ). b < 256) bytes 0 (λ i inside. are i)
