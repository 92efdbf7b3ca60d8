-- An element of a list that became one of structs, and field 0 of the struct in its place.
use Rattle.std.proofs.Common.{ℕ, zero, suc, ◌*◌, ◌≡◌, refl, pos, negsuc, List, [], ◌∷◌, Bool, true, false, not, ◌&&◌, ◌==◌, nat_lt, length, slice_get, bit_xor, arith, ap, sym, subst, ◌∙◌}
use Rattle.std.specs.Int.Bits.{xor_zero_r}
use Rattle.std.specs.Option.{unwrap_or}
use Rattle.std.proofs.lemmas.Bool.{eqb-true, true≢false}
use Rattle.capnp_wire.specs.Tree as tree
use Rattle.capnp_wire.specs.Elements.{reads_list}
use Rattle.capnp_wire.specs.Facts.Bytes.{AreBytes_none, AreBytes_part}
use Rattle.capnp_wire.specs.Reading.{element_number, element_struct}
use Rattle.capnp_wire.specs.Slot.{number_at}
use Rattle.capnp_wire.specs.StandFirst.{NumbersStandFirst, number_width}
use Rattle.capnp_wire.specs.Tree.{Structs, Tree, nth_struct}
use Rattle.capnp_wire.specs.WellFormed.{AreBytes, AreElements, IsWellFormed, is_width}
use Rattle.capnp_schema.specs.Facts.Bits.{bits_at_number}
use Rattle.capnp_schema.specs.Schema.{AnyPointerValue, BoolValue, DataValue, EnumValue, FieldKind, Group, IntValue, ListValue, Schemas, Slot, StructValue, TextValue, TypedField, UIntValue, VoidValue, field_at, fields_of, is_member, no_field, Value as SchemaValue}
use Rattle.capnp_schema.specs.SlotValue.{bits_at, default_bits}
use Rattle.capnp_schema.specs.Types.{integer_size}
use Rattle.capnp_records.specs.Compatible.{is_empty_default, is_first_slot, stands_first}
use Rattle.capnp_records.specs.Facts.Frame.{and_left, and_right}
use Rattle.capnp_records.specs.Reading.{non_union_parts}
use Rattle.capnp_records.specs.Record.{MoreValues, Value, Values}
use Rattle.capnp_records.specs.Record as value

-- ---- field 0 ----

-- what is known of a struct whose field 0 stands first
pub record First (set : Schemas) (b : ℕ) : Type 0 where
  pub default : SchemaValue
  pub is_empty : is_empty_default default ≡ true
  pub kind : (field_at set b 0).field.kind ≡ Slot 0 default
  pub rest : (TypedField → Value) → Values
  pub parts : (v : TypedField → Value) → non_union_parts v (fields_of set b) ≡ MoreValues (v (field_at set b 0)) (rest v)

not_false : (q : Bool) → not q ≡ true → q ≡ false
not_false true e = sym e
not_false false e = refl

pub first_of_struct : (set : Schemas) (b : ℕ) → stands_first set b ≡ true → First set b
first_of_struct set b h = at (fields_of set b) refl
  where
    there : nat_lt 0 (length (fields_of set b)) ≡ true
    there = and_left _ _ h

    others : (not (is_member (field_at set b 0).field) && is_first_slot (field_at set b 0).field.kind) ≡ true
    others = and_right (nat_lt 0 (length (fields_of set b))) _ h

    plain : is_member (field_at set b 0).field ≡ false
    plain = not_false (is_member (field_at set b 0).field) (and_left _ _ others)

    slot : is_first_slot (field_at set b 0).field.kind ≡ true
    slot = and_right (not (is_member (field_at set b 0).field)) _ others

    none : nat_lt 0 0 ≡ true → ⊥
    none e = true≢false (sym e)

    by_kind : (fs : List TypedField) (f : TypedField) (rest : List TypedField) → fields_of set b ≡ f ∷ rest → field_at set b 0 ≡ f → (k : FieldKind) → (field_at set b 0).field.kind ≡ k → is_first_slot k ≡ true → First set b
    by_kind fs f rest e at0 (Slot offset d) is s = record {
      default = d;
      is_empty = and_right (offset == 0) _ s;
      kind = is ∙ ap (λ (o : ℕ). Slot o d) (eqb-true offset 0 (and_left _ _ s));
      rest = λ v. non_union_parts v rest;
      parts = λ v. ap (non_union_parts v) e ∙ (ap (λ (q : Bool). MoreValues (elim q as (λ _. Value) [ true ↦ value.Elsewhere | false ↦ v f ]) (non_union_parts v rest)) (ap (λ (g : TypedField). is_member g.field) (sym at0) ∙ plain)
          ∙ ap (λ (g : TypedField). MoreValues (v g) (non_union_parts v rest)) (sym at0));
    }
    by_kind fs f rest e at0 (Group n) is s = absurd (true≢false (sym s))

    at : (fs : List TypedField) → fields_of set b ≡ fs → First set b
    at [] e = absurd (none (sym (ap (λ (gs : List TypedField). nat_lt 0 (length gs)) e) ∙ there))
    at (f ∷ fs) e = by_kind (f ∷ fs) f fs e (ap (λ (gs : List TypedField). unwrap_or (slice_get gs 0) no_field) e) (field_at set b 0).field.kind refl slot

-- a default that changes nothing has no bits
pub no_bits : (d : SchemaValue) → is_empty_default d ≡ true → default_bits d ≡ 0
no_bits VoidValue h = refl
no_bits (BoolValue x) h = absurd (true≢false (sym h))
no_bits (IntValue n (pos zero)) h = refl
no_bits (IntValue n (pos (suc x))) h = absurd (true≢false (sym h))
no_bits (IntValue n (negsuc x)) h = absurd (true≢false (sym h))
no_bits (UIntValue n zero) h = refl
no_bits (UIntValue n (suc x)) h = absurd (true≢false (sym h))
no_bits (EnumValue x) h = absurd (true≢false (sym h))
no_bits (TextValue bytes) h = refl
no_bits (DataValue bytes) h = refl
no_bits (StructValue words) h = refl
no_bits (ListValue words) h = refl
no_bits (AnyPointerValue words) h = refl

-- ---- numbers ----

struct_bytes : (d p : ℕ) (es : Structs) → AreElements d p es → (i : ℕ) → AreBytes (nth_struct es i).bytes
struct_bytes d p tree.NoStructs h i = AreBytes_none
struct_bytes d p (tree.MoreStructs bytes ps es) h zero = h.0
struct_bytes d p (tree.MoreStructs bytes ps es) h (suc i) = struct_bytes d p es h.4 i

pub element_bytes : (x : Tree) → IsWellFormed x → (i : ℕ) → AreBytes (element_struct x i).bytes
element_bytes (tree.Numbers w bytes) h i = AreBytes_part w (i * w) bytes h.0
element_bytes (tree.Composite d p es) h i = struct_bytes d p es h.4 i
element_bytes x h i = AreBytes_none

width_of_size : (k : ℕ) → is_width k ≡ true → number_width (integer_size k) ≡ k
width_of_size zero h = absurd (true≢false (sym h))
width_of_size (suc zero) h = refl
width_of_size (suc (suc zero)) h = refl
width_of_size (suc (suc (suc zero))) h = absurd (true≢false (sym h))
width_of_size (suc (suc (suc (suc zero)))) h = refl
width_of_size (suc (suc (suc (suc (suc n))))) h = grind arith

-- an element that is a number is the number of field 0 of the struct in its place
pub first_number : NumbersStandFirst → (x : Tree) → IsWellFormed x → (k : ℕ) → is_width k ≡ true → reads_list (integer_size k) x ≡ true → (d : SchemaValue) → is_empty_default d ≡ true → (i : ℕ) →
    element_number k x i ≡ bit_xor (bits_at (element_struct x i).bytes (0 * (8 * k)) (8 * k)) (default_bits d)
first_number law x formed k wide reads d empty i =
    let bytes : List ℕ = (element_struct x i).bytes in
    let same = width_of_size k wide in
    subst (λ (w : ℕ). element_number w x i ≡ number_at w 0 bytes) same (law (integer_size k) x reads i)
    ∙ (sym (bits_at_number bytes k 0 (element_bytes x formed i))
    ∙ (sym (xor_zero_r (bits_at bytes (0 * (8 * k)) (8 * k)))
    ∙ ap (bit_xor (bits_at bytes (0 * (8 * k)) (8 * k))) (sym (no_bits d empty))))
