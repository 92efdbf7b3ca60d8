-- Values and annotations that were written are read as themselves.
use Rattle.std.proofs.Common.{ℤ, All, ◌≡◌, ℕ, ◌-◌, ◌*◌, ◌^◌, ◌<◌, refl, ap, sym, subst, ◌∙◌, arith, List, [], ◌∷◌, ◌++◌, Bool, true, false, Ok}
use Rattle.capnp_wire.specs.Encoding.{spelled_number}
use Rattle.capnp_wire.specs.WellFormed.{AreBytes}
use Rattle.capnp_wire.specs.Facts.Bytes.{AreBytes_append, AreBytes_spelled, AreBytes_zeros, little_endian_spelled}
use Rattle.capnp_base.specs.ReadBack.{as_text_text_tree}
use Rattle.capnp_schema.specs.Builtin.{zero_word}
use Rattle.capnp_schema.specs.Meta.{meta, meta_structs}
use Rattle.capnp_schema.specs.Ranges.{IsSigned}
use Rattle.capnp_schema.specs.Schema.{Annotation, Value, VoidValue, BoolValue, IntValue, UIntValue, EnumValue, TextValue, DataValue, StructValue, ListValue, AnyPointerValue, field_at}
use Rattle.capnp_schema.specs.SlotValue.{unsigned_number}
use Rattle.capnp_records.specs.Default.{read_of}
use Rattle.capnp_records.specs.Reading.{signed_number, struct_record, value_of as tree_value_of}
use Rattle.capnp_records.specs.Record.{Levels, one_less}
use Rattle.capnp_records.specs.Facts.Numbers.{signed_unsigned, unsigned_lt}
use Rattle.capnp_sets.specs.Causes.{SetRead, ◌<*>◌}
use Rattle.capnp_sets.specs.Parts.{number, meta_read_at, meta_read_under, struct, text}
use Rattle.capnp_sets.specs.Values.{annotation_meant, annotations, value_by, value_meant}
use Rattle.capnp_set_writer.specs.Kept.{AnnotationKept, ValueKept}
use Rattle.capnp_set_writer.proofs.Widths.{by_width}
use Rattle.capnp_set_writer.specs.Trees.{annotation_tree, annotations_tree, in_word, value_tree, zeros}
use Rattle.capnp_set_writer.proofs.Lists.{HasLevel, HasLevels, struct_entered, structs_there}
use Rattle.capnp_set_writer.proofs.Numbers.{applied, int_slot, read_ok, text_in, uint_slot}

pub AreBytes_word : (width n : ℕ) → AreBytes (in_word width n)
AreBytes_word width n = AreBytes_append (spelled_number width n) (zeros (8 - width)) (AreBytes_spelled width n) (AreBytes_zeros (8 - width))

value_bytes : (kind width n : ℕ) → AreBytes (in_word 2 kind ++ in_word width n)
value_bytes kind width n = AreBytes_append (in_word 2 kind) (in_word width n) (AreBytes_word 2 kind) (AreBytes_word width n)

-- ---- numbers ----

abbrev read_int : ℕ → ℤ → SetRead Value
read_int width x = Ok (IntValue width x)

abbrev read_uint : ℕ → ℕ → SetRead Value
read_uint width x = Ok (UIntValue width x)

abbrev IsRead : Levels → Value → Type 0
IsRead l v = value_meant (struct_record meta l (value_tree v) 5) ≡ Ok v

module _ (l : Levels) (x : ℤ) where
  int_1 : IsSigned 1 x → IsRead l (IntValue 1 x)
  unfolding value_meant value_by meta_read_at ◌<*>◌
  int_1 h = ap (λ n. read_int 1 (signed_number 8 n)) (int_slot (value_tree (IntValue 1 x)).bytes 1 8 (unsigned_number 8 x) (value_bytes 2 1 (unsigned_number 8 x)) (little_endian_spelled 1 (unsigned_number 8 x) (unsigned_lt 1 x (omega arith) h)))
      ∙ ap (read_int 1) (signed_unsigned 1 x (omega arith) h)

  int_2 : IsSigned 2 x → IsRead l (IntValue 2 x)
  unfolding value_meant value_by meta_read_at ◌<*>◌
  int_2 h = ap (λ n. read_int 2 (signed_number 16 n)) (int_slot (value_tree (IntValue 2 x)).bytes 2 4 (unsigned_number 16 x) (value_bytes 3 2 (unsigned_number 16 x)) (little_endian_spelled 2 (unsigned_number 16 x) (unsigned_lt 2 x (omega arith) h)))
      ∙ ap (read_int 2) (signed_unsigned 2 x (omega arith) h)

  int_4 : IsSigned 4 x → IsRead l (IntValue 4 x)
  unfolding value_meant value_by meta_read_at ◌<*>◌
  int_4 h = ap (λ n. read_int 4 (signed_number 32 n)) (int_slot (value_tree (IntValue 4 x)).bytes 4 2 (unsigned_number 32 x) (value_bytes 4 4 (unsigned_number 32 x)) (little_endian_spelled 4 (unsigned_number 32 x) (unsigned_lt 4 x (omega arith) h)))
      ∙ ap (read_int 4) (signed_unsigned 4 x (omega arith) h)

  int_8 : IsSigned 8 x → IsRead l (IntValue 8 x)
  unfolding value_meant value_by meta_read_at ◌<*>◌
  int_8 h = ap (λ n. read_int 8 (signed_number 64 n)) (int_slot (value_tree (IntValue 8 x)).bytes 8 1 (unsigned_number 64 x) (value_bytes 5 8 (unsigned_number 64 x)) (little_endian_spelled 8 (unsigned_number 64 x) (unsigned_lt 8 x (omega arith) h)))
      ∙ ap (read_int 8) (signed_unsigned 8 x (omega arith) h)

module _ (l : Levels) (x : ℕ) where
  uint_1 : x < 2 ^ 8 → IsRead l (UIntValue 1 x)
  unfolding value_meant value_by meta_read_at ◌<*>◌
  uint_1 h = ap (read_uint 1) (uint_slot (value_tree (UIntValue 1 x)).bytes 1 8 x (value_bytes 6 1 x) (little_endian_spelled 1 x h))

  uint_2 : x < 2 ^ 16 → IsRead l (UIntValue 2 x)
  unfolding value_meant value_by meta_read_at ◌<*>◌
  uint_2 h = ap (read_uint 2) (uint_slot (value_tree (UIntValue 2 x)).bytes 2 4 x (value_bytes 7 2 x) (little_endian_spelled 2 x h))

  uint_4 : x < 2 ^ 32 → IsRead l (UIntValue 4 x)
  unfolding value_meant value_by meta_read_at ◌<*>◌
  uint_4 h = ap (read_uint 4) (uint_slot (value_tree (UIntValue 4 x)).bytes 4 2 x (value_bytes 8 4 x) (little_endian_spelled 4 x h))

  uint_8 : x < 2 ^ 64 → IsRead l (UIntValue 8 x)
  unfolding value_meant value_by meta_read_at ◌<*>◌
  uint_8 h = ap (read_uint 8) (uint_slot (value_tree (UIntValue 8 x)).bytes 8 1 x (value_bytes 9 8 x) (little_endian_spelled 8 x h))

  enum_2 : x < 2 ^ 16 → IsRead l (EnumValue x)
  unfolding value_meant value_by meta_read_at ◌<*>◌
  enum_2 h = ap (λ n. Ok (EnumValue n)) (uint_slot (value_tree (EnumValue x)).bytes 2 4 x (value_bytes 10 2 x) (little_endian_spelled 2 x h))

bool_read : (l : Levels) (b : Bool) → IsRead l (BoolValue b)
unfolding value_meant value_by meta_read_at ◌<*>◌
bool_read l true = refl
bool_read l false = refl

-- ---- texts, data and words ----

text_value : (l : Levels) (bytes : List ℕ) → IsRead l (TextValue bytes)
unfolding value_meant value_by meta_read_at ◌<*>◌
text_value l bytes = ap (λ r. Ok TextValue <*> text (text_in r)) (as_text_text_tree bytes)

data_value : (l : Levels) (bytes : List ℕ) → IsRead l (DataValue bytes)
unfolding value_meant value_by meta_read_at ◌<*>◌
data_value l bytes = refl

struct_value : (l : Levels) (words : List ℕ) → IsRead l (StructValue words)
unfolding value_meant value_by meta_read_at ◌<*>◌
struct_value l words = refl

list_value : (l : Levels) (words : List ℕ) → ValueKept (ListValue words) → IsRead l (ListValue words)
unfolding value_meant value_by meta_read_at ◌<*>◌
list_value l [] k = absurd (k.0 refl)
list_value l (b ∷ bytes) k = refl

null_value : (l : Levels) → IsRead l (AnyPointerValue zero_word)
unfolding value_meant value_by meta_read_at ◌<*>◌
null_value l = refl

void_value : (l : Levels) → IsRead l VoidValue
unfolding value_meant value_by meta_read_at ◌<*>◌
void_value l = refl

-- ---- all values ----

pub value_read : (l : Levels) (v : Value) → ValueKept v → IsRead l v
value_read l VoidValue k = void_value l
value_read l (BoolValue x) k = bool_read l x
value_read l (IntValue width x) k = by_width (λ w. IsSigned w x → IsRead l (IntValue w x)) (int_1 l x) (int_2 l x) (int_4 l x) (int_8 l x) width k.0 k.1
value_read l (UIntValue width x) k = by_width (λ w. x < 2 ^ (8 * w) → IsRead l (UIntValue w x)) (uint_1 l x) (uint_2 l x) (uint_4 l x) (uint_8 l x) width k.0 k.1
value_read l (EnumValue x) k = enum_2 l x k
value_read l (TextValue bytes) k = text_value l bytes
value_read l (DataValue bytes) k = data_value l bytes
value_read l (StructValue words) k = struct_value l words
value_read l (ListValue words) k = list_value l words k
value_read l (AnyPointerValue words) k = subst (λ ws. IsRead l (AnyPointerValue ws)) (sym k) (null_value l)

-- ---- annotations ----

annotation_id : (l : Levels) (a : Annotation) → a.id < 2 ^ 64 → number (meta_read_at 4 0 (struct_record meta l (annotation_tree a) 4)) ≡ Ok a.id
unfolding meta_read_at
annotation_id l a h = ap read_ok (uint_slot (spelled_number 8 a.id) 8 0 a.id (AreBytes_spelled 8 a.id) (little_endian_spelled 8 a.id h))

annotation_value : (l : Levels) (a : Annotation) → HasLevel l → ValueKept a.value → struct value_meant (meta_read_at 4 1 (struct_record meta l (annotation_tree a) 4)) ≡ Ok a.value
unfolding meta_read_at
annotation_value l a e k = ap (λ v. struct value_meant (meta_read_under (field_at meta 4 1) v)) (struct_entered l (value_tree a.value) 5 e) ∙ value_read (one_less l) a.value k

pub annotation_read : (l : Levels) → HasLevel l → (a : Annotation) → AnnotationKept a → annotation_meant (struct_record meta l (annotation_tree a) 4) ≡ Ok a
unfolding annotation_meant
annotation_read l e a k = applied (applied refl (annotation_id l a k.id)) (annotation_value l a e k.value)

pub annotations_there : (l : Levels) → HasLevels 3 l → (xs : List Annotation) → All AnnotationKept xs → (default : Value) →
    annotations (read_of meta default (meta_structs 4) (tree_value_of meta (annotations_tree xs) l (meta_structs 4))) ≡ Ok xs
annotations_there l e xs k default = structs_there 4 1 1 annotation_meant annotation_tree AnnotationKept l e.0 e.1.0 (annotation_read (one_less (one_less l)) e.1.1.0) xs k default
