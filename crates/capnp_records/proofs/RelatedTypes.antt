-- What related types have in common, whether or not lists may have become lists of structs.
use Rattle.std.proofs.Common.{ℕ, suc, ◌*◌, ◌<◌, ◌≤◌, ◌≡◌, refl, List, Bool, true, false, nat_lt, arith, ap}
use Rattle.std.proofs.lemmas.Bool.{le-leb}
use Rattle.capnp_schema.specs.Schema.{AnyPointerValue, ListValue, Schemas, StructValue, Value as SchemaValue}
use Rattle.capnp_schema.specs.SlotValue.{default_bits, slot_number}
use Rattle.capnp_schema.specs.Types.{AnyPointerType, BoolType, DataType, EnumType, IntType, ListType, SchemaType, StructType, TextType, UIntType, VoidType, element_size, integer_size, is_pointer, width}
use Rattle.capnp_records.specs.Compatible.{Pairs, Related, SameDefault}
use Rattle.capnp_records.specs.Reading.{number_value}

pub default_bits_same : (c d : SchemaValue) → SameDefault c d → default_bits c ≡ default_bits d
default_bits_same (StructValue x) (StructValue y) h = refl
default_bits_same (ListValue x) (ListValue y) h = refl
default_bits_same (AnyPointerValue x) (AnyPointerValue y) h = refl
default_bits_same c d h = ap default_bits h

pub not_below : (m n : ℕ) → n ≤ m → nat_lt m n ≡ false
not_below m n h = grind arith

pub is_below : (m n : ℕ) → m < n → nat_lt m n ≡ true
is_below m n h = le-leb (suc m) n h

module _ (lists : Bool) (set : Schemas) (pairs : Pairs) where
  pub width_related : (s t : SchemaType) → Related lists set pairs s t → width s ≡ width t
  width_related VoidType VoidType h = refl
  width_related BoolType BoolType h = refl
  width_related (IntType m) (IntType n) h = ap (λ k. 8 * k) h
  width_related (UIntType m) (UIntType n) h = ap (λ k. 8 * k) h
  width_related (EnumType m) (EnumType n) h = refl
  width_related TextType TextType h = refl
  width_related DataType DataType h = refl
  width_related (StructType a g) (StructType b k) h = refl
  width_related (ListType s) (ListType t) h = refl
  width_related AnyPointerType AnyPointerType h = refl
  width_related s t h = absurd h

  pub is_pointer_related : (s t : SchemaType) → Related lists set pairs s t → is_pointer s ≡ is_pointer t
  is_pointer_related VoidType VoidType h = refl
  is_pointer_related BoolType BoolType h = refl
  is_pointer_related (IntType m) (IntType n) h = refl
  is_pointer_related (UIntType m) (UIntType n) h = refl
  is_pointer_related (EnumType m) (EnumType n) h = refl
  is_pointer_related TextType TextType h = refl
  is_pointer_related DataType DataType h = refl
  is_pointer_related (StructType a g) (StructType b k) h = refl
  is_pointer_related (ListType s) (ListType t) h = refl
  is_pointer_related AnyPointerType AnyPointerType h = refl
  is_pointer_related s t h = absurd h

  pub number_value_related : (s t : SchemaType) → Related lists set pairs s t → (n : ℕ) → number_value s n ≡ number_value t n
  number_value_related VoidType VoidType h n = refl
  number_value_related BoolType BoolType h n = refl
  number_value_related (IntType j) (IntType k) h n = ap (λ i. number_value (IntType i) n) h
  number_value_related (UIntType j) (UIntType k) h n = refl
  number_value_related (EnumType j) (EnumType k) h n = refl
  number_value_related TextType TextType h n = refl
  number_value_related DataType DataType h n = refl
  number_value_related (StructType a g) (StructType b k) h n = refl
  number_value_related (ListType s) (ListType t) h n = refl
  number_value_related AnyPointerType AnyPointerType h n = refl
  number_value_related s t h n = absurd h

  pub slot_number_related : (bytes : List ℕ) (o : ℕ) (c d : SchemaValue) (s t : SchemaType) → Related lists set pairs s t → SameDefault c d → slot_number bytes o c s ≡ slot_number bytes o d t
  slot_number_related bytes o c d s t h e = rw (width_related s t h, default_bits_same c d e)

  pub element_size_related : (s t : SchemaType) → Related lists set pairs s t → element_size s ≡ element_size t
  element_size_related VoidType VoidType h = refl
  element_size_related BoolType BoolType h = refl
  element_size_related (IntType m) (IntType n) h = ap integer_size h
  element_size_related (UIntType m) (UIntType n) h = ap integer_size h
  element_size_related (EnumType m) (EnumType n) h = refl
  element_size_related TextType TextType h = refl
  element_size_related DataType DataType h = refl
  element_size_related (StructType a g) (StructType b k) h = refl
  element_size_related (ListType s) (ListType t) h = refl
  element_size_related AnyPointerType AnyPointerType h = refl
  element_size_related s t h = absurd h
