-- Types and structs that are related by all pairs, and by those that they name.
use Rattle.std.specs.Prelude.{ℕ, refl, Bool, Option, Some, None, length}
use Rattle.capnp_schema.specs.Types.{SchemaType, VoidType, BoolType, IntType, UIntType, EnumType, TextType, DataType, StructType, ListType, AnyPointerType}
use Rattle.capnp_schema.specs.Schema.{Schemas, fields_of, field_at}
use Rattle.capnp_records.specs.Compatible.{Pairs, Related, SharedStruct, type_in_place}
use Rattle.capnp_compatible.specs.declared.pairs.Pair.{Pair}
use Rattle.capnp_compatible.specs.Steps.Closing.{Holds, HoldsNamed, Within, all_pairs, named_pair}

module _ (lists : Bool) (set : Schemas) (pairs : Pairs) where
  pub related_from : (s t : SchemaType) → Related lists set all_pairs s t → Holds pairs (named_pair lists set s t) → Related lists set pairs s t
  related_from VoidType VoidType r h = tt
  related_from BoolType BoolType r h = tt
  related_from (IntType m) (IntType n) r h = r
  related_from (UIntType m) (UIntType n) r h = r
  related_from TextType TextType r h = tt
  related_from DataType DataType r h = tt
  related_from AnyPointerType AnyPointerType r h = tt
  related_from (EnumType d) (EnumType e) r h = r
  related_from (ListType s) (ListType t) r h = related_from s (type_in_place lists set s t) r h
  related_from (StructType a g) (StructType b k) r h = h
  related_from s t r h = absurd r

  pub related_all : (s t : SchemaType) → Related lists set pairs s t → Related lists set all_pairs s t
  related_all VoidType VoidType r = tt
  related_all BoolType BoolType r = tt
  related_all (IntType m) (IntType n) r = r
  related_all (UIntType m) (UIntType n) r = r
  related_all TextType TextType r = tt
  related_all DataType DataType r = tt
  related_all AnyPointerType AnyPointerType r = tt
  related_all (EnumType d) (EnumType e) r = r
  related_all (ListType s) (ListType t) r = related_all s (type_in_place lists set s t) r
  related_all (StructType a g) (StructType b k) r = refl
  related_all s t r = absurd r

  pub related_named : (s t : SchemaType) → Related lists set pairs s t → Holds pairs (named_pair lists set s t)
  related_named VoidType VoidType r = tt
  related_named BoolType BoolType r = tt
  related_named (IntType m) (IntType n) r = tt
  related_named (UIntType m) (UIntType n) r = tt
  related_named TextType TextType r = tt
  related_named DataType DataType r = tt
  related_named AnyPointerType AnyPointerType r = tt
  related_named (EnumType d) (EnumType e) r = tt
  related_named (ListType s) (ListType t) r = related_named s (type_in_place lists set s t) r
  related_named (StructType a g) (StructType b k) r = r
  related_named s t r = absurd r

  pub struct_from : (a b : ℕ) → SharedStruct lists set all_pairs a b → HoldsNamed lists set pairs a b (length (fields_of set a)) → SharedStruct lists set pairs a b
  struct_from a b s h = record {
    beginning = s.beginning;
    fields = λ i below. record {
      kind = (s.fields i below).kind;
      discriminant_value = (s.fields i below).discriminant_value;
      type = related_from (field_at set a i).type (field_at set b i).type (s.fields i below).type (h i below);
    };
    union = s.union;
  }

  pub struct_all : (a b : ℕ) → SharedStruct lists set pairs a b → SharedStruct lists set all_pairs a b
  struct_all a b s = record {
    beginning = s.beginning;
    fields = λ i below. record {
      kind = (s.fields i below).kind;
      discriminant_value = (s.fields i below).discriminant_value;
      type = related_all (field_at set a i).type (field_at set b i).type (s.fields i below).type;
    };
    union = s.union;
  }

  pub struct_named : (a b : ℕ) → SharedStruct lists set pairs a b → HoldsNamed lists set pairs a b (length (fields_of set a))
  struct_named a b s = λ i below. related_named (field_at set a i).type (field_at set b i).type (s.fields i below).type

pub holds_within : (xs ys : Pairs) (o : Option Pair) → Within xs ys → Holds xs o → Holds ys o
holds_within xs ys None w h = tt
holds_within xs ys (Some p) w h = w p.older p.newer h

pub named_within : (lists : Bool) (set : Schemas) (xs ys : Pairs) (a b count : ℕ) → Within xs ys → HoldsNamed lists set xs a b count → HoldsNamed lists set ys a b count
named_within lists set xs ys a b count w h = λ i below. holds_within xs ys (named_pair lists set (field_at set a i).type (field_at set b i).type) w (h i below)

pub struct_within : (lists : Bool) (set : Schemas) (xs ys : Pairs) (a b : ℕ) → Within xs ys → SharedStruct lists set xs a b → SharedStruct lists set ys a b
struct_within lists set xs ys a b w s = struct_from lists set ys a b (struct_all lists set xs a b s) (named_within lists set xs ys a b (length (fields_of set a)) w (struct_named lists set xs a b s))
