-- Types that were written are read as themselves.
use Rattle.std.proofs.Common.{◌≡◌, ℕ, ◌+◌, ◌^◌, ◌<◌, refl, ap, ◌∙◌, arith, List, ◌++◌, Ok}
use Rattle.std.specs.Prelude.{All, ⊤}
use Rattle.capnp_wire.specs.Encoding.{spelled_number}
use Rattle.capnp_wire.specs.WellFormed.{AreBytes}
use Rattle.capnp_wire.specs.Facts.Bytes.{AreBytes_append, AreBytes_spelled, little_endian_spelled}
use Rattle.capnp_schema.specs.Meta.{meta, meta_structs}
use Rattle.capnp_schema.specs.Ranges.{HasWidths}
use Rattle.capnp_schema.specs.Schema.{Value as SchemaValue}
use Rattle.capnp_schema.specs.Types.{SchemaType, VoidType, BoolType, IntType, UIntType, EnumType, TextType, DataType, StructType, ListType, AnyPointerType, lists_of}
use Rattle.capnp_records.specs.Default.{read_of}
use Rattle.capnp_records.specs.Reading.{struct_record, value_of}
use Rattle.capnp_records.specs.Record.{Levels, Values, one_less}
use Rattle.capnp_sets.specs.Causes.{SetRead, flat}
use Rattle.capnp_sets.specs.Parts.{number, meta_read_at}
use Rattle.capnp_sets.specs.Types.{base_type_meant, generic_in, type_lists, type_meant, types}
use Rattle.capnp_set_writer.specs.Kept.{TypeKept}
use Rattle.capnp_set_writer.proofs.Widths.{by_width}
use Rattle.capnp_set_writer.specs.Trees.{base_number, list_count, named_number, type_lists_tree, type_row, type_tree, types_tree, width_place}
use Rattle.capnp_set_writer.proofs.Lists.{HasLevels, lists_there, structs_there}
use Rattle.capnp_set_writer.proofs.Numbers.{applied, read_ok, uint_slot}

-- ---- types by what stands inside their lists ----

abbrev inner : SchemaType → SchemaType
inner VoidType = VoidType
inner BoolType = BoolType
inner (IntType bytes) = IntType bytes
inner (UIntType bytes) = UIntType bytes
inner (EnumType number) = EnumType number
inner TextType = TextType
inner DataType = DataType
inner (StructType number generic) = StructType number generic
inner (ListType element) = inner element
inner AnyPointerType = AnyPointerType

lists_inner : (t : SchemaType) → lists_of (list_count t) (inner t) ≡ t
lists_inner VoidType = refl
lists_inner BoolType = refl
lists_inner (IntType bytes) = refl
lists_inner (UIntType bytes) = refl
lists_inner (EnumType number) = refl
lists_inner TextType = refl
lists_inner DataType = refl
lists_inner (StructType number generic) = refl
lists_inner (ListType element) = ap ListType (lists_inner element)
lists_inner AnyPointerType = refl

base_small : (t : SchemaType) → HasWidths t → base_number t < 256 ^ 2
base_small VoidType h = omega arith
base_small BoolType h = omega arith
base_small (IntType bytes) h = by_width (λ w. 2 + width_place w < 256 ^ 2) (omega arith) (omega arith) (omega arith) (omega arith) bytes h
base_small (UIntType bytes) h = by_width (λ w. 6 + width_place w < 256 ^ 2) (omega arith) (omega arith) (omega arith) (omega arith) bytes h
base_small (EnumType number) h = omega arith
base_small TextType h = omega arith
base_small DataType h = omega arith
base_small (StructType number generic) h = omega arith
base_small (ListType element) h = base_small element h
base_small AnyPointerType h = omega arith

flat_ok : {A : Type 0} {x : SetRead (SetRead A)} {y : SetRead A} → x ≡ Ok y → flat x ≡ y
unfolding flat
flat_ok {y = y} e = ap flat e

-- a struct type's generic number is the node of the brand that it names, by the records of the brands
abbrev pub IsNamed : Values → SchemaType → Type 0
IsNamed brands VoidType = ⊤
IsNamed brands BoolType = ⊤
IsNamed brands (IntType bytes) = ⊤
IsNamed brands (UIntType bytes) = ⊤
IsNamed brands (EnumType number) = ⊤
IsNamed brands TextType = ⊤
IsNamed brands DataType = ⊤
IsNamed brands (StructType number generic) = generic_in brands number ≡ Ok generic
IsNamed brands (ListType element) = IsNamed brands element
IsNamed brands AnyPointerType = ⊤

base_read : (brands : Values) (t : SchemaType) → HasWidths t → IsNamed brands t → base_type_meant brands (base_number t) (named_number t) ≡ Ok (inner t)
unfolding base_type_meant
base_read brands VoidType h n = refl
base_read brands BoolType h n = refl
base_read brands (IntType bytes) h n = by_width (λ w. base_type_meant brands (2 + width_place w) 0 ≡ Ok (IntType w)) refl refl refl refl bytes h
base_read brands (UIntType bytes) h n = by_width (λ w. base_type_meant brands (6 + width_place w) 0 ≡ Ok (UIntType w)) refl refl refl refl bytes h
base_read brands (EnumType number) h n = refl
base_read brands TextType h n = refl
base_read brands DataType h n = refl
base_read brands (StructType number generic) h n = applied refl n
base_read brands (ListType element) h n = base_read brands element h n
base_read brands AnyPointerType h n = refl

-- ---- the record of a type ----

module _ (l : Levels) (base lists named : ℕ) where
  pub row_bytes : AreBytes (type_row base lists named).bytes
  row_bytes = AreBytes_append (spelled_number 2 base) (spelled_number 2 lists ++ spelled_number 4 named) (AreBytes_spelled 2 base) (AreBytes_append (spelled_number 2 lists) (spelled_number 4 named) (AreBytes_spelled 2 lists) (AreBytes_spelled 4 named))

  base_number_read : base < 256 ^ 2 → number (meta_read_at 7 0 (struct_record meta l (type_row base lists named) 7)) ≡ Ok base
  unfolding meta_read_at
  base_number_read h = ap read_ok (uint_slot (type_row base lists named).bytes 2 0 base row_bytes (little_endian_spelled 2 base h))

  lists_number : lists < 256 ^ 2 → number (meta_read_at 7 1 (struct_record meta l (type_row base lists named) 7)) ≡ Ok lists
  unfolding meta_read_at
  lists_number h = ap read_ok (uint_slot (type_row base lists named).bytes 2 1 lists row_bytes (little_endian_spelled 2 lists h))

  named_number_read : named < 256 ^ 4 → number (meta_read_at 7 2 (struct_record meta l (type_row base lists named) 7)) ≡ Ok named
  unfolding meta_read_at
  named_number_read h = ap read_ok (uint_slot (type_row base lists named).bytes 4 1 named row_bytes (little_endian_spelled 4 named h))

-- what a type has to be for its record to stand for it
abbrev pub IsTypeRead : Values → SchemaType → Type 0
IsTypeRead brands t = TypeKept t × IsNamed brands t

pub type_read : (brands : Values) (l : Levels) (t : SchemaType) → IsTypeRead brands t → type_meant brands (struct_record meta l (type_tree t) 7) ≡ Ok t
unfolding type_meant
type_read brands l t k =
    let base = base_number_read l (base_number t) (list_count t) (named_number t) (base_small t k.0.widths) in
    let lists = lists_number l (base_number t) (list_count t) (named_number t) k.0.lists in
    let named = named_number_read l (base_number t) (list_count t) (named_number t) k.0.number in
    applied (applied refl lists) (flat_ok (applied (applied refl base) named) ∙ base_read brands t k.0.widths k.1)
    ∙ ap (λ u. Ok u) (lists_inner t)

pub types_there : (brands : Values) (l : Levels) → HasLevels 2 l → (ts : List SchemaType) → All (IsTypeRead brands) ts → (default : SchemaValue) →
    types brands (read_of meta default (meta_structs 7) (value_of meta (types_tree ts) l (meta_structs 7))) ≡ Ok ts
types_there brands l e ts k default = structs_there 7 1 0 (type_meant brands) type_tree (IsTypeRead brands) l e.0 e.1.0 (type_read brands (one_less (one_less l))) ts k default

pub type_lists_there : (brands : Values) (l : Levels) → HasLevels 3 l → (rows : List (List SchemaType)) → All (All (IsTypeRead brands)) rows → (default : SchemaValue) →
    type_lists brands (read_of meta default (ListType (meta_structs 7)) (value_of meta (type_lists_tree rows) l (ListType (meta_structs 7)))) ≡ Ok rows
type_lists_there brands l e rows k default =
    lists_there 7 1 0 (type_meant brands) type_tree (IsTypeRead brands) l e.0 e.1.0 e.1.1.0 (type_read brands (one_less (one_less (one_less l)))) rows k default
