-- Elements of lists, as a builder hands them out.
use Rattle.std.proofs.Common.{ℕ, ◌<◌, ◌≡◌, refl, true, false, Some, Err, ap, sym, subst, ◌∙◌}
use Rattle.std.proofs.lemmas.Bool.{true≢false}
use Rattle.capnp_device.specs.declared.error.Error.{Error}
use Rattle.capnp_wire.specs.Elements.{HasPointer, HasStruct}
use Rattle.capnp_wire.specs.Facts.Lengths.{HasStruct_there}
use Rattle.capnp_wire.specs.Reading.{element_pointer, element_struct, list_length}
use Rattle.capnp_wire.specs.Tree as tree
use Rattle.capnp_wire.specs.Tree.{StructTree, Tree}
use Rattle.capnp_wire.specs.WellFormed.{IsWellFormed}
use Rattle.capnp_base.specs.declared.introspect.RawBrandedStructSchema.{RawBrandedStructSchema}
use Rattle.capnp_base.specs.declared.introspect.TypeVariant.{TypeVariant}
use Rattle.capnp_base.specs.declared.introspect.TypeVariant.TheVariants as variant
use Rattle.capnp_base.specs.declared.introspect.«Type».{«Type» as TypeHandle}
use Rattle.capnp_schema.specs.Defaults.{IsDefaultReadAs}
use Rattle.capnp_schema.specs.Schema.{Schemas, VoidValue}
use Rattle.capnp_schema.specs.StructHandles.{number_of, set_of}
use Rattle.capnp_schema.specs.Types.{SchemaType, VoidType, BoolType, IntType, UIntType, EnumType, TextType, DataType, StructType, ListType, AnyPointerType, is_pointer, seen_type, seen_variant, struct_brand}
use Rattle.capnp_schema.specs.declared.schema.structs.StructSchema.{StructSchema}
use Rattle.capnp_records.specs.Default.{read_of}
use Rattle.capnp_records.specs.Facts.Readers.{element_read}
use Rattle.capnp_records.specs.Writes.ElementEnds.{HasElementThere}
use Rattle.capnp_records.specs.Writes.Slots.{Fits}
use Rattle.capnp_schema.specs.Plan.{brand_size}
use Rattle.capnp_slots.specs.Fills.{element_filled, is_behind}
use Rattle.capnp_slots.specs.Standing.{IsUnder as IsStructUnder}
use Rattle.capnp_dynamic.specs.Built.{HoldsElements}
use Rattle.capnp_dynamic.specs.Handed.{HandsElementNumber, HandsOut, element_handed}
use Rattle.capnp_dynamic.specs.declared.dynamic_value.build.Builder.{Builder as BuiltValue}
use Rattle.capnp_dynamic_readers.specs.Steps.Leaf.{IsNumber}
use Rattle.capnp_dynamic_readers.specs.Seen.{answered_value}
use Rattle.capnp_dynamic_readers.specs.Typed.{IsValueUnder}
use Rattle.capnp_dynamic_readers.specs.declared.dynamic_value.Reader.{Reader as DynamicValue}
use Rattle.capnp_dynamic_readers.specs.declared.dynamic_value.Reader.TheVariants as dynamic
use Rattle.capnp_dynamic.proofs.ListElements.{room_in, struct_fits}

-- ---- structs ----

pub struct_there : (set : Schemas) (b g : ℕ) (x : Tree) (j : ℕ) → HoldsElements set (StructType b g) x → j < list_length x → HasStruct x j
struct_there set b g x j holds a = HasStruct_there (brand_size set b) x j holds a

pub struct_ready : (set : Schemas) (b g : ℕ) (x : Tree) (j : ℕ) (schema : StructSchema) → set_of schema ≡ set → number_of schema ≡ b → HoldsElements set (StructType b g) x → IsWellFormed x → j < list_length x →
    (s : StructTree) → s ≡ element_struct x j → IsStructUnder schema s
struct_ready set b g x j schema same number holds formed a s e =
    subst (λ (z : Schemas). Fits z (number_of schema) s) (sym same) (subst (λ (n : ℕ). Fits set n s) (sym number) (subst (Fits set b) (sym e) (struct_fits set b g x j holds formed a)))

-- ---- pointers ----

pub pointer_there : (set : Schemas) (t : TypeHandle) (x : Tree) (j : ℕ) → is_behind (seen_type t) ≡ true → HoldsElements set (seen_type t) x → IsWellFormed x → j < list_length x → HasPointer x j
pointer_there set t x j behind holds formed a = go (seen_type t) behind (room_in set t x j holds formed a)
  where
    go : (u : SchemaType) → is_behind u ≡ true → HasElementThere u x j → HasPointer x j
    go TextType h r = r
    go DataType h r = r
    go (ListType e) h r = r
    go AnyPointerType h r = r
    go VoidType h r = absurd (true≢false (sym h))
    go BoolType h r = absurd (true≢false (sym h))
    go (IntType k) h r = absurd (true≢false (sym h))
    go (UIntType k) h r = absurd (true≢false (sym h))
    go (EnumType k) h r = absurd (true≢false (sym h))
    go (StructType b g) h r = absurd (true≢false (sym h))

-- an element has no default
pub no_default : (t : SchemaType) → IsDefaultReadAs t tree.Null
no_default VoidType = refl
no_default BoolType = refl
no_default (IntType k) = refl
no_default (UIntType k) = refl
no_default (EnumType k) = refl
no_default TextType = refl
no_default DataType = refl
no_default (StructType b g) = tt
no_default (ListType e) = (tt, refl)
no_default AnyPointerType = refl

pub behind_pointer : (t : SchemaType) → is_behind t ≡ true → is_pointer t ≡ true
behind_pointer TextType h = refl
behind_pointer DataType h = refl
behind_pointer (ListType e) h = refl
behind_pointer AnyPointerType h = refl
behind_pointer (StructType b g) h = refl
behind_pointer VoidType h = absurd (true≢false (sym h))
behind_pointer BoolType h = absurd (true≢false (sym h))
behind_pointer (IntType k) h = absurd (true≢false (sym h))
behind_pointer (UIntType k) h = absurd (true≢false (sym h))
behind_pointer (EnumType k) h = absurd (true≢false (sym h))

-- what was filled behind an element's pointer is what is handed out of it
module _ (set : Schemas) (x y : Tree) (j : ℕ) (v : BuiltValue) where
  pub pointed_handed : (t : SchemaType) → is_behind t ≡ true → HandsOut false set t (element_filled set t (element_pointer x j 1)) v → element_handed set t x y j v
  pointed_handed TextType e h = h
  pointed_handed DataType e h = h
  pointed_handed (ListType t) e h = h
  pointed_handed AnyPointerType e h = h
  pointed_handed VoidType e h = absurd (true≢false (sym e))
  pointed_handed BoolType e h = absurd (true≢false (sym e))
  pointed_handed (IntType k) e h = absurd (true≢false (sym e))
  pointed_handed (UIntType k) e h = absurd (true≢false (sym e))
  pointed_handed (EnumType k) e h = absurd (true≢false (sym e))
  pointed_handed (StructType b g) e h = absurd (true≢false (sym e))

-- ---- numbers ----

no_pointer : (w : TypeVariant) → ((s : RawBrandedStructSchema) → w ≡ variant.Struct s → ⊥) → is_behind (seen_variant w) ≡ false → is_pointer (seen_variant w) ≡ false
no_pointer variant.Text n e = absurd (true≢false e)
no_pointer variant.«Data» n e = absurd (true≢false e)
no_pointer (variant.Struct s) n e = absurd (n s refl)
no_pointer variant.AnyPointer n e = absurd (true≢false e)
no_pointer (variant.List t) n e = absurd (true≢false e)
no_pointer w n e = refl

pub number_type : (t : SchemaType) (w : TypeVariant) → seen_variant w ≡ t → ((s : RawBrandedStructSchema) → w ≡ variant.Struct s → ⊥) → is_behind (seen_variant w) ≡ false → is_pointer t ≡ false
number_type t w same n e = ap is_pointer (sym same) ∙ no_pointer w n e

-- an element that no pointer stands for is read
pub is_read : (set : Schemas) (t : SchemaType) (x : Tree) (n j : ℕ) (e : Error) → is_pointer t ≡ false → answered_value (Err e) ≡ read_of set VoidValue t (element_read set x n t j) → ⊥
is_read set VoidType x n j e h a = cc
is_read set BoolType x n j e h a = cc
is_read set (IntType k) x n j e h a = cc
is_read set (UIntType k) x n j e h a = cc
is_read set (EnumType k) x n j e h a = cc
is_read set TextType x n j e h a = absurd (true≢false h)
is_read set DataType x n j e h a = absurd (true≢false h)
is_read set (StructType b g) x n j e h a = absurd (true≢false h)
is_read set (ListType t) x n j e h a = absurd (true≢false h)
is_read set AnyPointerType x n j e h a = absurd (true≢false h)

pub is_number : (set : Schemas) (t : SchemaType) (v : DynamicValue) → is_pointer t ≡ false → IsValueUnder set t v → IsNumber v
is_number set t dynamic.Void h u = tt
is_number set t (dynamic.Bool x) h u = tt
is_number set t (dynamic.Int8 x) h u = tt
is_number set t (dynamic.Int16 x) h u = tt
is_number set t (dynamic.Int32 x) h u = tt
is_number set t (dynamic.Int64 x) h u = tt
is_number set t (dynamic.UInt8 x) h u = tt
is_number set t (dynamic.UInt16 x) h u = tt
is_number set t (dynamic.UInt32 x) h u = tt
is_number set t (dynamic.UInt64 x) h u = tt
is_number set t (dynamic.Enum x) h u = tt
is_number set t (dynamic.Text x) h u = true≢false (ap is_pointer u ∙ h)
is_number set t (dynamic.«Data» x) h u = true≢false (ap is_pointer u ∙ h)
is_number set t (dynamic.Struct x) h u = no_struct t (number_of x.schema) u.1 h
  where
    no_struct : (t : SchemaType) (n : ℕ) → struct_brand t ≡ Some n → is_pointer t ≡ false → ⊥
    no_struct (StructType b g) n e h = true≢false h
    no_struct t n e h = cc
is_number set t (dynamic.List x) h u = true≢false (ap is_pointer u.1 ∙ h)
is_number set t (dynamic.AnyPointer x) h u = true≢false (ap is_pointer u ∙ h)

-- an element's number is what is handed out of it
module _ (set : Schemas) (x y : Tree) (j : ℕ) (v : BuiltValue) where
  number_by : (w : TypeVariant) → ((s : RawBrandedStructSchema) → w ≡ variant.Struct s → ⊥) → is_behind (seen_variant w) ≡ false → HandsElementNumber set (seen_variant w) y j v → element_handed set (seen_variant w) x y j v
  number_by variant.Void n e h = h
  number_by variant.Bool n e h = h
  number_by variant.Int8 n e h = h
  number_by variant.Int16 n e h = h
  number_by variant.Int32 n e h = h
  number_by variant.Int64 n e h = h
  number_by variant.UInt8 n e h = h
  number_by variant.UInt16 n e h = h
  number_by variant.UInt32 n e h = h
  number_by variant.UInt64 n e h = h
  number_by variant.Text n e h = absurd (true≢false e)
  number_by variant.«Data» n e h = absurd (true≢false e)
  number_by (variant.Struct s) n e h = absurd (n s refl)
  number_by variant.AnyPointer n e h = absurd (true≢false e)
  number_by (variant.Enum k) n e h = h
  number_by (variant.List t) n e h = absurd (true≢false e)

  pub number_handed : (t : SchemaType) (w : TypeVariant) → seen_variant w ≡ t → ((s : RawBrandedStructSchema) → w ≡ variant.Struct s → ⊥) → is_behind (seen_variant w) ≡ false → HandsElementNumber set t y j v → element_handed set t x y j v
  number_handed t w same n e h =
      subst (λ (u : SchemaType). element_handed set u x y j v) same (number_by w n e (subst (λ (u : SchemaType). HandsElementNumber set u y j v) (sym same) h))
