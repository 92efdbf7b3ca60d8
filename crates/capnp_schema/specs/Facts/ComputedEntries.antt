-- Rules of single entries, shown by computing: a proof of the rule, or none.
use Rattle.std.proofs.Common.{◌≡◌, ◌+◌, ◌*◌, ◌==◌, ◌&&◌, ◌||◌, nat_lt, nat_le, ⊎_elim, Bool, true, false, not, length, Option, Some, None, refl, arith}
use Rattle.std.proofs.lemmas.Bool.{ltb-true, leb-true}
use Rattle.std.proofs.lemmas.Bool.Decides.{Decides-eqb}
use Rattle.capnp_schema.specs.Types.{SchemaType, VoidType, BoolType, IntType, UIntType, EnumType, TextType, DataType, StructType, ListType, AnyPointerType, is_pointer, width}
use Rattle.capnp_schema.specs.Schema.{Schemas, Node, brand_at, node_of, FieldKind, Slot, Group, Value, VoidValue, BoolValue, IntValue, UIntValue, EnumValue, TextValue, DataValue, StructValue, ListValue, AnyPointerValue}
use Rattle.capnp_schema.specs.Accepted.{NamesEntries, LiesInside, KindDefault, IsDefaultOf, NamesNoGroup, GroupFits, DiscriminantFits}
use Rattle.capnp_schema.specs.Facts.Computed.{both, either, not_so}

-- what a test tells, where it passes
abbrev pub where_true : {P : Type 0} → (test : Bool) → (test ≡ true → P) → Option P
where_true true tells = Some (tells refl)
where_true false tells = None

-- whether something is shown, and then it is so
abbrev pub is_shown : {P : Type 0} → Option P → Bool
is_shown None = false
is_shown (Some p) = true

pub shown : {P : Type 0} (o : Option P) → is_shown o ≡ true → P
shown None e = cc
shown (Some p) e = p

-- ---- rule 1 ----

abbrev pub named : (set : Schemas) (t : SchemaType) → Option (NamesEntries set t)
named set VoidType = Some tt
named set BoolType = Some tt
named set (IntType bytes) = Some tt
named set (UIntType bytes) = Some tt
named set (EnumType number) = where_true (nat_lt number (length set.enums)) (ltb-true number (length set.enums))
named set TextType = Some tt
named set DataType = Some tt
named set (StructType number generic) = where_true (nat_lt number (length set.brands) && ((brand_at set number).node == generic)) (λ e. let parts = both _ _ e in (ltb-true _ _ parts.0, (Decides-eqb _ _).0 parts.1))
named set (ListType element) = named set element
named set AnyPointerType = Some tt

-- ---- rule 4 ----

abbrev pub inside : (n : Node) (kind : FieldKind) (t : SchemaType) → Option (LiesInside n kind t)
inside n (Slot offset default) t = where_true (nat_le ((offset + 1) * width t) (64 * n.data_word_count) && (not (is_pointer t) || nat_lt offset n.pointer_count)) (λ e.
    let parts = both _ _ e in
    (leb-true _ _ parts.0, λ pointed. ⊎_elim (λ no. absurd (not_so _ no pointed)) (ltb-true _ _) (either _ _ parts.1)))
inside n (Group node) t = Some tt

-- ---- rule 5 ----

abbrev pub default_of_type : (value : Value) (t : SchemaType) → Option (IsDefaultOf value t)
default_of_type VoidValue VoidType = Some tt
default_of_type (BoolValue x) BoolType = Some tt
default_of_type (IntValue bytes x) (IntType width) = where_true (bytes == width) (Decides-eqb bytes width).0
default_of_type (UIntValue bytes x) (UIntType width) = where_true (bytes == width) (Decides-eqb bytes width).0
default_of_type (EnumValue x) (EnumType number) = Some tt
default_of_type (TextValue x) TextType = Some tt
default_of_type (DataValue x) DataType = Some tt
default_of_type (StructValue words) (StructType number generic) = Some tt
default_of_type (ListValue words) (ListType element) = Some tt
default_of_type (AnyPointerValue words) t = where_true (is_pointer t) (λ e. e)
default_of_type value t = None

abbrev pub slot_default : (kind : FieldKind) (t : SchemaType) → Option (KindDefault IsDefaultOf kind t)
slot_default (Slot offset default) t = default_of_type default t
slot_default (Group node) t = Some tt

-- ---- rule 7 ----

pub marked_not : (b : Bool) → not b ≡ true → b ≡ false
marked_not true e = cc
marked_not false e = refl

abbrev pub no_group : (set : Schemas) (t : SchemaType) → Option (NamesNoGroup set t)
no_group set VoidType = Some tt
no_group set BoolType = Some tt
no_group set (IntType bytes) = Some tt
no_group set (UIntType bytes) = Some tt
no_group set (EnumType number) = Some tt
no_group set TextType = Some tt
no_group set DataType = Some tt
no_group set (StructType number generic) = where_true (not (node_of set number).is_group) (marked_not (node_of set number).is_group)
no_group set (ListType element) = no_group set element
no_group set AnyPointerType = Some tt

abbrev pub group_fits : (set : Schemas) (kind : FieldKind) (t : SchemaType) → Option (GroupFits set kind t)
group_fits set (Slot offset default) t = no_group set t
group_fits set (Group node) (StructType number generic) = where_true (((brand_at set number).node == node) && (node_of set number).is_group) (λ e. let parts = both _ _ e in ((Decides-eqb _ _).0 parts.0, parts.1))
group_fits set (Group node) t = None

-- ---- rule 10 ----

abbrev pub discriminant_fits : (n : Node) → Option (DiscriminantFits n)
discriminant_fits n = where_true ((n.discriminant_count == 0) || nat_le (16 * (n.discriminant_offset + 1)) (64 * n.data_word_count)) (λ e some. ⊎_elim
    (λ none. let zero : n.discriminant_count ≡ 0 = (Decides-eqb n.discriminant_count 0).0 none in absurd (omega arith))
    (leb-true (16 * (n.discriminant_offset + 1)) (64 * n.data_word_count))
    (either (n.discriminant_count == 0) (nat_le (16 * (n.discriminant_offset + 1)) (64 * n.data_word_count)) e))
