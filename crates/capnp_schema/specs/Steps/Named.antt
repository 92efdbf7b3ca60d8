-- Facts about types that handles keep: each has at most one proof.
use Rattle.std.specs.Prelude.{◌≡◌, List, get_or}
use Rattle.std.specs.Coded.{×_prop, Π_prop, →_prop, Unit-prop, le_prop, Coded-set, coded_ℕ}
use Rattle.capnp_schema.specs.Types.{SchemaType, SchemaType_is_set, VoidType, BoolType, IntType, UIntType, EnumType, TextType, DataType, StructType, ListType, AnyPointerType}
use Rattle.capnp_schema.specs.Schema.{Schemas}
use Rattle.capnp_schema.specs.Accepted.{AllName, NamesEntries}

-- that two types are equal
pub same_type_prop : (s t : SchemaType) → IsProp (s ≡ t)
same_type_prop s t = SchemaType_is_set (Coded-set coded_ℕ) s t

-- that a type names entries of a set
pub NamesEntries_prop : (set : Schemas) (t : SchemaType) → IsProp (NamesEntries set t)
NamesEntries_prop set VoidType = Unit-prop
NamesEntries_prop set BoolType = Unit-prop
NamesEntries_prop set (IntType bytes) = Unit-prop
NamesEntries_prop set (UIntType bytes) = Unit-prop
NamesEntries_prop set (EnumType number) = le_prop
NamesEntries_prop set TextType = Unit-prop
NamesEntries_prop set DataType = Unit-prop
NamesEntries_prop set (StructType number generic) = ×_prop le_prop (Coded-set coded_ℕ _ _)
NamesEntries_prop set (ListType element) = NamesEntries_prop set element
NamesEntries_prop set AnyPointerType = Unit-prop

-- that each type of a list does
pub name_entries_prop : (set : Schemas) (types : List SchemaType) → IsProp (AllName set types)
name_entries_prop set types = Π_prop (λ i. Π_prop (λ d. →_prop (NamesEntries_prop set (get_or types i d))))
