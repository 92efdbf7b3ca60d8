-- The types that records of types stand for.
use Rattle.std.specs.Prelude.{ℕ, zero, suc, List, [], ◌∷◌, slice_get, Ok}
use Rattle.std.specs.Option.{unwrap_or}
use Rattle.capnp_device.specs.declared.error.ErrorKind.TheVariants.{FloatType, InterfaceType, UnknownKind}
use Rattle.capnp_schema.specs.Meta.{meta, meta_structs, meta_struct}
use Rattle.capnp_schema.specs.Schema.{VoidValue}
use Rattle.capnp_schema.specs.Types.{SchemaType, VoidType, BoolType, IntType, UIntType, EnumType, TextType, DataType, StructType, AnyPointerType, lists_of}
use Rattle.capnp_records.specs.Default.{read_of}
use Rattle.capnp_records.specs.Record.{NoValues, MoreValues, Record, Value, Values}
use Rattle.capnp_sets.specs.Causes.{SetRead, flat, refused_read, ◌<*>◌}
use Rattle.capnp_sets.specs.Parts.{list, number, meta_read_at, struct, structs}

-- the node of a record of a brand
abbrev pub node_number : Value → SetRead ℕ
node_number = struct (λ r. number (meta_read_at 6 0 r))

-- the generic number of a struct type: the node of the brand that it names, or 0 where there is no such brand
unfoldable pub generic_in : Values → ℕ → SetRead ℕ
generic_in NoValues b = Ok 0
generic_in (MoreValues v vs) zero = node_number (read_of meta VoidValue (meta_struct 6) v)
generic_in (MoreValues v vs) (suc b) = generic_in vs b

-- the types of the bases, in their order; one that names a struct or an enum has its number
abbrev pub base_types : Values → (number : ℕ) → List (SetRead SchemaType)
base_types brands number =
    Ok VoidType ∷ Ok BoolType
    ∷ Ok (IntType 1) ∷ Ok (IntType 2) ∷ Ok (IntType 4) ∷ Ok (IntType 8)
    ∷ Ok (UIntType 1) ∷ Ok (UIntType 2) ∷ Ok (UIntType 4) ∷ Ok (UIntType 8)
    ∷ refused_read FloatType ∷ refused_read FloatType
    ∷ Ok TextType ∷ Ok DataType
    ∷ refused_read UnknownKind
    ∷ Ok (EnumType number)
    ∷ (Ok (StructType number) <*> generic_in brands number)
    ∷ refused_read InterfaceType
    ∷ Ok AnyPointerType
    ∷ []

unfoldable pub base_type_meant : Values → (base number : ℕ) → SetRead SchemaType
base_type_meant brands base number = unwrap_or (slice_get (base_types brands number) base) (refused_read UnknownKind)

-- a base with its lists around it
unfoldable pub type_meant : Values → Record → SetRead SchemaType
type_meant brands r = Ok lists_of <*> number (meta_read_at 7 1 r) <*> flat (Ok (base_type_meant brands) <*> number (meta_read_at 7 0 r) <*> number (meta_read_at 7 2 r))

abbrev pub types : Values → Value → SetRead (List SchemaType)
types brands = structs 7 (type_meant brands)

abbrev pub type_lists : Values → Value → SetRead (List (List SchemaType))
type_lists brands = list (meta_structs 7) (types brands)
