-- The three lists that the record of a set stands for, and the refusals whose causes stand in it.
use Rattle.std.specs.Prelude.{ℕ, ◌≡◌, ◌⊎◌, List, Ok, Err, Option, Some, None}
use Rattle.capnp_device.specs.declared.error.ErrorKind.{ErrorKind}
use Rattle.capnp_device.specs.declared.error.Error.{Error}
use Rattle.capnp_schema.specs.Broken.{IsRefusalOf}
use Rattle.capnp_schema.specs.Schema.{Annotation, AnnotationTypes, Brand, Enum, Enumerant, Node, Schemas}
use Rattle.capnp_schema.specs.Types.{SchemaType}
use Rattle.capnp_records.specs.Record as value
use Rattle.capnp_records.specs.Record.{NoValues, Record, Value, Values}
use Rattle.capnp_sets.specs.Causes.{HasCause, SetRead, ◌<*>◌}
use Rattle.capnp_sets.specs.Fields.{node_meant}
use Rattle.capnp_sets.specs.Parts.{name, number, meta_read_at, structs}
use Rattle.capnp_sets.specs.Types.{type_lists, types}
use Rattle.capnp_sets.specs.Values.{annotations}

abbrev pub made_types : List SchemaType → List (List SchemaType) → AnnotationTypes
made_types own children = record { own = own; children = children }

abbrev pub made_brand : ℕ → List SchemaType → AnnotationTypes → Brand
made_brand node field_types annotation_types = record { node = node; field_types = field_types; annotation_types = annotation_types }

-- a brand of a set whose records of brands are these
unfoldable pub brand_of : Values → Record → SetRead Brand
brand_of brands r =
    Ok made_brand <*> number (meta_read_at 6 0 r) <*> types brands (meta_read_at 6 1 r)
    <*> (Ok made_types <*> types brands (meta_read_at 6 2 r) <*> type_lists brands (meta_read_at 6 3 r))

unfoldable pub enumerant_of : Record → SetRead Enumerant
enumerant_of r = Ok (λ name annotations. record { name = name; annotations = annotations }) <*> name (meta_read_at 9 0 r) <*> annotations (meta_read_at 9 1 r)

abbrev pub made_enum : ℕ → List ℕ → List Annotation → List Enumerant → AnnotationTypes → Enum
made_enum id name annotations enumerants annotation_types =
    record { id = id; display_name = name; annotations = annotations; enumerants = enumerants; annotation_types = annotation_types }

unfoldable pub enum_meant : Values → Record → SetRead Enum
enum_meant brands r =
    Ok made_enum <*> number (meta_read_at 8 0 r) <*> name (meta_read_at 8 1 r) <*> annotations (meta_read_at 8 2 r) <*> structs 9 enumerant_of (meta_read_at 8 3 r)
    <*> (Ok made_types <*> types brands (meta_read_at 8 4 r) <*> type_lists brands (meta_read_at 8 5 r))

abbrev pub elements_of : Value → Values
elements_of (value.Elements vs) = vs
elements_of v = NoValues

-- the records of brands in the record of a set
abbrev pub brands_in : Record → Values
brands_in r = elements_of (meta_read_at 0 1 r)

abbrev pub made_set : List Node → List Brand → List Enum → Schemas
made_set nodes brands enums = record { nodes = nodes; brands = brands; enums = enums }

unfoldable pub set_meant : Record → SetRead Schemas
set_meant r = Ok made_set <*> structs 1 node_meant (meta_read_at 0 0 r) <*> structs 6 (brand_of (brands_in r)) (meta_read_at 0 1 r) <*> structs 8 (enum_meant (brands_in r)) (meta_read_at 0 2 r)

abbrev pub read_or_none : {A : Type 0} → SetRead A → Option A
read_or_none (Ok a) = Some a
read_or_none (Err causes) = None

-- the lists that the record of a set stands for, each missing part as it is read; none where a cause of a refusal stands
abbrev pub lists_meant : Record → Option Schemas
lists_meant r = read_or_none (set_meant r)

-- a refusal's cause stands in the record: a fault, a name that isn't UTF-8, or a kind that no schema here has
abbrev pub has_cause : Record → ErrorKind → Type 0
has_cause r kind = HasCause (set_meant r) kind

-- why the record of a set gives no checked set: a cause stands in it, or its lists break a rule
abbrev pub IsSchemaSetRefusal : Record → Error → Type 0
IsSchemaSetRefusal r e = has_cause r e.kind ⊎ ((set : Schemas) × (lists_meant r ≡ Some set) × IsRefusalOf set e)
