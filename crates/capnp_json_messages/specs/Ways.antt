-- Where the value of a field or an element goes.
use Rattle.std.specs.Prelude.{◌≡◌, Bool, true, false}
use Rattle.capnp_base.specs.declared.introspect.TypeVariant.{TypeVariant}
use Rattle.capnp_base.specs.declared.introspect.«Type».{«Type» as TypeHandle}
use Rattle.capnp_schema.specs.Accepted.{NamesEntries}
use Rattle.capnp_schema.specs.FieldLists.{typed_of}
use Rattle.capnp_schema.specs.Schema.{Schemas}
use Rattle.capnp_schema.specs.StructHandles.{IsStruct, generic_of, number_of, set_of}
use Rattle.capnp_schema.specs.Types.{ListType, SchemaType, StructType, seen_type, seen_variant}
use Rattle.capnp_schema.specs.declared.schema.fields.Field.{Field}
use Rattle.capnp_schema.specs.declared.schema.structs.StructSchema.{StructSchema}
use Rattle.capnp_slots.specs.Fields.{IsSlot, field_set}
use Rattle.capnp_slots.specs.Groups.{IsGroupAt}
use Rattle.capnp_from_json.specs.LeafReads.{is_leaf}
use Rattle.capnp_json_messages.specs.declared.ways.Way.{Way}
use Rattle.capnp_json_messages.specs.declared.ways.Way.TheVariants as way
use Rattle.capnp_json_messages.specs.declared.ways.ElementWay.{ElementWay}
use Rattle.capnp_json_messages.specs.declared.ways.ElementWay.TheVariants as element_way

-- a type of structs of a set, by its schema
pub record IsStructType (set : Schemas) (t : SchemaType) (s : StructSchema) : Type 0 where
  pub stands : IsStruct s
  pub of_set : set_of s ≡ set
  pub type_is : StructType (number_of s) (generic_of s) ≡ t

-- a type of lists, by that of the elements
pub record IsListType (set : Schemas) (t : SchemaType) (element : TypeHandle) : Type 0 where
  pub type_is : ListType (seen_type element) ≡ t
  pub entries : NamesEntries set (seen_type element)

-- a type of leaves
pub record IsLeafType (t : SchemaType) (v : TypeVariant) : Type 0 where
  pub type_is : seen_variant v ≡ t
  pub leaf : is_leaf v ≡ true

abbrev pub Leads : Field → Way → Type 0
Leads f (way.Group s) = IsGroupAt f s
Leads f (way.Struct s) = IsSlot f × IsStructType (field_set f) (typed_of f).type s
Leads f (way.List element) = IsSlot f × IsListType (field_set f) (typed_of f).type element
Leads f (way.Leaf v) = IsSlot f × IsLeafType (typed_of f).type v

abbrev pub ElementLeads : Schemas → SchemaType → ElementWay → Type 0
ElementLeads set e (element_way.Struct s) = IsStructType set e s
ElementLeads set e (element_way.List element) = IsListType set e element
ElementLeads set e (element_way.Leaf v) = IsLeafType e v

-- a type of structs
abbrev pub is_struct_type : SchemaType → Bool
is_struct_type (StructType b g) = true
is_struct_type t = false
