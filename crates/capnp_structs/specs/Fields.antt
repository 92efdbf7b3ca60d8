-- The fields of a struct: a line for each, with its type, its place, its default and its annotations; before them one for the
-- struct's annotations and one for a union, and behind all of them one for each enum that a field names.
use Rattle.std.specs.Prelude.{ℕ, zero, suc, ◌*◌, ◌||◌, ◌==◌, List, [], ◌∷◌, ◌++◌, Bool, cond, Option, Some, None, codes, decimal, length}
use Rattle.capnp_schema.specs.Annotated.{TypedAnnotation, field_annotations, struct_annotations}
use Rattle.capnp_schema.specs.Discriminant.{discriminant_of}
use Rattle.capnp_schema.specs.Plan.{plan_of}
use Rattle.capnp_schema.specs.Schema.{Schemas, TypedField, default_of, enum_at, field_at, fields_of, kind_target, node_of}
use Rattle.capnp_schema.specs.Types.{SchemaType, AnyPointerType, BoolType, DataType, EnumType, IntType, ListType, StructType, TextType, UIntType, VoidType}
use Rattle.capnp_schema.specs.declared.plan.Place.{Place}
use Rattle.capnp_schema.specs.declared.plan.Place.TheVariants as place
use Rattle.capnp_records.specs.Text.{Out, after, said_text}
use Rattle.capnp_json_fields.specs.Marks.{is_float}
use Rattle.capnp_structs.specs.Enums.{enum_lines}
use Rattle.capnp_structs.specs.Values.{annotations_text, default_text}

-- ---- what a line says ----

-- the name of numbers without a sign; where they are floats, those of 32 and 64 bits stand for floats of as many
abbrev pub unsigned_name : (floats : Bool) → (bytes : ℕ) → List ℕ
unsigned_name floats bytes = cond ((bytes == 4) || (bytes == 8)) (cond floats (codes "Float") (codes "UInt")) (codes "UInt")

-- a type, whose numbers are floats or not: an enum and a struct by their names, a list by its elements' type
abbrev pub type_text : (floats : Bool) → Schemas → SchemaType → List ℕ
type_text floats set VoidType = codes "Void"
type_text floats set BoolType = codes "Bool"
type_text floats set (IntType bytes) = codes "Int" ++ decimal (8 * bytes)
type_text floats set (UIntType bytes) = unsigned_name floats bytes ++ decimal (8 * bytes)
type_text floats set (EnumType e) = (enum_at set e).display_name
type_text floats set TextType = codes "Text"
type_text floats set DataType = codes "Data"
type_text floats set (StructType b g) = (node_of set b).display_name
type_text floats set (ListType t) = codes "List(" ++ type_text floats set t ++ codes ")"
type_text floats set AnyPointerType = codes "AnyPointer"

-- a place: the first bit of a slot in the data section, or a pointer's number
abbrev pub place_text : Place → List ℕ
place_text place.Nothing = []
place_text (place.Bits start width mask) = codes ", data bit " ++ decimal start
place_text (place.Pointer number) = codes ", pointer " ++ decimal number
place_text (place.Group brand) = []

-- a member of a union, by its discriminant value
abbrev pub member_text : Option (ℕ × ℕ) → List ℕ
member_text None = []
member_text (Some member) = codes ", member " ++ decimal member.1

-- the union of a struct or group: its members, and the first bit of the discriminant's 16; nothing without a union
abbrev pub union_text : (prefix : List ℕ) → (members : ℕ) → Option ℕ → List ℕ
union_text prefix members None = []
union_text prefix members (Some bit) = prefix ++ codes "union: " ++ decimal members ++ codes " members, tag at data bit " ++ decimal bit ++ 10 ∷ []

-- ---- one line ----

-- what stands before a default
abbrev pub slot_head : Schemas → (prefix : List ℕ) → TypedField → Place → List ℕ
slot_head set prefix f at = prefix ++ f.field.name ++ codes ": " ++ type_text (is_float f) set f.type ++ place_text at

abbrev pub group_head : (prefix : List ℕ) → TypedField → List ℕ
group_head prefix f = prefix ++ f.field.name ++ codes ": group"

-- what stands behind it: a member's number, the annotations of the field, and a line break
abbrev pub field_end : Schemas → (brand index : ℕ) → Out
field_end set b i =
    after (said_text (member_text (plan_of set b (field_at set b i)).member)) (after (annotations_text set (field_annotations set b i)) (said_text (10 ∷ [])))

-- a line for a slot, and one for a group
abbrev pub slot_line : Schemas → (brand index : ℕ) → (prefix : List ℕ) → Out
slot_line set b i prefix =
    after (said_text (slot_head set prefix (field_at set b i) (plan_of set b (field_at set b i)).place))
    (after (default_text (is_float (field_at set b i)) set (field_at set b i).type (default_of (field_at set b i).field)) (field_end set b i))

abbrev pub group_line : Schemas → (brand index : ℕ) → (prefix : List ℕ) → Out
group_line set b i prefix = after (said_text (group_head prefix (field_at set b i))) (field_end set b i)

-- a line for a field, which leads to a group or to none
abbrev pub field_line : Schemas → (brand index : ℕ) → (prefix : List ℕ) → Option ℕ → Out
field_line set b i prefix None = slot_line set b i prefix
field_line set b i prefix (Some g) = group_line set b i prefix

-- a line for the union of a struct or group
abbrev pub union_line : Schemas → (prefix : List ℕ) → ℕ → List ℕ
union_line set prefix b = union_text prefix (node_of set b).discriminant_count (discriminant_of (node_of set b))

-- a line for annotations behind what they are of, where there are some
abbrev pub annotated_line : Schemas → List ℕ → List TypedAnnotation → Out
annotated_line set head [] = said_text []
annotated_line set head (x ∷ xs) = after (said_text head) (after (annotations_text set (x ∷ xs)) (said_text (10 ∷ [])))

-- those of a struct
abbrev pub head_line : Schemas → ℕ → Out
head_line set b = annotated_line set (codes "struct " ++ (node_of set b).display_name) (struct_annotations set b)

-- ---- the lines of unions and fields ----

-- what a line is of, with what stands before a name there: of a union, or of a field
pub data Line : Type 0 where
  UnionLine : (prefix : List ℕ) → (brand : ℕ) → Line
  FieldLine : (prefix : List ℕ) → (brand index : ℕ) → Line

abbrev pub line_text : Schemas → Line → Out
line_text set (UnionLine prefix b) = said_text (union_line set prefix b)
line_text set (FieldLine prefix b i) = field_line set b i prefix (kind_target (field_at set b i).field.kind (field_at set b i).type)

abbrev pub lines_text : Schemas → List Line → Out
lines_text set [] = said_text []
lines_text set (l ∷ ls) = after (line_text set l) (lines_text set ls)

-- the path of a group's fields
abbrev pub inside : (prefix : List ℕ) → TypedField → List ℕ
inside prefix f = prefix ++ f.field.name ++ codes "."

-- the lines behind that of a field, which leads to a group or to none: those of the group
abbrev pub lines_inside : (group : List ℕ → ℕ → List Line) → (prefix : List ℕ) → TypedField → Option ℕ → List Line
lines_inside group prefix f None = []
lines_inside group prefix f (Some g) = group (inside prefix f) g

abbrev pub field_lines : ℕ → (group : List ℕ → ℕ → List Line) → (prefix : List ℕ) → (index : ℕ) → TypedField → List Line
field_lines b group prefix i f = FieldLine prefix b i ∷ lines_inside group prefix f (kind_target f.field.kind f.type)

-- the lines of fields from an index on
abbrev pub all_lines : (ℕ → TypedField → List Line) → (index : ℕ) → List TypedField → List Line
all_lines lines i [] = []
all_lines lines i (f ∷ fs) = lines i f ++ all_lines lines (suc i) fs

-- the union and the fields of a brand, by index, through so many groups
unfoldable pub lines_within : Schemas → (groups : ℕ) → (prefix : List ℕ) → ℕ → List Line
lines_within set zero prefix b = []
lines_within set (suc groups) prefix b = UnionLine prefix b ∷ all_lines (field_lines b (lines_within set groups) prefix) 0 (fields_of set b)

-- those of a struct: a chain of groups has at most as many brands as the set
abbrev pub lines_of : Schemas → ℕ → List Line
lines_of set b = lines_within set (length set.brands) [] b

-- ---- the enums that fields name ----

-- the enum that a type names, or its lists
abbrev pub enums_named : SchemaType → List ℕ
enums_named VoidType = []
enums_named BoolType = []
enums_named (IntType bytes) = []
enums_named (UIntType bytes) = []
enums_named (EnumType e) = e ∷ []
enums_named TextType = []
enums_named DataType = []
enums_named (StructType b g) = []
enums_named (ListType t) = enums_named t
enums_named AnyPointerType = []

abbrev pub line_enums : Schemas → Line → List ℕ
line_enums set (UnionLine prefix b) = []
line_enums set (FieldLine prefix b i) = enums_named (field_at set b i).type

-- the enums that lines name, in their order
abbrev pub all_enums : Schemas → List Line → List ℕ
all_enums set [] = []
all_enums set (l ∷ ls) = line_enums set l ++ all_enums set ls

-- ---- all lines ----

-- the annotations of a struct, its fields, and behind them the enums that they name
abbrev pub fields_text : Schemas → ℕ → Out
fields_text set b = after (head_line set b) (after (lines_text set (lines_of set b)) (enum_lines set [] (all_enums set (lines_of set b))))
