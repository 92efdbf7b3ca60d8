-- The names of a set's structs and enums.
use Rattle.std.specs.Prelude.{ℕ, zero, suc, ◌+◌, ◌-◌, List, [], ◌∷◌, ◌++◌, Bool, true, false, not, ◌==◌, ◌&&◌, ◌||◌, nat_lt, bytes_eq, codes, length, map, slice_get, Option, Some, None, Ok, Err}
use Rattle.std.specs.Option.{unwrap_or}
use Rattle.std.specs.Str.{is_utf8}
use Rattle.capnp_device.specs.declared.error.ErrorKind.TheVariants.{NameNotUtf8, NodeNotFound, TooManyTypes}
use Rattle.capnp_schema.specs.Schema.{Field, Node}
use Rattle.capnp_schema.specs.Types.{SchemaType, VoidType, BoolType, IntType, UIntType, EnumType, TextType, DataType, StructType, ListType, AnyPointerType}
use Rattle.capnp_request.specs.Terms.{Said}
use Rattle.capnp_request.specs.Work.{Bound, MarkedType}

-- ---- a display name's file and dotted name ----

abbrev pub occurrences_of : ℕ → List ℕ → ℕ
occurrences_of byte [] = 0
occurrences_of byte (x ∷ xs) = elim (x == byte) [ true ↦ suc (occurrences_of byte xs) | false ↦ occurrences_of byte xs ]

abbrev pub has_colon : List ℕ → Bool
has_colon xs = nat_lt 0 (occurrences_of 58 xs)

-- what stands up to the last colon and with it, and what stands behind it
abbrev pub file_of : List ℕ → List ℕ
file_of [] = []
file_of (x ∷ xs) = elim (has_colon (x ∷ xs)) [ true ↦ x ∷ file_of xs | false ↦ [] ]

abbrev pub dotted_of : List ℕ → List ℕ
dotted_of [] = []
dotted_of (x ∷ xs) = elim (has_colon (x ∷ xs)) [ true ↦ dotted_of xs | false ↦ x ∷ xs ]

-- a name has at most 1,024 bytes and is UTF-8
abbrev pub finished_name : List ℕ → Said (List ℕ)
finished_name name = elim (nat_lt 1024 (length name)) [ true ↦ Err TooManyTypes | false ↦ elim (is_utf8 name) [ true ↦ Ok name | false ↦ Err NameNotUtf8 ] ]

-- ---- types by name ----

abbrev pub sizes : (one two four eight : List ℕ) → ℕ → List ℕ
sizes one two four eight bytes = elim (bytes == 1) [ true ↦ one | false ↦ elim (bytes == 2) [ true ↦ two | false ↦ elim (bytes == 4) [ true ↦ four | false ↦ eight ] ] ]

-- unsigned integers, or the floats that they stand for
abbrev pub unsigned_name : (is_float : Bool) → ℕ → List ℕ
unsigned_name true bytes = sizes (codes "UInt8") (codes "UInt16") (codes "Float32") (codes "Float64") bytes
unsigned_name false bytes = sizes (codes "UInt8") (codes "UInt16") (codes "UInt32") (codes "UInt64") bytes

-- where the structs and enums have these names
abbrev pub set_type_name : (structs enums : List (List ℕ)) → (is_float : Bool) → SchemaType → List ℕ
set_type_name structs enums is_float VoidType = codes "Void"
set_type_name structs enums is_float BoolType = codes "Bool"
set_type_name structs enums is_float (IntType bytes) = sizes (codes "Int8") (codes "Int16") (codes "Int32") (codes "Int64") bytes
set_type_name structs enums is_float (UIntType bytes) = unsigned_name is_float bytes
set_type_name structs enums is_float (EnumType number) = unwrap_or (slice_get enums number) []
set_type_name structs enums is_float TextType = codes "Text"
set_type_name structs enums is_float DataType = codes "Data"
set_type_name structs enums is_float (StructType number generic) = unwrap_or (slice_get structs number) []
set_type_name structs enums is_float (ListType element) = codes "List(" ++ set_type_name structs enums is_float element ++ codes ")"
set_type_name structs enums is_float AnyPointerType = codes "AnyPointer"

abbrev pub type_name : (structs enums : List (List ℕ)) → MarkedType → List ℕ
type_name structs enums t = set_type_name structs enums t.is_float t.type

-- ---- bindings behind the parts of a dotted name ----

module _ (structs enums : List (List ℕ)) where
  -- the names of the types of so many parameters, those past the bound ones untyped pointers
  abbrev pub more_names : List MarkedType → ℕ → List ℕ
  more_names ts zero = []
  more_names [] (suc count) = codes ", AnyPointer" ++ more_names [] count
  more_names (t ∷ ts) (suc count) = codes ", " ++ type_name structs enums t ++ more_names ts count

  -- in parentheses, where something else than untyped pointers is bound
  abbrev pub bindings_name : List MarkedType → ℕ → List ℕ
  bindings_name [] count = []
  bindings_name (t ∷ ts) count = codes "(" ++ type_name structs enums t ++ more_names ts (count - 1) ++ codes ")"

  -- behind part k of a name with so many dots: parts and scopes are paired from the right, and a scope without a part counts
  -- to the first
  abbrev pub part_bindings : List Bound → (dots k : ℕ) → List ℕ
  part_bindings [] dots k = []
  part_bindings (b ∷ bs) dots k = elim (dots - b.distance == k) [ true ↦ bindings_name b.types b.parameters ++ part_bindings bs dots k | false ↦ part_bindings bs dots k ]

  -- a dotted name from part k on
  abbrev pub bound_name : List Bound → (dots k : ℕ) → List ℕ → List ℕ
  bound_name bound dots k [] = part_bindings bound dots k
  bound_name bound dots k (x ∷ xs) = elim (x == 46) [ true ↦ part_bindings bound dots k ++ 46 ∷ bound_name bound dots (k + 1) xs | false ↦ x ∷ bound_name bound dots k xs ]

-- ---- names that others had before ----

-- the id and the dotted name of an entry
pub record Holder : Type 0 where
  pub id : ℕ
  pub dotted : List ℕ

-- an entry of another id had the dotted name before
abbrev pub is_taken : List Holder → ℕ → List ℕ → Bool
is_taken [] id dotted = false
is_taken (h ∷ hs) id dotted = (bytes_eq h.dotted dotted && not (h.id == id)) || is_taken hs id dotted

abbrev pub file_where : Bool → List ℕ → List ℕ
file_where true display = file_of display
file_where false display = []

-- the name of an entry that is no group, by its node's display name
abbrev pub struct_name : (structs enums : List (List ℕ)) → List Holder → ℕ → List Bound → List ℕ → Said (List ℕ)
struct_name structs enums holders id bound display =
    finished_name (file_where (is_taken holders id (dotted_of display)) display ++ bound_name structs enums bound (occurrences_of 46 (dotted_of display)) 0 (dotted_of display))

-- the name of a group: its parent's, a dot, and the field's
abbrev pub dotted_name : (parent : List ℕ) → (field : Option (List ℕ)) → Said (List ℕ)
dotted_name parent (Some field) = finished_name (parent ++ 46 ∷ field)
dotted_name parent None = Err NodeNotFound

-- by the field that names it, which its parent has
abbrev pub group_name : (parent : Option Node) → (field : ℕ) → Said (List ℕ)
group_name (Some p) field = dotted_name p.display_name (slice_get (map (λ (f : Field). f.name) p.fields) field)
group_name None field = Err NodeNotFound

-- the name of an enum
abbrev pub enum_name : List ℕ → Said (List ℕ)
enum_name display = finished_name (dotted_of display)
