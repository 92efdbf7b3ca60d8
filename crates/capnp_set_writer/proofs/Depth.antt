-- The tree of a set is shallow enough to be read in full.
use Rattle.std.proofs.Common.{map, ℕ, ◌-◌, ◌≤◌, arith, List, [], ◌∷◌}
use Rattle.capnp_wire.specs.Depth.{AreBelow, ElementsAreBelow, IsBelow, IsShallow}
use Rattle.capnp_wire.specs.Place.{struct_tree}
use Rattle.capnp_wire.specs.Tree.{StructTree, Tree}
use Rattle.capnp_schema.specs.Schema.{Annotation, Brand, Enum, Enumerant, Field, FieldKind, Group, Node, Schemas, Slot, Value, VoidValue, BoolValue, IntValue, UIntValue, EnumValue, TextValue, DataValue, StructValue, ListValue, AnyPointerValue}
use Rattle.capnp_schema.specs.Types.{SchemaType}
use Rattle.capnp_set_writer.specs.Trees.{annotation_tree, annotations_tree, brand_tree, enum_tree, enumerant_tree, enumerants_tree, field_kind_tree, field_tree, fields_tree, node_tree, set_tree, structs_of, trees_of, type_lists_tree, type_tree, types_tree, value_tree}

elements : {A : Type 0} (tree_of : A → StructTree) (levels : ℕ) → ((a : A) → AreBelow levels (tree_of a).pointers) → (xs : List A) → ElementsAreBelow levels (structs_of (map tree_of xs))
elements tree_of levels each [] = tt
elements tree_of levels each (x ∷ xs) = (each x, elements tree_of levels each xs)

rows : {A : Type 0} (tree_of : A → Tree) (levels : ℕ) → ((a : A) → IsBelow levels (tree_of a)) → (xs : List A) → AreBelow levels (trees_of (map tree_of xs))
rows tree_of levels each [] = tt
rows tree_of levels each (x ∷ xs) = (each x, rows tree_of levels each xs)

value_below : (levels : ℕ) → 1 ≤ levels → (v : Value) → AreBelow levels (value_tree v).pointers
value_below levels h VoidValue = (tt, tt)
value_below levels h (BoolValue x) = (tt, tt)
value_below levels h (IntValue width x) = (tt, tt)
value_below levels h (UIntValue width x) = (tt, tt)
value_below levels h (EnumValue x) = (tt, tt)
value_below levels h (TextValue bytes) = (h, tt)
value_below levels h (DataValue bytes) = (h, tt)
value_below levels h (StructValue words) = (h, tt)
value_below levels h (ListValue words) = (h, tt)
value_below levels h (AnyPointerValue words) = (h, tt)

value_struct : (levels : ℕ) → 2 ≤ levels → (v : Value) → IsBelow levels (struct_tree (value_tree v))
value_struct levels h v = (h, value_below (levels - 1) (omega arith) v)

annotations_below : (levels : ℕ) → 4 ≤ levels → (xs : List Annotation) → IsBelow levels (annotations_tree xs)
annotations_below levels h xs = (omega arith, elements annotation_tree (levels - 2) (λ a. (value_struct (levels - 2) (omega arith) a.value, tt)) xs)

kind_below : (levels : ℕ) → 4 ≤ levels → (f : Field) (kind : FieldKind) → AreBelow levels (field_kind_tree f kind).pointers
kind_below levels h f (Slot offset default) = (omega arith, (annotations_below levels h f.annotations, (value_struct levels (omega arith) default, tt)))
kind_below levels h f (Group node) = (omega arith, (annotations_below levels h f.annotations, (tt, tt)))

fields_below : (levels : ℕ) → 6 ≤ levels → (fields : List Field) → IsBelow levels (fields_tree fields)
fields_below levels h fields = (omega arith, elements field_tree (levels - 2) (λ f. kind_below (levels - 2) (omega arith) f f.kind) fields)

types_below : (levels : ℕ) → 2 ≤ levels → (ts : List SchemaType) → IsBelow levels (types_tree ts)
types_below levels h ts = (h, elements type_tree (levels - 2) (λ t. tt) ts)

type_lists_below : (levels : ℕ) → 3 ≤ levels → (lists : List (List SchemaType)) → IsBelow levels (type_lists_tree lists)
type_lists_below levels h lists = (omega arith, rows types_tree (levels - 1) (types_below (levels - 1) (omega arith)) lists)

enumerants_below : (levels : ℕ) → 6 ≤ levels → (xs : List Enumerant) → IsBelow levels (enumerants_tree xs)
enumerants_below levels h xs = (omega arith, elements enumerant_tree (levels - 2) (λ x. (omega arith, (annotations_below (levels - 2) (omega arith) x.annotations, tt))) xs)

node_below : (n : Node) → AreBelow 62 (node_tree n).pointers
node_below n = (omega arith, (annotations_below 62 (omega arith) n.annotations, (fields_below 62 (omega arith) n.fields, tt)))

brand_below : (b : Brand) → AreBelow 62 (brand_tree b).pointers
brand_below b = (types_below 62 (omega arith) b.field_types, (types_below 62 (omega arith) b.annotation_types.own, (type_lists_below 62 (omega arith) b.annotation_types.children, tt)))

enum_below : (x : Enum) → AreBelow 62 (enum_tree x).pointers
enum_below x = (
  omega arith,
  (
    annotations_below 62 (omega arith) x.annotations,
    (
      enumerants_below 62 (omega arith) x.enumerants,
      (types_below 62 (omega arith) x.annotation_types.own, (type_lists_below 62 (omega arith) x.annotation_types.children, tt)),
    ),
  ),
)

pub shallow : (s : Schemas) → IsShallow (struct_tree (set_tree s))
shallow s =
    (omega arith, ((omega arith, elements node_tree 62 node_below s.nodes), ((omega arith, elements brand_tree 62 brand_below s.brands), ((omega arith, elements enum_tree 62 enum_below s.enums), tt))))
