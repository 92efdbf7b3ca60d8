-- What moves by nothing stays as it is.
use Rattle.std.proofs.Common.{◌≡◌, refl, List, [], ◌∷◌, ◌++◌, map, ap, ap₂, add-zero, ◌∙◌}
use Rattle.capnp_schema.specs.Types.{SchemaType, VoidType, BoolType, IntType, UIntType, EnumType, TextType, DataType, StructType, ListType, AnyPointerType}
use Rattle.capnp_schema.specs.Schema.{Schemas, Node, Brand, Enum, Field, FieldKind, Slot, Group, AnnotationTypes}
use Rattle.capnp_joined_sets.specs.declared.moves.Moves.{Moves}
use Rattle.capnp_joined_sets.specs.declared.moves.TheConstants.{NO_MOVES}
use Rattle.capnp_joined_sets.specs.Joined.{ends_of, joined, moved_annotation_types, moved_brand, moved_enum, moved_field, moved_kind, moved_node, moved_type, moved_types}

map_kept : {X : Type 0} (f : X → X) → ((x : X) → f x ≡ x) → (xs : List X) → map f xs ≡ xs
map_kept f kept [] = refl
map_kept f kept (x ∷ xs) = ap₂ (λ y ys. y ∷ ys) (kept x) (map_kept f kept xs)

type_kept : (t : SchemaType) → moved_type NO_MOVES t ≡ t
type_kept VoidType = refl
type_kept BoolType = refl
type_kept (IntType bytes) = refl
type_kept (UIntType bytes) = refl
type_kept (EnumType number) = ap EnumType (add-zero number)
type_kept TextType = refl
type_kept DataType = refl
type_kept (StructType number generic) = ap₂ StructType (add-zero number) (add-zero generic)
type_kept (ListType element) = ap ListType (type_kept element)
type_kept AnyPointerType = refl

types_kept : (types : List SchemaType) → moved_types NO_MOVES types ≡ types
types_kept types = map_kept (moved_type NO_MOVES) type_kept types

annotations_kept : (types : AnnotationTypes) → moved_annotation_types NO_MOVES types ≡ types
annotations_kept types =
    let P : List SchemaType → List (List SchemaType) → AnnotationTypes = λ own children. record { own = own; children = children } in
    ap₂ P (types_kept types.own) (map_kept (moved_types NO_MOVES) types_kept types.children)

kind_kept : (kind : FieldKind) → moved_kind NO_MOVES kind ≡ kind
kind_kept (Slot offset default) = refl
kind_kept (Group node) = ap Group (add-zero node)

field_kept : (f : Field) → moved_field NO_MOVES f ≡ f
field_kept f = ap (λ kind. record f { kind = kind }) (kind_kept f.kind)

pub node_kept : (n : Node) → moved_node NO_MOVES n ≡ n
node_kept n = ap (λ fields. record n { fields = fields }) (map_kept (moved_field NO_MOVES) field_kept n.fields)

pub brand_kept : (b : Brand) → moved_brand NO_MOVES b ≡ b
brand_kept b =
    ap (λ node. record { node = node; field_types = moved_types NO_MOVES b.field_types; annotation_types = moved_annotation_types NO_MOVES b.annotation_types }) (add-zero b.node)
    ∙ ap₂ (λ types annotations. record b { field_types = types; annotation_types = annotations }) (types_kept b.field_types) (annotations_kept b.annotation_types)

pub enum_kept : (e : Enum) → moved_enum NO_MOVES e ≡ e
enum_kept e = ap (λ types. record e { annotation_types = types }) (annotations_kept e.annotation_types)

-- the first list as it is, and the second moved
first_kept : {X : Type 0} (f : Moves → X → X) → ((x : X) → f NO_MOVES x ≡ x) → (by : Moves) (xs ys : List X) → map (f NO_MOVES) xs ++ map (f by) ys ≡ xs ++ map (f by) ys
first_kept f kept by xs ys = ap (λ zs. zs ++ map (f by) ys) (map_kept (f NO_MOVES) kept xs)

pub nodes_joined : (older newer : Schemas) (by : Moves) (xs ys : List Node) → xs ≡ older.nodes → ys ≡ newer.nodes → by ≡ ends_of older →
    map (moved_node NO_MOVES) xs ++ map (moved_node by) ys ≡ (joined older newer).nodes
nodes_joined older newer by xs ys first second ends =
    first_kept moved_node node_kept by xs ys
    ∙ ap₂ (λ us vs. us ++ map (moved_node by) vs) first second
    ∙ ap (λ to. older.nodes ++ map (moved_node to) newer.nodes) ends

pub brands_joined : (older newer : Schemas) (by : Moves) (xs ys : List Brand) → xs ≡ older.brands → ys ≡ newer.brands → by ≡ ends_of older →
    map (moved_brand NO_MOVES) xs ++ map (moved_brand by) ys ≡ (joined older newer).brands
brands_joined older newer by xs ys first second ends =
    first_kept moved_brand brand_kept by xs ys
    ∙ ap₂ (λ us vs. us ++ map (moved_brand by) vs) first second
    ∙ ap (λ to. older.brands ++ map (moved_brand to) newer.brands) ends

pub enums_joined : (older newer : Schemas) (by : Moves) (xs ys : List Enum) → xs ≡ older.enums → ys ≡ newer.enums → by ≡ ends_of older →
    map (moved_enum NO_MOVES) xs ++ map (moved_enum by) ys ≡ (joined older newer).enums
enums_joined older newer by xs ys first second ends =
    first_kept moved_enum enum_kept by xs ys
    ∙ ap₂ (λ us vs. us ++ map (moved_enum by) vs) first second
    ∙ ap (λ to. older.enums ++ map (moved_enum to) newer.enums) ends
