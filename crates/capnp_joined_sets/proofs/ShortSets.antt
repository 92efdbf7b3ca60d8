-- The numbers of an accepted set have 32 bits where its lists are short and each node has a brand.
use Rattle.std.proofs.Common.{ℕ, zero, suc, ◌<◌, ◌≡◌, refl, List, [], ◌∷◌, length, slice_get, get_or, arith, ap, sym, subst, ◌∙◌}
use Rattle.std.specs.Option.{unwrap_or}
use Rattle.std.proofs.lemmas.List.Elements.{All-weaker}
use Rattle.capnp_schema.specs.Types.{SchemaType, VoidType, BoolType, IntType, UIntType, EnumType, TextType, DataType, StructType, ListType, AnyPointerType}
use Rattle.capnp_schema.specs.Schema.{Schemas, Brand, Field, FieldKind, Slot, Group, AnnotationTypes, no_field, no_node, no_brand, brand_at, node_at, node_of, field_at, typed_fields}
use Rattle.capnp_schema.specs.Accepted.{AllName, GroupFits as IsOwnGroup, IsAccepted, NamesEntries, TypesName}
use Rattle.capnp_joined_sets.specs.Laws.{EachNodeHasBrand, IsShort}
use Rattle.capnp_joined_sets.specs.Refusals.{AnnotationTypesFit, BrandFits, FieldFits, GroupFits, NodeFits, NumbersFit, TypeFits, TypesFit}

-- as many fields as types: the typed fields are all of both
all_typed : (P : SchemaType → Type 0) (fs : List Field) (ts : List SchemaType) → length ts ≡ length fs →
    ((i : ℕ) → i < length (typed_fields fs ts) → P (unwrap_or (slice_get (typed_fields fs ts) i) no_field).type) → (i : ℕ) (d : SchemaType) → i < length ts → P (get_or ts i d)
all_typed P fs [] same h i d below = absurd (omega arith)
all_typed P [] (t ∷ ts) same h i d below = absurd (omega arith)
all_typed P (f ∷ fs) (t ∷ ts) same h zero d below = h 0 (omega arith)
all_typed P (f ∷ fs) (t ∷ ts) same h (suc i) d below = all_typed P fs ts (omega arith) (λ j there. h (suc j) (omega arith)) i d (omega arith)

all_fields : (P : Field → Type 0) (fs : List Field) (ts : List SchemaType) → length ts ≡ length fs →
    ((i : ℕ) → i < length (typed_fields fs ts) → P (unwrap_or (slice_get (typed_fields fs ts) i) no_field).field) → (i : ℕ) (d : Field) → i < length fs → P (get_or fs i d)
all_fields P [] ts same h i d below = absurd (omega arith)
all_fields P (f ∷ fs) [] same h i d below = absurd (omega arith)
all_fields P (f ∷ fs) (t ∷ ts) same h zero d below = h 0 (omega arith)
all_fields P (f ∷ fs) (t ∷ ts) same h (suc i) d below = all_fields P fs ts (omega arith) (λ j there. h (suc j) (omega arith)) i d (omega arith)

-- an entry that is there, by either look-up
entry_is : {X : Type 0} (xs : List X) (i : ℕ) (d none : X) → i < length xs → unwrap_or (slice_get xs i) none ≡ get_or xs i d
entry_is [] i d none below = absurd (omega arith)
entry_is (x ∷ xs) zero d none below = refl
entry_is (x ∷ xs) (suc i) d none below = entry_is xs i d none (omega arith)

module _ (set : Schemas) (accepted : IsAccepted set) (short : IsShort set) where
  type_fits : (t : SchemaType) → NamesEntries set t → TypeFits t
  type_fits VoidType h = h
  type_fits BoolType h = h
  type_fits (IntType bytes) h = h
  type_fits (UIntType bytes) h = h
  type_fits (EnumType number) h = let few = short.enums in omega (arith, h)
  type_fits TextType h = h
  type_fits DataType h = h
  type_fits (StructType number generic) h =
      let few = short.brands in
      let nodes = short.nodes in
      let node = (accepted.rule2.brands number h.0).node in
      let inside = h.0 in
      let same = h.1 in (omega arith, omega arith)
  type_fits (ListType element) h = type_fits element h
  type_fits AnyPointerType h = h

  types_fit : (ts : List SchemaType) → AllName set ts → TypesFit ts
  types_fit ts h = All-weaker (NamesEntries set) TypeFits type_fits ts h

  annotations_fit : (types : AnnotationTypes) → TypesName set types → AnnotationTypesFit types
  annotations_fit types h = (types_fit types.own h.0, All-weaker (AllName set) TypesFit types_fit types.children h.1)

  brand_fits : (b : ℕ) → b < length set.brands → BrandFits (brand_at set b)
  brand_fits b below = record {
    node = let few = short.nodes in let there = (accepted.rule2.brands b below).node in omega arith;
    types = all_typed TypeFits (node_of set b).fields (brand_at set b).field_types (accepted.rule2.brands b below).types.0
        (λ i there. type_fits (field_at set b i).type (accepted.rule1.fields b i below there));
    annotations = annotations_fit (brand_at set b).annotation_types (subst (λ (x : Brand). TypesName set x.annotation_types) (sym (entry_is set.brands b (no_brand set) (no_brand set) below)) (accepted.rule1.brands b (no_brand set) below));
  }

  group_fits : (k : FieldKind) (t : SchemaType) → NamesEntries set t → IsOwnGroup set k t → GroupFits k
  group_fits (Slot offset default) t named h = tt
  group_fits (Group node) (StructType number generic) named h =
      let few = short.nodes in
      let there = (accepted.rule2.brands number named.0).node in
      let same = h.0 in omega arith
  group_fits (Group node) VoidType named h = absurd h
  group_fits (Group node) BoolType named h = absurd h
  group_fits (Group node) (IntType bytes) named h = absurd h
  group_fits (Group node) (UIntType bytes) named h = absurd h
  group_fits (Group node) (EnumType number) named h = absurd h
  group_fits (Group node) TextType named h = absurd h
  group_fits (Group node) DataType named h = absurd h
  group_fits (Group node) (ListType element) named h = absurd h
  group_fits (Group node) AnyPointerType named h = absurd h

  node_fits : (b : ℕ) → b < length set.brands → NodeFits (node_of set b)
  node_fits b below = all_fields FieldFits (node_of set b).fields (brand_at set b).field_types (accepted.rule2.brands b below).types.0
      (λ i there. group_fits (field_at set b i).field.kind (field_at set b i).type (accepted.rule1.fields b i below there) (accepted.rule7 b i below there))

  pub numbers_fit : EachNodeHasBrand set → NumbersFit set
  numbers_fit brands = record {
    nodes = λ n d below.
        let b = brands n below in
        subst NodeFits (ap (node_at set) b.2 ∙ entry_is set.nodes n d no_node below) (node_fits b.0 b.1);
    brands = λ b d below. subst BrandFits (entry_is set.brands b d (no_brand set) below) (brand_fits b below);
    enums = λ e d below. annotations_fit (get_or set.enums e d).annotation_types (accepted.rule1.enums e d below);
  }
