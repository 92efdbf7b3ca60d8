-- What moved types and fields are for the rules.
use Rattle.std.proofs.Common.{ℕ, ◌+◌, ◌*◌, ◌≤◌, ◌≡◌, refl, IsOk, ap, sym, subst, ◌∙◌, Some}
use Rattle.std.proofs.lemmas.Option.{same_Some}
use Rattle.capnp_wire.specs.Reading.{as_list}
use Rattle.capnp_schema.specs.Types.{SchemaType, VoidType, BoolType, IntType, UIntType, EnumType, TextType, DataType, StructType, ListType, AnyPointerType, element_size, is_pointer, width}
use Rattle.capnp_schema.specs.Schema.{Schemas, Node, Brand, FieldKind, Slot, Group, Value, VoidValue, EnumValue, StructValue, ListValue, kind_default}
use Rattle.capnp_schema.specs.Accepted.{IsAccepted, IsDefaultOf, IsGroupOf, GroupFits, KindDefault, LiesInside, ListReads, NamesEntries, NamesNoGroup, words_root}
use Rattle.capnp_joined_sets.specs.declared.moves.Moves.{Moves}
use Rattle.capnp_joined_sets.specs.Joined.{moved_kind, moved_node, moved_type}
use Rattle.capnp_joined_sets.proofs.Embedded.{IsIn, node_in}

pub same_width : (by : Moves) (t : SchemaType) → width (moved_type by t) ≡ width t
same_width by VoidType = refl
same_width by BoolType = refl
same_width by (IntType bytes) = refl
same_width by (UIntType bytes) = refl
same_width by (EnumType number) = refl
same_width by TextType = refl
same_width by DataType = refl
same_width by (StructType number generic) = refl
same_width by (ListType element) = refl
same_width by AnyPointerType = refl

pub same_pointer : (by : Moves) (t : SchemaType) → is_pointer (moved_type by t) ≡ is_pointer t
same_pointer by VoidType = refl
same_pointer by BoolType = refl
same_pointer by (IntType bytes) = refl
same_pointer by (UIntType bytes) = refl
same_pointer by (EnumType number) = refl
same_pointer by TextType = refl
same_pointer by DataType = refl
same_pointer by (StructType number generic) = refl
same_pointer by (ListType element) = refl
same_pointer by AnyPointerType = refl

pub same_elements : (by : Moves) (t : SchemaType) → element_size (moved_type by t) ≡ element_size t
same_elements by VoidType = refl
same_elements by BoolType = refl
same_elements by (IntType bytes) = refl
same_elements by (UIntType bytes) = refl
same_elements by (EnumType number) = refl
same_elements by TextType = refl
same_elements by DataType = refl
same_elements by (StructType number generic) = refl
same_elements by (ListType element) = refl
same_elements by AnyPointerType = refl

pub same_default : (by : Moves) (k : FieldKind) → kind_default (moved_kind by k) ≡ kind_default k
same_default by (Slot offset default) = refl
same_default by (Group node) = refl

-- ---- defaults ----

pub default_stays : (by : Moves) (v : Value) (t : SchemaType) → IsDefaultOf v t → IsDefaultOf v (moved_type by t)
default_stays by v VoidType h = h
default_stays by v BoolType h = h
default_stays by v (IntType bytes) h = h
default_stays by v (UIntType bytes) h = h
default_stays by v TextType h = h
default_stays by v DataType h = h
default_stays by v AnyPointerType h = h
default_stays by v (EnumType number) h = go v h
  where
    go : (v : Value) → IsDefaultOf v (EnumType number) → IsDefaultOf v (EnumType (number + by.enums))
    go VoidValue h = h
    go (EnumValue x) h = h
    go v h = h
default_stays by v (StructType number generic) h = go v h
  where
    go : (v : Value) → IsDefaultOf v (StructType number generic) → IsDefaultOf v (StructType (number + by.brands) (generic + by.nodes))
    go VoidValue h = h
    go (StructValue x) h = h
    go v h = h
default_stays by v (ListType element) h = go v h
  where
    go : (v : Value) → IsDefaultOf v (ListType element) → IsDefaultOf v (ListType (moved_type by element))
    go VoidValue h = h
    go (ListValue x) h = h
    go v h = h

pub kind_default_stays : (by : Moves) (k : FieldKind) (t : SchemaType) → KindDefault IsDefaultOf k t → KindDefault IsDefaultOf (moved_kind by k) (moved_type by t)
kind_default_stays by (Slot offset default) t h = default_stays by default t h
kind_default_stays by (Group node) t h = h

pub reads_stays : (by : Moves) (v : Value) (t : SchemaType) → ListReads v t → ListReads v (moved_type by t)
reads_stays by v VoidType h = h
reads_stays by v BoolType h = h
reads_stays by v (IntType bytes) h = h
reads_stays by v (UIntType bytes) h = h
reads_stays by v TextType h = h
reads_stays by v DataType h = h
reads_stays by v AnyPointerType h = h
reads_stays by v (EnumType number) h = go v h
  where
    go : (v : Value) → ListReads v (EnumType number) → ListReads v (EnumType (number + by.enums))
    go (ListValue words) h = h
    go v h = h
reads_stays by v (StructType number generic) h = go v h
  where
    go : (v : Value) → ListReads v (StructType number generic) → ListReads v (StructType (number + by.brands) (generic + by.nodes))
    go (ListValue words) h = h
    go v h = h
reads_stays by v (ListType element) h = go v h
  where
    go : (v : Value) → ListReads v (ListType element) → ListReads v (ListType (moved_type by element))
    go (ListValue words) h = subst (λ size. IsOk (as_list size (words_root words) 1)) (sym (same_elements by element)) h
    go v h = h

pub kind_reads_stays : (by : Moves) (k : FieldKind) (t : SchemaType) → KindDefault ListReads k t → KindDefault ListReads (moved_kind by k) (moved_type by t)
kind_reads_stays by (Slot offset default) t h = reads_stays by default t h
kind_reads_stays by (Group node) t h = h

pub lies_inside : (by : Moves) (n : Node) (k : FieldKind) (t : SchemaType) → LiesInside n k t → LiesInside (moved_node by n) (moved_kind by k) (moved_type by t)
lies_inside by n (Slot offset default) t h = (
  subst (λ w. (offset + 1) * w ≤ 64 * n.data_word_count) (sym (same_width by t)) h.0,
  λ pointer. h.1 (sym (same_pointer by t) ∙ pointer),
)
lies_inside by n (Group node) t h = h

-- ---- what types name ----

-- the brand that a struct type names has moved
pub names_moved : (by : Moves) (k : FieldKind) (t : SchemaType) (g : ℕ) → IsGroupOf k t g → IsGroupOf (moved_kind by k) (moved_type by t) (g + by.brands)
names_moved by (Slot offset default) t g h = h
names_moved by (Group node) (StructType number generic) g h = ap (λ n. Some (n + by.brands)) (same_Some number g h)
names_moved by (Group node) VoidType g h = cc
names_moved by (Group node) BoolType g h = cc
names_moved by (Group node) (IntType bytes) g h = cc
names_moved by (Group node) (UIntType bytes) g h = cc
names_moved by (Group node) (EnumType number) g h = cc
names_moved by (Group node) TextType g h = cc
names_moved by (Group node) DataType g h = cc
names_moved by (Group node) (ListType element) g h = cc
names_moved by (Group node) AnyPointerType g h = cc

-- what a moved field names, the field named before
pub named_before : (by : Moves) (k : FieldKind) (t : SchemaType) (g : ℕ) → IsGroupOf (moved_kind by k) (moved_type by t) g → (f : ℕ) × IsGroupOf k t f × (f + by.brands ≡ g)
named_before by (Slot offset default) t g h = absurd h
named_before by (Group node) (StructType number generic) g h = (number, refl, same_Some (number + by.brands) g h)
named_before by (Group node) VoidType g h = cc
named_before by (Group node) BoolType g h = cc
named_before by (Group node) (IntType bytes) g h = cc
named_before by (Group node) (UIntType bytes) g h = cc
named_before by (Group node) (EnumType number) g h = cc
named_before by (Group node) TextType g h = cc
named_before by (Group node) DataType g h = cc
named_before by (Group node) (ListType element) g h = cc
named_before by (Group node) AnyPointerType g h = cc

module _ (by : Moves) (s t : Schemas) (accepted : IsAccepted s) (within : IsIn by s t) where
  pub names_entries : (x : SchemaType) → NamesEntries s x → NamesEntries t (moved_type by x)
  names_entries VoidType h = h
  names_entries BoolType h = h
  names_entries (IntType bytes) h = h
  names_entries (UIntType bytes) h = h
  names_entries (EnumType number) h = (within.enums number h).0
  names_entries TextType h = h
  names_entries DataType h = h
  names_entries (StructType number generic) h =
      ((within.brands number h.0).0, ap (λ (b : Brand). b.node) (within.brands number h.0).1 ∙ ap (λ n. n + by.nodes) h.1)
  names_entries (ListType element) h = names_entries element h
  names_entries AnyPointerType h = h

  pub names_no_group : (x : SchemaType) → NamesEntries s x → NamesNoGroup s x → NamesNoGroup t (moved_type by x)
  names_no_group VoidType named h = h
  names_no_group BoolType named h = h
  names_no_group (IntType bytes) named h = h
  names_no_group (UIntType bytes) named h = h
  names_no_group (EnumType number) named h = h
  names_no_group TextType named h = h
  names_no_group DataType named h = h
  names_no_group (StructType number generic) named h = ap (λ (n : Node). n.is_group) (node_in by s t accepted within number named.0) ∙ h
  names_no_group (ListType element) named h = names_no_group element named h
  names_no_group AnyPointerType named h = h

  pub group_fits : (k : FieldKind) (x : SchemaType) → NamesEntries s x → GroupFits s k x → GroupFits t (moved_kind by k) (moved_type by x)
  group_fits (Slot offset default) x named h = names_no_group x named h
  group_fits (Group node) (StructType number generic) named h = (
    ap (λ (b : Brand). b.node) (within.brands number named.0).1 ∙ ap (λ n. n + by.nodes) h.0,
    ap (λ (n : Node). n.is_group) (node_in by s t accepted within number named.0) ∙ h.1,
  )
  group_fits (Group node) VoidType named h = h
  group_fits (Group node) BoolType named h = h
  group_fits (Group node) (IntType bytes) named h = h
  group_fits (Group node) (UIntType bytes) named h = h
  group_fits (Group node) (EnumType number) named h = h
  group_fits (Group node) TextType named h = h
  group_fits (Group node) DataType named h = h
  group_fits (Group node) (ListType element) named h = h
  group_fits (Group node) AnyPointerType named h = h
