-- What a value is refused with is a number of reads, and never that of memory or of a device.
use Rattle.std.specs.Prelude.{ℕ, zero, suc, ◌≡◌, refl, ⊤, List, [], ◌∷◌, Bool, true, false, cond, ◌&&◌, ◌==◌, Result, Ok, Err, get_or, length, take, ◌-◌, Option, Some, None}
use Rattle.capnp_device.specs.declared.error.ErrorKind.{ErrorKind}
use Rattle.capnp_device.specs.declared.error.ErrorKind.TheVariants.{BadPointer, CapabilityPointer, TextNotTerminated, TooDeep, WrongElementSize, WrongPointerKind}
use Rattle.capnp_wire.specs.Reading.{as_data, as_list, as_struct, as_text, is_null_tree, list_length, reads_bits, reads_numbers, reads_pointers, reads_structs, reads_voids, refusal, terminated_text, with_level}
use Rattle.capnp_wire.specs.Tree as tree
use Rattle.capnp_wire.specs.Tree.{StructTree, Structs, Tree, Trees}
use Rattle.capnp_wire.specs.declared.fault.Fault.{Fault}
use Rattle.capnp_wire.specs.declared.fault.Fault.TheVariants as fault
use Rattle.capnp_wire.specs.declared.size.ElementSize.{ElementSize}
use Rattle.capnp_schema.specs.Accepted.{words_root}
use Rattle.capnp_schema.specs.Schema.{DataValue, Field, FieldKind, Group, ListValue, Node, Schemas, Slot, StructValue, TextValue, TypedField, fields_of, is_member, node_of, Value as SchemaValue}
use Rattle.capnp_schema.specs.SlotValue.{slot_number}
use Rattle.capnp_schema.specs.Types.{AnyPointerType, BoolType, DataType, EnumType, IntType, ListType, SchemaType, StructType, TextType, UIntType, VoidType, element_size, is_pointer, struct_brand}
use Rattle.capnp_records.specs.Part.{active_value, nth_value, part_at}
use Rattle.capnp_records.specs.Default.{default_levels, default_value, empty_value, read_of, unless_null}
use Rattle.capnp_records.specs.Reading.{Below, Body, Reading, active_among, bodies_of, bytes_below, discriminant, element_value, elements_value, entered_value, first_pointer, group_record, kind_value, nth_body, nth_reading, null, number_value, of_read, only_reading, non_union_parts, pointers_below, reads, record_of, record_within, slot_value, struct_below, structs_below, tree_value, union_of, value_of, values_of}
use Rattle.capnp_records.specs.Record as value
use Rattle.capnp_records.specs.Record.{Active, Endless, Levels, MoreValues, NoUnion, NoValues, Parts, Record, Union, Unknown, Value, Values, levels_asked, is_there, one_less, values_from}

-- the kinds that a read of a tree is refused with
abbrev pub is_read_kind : ErrorKind → Bool
is_read_kind BadPointer = true
is_read_kind WrongPointerKind = true
is_read_kind WrongElementSize = true
is_read_kind TextNotTerminated = true
is_read_kind TooDeep = true
is_read_kind CapabilityPointer = true
is_read_kind kind = false

abbrev pub IsReadKind : ErrorKind → Type 0
IsReadKind kind = is_read_kind kind ≡ true

-- ---- reads of a tree ----

abbrev pub Told : {A : Type 0} → Result A ErrorKind → Type 0
Told (Ok a) = ⊤
Told (Err kind) = IsReadKind kind

of_fault : (k : Fault) → IsReadKind (refusal k)
of_fault fault.BadPointer = refl
of_fault fault.TooDeep = refl
of_fault fault.CapabilityPointer = refl

with_level_told : {A : Type 0} (n : ℕ) (r : Result A ErrorKind) → Told r → Told (with_level n r)
with_level_told n r h = go (n == 0)
  where
    go : (q : Bool) → Told (cond q (Err TooDeep) r)
    go true = refl
    go false = h

either_told : {A : Type 0} (q : Bool) (r s : Result A ErrorKind) → Told r → Told s → Told (cond q r s)
either_told true r s h k = h
either_told false r s h k = k

as_struct_told : (x : Tree) (n : ℕ) → Told (as_struct x n)
as_struct_told tree.Null n = with_level_told n _ tt
as_struct_told (tree.Struct bytes ps) n = with_level_told n _ tt
as_struct_told (tree.Voids m) n = with_level_told n _ refl
as_struct_told (tree.Bits bs) n = with_level_told n _ refl
as_struct_told (tree.Numbers w bytes) n = with_level_told n _ refl
as_struct_told (tree.Pointers ps) n = with_level_told n _ refl
as_struct_told (tree.Composite d p es) n = with_level_told n _ refl
as_struct_told (tree.FaultLeaf k) n = of_fault k

list_if_told : (q : Bool) (x : Tree) (n : ℕ) → Told (with_level n (cond q (Ok x) (Err WrongElementSize)))
list_if_told q x n = with_level_told n _ (either_told q (Ok x) (Err WrongElementSize) tt refl)

as_list_told : (size : ElementSize) (x : Tree) (n : ℕ) → Told (as_list size x n)
as_list_told size tree.Null n = with_level_told n _ tt
as_list_told size (tree.Struct bytes ps) n = with_level_told n _ refl
as_list_told size (tree.Voids m) n = list_if_told (reads_voids size) (tree.Voids m) n
as_list_told size (tree.Bits bs) n = list_if_told (reads_bits size) (tree.Bits bs) n
as_list_told size (tree.Numbers w bytes) n = list_if_told (reads_numbers size w) (tree.Numbers w bytes) n
as_list_told size (tree.Pointers ps) n = list_if_told (reads_pointers size) (tree.Pointers ps) n
as_list_told size (tree.Composite d p es) n = list_if_told (reads_structs size d p) (tree.Composite d p es) n
as_list_told size (tree.FaultLeaf k) n = of_fault k

terminated_told : (bytes : List ℕ) → Told (terminated_text bytes)
terminated_told bytes = either_told (get_or bytes (length bytes - 1) 1 == 0) (Ok (take (length bytes - 1) bytes)) (Err TextNotTerminated) tt refl

as_text_told : (x : Tree) → Told (as_text x)
as_text_told tree.Null = tt
as_text_told (tree.Struct bytes ps) = refl
as_text_told (tree.Voids n) = refl
as_text_told (tree.Bits bs) = refl
as_text_told (tree.Numbers w bytes) = either_told (w == 1) (terminated_text bytes) (Err WrongElementSize) (terminated_told bytes) refl
as_text_told (tree.Pointers ps) = refl
as_text_told (tree.Composite d p es) = refl
as_text_told (tree.FaultLeaf k) = of_fault k

as_data_told : (x : Tree) → Told (as_data x)
as_data_told tree.Null = tt
as_data_told (tree.Struct bytes ps) = refl
as_data_told (tree.Voids n) = refl
as_data_told (tree.Bits bs) = refl
as_data_told (tree.Numbers w bytes) = either_told (w == 1) (Ok bytes) (Err WrongElementSize) tt refl
as_data_told (tree.Pointers ps) = refl
as_data_told (tree.Composite d p es) = refl
as_data_told (tree.FaultLeaf k) = of_fault k

-- ---- values whose faults are those of reads ----

abbrev mutual
  pub Sound : Value → Type 0
  Sound (value.Struct r) = RecordSound r
  Sound (value.Group r) = RecordSound r
  Sound (value.Elements vs) = AllSound vs
  Sound (value.Fault kind) = IsReadKind kind
  Sound v = ⊤

  pub AllSound : Values → Type 0
  AllSound NoValues = ⊤
  AllSound (MoreValues v vs) = Sound v × AllSound vs

  pub UnionSound : Union → Type 0
  UnionSound NoUnion = ⊤
  UnionSound (Active i v) = Sound v
  UnionSound (Unknown n) = ⊤

  pub RecordSound : Record → Type 0
  RecordSound (Parts vs u) = AllSound vs × UnionSound u

number_sound : (t : SchemaType) (n : ℕ) → Sound (number_value t n)
number_sound VoidType n = tt
number_sound BoolType n = tt
number_sound (IntType k) n = tt
number_sound (UIntType k) n = tt
number_sound (EnumType m) n = tt
number_sound TextType n = tt
number_sound DataType n = tt
number_sound (StructType b g) n = tt
number_sound (ListType e) n = tt
number_sound AnyPointerType n = tt

read_sound : {A : Type 0} (f : A → Value) (r : Result A ErrorKind) → ((a : A) → Sound (f a)) → Told r → Sound (of_read f r)
read_sound f (Ok a) h told = h a
read_sound f (Err kind) h told = told

entered_sound : (l : Levels) (v : Value) → Sound v → Sound (entered_value l v)
entered_sound l v h = go (levels_asked l == 0)
  where
    go : (q : Bool) → Sound (elim q as (λ _. Value) [ true ↦ value.Fault TooDeep | false ↦ v ])
    go true = refl
    go false = h

row_sound : (f : ℕ → Value) → ((i : ℕ) → Sound (f i)) → (a n : ℕ) → AllSound (values_from f a n)
row_sound f h a zero = tt
row_sound f h a (suc n) = (h a, row_sound f h (suc a) n)

abbrev ReadingSound : Reading → Type 0
ReadingSound r = (l : Levels) (t : SchemaType) → Sound (r l t)

abbrev AllReadings : List Reading → Type 0
AllReadings [] = ⊤
AllReadings (r ∷ rs) = ReadingSound r × AllReadings rs

abbrev AllBodies : List Body → Type 0
AllBodies [] = ⊤
AllBodies (b ∷ bs) = AllReadings b.pointers × AllBodies bs

null_sound : ReadingSound null
null_sound l t = tt

nth_sound : (rs : List Reading) → AllReadings rs → (i : ℕ) → ReadingSound (nth_reading rs i)
nth_sound [] all i = null_sound
nth_sound (r ∷ rs) all zero = all.0
nth_sound (r ∷ rs) all (suc i) = nth_sound rs all.1 i

module _ (set : Schemas) where
  slot_sound : (l : Levels) (bytes : List ℕ) (rs : List Reading) → AllReadings rs → (o : ℕ) (d : SchemaValue) (t : SchemaType) → Sound (slot_value l bytes rs o d t)
  slot_sound l bytes rs all o d t = go (is_pointer t)
    where
      go : (q : Bool) → Sound (elim q as (λ _. Value) [ true ↦ nth_reading rs o l t | false ↦ number_value t (slot_number bytes o d t) ])
      go true = nth_sound rs all o l t
      go false = number_sound t (slot_number bytes o d t)

  module _ (l : Levels) (bytes : List ℕ) (rs : List Reading) (all : AllReadings rs) where
    kind_sound : (f : ℕ → Record) → ((b : ℕ) → RecordSound (f b)) → (k : FieldKind) (t : SchemaType) → Sound (kind_value f l bytes rs k t)
    kind_sound f h (Slot o d) t = slot_sound l bytes rs all o d t
    kind_sound f h (Group node) t = group_sound (struct_brand t)
      where
        group_sound : (o : Option ℕ) → RecordSound (group_record f o)
        group_sound None = (tt, tt)
        group_sound (Some b) = h b

    plain_sound : (v : TypedField → Value) → ((f : TypedField) → Sound (v f)) → (fs : List TypedField) → AllSound (non_union_parts v fs)
    plain_sound v h [] = tt
    plain_sound v h (f ∷ fs) = (go (is_member f.field), plain_sound v h fs)
      where
        go : (q : Bool) → Sound (elim q as (λ _. Value) [ true ↦ value.Elsewhere | false ↦ v f ])
        go true = tt
        go false = h f

    active_sound : (v : TypedField → Value) → ((f : TypedField) → Sound (v f)) → (fs : List TypedField) (i d : ℕ) → UnionSound (active_among v fs i d)
    active_sound v h [] i d = tt
    active_sound v h (f ∷ fs) i d = go (is_member f.field && (f.field.discriminant_value == d)) (active_sound v h fs (suc i) d)
      where
        go : (q : Bool) → UnionSound (active_among v fs (suc i) d) → UnionSound (elim q as (λ _. Union) [ true ↦ Active i (v f) | false ↦ active_among v fs (suc i) d ])
        go true later = h f
        go false later = later

    union_sound : (v : TypedField → Value) → ((f : TypedField) → Sound (v f)) → (n : Node) (fs : List TypedField) → UnionSound (union_of v n fs bytes)
    union_sound v h n fs = go (n.discriminant_count == 0) (active_sound v h fs 0 (discriminant n bytes))
      where
        go : (q : Bool) → UnionSound (active_among v fs 0 (discriminant n bytes)) → UnionSound (elim q as (λ _. Union) [ true ↦ NoUnion | false ↦ active_among v fs 0 (discriminant n bytes) ])
        go true h = tt
        go false h = h

    record_sound : (n b : ℕ) → RecordSound (record_within n set l bytes rs b)
    record_sound zero b = (tt, tt)
    record_sound (suc n) b = go (record_sound n)
      where
        go : ((c : ℕ) → RecordSound (record_within n set l bytes rs c)) → RecordSound (record_within (suc n) set l bytes rs b)
        go ih =
            let each : (f : TypedField) → Sound (kind_value (record_within n set l bytes rs) l bytes rs f.field.kind f.type) =
            λ f. kind_sound (record_within n set l bytes rs) ih f.field.kind f.type in
            (plain_sound _ each (fields_of set b), union_sound _ each (node_of set b) (fields_of set b))

  record BelowSound (below : Below) : Type 0 where
    pub pointers : AllReadings below.pointers
    pub element_pointers : (i : ℕ) → ReadingSound (below.element_pointer i)
    pub element_bodies : (i : ℕ) → AllReadings (below.element_body i).pointers

  element_sound : (x : Tree) (below : Below) → BelowSound below → (l : Levels) (e : SchemaType) (i : ℕ) → Sound (element_value set x below l e i)
  element_sound x below all l VoidType i = tt
  element_sound x below all l BoolType i = tt
  element_sound x below all l (IntType k) i = tt
  element_sound x below all l (UIntType k) i = tt
  element_sound x below all l (EnumType m) i = tt
  element_sound x below all l TextType i = all.element_pointers i l TextType
  element_sound x below all l DataType i = all.element_pointers i l DataType
  element_sound x below all l (StructType b g) i =
      entered_sound l _ (record_sound (one_less l) (below.element_body i).bytes (below.element_body i).pointers (all.element_bodies i) (suc (length set.brands)) b)
  element_sound x below all l (ListType t) i = all.element_pointers i l (ListType t)
  element_sound x below all l AnyPointerType i = all.element_pointers i l AnyPointerType

  tree_sound : (x : Tree) (below : Below) → BelowSound below → ReadingSound (tree_value set x below)
  tree_sound x below all l VoidType = tt
  tree_sound x below all l BoolType = tt
  tree_sound x below all l (IntType k) = tt
  tree_sound x below all l (UIntType k) = tt
  tree_sound x below all l (EnumType m) = tt
  tree_sound x below all l TextType = read_sound value.Text (as_text x) (λ bytes. tt) (as_text_told x)
  tree_sound x below all l DataType = read_sound value.Data (as_data x) (λ bytes. tt) (as_data_told x)
  tree_sound x below all l (StructType b g) =
      read_sound (λ (s : StructTree). value.Struct (record_of set (one_less l) s.bytes below.pointers b)) (as_struct x (levels_asked l))
      (λ s. record_sound (one_less l) s.bytes below.pointers all.pointers (suc (length set.brands)) b) (as_struct_told x (levels_asked l))
  tree_sound x below all l (ListType e) =
      read_sound (λ (_ : Tree). elements_value set x below (one_less l) e) (as_list (element_size e) x (levels_asked l))
      (λ _. row_sound (element_value set x below (one_less l) e) (element_sound x below all (one_less l) e) 0 (list_length x)) (as_list_told (element_size e) x (levels_asked l))
  tree_sound x below all l AnyPointerType = tt

  -- ---- what stands below ----

  struct_below_sound : (rs : List Reading) → AllReadings rs → BelowSound (struct_below rs)
  struct_below_sound rs all = record { pointers = all; element_pointers = λ i. null_sound; element_bodies = λ i. tt }

  bytes_below_sound : (x : Tree) → BelowSound (bytes_below x)
  bytes_below_sound x = record { pointers = tt; element_pointers = λ i. null_sound; element_bodies = λ i. tt }

  only_sound : (rs : List Reading) → AllReadings rs → (i : ℕ) → AllReadings (only_reading rs i)
  only_sound [] all i = tt
  only_sound (r ∷ rs) all zero = (all.0, tt)
  only_sound (r ∷ rs) all (suc i) = only_sound rs all.1 i

  pointers_below_sound : (rs : List Reading) → AllReadings rs → BelowSound (pointers_below rs)
  pointers_below_sound rs all = record { pointers = tt; element_pointers = nth_sound rs all; element_bodies = only_sound rs all }

  first_sound : (body : Body) → AllReadings body.pointers → ReadingSound (first_pointer set body)
  first_sound body all l t = go (is_there (nth_reading body.pointers 0 l t) && (levels_asked l == 0))
    where
      go : (q : Bool) → Sound (elim q as (λ _. Value) [ true ↦ tree_value set (tree.FaultLeaf fault.TooDeep) (struct_below []) l t | false ↦ nth_reading body.pointers 0 (one_less l) t ])
      go true = tree_sound (tree.FaultLeaf fault.TooDeep) (struct_below []) (struct_below_sound [] tt) l t
      go false = nth_sound body.pointers all 0 (one_less l) t

  nth_body_sound : (bs : List Body) → AllBodies bs → (i : ℕ) → AllReadings (nth_body bs i).pointers
  nth_body_sound [] all i = tt
  nth_body_sound (b ∷ bs) all zero = all.0
  nth_body_sound (b ∷ bs) all (suc i) = nth_body_sound bs all.1 i

  structs_below_sound : (bs : List Body) → AllBodies bs → BelowSound (structs_below set bs)
  structs_below_sound bs all = record { pointers = tt; element_pointers = λ i. first_sound (nth_body bs i) (nth_body_sound bs all i); element_bodies = nth_body_sound bs all }

  mutual
    pub value_of_sound : (x : Tree) → ReadingSound (value_of set x)
    value_of_sound tree.Null = null_sound
    value_of_sound (tree.Struct bytes ps) = tree_sound (tree.Struct bytes ps) (struct_below (values_of set ps)) (struct_below_sound (values_of set ps) (values_of_sound ps))
    value_of_sound (tree.Voids n) = tree_sound (tree.Voids n) (bytes_below (tree.Voids n)) (bytes_below_sound (tree.Voids n))
    value_of_sound (tree.Bits bs) = tree_sound (tree.Bits bs) (bytes_below (tree.Bits bs)) (bytes_below_sound (tree.Bits bs))
    value_of_sound (tree.Numbers w bytes) = tree_sound (tree.Numbers w bytes) (bytes_below (tree.Numbers w bytes)) (bytes_below_sound (tree.Numbers w bytes))
    value_of_sound (tree.Pointers ps) = tree_sound (tree.Pointers ps) (pointers_below (values_of set ps)) (pointers_below_sound (values_of set ps) (values_of_sound ps))
    value_of_sound (tree.Composite d p es) = tree_sound (tree.Composite d p es) (structs_below set (bodies_of set es)) (structs_below_sound (bodies_of set es) (bodies_of_sound es))
    value_of_sound (tree.FaultLeaf k) = tree_sound (tree.FaultLeaf k) (struct_below []) (struct_below_sound [] tt)

    values_of_sound : (xs : Trees) → AllReadings (values_of set xs)
    values_of_sound tree.NoTrees = tt
    values_of_sound (tree.MoreTrees x xs) = (value_of_sound x, values_of_sound xs)

    bodies_of_sound : (es : Structs) → AllBodies (bodies_of set es)
    bodies_of_sound tree.NoStructs = tt
    bodies_of_sound (tree.MoreStructs bytes ps es) = (values_of_sound ps, bodies_of_sound es)

  -- ---- what is read in the place of a missing part ----

  empty_sound : (l : Levels) (t : SchemaType) → Sound (empty_value set l t)
  empty_sound l TextType = tt
  empty_sound l DataType = tt
  empty_sound l (StructType b g) = record_sound (one_less l) [] [] tt (suc (length set.brands)) b
  empty_sound l (ListType e) = tt
  empty_sound l t = tt

  unless_null_sound : (l : Levels) (t : SchemaType) (x : Tree) → Sound (unless_null set l t x)
  unless_null_sound l t x = go (is_null_tree x)
    where
      go : (q : Bool) → Sound (elim q as (λ _. Value) [ true ↦ empty_value set l t | false ↦ value_of set x (default_levels l) t ])
      go true = empty_sound l t
      go false = value_of_sound x (default_levels l) t

  default_sound : (l : Levels) (d : SchemaValue) (t : SchemaType) → Sound (default_value set l d t)
  default_sound l (TextValue bytes) TextType = tt
  default_sound l (DataValue bytes) DataType = tt
  default_sound l (StructValue words) (StructType b g) = entered_sound l _ (unless_null_sound l (StructType b g) (words_root words))
  default_sound l (ListValue words) (ListType e) = entered_sound l _ (unless_null_sound l (ListType e) (words_root words))
  default_sound l d (StructType b g) = entered_sound l _ (empty_sound l (StructType b g))
  default_sound l d (ListType e) = entered_sound l _ (empty_sound l (ListType e))
  default_sound l d t = empty_sound l t

  pub read_of_sound : (d : SchemaValue) (t : SchemaType) (v : Value) → Sound v → Sound (read_of set d t v)
  read_of_sound d t (value.Missing l) h = default_sound l d t
  read_of_sound d t v h = h

  -- ---- a record's parts ----

  pub reads_sound : (s : StructTree) (b : ℕ) → RecordSound (reads set s b)
  reads_sound s b = record_sound Endless s.bytes (values_of set s.pointers) (values_of_sound s.pointers) (suc (length set.brands)) b

pub nth_value_sound : (vs : Values) → AllSound vs → (i : ℕ) → Sound (nth_value vs i)
nth_value_sound NoValues h i = tt
nth_value_sound (MoreValues v vs) h zero = h.0
nth_value_sound (MoreValues v vs) h (suc i) = nth_value_sound vs h.1 i

active_value_sound : (u : Union) → UnionSound u → Sound (active_value u)
active_value_sound NoUnion h = tt
active_value_sound (Active i v) h = h
active_value_sound (Unknown n) h = tt

pub part_sound : (r : Record) → RecordSound r → (f : Field) (i : ℕ) → Sound (part_at r f i)
part_sound (Parts vs u) h f i = go (is_member f)
  where
    go : (q : Bool) → Sound (elim q as (λ _. Value) [ true ↦ active_value u | false ↦ nth_value vs i ])
    go true = active_value_sound u h.1
    go false = nth_value_sound vs h.0 i
