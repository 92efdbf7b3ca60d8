-- A message reads under a brand of an embedded set as it did under the brand in its own set.
use Rattle.std.specs.Prelude.{⊤}
use Rattle.std.proofs.Common.{ℕ, zero, suc, ◌+◌, ◌<◌, ◌≡◌, refl, Bool, true, false, ◌&&◌, ◌==◌, List, [], ◌∷◌, length, map, slice_get, arith, ap, ap₂, sym, ◌∙◌, Some, Result, Ok, Err}
use Rattle.std.specs.Option.{unwrap_or}
use Rattle.capnp_wire.specs.Tree as tree
use Rattle.capnp_wire.specs.Tree.{Tree, Trees, Structs, StructTree}
use Rattle.capnp_wire.specs.Reading.{as_list, as_struct, list_length}
use Rattle.capnp_wire.specs.declared.fault.Fault.TheVariants as fault
use Rattle.capnp_device.specs.declared.error.ErrorKind.{ErrorKind}
use Rattle.capnp_schema.specs.Types.{SchemaType, VoidType, BoolType, IntType, UIntType, EnumType, TextType, DataType, StructType, ListType, AnyPointerType, element_size, struct_brand}
use Rattle.capnp_schema.specs.Schema.{Schemas, Node, FieldKind, Slot, Group, TypedField, no_field, is_member, node_of, fields_of, field_at, Value as SchemaValue}
use Rattle.capnp_schema.specs.Accepted.{IsAccepted, IsGroupOf, NamesEntries}
use Rattle.capnp_schema.specs.Facts.Groups.{IsShallow, group_in_set, is_shallow}
use Rattle.capnp_records.specs.Record as value
use Rattle.capnp_records.specs.Record.{Levels, Value, Record, Parts, NoUnion, Active, MoreValues, is_there, levels_asked, one_less, values_from}
use Rattle.capnp_records.specs.Reading.{Below, Body, Reading, active_among, bodies_of, bytes_below, discriminant, element_value, elements_value, entered_value, first_pointer, group_record, kind_value, non_union_parts, nth_body, nth_reading, null, of_read, only_reading, pointers_below, record_of, record_within, slot_value, struct_below, struct_record, structs_below, tree_value, union_of, value_of, values_of}
use Rattle.capnp_records.specs.Facts.Groups.{record_within_more}
use Rattle.capnp_joined_sets.specs.declared.moves.Moves.{Moves}
use Rattle.capnp_joined_sets.specs.Joined.{moved_kind, moved_node, moved_type}
use Rattle.capnp_joined_sets.proofs.Embedded.{IsIn, fields_in, moved_typed, node_in}
use Rattle.capnp_joined_sets.proofs.MovedTypes.{same_elements}

-- ---- parts of records ----

same_choice : {A : Type 0} (q : Bool) (a b c d : A) → a ≡ c → b ≡ d → elim q as (λ _. A) [ true ↦ a | false ↦ b ] ≡ elim q as (λ _. A) [ true ↦ c | false ↦ d ]
same_choice true a b c d e f = e
same_choice false a b c d e f = f

non_union_same : (by : Moves) (v w : TypedField → Value) (fs : List TypedField) →
    ((j : ℕ) → j < length fs → v (moved_typed by (unwrap_or (slice_get fs j) no_field)) ≡ w (unwrap_or (slice_get fs j) no_field)) →
    non_union_parts v (map (moved_typed by) fs) ≡ non_union_parts w fs
non_union_same by v w [] h = refl
non_union_same by v w (f ∷ fs) h =
    ap₂ MoreValues (same_choice (is_member f.field) value.Elsewhere (v (moved_typed by f)) value.Elsewhere (w f) refl (h 0 (omega arith)))
    (non_union_same by v w fs (λ j below. h (suc j) (omega arith)))

active_same : (by : Moves) (v w : TypedField → Value) (fs : List TypedField) (index number : ℕ) →
    ((j : ℕ) → j < length fs → v (moved_typed by (unwrap_or (slice_get fs j) no_field)) ≡ w (unwrap_or (slice_get fs j) no_field)) →
    active_among v (map (moved_typed by) fs) index number ≡ active_among w fs index number
active_same by v w [] index number h = refl
active_same by v w (f ∷ fs) index number h =
    same_choice (is_member f.field && (f.field.discriminant_value == number)) (Active index (v (moved_typed by f))) (active_among v (map (moved_typed by) fs) (suc index) number) (Active index (w f)) (active_among w fs (suc index) number)
    (ap (Active index) (h 0 (omega arith)))
    (active_same by v w fs (suc index) number (λ j below. h (suc j) (omega arith)))

read_same : {A : Type 0} (f g : A → Value) → ((a : A) → f a ≡ g a) → (r : Result A ErrorKind) → of_read f r ≡ of_read g r
read_same f g h (Ok a) = h a
read_same f g h (Err kind) = refl

from_same : (f g : ℕ → Value) → ((i : ℕ) → f i ≡ g i) → (first count : ℕ) → values_from f first count ≡ values_from g first count
from_same f g h first zero = refl
from_same f g h first (suc count) = ap₂ MoreValues (h first) (from_same f g h (suc first) count)

more_fuel : (more n : ℕ) (set : Schemas) (l : Levels) (bytes : List ℕ) (rs : List Reading) (b : ℕ) → IsShallow n set b → record_within n set l bytes rs b ≡ record_within (more + n) set l bytes rs b
more_fuel zero n set l bytes rs b h = let e : n ≡ 0 + n = omega arith in ap (λ k. record_within k set l bytes rs b) e
more_fuel (suc more) n set l bytes rs b h =
    let e : more + suc n ≡ suc more + n = omega arith in
    record_within_more n set l bytes rs b h ∙ more_fuel more (suc n) set l bytes rs b (shallower n set b h) ∙ ap (λ k. record_within k set l bytes rs b) e
  where
    shallower : (n : ℕ) (set : Schemas) (b : ℕ) → IsShallow n set b → IsShallow (suc n) set b
    shallower zero set b h = absurd h
    shallower (suc n) set b h = λ i below g names. shallower n set g (h i below g names)

-- ---- readings ----

module _ (by : Moves) (s t : Schemas) (accepted : IsAccepted s) (within : IsIn by s t) (more : ℕ) (counted : length t.brands ≡ more + length s.brands) where
  -- under each type of the first set, moved, one reads as the other does under the type
  abbrev Same : Reading → Reading → Type 0
  Same new old = (l : Levels) (x : SchemaType) → NamesEntries s x → new l (moved_type by x) ≡ old l x

  abbrev AllSame : List Reading → List Reading → Type 0
  AllSame [] [] = ⊤
  AllSame [] (r ∷ rs) = ⊥
  AllSame (q ∷ qs) [] = ⊥
  AllSame (q ∷ qs) (r ∷ rs) = Same q r × AllSame qs rs

  abbrev SameBody : Body → Body → Type 0
  SameBody new old = (new.bytes ≡ old.bytes) × AllSame new.pointers old.pointers

  abbrev AllSameBodies : List Body → List Body → Type 0
  AllSameBodies [] [] = ⊤
  AllSameBodies [] (r ∷ rs) = ⊥
  AllSameBodies (q ∷ qs) [] = ⊥
  AllSameBodies (q ∷ qs) (r ∷ rs) = SameBody q r × AllSameBodies qs rs

  record SameBelow (new old : Below) : Type 0 where
    pointers : AllSame new.pointers old.pointers
    element_pointer : (i : ℕ) → Same (new.element_pointer i) (old.element_pointer i)
    element_body : (i : ℕ) → SameBody (new.element_body i) (old.element_body i)

  null_same : Same null null
  null_same l x named = refl

  nth_same : (qs rs : List Reading) → AllSame qs rs → (i : ℕ) → Same (nth_reading qs i) (nth_reading rs i)
  nth_same [] [] h i = null_same
  nth_same [] (r ∷ rs) h i = absurd h
  nth_same (q ∷ qs) [] h i = absurd h
  nth_same (q ∷ qs) (r ∷ rs) h zero = h.0
  nth_same (q ∷ qs) (r ∷ rs) h (suc i) = nth_same qs rs h.1 i

  only_same : (qs rs : List Reading) → AllSame qs rs → (i : ℕ) → AllSame (only_reading qs i) (only_reading rs i)
  only_same [] [] h i = tt
  only_same [] (r ∷ rs) h i = absurd h
  only_same (q ∷ qs) [] h i = absurd h
  only_same (q ∷ qs) (r ∷ rs) h zero = (h.0, tt)
  only_same (q ∷ qs) (r ∷ rs) h (suc i) = only_same qs rs h.1 i

  body_same : (qs rs : List Body) → AllSameBodies qs rs → (i : ℕ) → SameBody (nth_body qs i) (nth_body rs i)
  body_same [] [] h i = (refl, tt)
  body_same [] (r ∷ rs) h i = absurd h
  body_same (q ∷ qs) [] h i = absurd h
  body_same (q ∷ qs) (r ∷ rs) h zero = h.0
  body_same (q ∷ qs) (r ∷ rs) h (suc i) = body_same qs rs h.1 i

  -- ---- records ----

  module _ (l : Levels) (bytes : List ℕ) (qs rs : List Reading) (same : AllSame qs rs) where
    slot_same : (offset : ℕ) (default : SchemaValue) (x : SchemaType) → NamesEntries s x → slot_value l bytes qs offset default (moved_type by x) ≡ slot_value l bytes rs offset default x
    slot_same offset default VoidType named = refl
    slot_same offset default BoolType named = refl
    slot_same offset default (IntType width) named = refl
    slot_same offset default (UIntType width) named = refl
    slot_same offset default (EnumType number) named = refl
    slot_same offset default TextType named = nth_same qs rs same offset l TextType named
    slot_same offset default DataType named = nth_same qs rs same offset l DataType named
    slot_same offset default (StructType number generic) named = nth_same qs rs same offset l (StructType number generic) named
    slot_same offset default (ListType element) named = nth_same qs rs same offset l (ListType element) named
    slot_same offset default AnyPointerType named = nth_same qs rs same offset l AnyPointerType named

    group_same : (new old : ℕ → Record) (x : SchemaType) → ((g : ℕ) → struct_brand x ≡ Some g → new (g + by.brands) ≡ old g) →
        group_record new (struct_brand (moved_type by x)) ≡ group_record old (struct_brand x)
    group_same new old VoidType h = refl
    group_same new old BoolType h = refl
    group_same new old (IntType width) h = refl
    group_same new old (UIntType width) h = refl
    group_same new old (EnumType number) h = refl
    group_same new old TextType h = refl
    group_same new old DataType h = refl
    group_same new old (StructType number generic) h = h number refl
    group_same new old (ListType element) h = refl
    group_same new old AnyPointerType h = refl

    kind_same : (new old : ℕ → Record) (k : FieldKind) (x : SchemaType) → NamesEntries s x → ((g : ℕ) → IsGroupOf k x g → new (g + by.brands) ≡ old g) →
        kind_value new l bytes qs (moved_kind by k) (moved_type by x) ≡ kind_value old l bytes rs k x
    kind_same new old (Slot offset default) x named h = slot_same offset default x named
    kind_same new old (Group node) x named h = ap value.Group (group_same new old x h)

    union_same : (v w : TypedField → Value) (n : Node) (fs : List TypedField) →
        ((j : ℕ) → j < length fs → v (moved_typed by (unwrap_or (slice_get fs j) no_field)) ≡ w (unwrap_or (slice_get fs j) no_field)) →
        union_of v (moved_node by n) (map (moved_typed by) fs) bytes ≡ union_of w n fs bytes
    union_same v w n fs h = same_choice (n.discriminant_count == 0) NoUnion _ NoUnion _ refl (active_same by v w fs 0 (discriminant n bytes) h)

    -- what a field has, through so many groups
    abbrev new_part : ℕ → TypedField → Value
    new_part n f = kind_value (record_within n t l bytes qs) l bytes qs f.field.kind f.type

    abbrev old_part : ℕ → TypedField → Value
    old_part n f = kind_value (record_within n s l bytes rs) l bytes rs f.field.kind f.type

    within_same : (n b : ℕ) → b < length s.brands → record_within n t l bytes qs (b + by.brands) ≡ record_within n s l bytes rs b
    within_same zero b below = refl
    within_same (suc n) b below = go (within_same n)
      where
        go : ((g : ℕ) → g < length s.brands → record_within n t l bytes qs (g + by.brands) ≡ record_within n s l bytes rs g) →
            record_within (suc n) t l bytes qs (b + by.brands) ≡ record_within (suc n) s l bytes rs b
        go ih =
            ap₂ (λ (fs : List TypedField) (node : Node). Parts (non_union_parts (new_part n) fs) (union_of (new_part n) node fs bytes)) (fields_in by s t accepted within b below) (node_in by s t accepted within b below)
            ∙ ap₂ Parts (non_union_same by (new_part n) (old_part n) (fields_of s b) parts) (union_same (new_part n) (old_part n) (node_of s b) (fields_of s b) parts)
          where
            parts : (j : ℕ) → j < length (fields_of s b) → (new_part n) (moved_typed by (field_at s b j)) ≡ (old_part n) (field_at s b j)
            parts j there = kind_same (record_within n t l bytes qs) (record_within n s l bytes rs) (field_at s b j).field.kind (field_at s b j).type (accepted.rule1.fields b j below there)
                (λ g names. ih g (group_in_set s accepted b j g below there names))

    record_same : (b : ℕ) → b < length s.brands → record_of t l bytes qs (b + by.brands) ≡ record_of s l bytes rs b
    record_same b below =
        let e : suc (length t.brands) ≡ more + suc (length s.brands) = omega arith in
        within_same (suc (length t.brands)) b below
        ∙ ap (λ k. record_within k s l bytes rs b) e
        ∙ sym (more_fuel more (suc (length s.brands)) s l bytes rs b (is_shallow s accepted b below))

  -- ---- values ----

  element_same : (x : Tree) (new old : Below) → SameBelow new old → (l : Levels) (e : SchemaType) → NamesEntries s e → (i : ℕ) → element_value t x new l (moved_type by e) i ≡ element_value s x old l e i
  element_same x new old h l VoidType named i = refl
  element_same x new old h l BoolType named i = refl
  element_same x new old h l (IntType width) named i = refl
  element_same x new old h l (UIntType width) named i = refl
  element_same x new old h l (EnumType number) named i = refl
  element_same x new old h l TextType named i = h.element_pointer i l TextType named
  element_same x new old h l DataType named i = h.element_pointer i l DataType named
  element_same x new old h l (StructType number generic) named i =
      ap (λ r. entered_value l (value.Struct r))
      (ap (λ bytes. record_of t (one_less l) bytes (new.element_body i).pointers (number + by.brands)) (h.element_body i).0
      ∙ record_same (one_less l) (old.element_body i).bytes (new.element_body i).pointers (old.element_body i).pointers (h.element_body i).1 number named.0)
  element_same x new old h l (ListType element) named i = h.element_pointer i l (ListType element) named
  element_same x new old h l AnyPointerType named i = h.element_pointer i l AnyPointerType named

  tree_same : (x : Tree) (new old : Below) → SameBelow new old → Same (tree_value t x new) (tree_value s x old)
  tree_same x new old h l VoidType named = refl
  tree_same x new old h l BoolType named = refl
  tree_same x new old h l (IntType width) named = refl
  tree_same x new old h l (UIntType width) named = refl
  tree_same x new old h l (EnumType number) named = refl
  tree_same x new old h l TextType named = refl
  tree_same x new old h l DataType named = refl
  tree_same x new old h l (StructType number generic) named =
      read_same _ _ (λ (y : StructTree). ap value.Struct (record_same (one_less l) y.bytes new.pointers old.pointers h.pointers number named.0)) (as_struct x (levels_asked l))
  tree_same x new old h l (ListType element) named =
      ap (λ size. of_read (λ _. elements_value t x new (one_less l) (moved_type by element)) (as_list size x (levels_asked l))) (same_elements by element)
      ∙ read_same _ _ (λ _. ap value.Elements (from_same _ _ (element_same x new old h (one_less l) element named) 0 (list_length x))) (as_list (element_size element) x (levels_asked l))
  tree_same x new old h l AnyPointerType named = refl

  -- ---- what stands below trees ----

  bytes_same : (x : Tree) → SameBelow (bytes_below x) (bytes_below x)
  bytes_same x = record { pointers = tt; element_pointer = λ i. null_same; element_body = λ i. (refl, tt) }

  struct_same : (qs rs : List Reading) → AllSame qs rs → SameBelow (struct_below qs) (struct_below rs)
  struct_same qs rs h = record { pointers = h; element_pointer = λ i. null_same; element_body = λ i. (refl, tt) }

  pointers_same : (qs rs : List Reading) → AllSame qs rs → SameBelow (pointers_below qs) (pointers_below rs)
  pointers_same qs rs h = record { pointers = tt; element_pointer = nth_same qs rs h; element_body = λ i. (refl, only_same qs rs h i) }

  first_same : (q r : Body) → SameBody q r → Same (first_pointer t q) (first_pointer s r)
  first_same q r h l x named =
      ap (λ v. elim (is_there v && (levels_asked l == 0)) as (λ _. Value) [
        | true ↦ tree_value t (tree.FaultLeaf fault.TooDeep) (struct_below []) l (moved_type by x)
        | false ↦ nth_reading q.pointers 0 (one_less l) (moved_type by x)
      ]) (nth_same q.pointers r.pointers h.1 0 l x named)
      ∙ same_choice (is_there (nth_reading r.pointers 0 l x) && (levels_asked l == 0)) _ _ _ _
      (tree_same (tree.FaultLeaf fault.TooDeep) (struct_below []) (struct_below []) (struct_same [] [] tt) l x named)
      (nth_same q.pointers r.pointers h.1 0 (one_less l) x named)

  structs_same : (qs rs : List Body) → AllSameBodies qs rs → SameBelow (structs_below t qs) (structs_below s rs)
  structs_same qs rs h = record {
    pointers = tt;
    element_pointer = λ i. first_same (nth_body qs i) (nth_body rs i) (body_same qs rs h i);
    element_body = body_same qs rs h;
  }

  mutual
    value_same : (x : Tree) → Same (value_of t x) (value_of s x)
    value_same tree.Null = null_same
    value_same (tree.Struct bytes ps) = tree_same (tree.Struct bytes ps) (struct_below (values_of t ps)) (struct_below (values_of s ps)) (struct_same (values_of t ps) (values_of s ps) (values_same ps))
    value_same (tree.Voids n) = tree_same (tree.Voids n) (bytes_below (tree.Voids n)) (bytes_below (tree.Voids n)) (bytes_same (tree.Voids n))
    value_same (tree.Bits bs) = tree_same (tree.Bits bs) (bytes_below (tree.Bits bs)) (bytes_below (tree.Bits bs)) (bytes_same (tree.Bits bs))
    value_same (tree.Numbers w bytes) = tree_same (tree.Numbers w bytes) (bytes_below (tree.Numbers w bytes)) (bytes_below (tree.Numbers w bytes)) (bytes_same (tree.Numbers w bytes))
    value_same (tree.Pointers ps) = tree_same (tree.Pointers ps) (pointers_below (values_of t ps)) (pointers_below (values_of s ps)) (pointers_same (values_of t ps) (values_of s ps) (values_same ps))
    value_same (tree.Composite d p es) = tree_same (tree.Composite d p es) (structs_below t (bodies_of t es)) (structs_below s (bodies_of s es)) (structs_same (bodies_of t es) (bodies_of s es) (bodies_same es))
    value_same (tree.FaultLeaf k) = tree_same (tree.FaultLeaf k) (struct_below []) (struct_below []) (struct_same [] [] tt)

    values_same : (xs : Trees) → AllSame (values_of t xs) (values_of s xs)
    values_same tree.NoTrees = tt
    values_same (tree.MoreTrees x xs) = (value_same x, values_same xs)

    bodies_same : (es : Structs) → AllSameBodies (bodies_of t es) (bodies_of s es)
    bodies_same tree.NoStructs = tt
    bodies_same (tree.MoreStructs bytes ps es) = ((refl, values_same ps), bodies_same es)

  -- a struct reads under a brand's new number as it did
  pub reads_same : (b : ℕ) → b < length s.brands → (l : Levels) (x : StructTree) → struct_record t l x (b + by.brands) ≡ struct_record s l x b
  reads_same b below l x = record_same l x.bytes (values_of t x.pointers) (values_of s x.pointers) (values_same x.pointers) b below
