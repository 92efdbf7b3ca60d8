-- What a reader with few levels has of a tree that is cut off further down is what it has of the whole one, trees behind
-- untyped pointers aside.
use Rattle.std.proofs.Common.{ℕ, zero, suc, ◌-◌, ◌<◌, ◌≡◌, refl, List, [], ◌∷◌, Bool, true, false, cond, ◌&&◌, ◌==◌, length, Option, Some, None, Ok, Err, ap, ap₂, arith, sym, subst, ◌∙◌}
use Rattle.std.proofs.lemmas.Bool.{true≢false}
use Rattle.capnp_device.specs.declared.error.ErrorKind.{ErrorKind}
use Rattle.capnp_device.specs.declared.error.ErrorKind.TheVariants.{TooDeep, WrongElementSize, WrongPointerKind}
use Rattle.capnp_wire.specs.Reading.{reads_pointers, reads_structs}
use Rattle.capnp_wire.specs.Slot.{number_at}
use Rattle.capnp_wire.specs.Tree as tree
use Rattle.capnp_wire.specs.Tree.{StructTree, Structs, Tree, Trees, nth_struct, nth_tree, only_tree, struct_count, tree_count}
use Rattle.capnp_wire.specs.declared.fault.Fault.TheVariants as fault
use Rattle.capnp_arena.specs.Same.{SameElements, SameParts, SameRow, SameTo}
use Rattle.capnp_schema.specs.Schema.{FieldKind, Group, Node, Schemas, Slot, TypedField, fields_of, is_member, node_of, Value as SchemaValue}
use Rattle.capnp_schema.specs.SlotValue.{slot_number}
use Rattle.capnp_schema.specs.Types.{AnyPointerType, DataType, EnumType, IntType, ListType, SchemaType, StructType, TextType, UIntType, element_size, is_pointer, struct_brand}
use Rattle.capnp_records.specs.Facts.ListValues.{body_of, nth_body_is, only_reading_is}
use Rattle.capnp_records.specs.Facts.Pointers.{values_of_nth}
use Rattle.capnp_records.specs.Reading.{Body, Reading, active_among, bodies_of, discriminant, element_value, elements_value, entered_value, first_pointer, group_record, kind_value, nth_body, nth_reading, number_value, of_read, only_reading, non_union_parts, pointers_below, record_of, record_within, slot_value, struct_below, struct_record, structs_below, tree_value, union_of, value_of, values_of}
use Rattle.capnp_records.specs.Record as value
use Rattle.capnp_records.specs.Record.{Active, Left, Levels, MoreValues, NoUnion, Parts, Record, Union, Value, is_there, one_less, values_from}
use Rattle.capnp_call.proofs.Trimmed.{trimmed, trimmed_there, trimmed_record, trimmed_union, trimmed_values}

-- ---- records ----

module _ (set : Schemas) (m : ℕ) (bytes : List ℕ) (rs ss : List Reading) (each : (i : ℕ) (t : SchemaType) → trimmed (nth_reading rs i (Left m) t) ≡ trimmed (nth_reading ss i (Left m) t)) where
  abbrev RecordsAlike : (ℕ → Record) → (ℕ → Record) → Type 0
  RecordsAlike f g = (b : ℕ) → trimmed_record (f b) ≡ trimmed_record (g b)

  slot_alike : (o : ℕ) (d : SchemaValue) (t : SchemaType) → trimmed (slot_value (Left m) bytes rs o d t) ≡ trimmed (slot_value (Left m) bytes ss o d t)
  slot_alike o d t = go (is_pointer t)
    where
      go : (q : Bool) → trimmed (elim q as (λ _. Value) [ true ↦ nth_reading rs o (Left m) t | false ↦ number_value t (slot_number bytes o d t) ]) ≡ trimmed (elim q as (λ _. Value) [ true ↦ nth_reading ss o (Left m) t | false ↦ number_value t (slot_number bytes o d t) ])
      go true = each o t
      go false = refl

  kind_alike : (f g : ℕ → Record) → RecordsAlike f g → (j : FieldKind) (t : SchemaType) → trimmed (kind_value f (Left m) bytes rs j t) ≡ trimmed (kind_value g (Left m) bytes ss j t)
  kind_alike f g h (Slot o d) t = slot_alike o d t
  kind_alike f g h (Group node) t = ap value.Group (group (struct_brand t))
    where
      group : (o : Option ℕ) → trimmed_record (group_record f o) ≡ trimmed_record (group_record g o)
      group None = refl
      group (Some b) = h b

  plain_alike : (v w : TypedField → Value) → ((f : TypedField) → trimmed (v f) ≡ trimmed (w f)) → (fs : List TypedField) → trimmed_values (non_union_parts v fs) ≡ trimmed_values (non_union_parts w fs)
  plain_alike v w h [] = refl
  plain_alike v w h (f ∷ fs) = ap₂ MoreValues (go (is_member f.field)) (plain_alike v w h fs)
    where
      go : (q : Bool) → trimmed (elim q as (λ _. Value) [ true ↦ value.Elsewhere | false ↦ v f ]) ≡ trimmed (elim q as (λ _. Value) [ true ↦ value.Elsewhere | false ↦ w f ])
      go true = refl
      go false = h f

  active_alike : (v w : TypedField → Value) → ((f : TypedField) → trimmed (v f) ≡ trimmed (w f)) → (fs : List TypedField) (i d : ℕ) → trimmed_union (active_among v fs i d) ≡ trimmed_union (active_among w fs i d)
  active_alike v w h [] i d = refl
  active_alike v w h (f ∷ fs) i d = go (is_member f.field && (f.field.discriminant_value == d)) (active_alike v w h fs (suc i) d)
    where
      go : (q : Bool) → trimmed_union (active_among v fs (suc i) d) ≡ trimmed_union (active_among w fs (suc i) d) →
          trimmed_union (elim q as (λ _. Union) [ true ↦ Active i (v f) | false ↦ active_among v fs (suc i) d ]) ≡ trimmed_union (elim q as (λ _. Union) [ true ↦ Active i (w f) | false ↦ active_among w fs (suc i) d ])
      go true later = ap (Active i) (h f)
      go false later = later

  union_alike : (v w : TypedField → Value) → ((f : TypedField) → trimmed (v f) ≡ trimmed (w f)) → (n : Node) (fs : List TypedField) → trimmed_union (union_of v n fs bytes) ≡ trimmed_union (union_of w n fs bytes)
  union_alike v w h n fs = go (n.discriminant_count == 0) (active_alike v w h fs 0 (discriminant n bytes))
    where
      go : (q : Bool) → trimmed_union (active_among v fs 0 (discriminant n bytes)) ≡ trimmed_union (active_among w fs 0 (discriminant n bytes)) →
          trimmed_union (elim q as (λ _. Union) [ true ↦ NoUnion | false ↦ active_among v fs 0 (discriminant n bytes) ]) ≡ trimmed_union (elim q as (λ _. Union) [ true ↦ NoUnion | false ↦ active_among w fs 0 (discriminant n bytes) ])
      go true h = refl
      go false h = h

  record_alike : (g : ℕ) → RecordsAlike (record_within g set (Left m) bytes rs) (record_within g set (Left m) bytes ss)
  record_alike zero b = refl
  record_alike (suc g) b = go (record_alike g)
    where
      v : TypedField → Value
      v f = kind_value (record_within g set (Left m) bytes rs) (Left m) bytes rs f.field.kind f.type

      w : TypedField → Value
      w f = kind_value (record_within g set (Left m) bytes ss) (Left m) bytes ss f.field.kind f.type

      go : RecordsAlike (record_within g set (Left m) bytes rs) (record_within g set (Left m) bytes ss) →
          trimmed_record (Parts (non_union_parts v (fields_of set b)) (union_of v (node_of set b) (fields_of set b) bytes)) ≡ trimmed_record (Parts (non_union_parts w (fields_of set b)) (union_of w (node_of set b) (fields_of set b) bytes))
      go ih =
          let h : (f : TypedField) → trimmed (v f) ≡ trimmed (w f) = λ f. kind_alike (record_within g set (Left m) bytes rs) (record_within g set (Left m) bytes ss) ih f.field.kind f.type in
          ap₂ Parts (plain_alike v w h (fields_of set b)) (union_alike v w h (node_of set b) (fields_of set b))

-- ---- rows ----

only_alike : (R : Tree → Tree → Type 0) → R tree.Null tree.Null → (ps qs : Trees) → SameRow R ps qs → (i k : ℕ) → R (nth_tree (only_tree ps i) k) (nth_tree (only_tree qs i) k)
only_alike R null tree.NoTrees tree.NoTrees h i k = null
only_alike R null tree.NoTrees (tree.MoreTrees q qs) h i k = absurd (omega (arith, h.0))
only_alike R null (tree.MoreTrees p ps) tree.NoTrees h i k = absurd (omega (arith, h.0))
only_alike R null (tree.MoreTrees p ps) (tree.MoreTrees q qs) h zero zero = h.1 0
only_alike R null (tree.MoreTrees p ps) (tree.MoreTrees q qs) h zero (suc k) = null
only_alike R null (tree.MoreTrees p ps) (tree.MoreTrees q qs) h (suc i) k = only_alike R null ps qs (omega (arith, h.0), λ j. h.1 (suc j)) i k

null_same : (n : ℕ) → SameTo n tree.Null tree.Null
null_same zero = tt
null_same (suc n) = refl

row_alike : (f g : ℕ → Value) → ((i : ℕ) → trimmed (f i) ≡ trimmed (g i)) → (a n k : ℕ) → k ≡ n → trimmed_values (values_from f a n) ≡ trimmed_values (values_from g a k)
row_alike f g h a zero zero e = refl
row_alike f g h a zero (suc k) e = absurd (omega (arith, e))
row_alike f g h a (suc n) zero e = absurd (omega (arith, e))
row_alike f g h a (suc n) (suc k) e = ap₂ MoreValues (h a) (row_alike f g h (suc a) n k (omega (arith, e)))

-- ---- trees ----

-- what is read with fewer levels than a number
abbrev Alike : ℕ → Reading → Reading → Type 0
Alike n r s = (l : ℕ) → l < n → (t : SchemaType) → trimmed (r (Left l) t) ≡ trimmed (s (Left l) t)

left_inside : (l n : ℕ) → l < suc n → (l == 0) ≡ false → l - 1 < n
left_inside l n h e = grind arith

module _ (set : Schemas) where
  -- a struct is entered
  entered_alike : (l n : ℕ) → l < suc n → (b : ℕ) (bytes other : List ℕ) (rs ss : List Reading) → other ≡ bytes → ((i : ℕ) → Alike n (nth_reading rs i) (nth_reading ss i)) →
      trimmed (entered_value (Left l) (value.Struct (record_of set (one_less (Left l)) bytes rs b))) ≡ trimmed (entered_value (Left l) (value.Struct (record_of set (one_less (Left l)) other ss b)))
  entered_alike l n h b bytes other rs ss same each = go (l == 0) refl
    where
      go : (q : Bool) → (l == 0) ≡ q → trimmed (elim q as (λ _. Value) [ true ↦ value.Fault TooDeep | false ↦ value.Struct (record_of set (Left (l - 1)) bytes rs b) ])
          ≡ trimmed (elim q as (λ _. Value) [ true ↦ value.Fault TooDeep | false ↦ value.Struct (record_of set (Left (l - 1)) other ss b) ])
      go true e = refl
      go false e =
          ap value.Struct (record_alike set (l - 1) bytes rs ss (λ i t. each i (l - 1) (left_inside l n h e) t) (suc (length set.brands)) b)
          ∙ ap (λ (x : List ℕ). trimmed (value.Struct (record_of set (Left (l - 1)) x ss b))) (sym same)

  refused_alike : {A : Type 0} (f g : A → Value) (kind : ErrorKind) (q : Bool) → trimmed (of_read f (cond q (Err TooDeep) (Err kind))) ≡ trimmed (of_read g (cond q (Err TooDeep) (Err kind)))
  refused_alike f g kind true = refl
  refused_alike f g kind false = refl

  -- a list is entered
  list_alike : (l n : ℕ) → l < suc n → (x y : Tree) (v w : Levels → Value) (reads : Bool) → ((k : ℕ) → k < n → trimmed (v (Left k)) ≡ trimmed (w (Left k))) →
      trimmed (of_read (λ (_ : Tree). v (one_less (Left l))) (cond (l == 0) (Err TooDeep) (cond reads (Ok x) (Err WrongElementSize))))
      ≡ trimmed (of_read (λ (_ : Tree). w (one_less (Left l))) (cond (l == 0) (Err TooDeep) (cond reads (Ok y) (Err WrongElementSize))))
  list_alike l n h x y v w reads each = go (l == 0) refl reads
    where
      go : (q : Bool) → (l == 0) ≡ q → (p : Bool) → trimmed (of_read (λ (_ : Tree). v (Left (l - 1))) (cond q (Err TooDeep) (cond p (Ok x) (Err WrongElementSize))))
          ≡ trimmed (of_read (λ (_ : Tree). w (Left (l - 1))) (cond q (Err TooDeep) (cond p (Ok y) (Err WrongElementSize))))
      go true e p = refl
      go false e true = each (l - 1) (left_inside l n h e)
      go false e false = refl

  -- the first pointer of an element
  first_alike : (n : ℕ) (a b : Body) → Alike n (nth_reading a.pointers 0) (nth_reading b.pointers 0) → Alike n (first_pointer set a) (first_pointer set b)
  first_alike n a b h l inside t =
      let r : Reading = nth_reading a.pointers 0 in
      let s : Reading = nth_reading b.pointers 0 in
      go (is_there (r (Left l) t) && (l == 0)) (is_there (s (Left l) t) && (l == 0))
      (ap (λ q. q && (l == 0)) (sym (trimmed_there (r (Left l) t)) ∙ (ap is_there (h l inside t) ∙ trimmed_there (s (Left l) t))))
    where
      go : (p q : Bool) → p ≡ q →
          trimmed (elim p as (λ _. Value) [ true ↦ tree_value set (tree.FaultLeaf fault.TooDeep) (struct_below []) (Left l) t | false ↦ nth_reading a.pointers 0 (Left (l - 1)) t ])
          ≡ trimmed (elim q as (λ _. Value) [ true ↦ tree_value set (tree.FaultLeaf fault.TooDeep) (struct_below []) (Left l) t | false ↦ nth_reading b.pointers 0 (Left (l - 1)) t ])
      go true true e = refl
      go false false e = h (l - 1) (omega (arith, inside)) t
      go true false e = absurd (true≢false e)
      go false true e = absurd (true≢false (sym e))

  body_alike : (n : ℕ) (a b : Body) (c d : Body) → a ≡ c → b ≡ d → ((i : ℕ) → Alike n (nth_reading c.pointers i) (nth_reading d.pointers i)) → (i : ℕ) → Alike n (nth_reading a.pointers i) (nth_reading b.pointers i)
  body_alike n a b c d e f h i = subst (λ (x : Body). Alike n (nth_reading x.pointers i) (nth_reading b.pointers i)) (sym e) (subst (λ (y : Body). Alike n (nth_reading c.pointers i) (nth_reading y.pointers i)) (sym f) (h i))

  module _ (n : ℕ) (further : (x y : Tree) → SameTo n x y → Alike n (value_of set x) (value_of set y)) where
    rows_alike : (ps qs : Trees) → ((i : ℕ) → SameTo n (nth_tree ps i) (nth_tree qs i)) → (i : ℕ) → Alike n (nth_reading (values_of set ps) i) (nth_reading (values_of set qs) i)
    rows_alike ps qs row i l inside t =
        ap (λ (r : Reading). trimmed (r (Left l) t)) (values_of_nth set ps i)
        ∙ (further (nth_tree ps i) (nth_tree qs i) (row i) l inside t ∙ ap (λ (r : Reading). trimmed (r (Left l) t)) (sym (values_of_nth set qs i)))

    struct_alike : (bytes : List ℕ) (ps qs : Trees) → SameRow (SameTo n) ps qs → Alike (suc n) (value_of set (tree.Struct bytes ps)) (value_of set (tree.Struct bytes qs))
    struct_alike bytes ps qs row l inside (StructType b g) = go (l == 0) (entered_alike l n inside b bytes bytes (values_of set ps) (values_of set qs) refl (rows_alike ps qs row.1))
      where
        go : (q : Bool) →
            trimmed (elim q as (λ _. Value) [ true ↦ value.Fault TooDeep | false ↦ value.Struct (record_of set (Left (l - 1)) bytes (values_of set ps) b) ])
            ≡ trimmed (elim q as (λ _. Value) [ true ↦ value.Fault TooDeep | false ↦ value.Struct (record_of set (Left (l - 1)) bytes (values_of set qs) b) ]) →
            trimmed (of_read (λ (s : StructTree). value.Struct (record_of set (Left (l - 1)) s.bytes (values_of set ps) b)) (cond q (Err TooDeep) (Ok (record { bytes = bytes; pointers = ps }))))
            ≡ trimmed (of_read (λ (s : StructTree). value.Struct (record_of set (Left (l - 1)) s.bytes (values_of set qs) b)) (cond q (Err TooDeep) (Ok (record { bytes = bytes; pointers = qs }))))
        go true h = h
        go false h = h
    struct_alike bytes ps qs row l inside (ListType e) = refused_alike _ _ WrongPointerKind (l == 0)
    struct_alike bytes ps qs row l inside t = refl

    pointer_element : (ps qs : Trees) → SameRow (SameTo n) ps qs → (l : ℕ) → l < n → (e : SchemaType) (i : ℕ) →
        trimmed (element_value set (tree.Pointers ps) (pointers_below (values_of set ps)) (Left l) e i) ≡ trimmed (element_value set (tree.Pointers qs) (pointers_below (values_of set qs)) (Left l) e i)
    pointer_element ps qs row l inside TextType i = rows_alike ps qs row.1 i l inside TextType
    pointer_element ps qs row l inside DataType i = rows_alike ps qs row.1 i l inside DataType
    pointer_element ps qs row l inside (ListType e) i = rows_alike ps qs row.1 i l inside (ListType e)
    pointer_element ps qs row l inside AnyPointerType i = rows_alike ps qs row.1 i l inside AnyPointerType
    pointer_element ps qs row l inside (StructType b g) i =
        entered_alike l n (omega (arith, inside)) b [] [] (only_reading (values_of set ps) i) (only_reading (values_of set qs) i) refl
        (λ j. subst (λ (rs : List Reading). Alike n (nth_reading rs j) (nth_reading (only_reading (values_of set qs) i) j)) (sym (only_reading_is set ps i))
        (subst (λ (ss : List Reading). Alike n (nth_reading (values_of set (only_tree ps i)) j) (nth_reading ss j)) (sym (only_reading_is set qs i))
        (rows_alike (only_tree ps i) (only_tree qs i) (only_alike (SameTo n) (null_same n) ps qs row i) j)))
    pointer_element ps qs row l inside e i = refl

    pointers_alike : (ps qs : Trees) → SameRow (SameTo n) ps qs → Alike (suc n) (value_of set (tree.Pointers ps)) (value_of set (tree.Pointers qs))
    pointers_alike ps qs row l inside (StructType b g) = refused_alike _ _ WrongPointerKind (l == 0)
    pointers_alike ps qs row l inside (ListType e) =
        list_alike l n inside (tree.Pointers ps) (tree.Pointers qs) (λ k. elements_value set (tree.Pointers ps) (pointers_below (values_of set ps)) k e) (λ k. elements_value set (tree.Pointers qs) (pointers_below (values_of set qs)) k e)
        (reads_pointers (element_size e))
        (λ k below. ap value.Elements (row_alike _ _ (λ i. pointer_element ps qs row k below e i) 0 (tree_count ps) (tree_count qs) row.0))
    pointers_alike ps qs row l inside t = refl

    bodies_alike : (es fs : Structs) → SameElements (SameTo n) es fs → (i j : ℕ) → Alike n (nth_reading (nth_body (bodies_of set es) i).pointers j) (nth_reading (nth_body (bodies_of set fs) i).pointers j)
    bodies_alike es fs row i j =
        body_alike n (nth_body (bodies_of set es) i) (nth_body (bodies_of set fs) i) (body_of set (nth_struct es i)) (body_of set (nth_struct fs i)) (nth_body_is set es i) (nth_body_is set fs i)
        (rows_alike (nth_struct es i).pointers (nth_struct fs i).pointers (row.1 i).1.1) j

    struct_element : (d p : ℕ) (es fs : Structs) → SameElements (SameTo n) es fs → (l : ℕ) → l < n → (e : SchemaType) (i : ℕ) →
        trimmed (element_value set (tree.Composite d p es) (structs_below set (bodies_of set es)) (Left l) e i) ≡ trimmed (element_value set (tree.Composite d p fs) (structs_below set (bodies_of set fs)) (Left l) e i)
    struct_element d p es fs row l inside (IntType w) i = ap (λ (b : List ℕ). trimmed (number_value (IntType w) (number_at w 0 b))) (sym (row.1 i).0)
    struct_element d p es fs row l inside (UIntType w) i = ap (λ (b : List ℕ). trimmed (number_value (UIntType w) (number_at w 0 b))) (sym (row.1 i).0)
    struct_element d p es fs row l inside (EnumType k) i = ap (λ (b : List ℕ). trimmed (number_value (EnumType k) (number_at 2 0 b))) (sym (row.1 i).0)
    struct_element d p es fs row l inside TextType i = first_alike n (nth_body (bodies_of set es) i) (nth_body (bodies_of set fs) i) (bodies_alike es fs row i 0) l inside TextType
    struct_element d p es fs row l inside DataType i = first_alike n (nth_body (bodies_of set es) i) (nth_body (bodies_of set fs) i) (bodies_alike es fs row i 0) l inside DataType
    struct_element d p es fs row l inside (ListType e) i = first_alike n (nth_body (bodies_of set es) i) (nth_body (bodies_of set fs) i) (bodies_alike es fs row i 0) l inside (ListType e)
    struct_element d p es fs row l inside AnyPointerType i = first_alike n (nth_body (bodies_of set es) i) (nth_body (bodies_of set fs) i) (bodies_alike es fs row i 0) l inside AnyPointerType
    struct_element d p es fs row l inside (StructType b g) i =
        entered_alike l n (omega (arith, inside)) b (nth_body (bodies_of set es) i).bytes (nth_body (bodies_of set fs) i).bytes (nth_body (bodies_of set es) i).pointers (nth_body (bodies_of set fs) i).pointers
        (ap (λ (x : Body). x.bytes) (nth_body_is set fs i) ∙ ((row.1 i).0 ∙ ap (λ (x : Body). x.bytes) (sym (nth_body_is set es i))))
        (bodies_alike es fs row i)
    struct_element d p es fs row l inside e i = refl

    composite_alike : (d p : ℕ) (es fs : Structs) → SameElements (SameTo n) es fs → Alike (suc n) (value_of set (tree.Composite d p es)) (value_of set (tree.Composite d p fs))
    composite_alike d p es fs row l inside (StructType b g) = refused_alike _ _ WrongPointerKind (l == 0)
    composite_alike d p es fs row l inside (ListType e) =
        list_alike l n inside (tree.Composite d p es) (tree.Composite d p fs) (λ k. elements_value set (tree.Composite d p es) (structs_below set (bodies_of set es)) k e) (λ k. elements_value set (tree.Composite d p fs) (structs_below set (bodies_of set fs)) k e)
        (reads_structs (element_size e) d p)
        (λ k below. ap value.Elements (row_alike _ _ (λ i. struct_element d p es fs row k below e i) 0 (struct_count es) (struct_count fs) row.0))
    composite_alike d p es fs row l inside t = refl

  pub alike : (n : ℕ) (x y : Tree) → SameTo n x y → Alike n (value_of set x) (value_of set y)
  alike zero x y h l inside t = absurd (omega (arith, inside))
  alike (suc n) tree.Null y h l inside t = ap (λ (z : Tree). trimmed (value_of set z (Left l) t)) (sym h)
  alike (suc n) (tree.Voids k) y h l inside t = ap (λ (z : Tree). trimmed (value_of set z (Left l) t)) (sym h)
  alike (suc n) (tree.Bits bits) y h l inside t = ap (λ (z : Tree). trimmed (value_of set z (Left l) t)) (sym h)
  alike (suc n) (tree.Numbers w bytes) y h l inside t = ap (λ (z : Tree). trimmed (value_of set z (Left l) t)) (sym h)
  alike (suc n) (tree.FaultLeaf k) y h l inside t = ap (λ (z : Tree). trimmed (value_of set z (Left l) t)) (sym h)
  alike (suc n) (tree.Struct bytes ps) y (qs, e, row) l inside t =
      struct_alike n (λ a b k. alike n a b k) bytes ps qs row l inside t ∙ ap (λ (z : Tree). trimmed (value_of set z (Left l) t)) (sym e)
  alike (suc n) (tree.Pointers ps) y (qs, e, row) l inside t =
      pointers_alike n (λ a b k. alike n a b k) ps qs row l inside t ∙ ap (λ (z : Tree). trimmed (value_of set z (Left l) t)) (sym e)
  alike (suc n) (tree.Composite d p es) y (fs, e, row) l inside t =
      composite_alike n (λ a b k. alike n a b k) d p es fs row l inside t ∙ ap (λ (z : Tree). trimmed (value_of set z (Left l) t)) (sym e)

-- the record of a struct
pub record_cut : (set : Schemas) (n l : ℕ) (x s : StructTree) → SameParts (SameTo n) x s → l < n → (b : ℕ) → trimmed_record (struct_record set (Left l) x b) ≡ trimmed_record (struct_record set (Left l) s b)
record_cut set n l x s h inside b =
    record_alike set l x.bytes (values_of set x.pointers) (values_of set s.pointers) (λ i t. rows_alike set n (alike set n) x.pointers s.pointers h.1.1 i l inside t) (suc (length set.brands)) b
    ∙ ap (λ (bytes : List ℕ). trimmed_record (struct_record set (Left l) (record { bytes = bytes; pointers = s.pointers }) b)) (sym h.0)
