-- A value of which no part was refused for want of levels is, but for the levels of missing parts, what a reader with one level
-- more sees.
use Rattle.std.proofs.Common.{ℕ, zero, suc, ◌≡◌, refl, List, [], ◌∷◌, Bool, true, false, cond, ◌&&◌, ◌==◌, Result, Ok, Err, length, Option, Some, None, arith, ap, ap₂, sym, subst, ◌∙◌}
use Rattle.std.proofs.lemmas.Bool.{true≢false}
use Rattle.capnp_wire.specs.Tree as tree
use Rattle.capnp_device.specs.declared.error.ErrorKind.{ErrorKind}
use Rattle.capnp_device.specs.declared.error.ErrorKind.TheVariants.{TooDeep}
use Rattle.capnp_wire.specs.Reading.{as_list, as_struct, list_length, with_level}
use Rattle.capnp_wire.specs.Tree.{StructTree, Tree, Trees}
use Rattle.capnp_schema.specs.Schema.{FieldKind, Group, Node, Schemas, Slot, TypedField, fields_of, is_member, node_of, Value as SchemaValue}
use Rattle.capnp_schema.specs.SlotValue.{slot_number}
use Rattle.capnp_schema.specs.Types.{AnyPointerType, BoolType, DataType, EnumType, IntType, ListType, SchemaType, StructType, TextType, UIntType, VoidType, element_size, is_pointer, struct_brand}
use Rattle.capnp_records.specs.Facts.Frame.{and_left, and_right, second_of}
use Rattle.capnp_records.specs.Reading.{Below, Body, Reading, active_among, discriminant, element_value, elements_value, entered_value, first_pointer, group_record, kind_value, nth_reading, null, number_value, of_read, non_union_parts, record_of, record_within, slot_value, struct_below, tree_value, union_of, values_of}
use Rattle.capnp_records.specs.Record.{Active, MoreValues, Left, Levels, NoValues, NoUnion, Parts, Record, Union, Unknown, Value, Values, is_there, one_less, values_from}
use Rattle.capnp_records.specs.Record as value
use Rattle.capnp_records.specs.Upgrades.{are_uncut, is_uncut, is_uncut_record, is_uncut_union, unleveled, unleveled_record, unleveled_union, unleveled_values}
use Rattle.capnp_wire.specs.declared.fault.Fault.TheVariants as fault
use Rattle.capnp_records.proofs.Readings.{AllBelow, AllReadings, each_pointer, nth_reading_is}

no_level : (n : ℕ) → (suc n == 0) ≡ false
no_level n = grind arith

pub left_one_less : (n : ℕ) → one_less (Left (suc n)) ≡ Left n
left_one_less n = ap Left (omega arith)

-- levels of missing parts cut nothing
mutual
  pub uncut_unleveled : (v : Value) → is_uncut (unleveled v) ≡ is_uncut v
  uncut_unleveled (value.Struct r) = uncut_record_unleveled r
  uncut_unleveled (value.Group r) = uncut_record_unleveled r
  uncut_unleveled (value.Elements vs) = uncut_values_unleveled vs
  uncut_unleveled v = refl

  pub uncut_values_unleveled : (vs : Values) → are_uncut (unleveled_values vs) ≡ are_uncut vs
  uncut_values_unleveled NoValues = refl
  uncut_values_unleveled (MoreValues v vs) = ap₂ (λ p q. p && q) (uncut_unleveled v) (uncut_values_unleveled vs)

  pub uncut_union_unleveled : (u : Union) → is_uncut_union (unleveled_union u) ≡ is_uncut_union u
  uncut_union_unleveled NoUnion = refl
  uncut_union_unleveled (Active i v) = uncut_unleveled v
  uncut_union_unleveled (Unknown d) = refl

  pub uncut_record_unleveled : (r : Record) → is_uncut_record (unleveled_record r) ≡ is_uncut_record r
  uncut_record_unleveled (Parts vs u) = ap₂ (λ p q. p && q) (uncut_values_unleveled vs) (uncut_union_unleveled u)

-- the values are the same but for the levels of missing parts, where the second is uncut
abbrev Same : Value → Value → Type 0
Same v w = is_uncut w ≡ true → unleveled v ≡ unleveled w

module _ (set : Schemas) where
  abbrev deep : Reading
  deep = tree_value set (tree.FaultLeaf fault.TooDeep) (struct_below [])

  abbrev pub Keeps : Reading → Type 0
  Keeps r = (k : ℕ) (t : SchemaType) → is_pointer t ≡ true → Same (r (Left (suc k)) t) (r (Left k) t)

  pub null_keeps : Keeps null
  null_keeps k t p h = refl

  -- ---- records ----

  module _ (k : ℕ) (bytes : List ℕ) (rs : List Reading) (all : AllReadings Keeps rs) where
    slot_keeps : (o : ℕ) (d : SchemaValue) (t : SchemaType) → Same (slot_value (Left (suc k)) bytes rs o d t) (slot_value (Left k) bytes rs o d t)
    slot_keeps o d t = go (is_pointer t) refl
      where
        go : (q : Bool) → is_pointer t ≡ q → Same (elim q as (λ _. Value) [ true ↦ nth_reading rs o (Left (suc k)) t | false ↦ number_value t (slot_number bytes o d t) ]) (elim q as (λ _. Value) [ true ↦ nth_reading rs o (Left k) t | false ↦ number_value t (slot_number bytes o d t) ])
        go true e = nth_reading_is Keeps null_keeps rs all o k t e
        go false e = λ h. refl

    abbrev RecordsKeep : (ℕ → Record) → (ℕ → Record) → Type 0
    RecordsKeep f g = (b : ℕ) → is_uncut_record (g b) ≡ true → unleveled_record (f b) ≡ unleveled_record (g b)

    kind_keeps : (f g : ℕ → Record) → RecordsKeep f g → (j : FieldKind) (t : SchemaType) → Same (kind_value f (Left (suc k)) bytes rs j t) (kind_value g (Left k) bytes rs j t)
    kind_keeps f g h (Slot o d) t = slot_keeps o d t
    kind_keeps f g h (Group node) t = group_keeps (struct_brand t)
      where
        group_keeps : (o : Option ℕ) → Same (value.Group (group_record f o)) (value.Group (group_record g o))
        group_keeps None u = refl
        group_keeps (Some b) u = ap value.Group (h b u)

    plain_keeps : (v w : TypedField → Value) → ((f : TypedField) → Same (v f) (w f)) → (fs : List TypedField) → are_uncut (non_union_parts w fs) ≡ true → unleveled_values (non_union_parts v fs) ≡ unleveled_values (non_union_parts w fs)
    plain_keeps v w h [] u = refl
    plain_keeps v w h (f ∷ fs) u = ap₂ MoreValues (go (is_member f.field) (and_left _ _ u)) (plain_keeps v w h fs (and_right (is_uncut (elim (is_member f.field) as (λ _. Value) [ true ↦ value.Elsewhere | false ↦ w f ])) _ u))
      where
        go : (q : Bool) → Same (elim q as (λ _. Value) [ true ↦ value.Elsewhere | false ↦ v f ]) (elim q as (λ _. Value) [ true ↦ value.Elsewhere | false ↦ w f ])
        go true u = refl
        go false u = h f u

    abbrev SameUnion : Union → Union → Type 0
    SameUnion x y = is_uncut_union y ≡ true → unleveled_union x ≡ unleveled_union y

    active_keeps : (v w : TypedField → Value) → ((f : TypedField) → Same (v f) (w f)) → (fs : List TypedField) (i d : ℕ) → SameUnion (active_among v fs i d) (active_among w fs i d)
    active_keeps v w h [] i d = λ u. refl
    active_keeps v w h (f ∷ fs) i d = go (is_member f.field && (f.field.discriminant_value == d)) (active_keeps v w h fs (suc i) d)
      where
        go : (q : Bool) → SameUnion (active_among v fs (suc i) d) (active_among w fs (suc i) d) →
            SameUnion (elim q as (λ _. Union) [ true ↦ Active i (v f) | false ↦ active_among v fs (suc i) d ]) (elim q as (λ _. Union) [ true ↦ Active i (w f) | false ↦ active_among w fs (suc i) d ])
        go true later = λ u. ap (Active i) (h f u)
        go false later = later

    union_keeps : (v w : TypedField → Value) → ((f : TypedField) → Same (v f) (w f)) → (n : Node) (fs : List TypedField) → SameUnion (union_of v n fs bytes) (union_of w n fs bytes)
    union_keeps v w h n fs = go (n.discriminant_count == 0) (active_keeps v w h fs 0 (discriminant n bytes))
      where
        go : (q : Bool) → SameUnion (active_among v fs 0 (discriminant n bytes)) (active_among w fs 0 (discriminant n bytes)) →
            SameUnion (elim q as (λ _. Union) [ true ↦ NoUnion | false ↦ active_among v fs 0 (discriminant n bytes) ]) (elim q as (λ _. Union) [ true ↦ NoUnion | false ↦ active_among w fs 0 (discriminant n bytes) ])
        go true h = λ u. refl
        go false h = h

    record_keeps : (g : ℕ) → RecordsKeep (record_within g set (Left (suc k)) bytes rs) (record_within g set (Left k) bytes rs)
    record_keeps zero b = λ u. refl
    record_keeps (suc g) b = go (record_keeps g)
      where
        v : TypedField → Value
        v f = kind_value (record_within g set (Left (suc k)) bytes rs) (Left (suc k)) bytes rs f.field.kind f.type

        w : TypedField → Value
        w f = kind_value (record_within g set (Left k) bytes rs) (Left k) bytes rs f.field.kind f.type

        go : RecordsKeep (record_within g set (Left (suc k)) bytes rs) (record_within g set (Left k) bytes rs) →
            (are_uncut (non_union_parts w (fields_of set b)) && is_uncut_union (union_of w (node_of set b) (fields_of set b) bytes)) ≡ true →
            unleveled_record (Parts (non_union_parts v (fields_of set b)) (union_of v (node_of set b) (fields_of set b) bytes)) ≡ unleveled_record (Parts (non_union_parts w (fields_of set b)) (union_of w (node_of set b) (fields_of set b) bytes))
        go ih u =
            let each : (f : TypedField) → Same (v f) (w f) = λ f. kind_keeps (record_within g set (Left (suc k)) bytes rs) (record_within g set (Left k) bytes rs) ih f.field.kind f.type in
            ap₂ Parts (plain_keeps v w each (fields_of set b) (and_left _ _ u)) (union_keeps v w each (node_of set b) (fields_of set b) (and_right (are_uncut (non_union_parts w (fields_of set b))) _ u))

  -- ---- trees ----

  -- what is read by the levels that are left inside
  abbrev KeepsInside : {A : Type 0} → (Levels → A → Value) → Type 0
  KeepsInside {A} f = (k : ℕ) (a : A) → Same (f (Left (suc k)) a) (f (Left k) a)

  read_keeps : {A : Type 0} (f : Levels → A → Value) → KeepsInside f → (r : Result A ErrorKind) (k : ℕ) →
      Same (of_read (f (one_less (Left (suc k)))) (with_level (suc k) r)) (of_read (f (one_less (Left k))) (with_level k r))
  read_keeps {A = A} f h r zero = λ u. absurd (true≢false (sym u))
  read_keeps {A = A} f h r (suc k) =
      subst (λ (x : Levels). Same (of_read (f (one_less (Left (suc (suc k))))) (with_level (suc (suc k)) r)) (of_read (f x) (with_level (suc k) r))) (sym (left_one_less k))
      (subst (λ (x : Levels). Same (of_read (f x) (with_level (suc (suc k)) r)) (of_read (f (Left k)) (with_level (suc k) r))) (sym (left_one_less (suc k)))
      (subst (λ (q : Bool). Same (of_read (f (Left (suc k))) (cond q (Err TooDeep) r)) (of_read (f (Left k)) (with_level (suc k) r))) (sym (no_level (suc k)))
      (subst (λ (q : Bool). Same (of_read (f (Left (suc k))) r) (of_read (f (Left k)) (cond q (Err TooDeep) r))) (sym (no_level k)) (inside r))))
    where
      inside : (r : Result A ErrorKind) → Same (of_read (f (Left (suc k))) r) (of_read (f (Left k)) r)
      inside (Ok a) = h k a
      inside (Err kind) = λ u. refl

  entered_keeps : (f : Levels → Value) → ((k : ℕ) → Same (f (Left (suc k))) (f (Left k))) → (k : ℕ) → Same (entered_value (Left (suc k)) (f (one_less (Left (suc k))))) (entered_value (Left k) (f (one_less (Left k))))
  entered_keeps f h zero = λ u. absurd (true≢false (sym u))
  entered_keeps f h (suc k) =
      subst (λ (x : Levels). Same (entered_value (Left (suc (suc k))) (f (one_less (Left (suc (suc k)))))) (entered_value (Left (suc k)) (f x))) (sym (left_one_less k))
      (subst (λ (x : Levels). Same (entered_value (Left (suc (suc k))) (f x)) (entered_value (Left (suc k)) (f (Left k)))) (sym (left_one_less (suc k)))
      (subst (λ (v : Value). Same v (entered_value (Left (suc k)) (f (Left k)))) (sym (second_of (suc (suc k) == 0) _ _ (no_level (suc k))))
      (subst (λ (v : Value). Same (f (Left (suc k))) v) (sym (second_of (suc k == 0) _ _ (no_level k))) (h k))))

  element_keeps : (x : Tree) (below : Below) → AllBelow Keeps below → (k : ℕ) (e : SchemaType) (i : ℕ) → Same (element_value set x below (Left (suc k)) e i) (element_value set x below (Left k) e i)
  element_keeps x below all k VoidType i = λ u. refl
  element_keeps x below all k BoolType i = λ u. refl
  element_keeps x below all k (IntType n) i = λ u. refl
  element_keeps x below all k (UIntType n) i = λ u. refl
  element_keeps x below all k (EnumType m) i = λ u. refl
  element_keeps x below all k TextType i = all.element_pointers i k TextType refl
  element_keeps x below all k DataType i = all.element_pointers i k DataType refl
  element_keeps x below all k (StructType b g) i =
      entered_keeps (λ l. value.Struct (record_of set l (below.element_body i).bytes (below.element_body i).pointers b))
      (λ j u. ap value.Struct (record_keeps j (below.element_body i).bytes (below.element_body i).pointers (all.element_bodies i) (suc (length set.brands)) b u)) k
  element_keeps x below all k (ListType t) i = all.element_pointers i k (ListType t) refl
  element_keeps x below all k AnyPointerType i = all.element_pointers i k AnyPointerType refl

  row_keeps : (f g : ℕ → Value) → ((i : ℕ) → Same (f i) (g i)) → (a n : ℕ) → are_uncut (values_from g a n) ≡ true → unleveled_values (values_from f a n) ≡ unleveled_values (values_from g a n)
  row_keeps f g h a zero u = refl
  row_keeps f g h a (suc n) u = ap₂ MoreValues (h a (and_left _ _ u)) (row_keeps f g h (suc a) n (and_right (is_uncut (g a)) _ u))

  struct_tree_keeps : (x : Tree) (below : Below) → AllBelow Keeps below → (k : ℕ) (b g : ℕ) → Same (tree_value set x below (Left (suc k)) (StructType b g)) (tree_value set x below (Left k) (StructType b g))
  struct_tree_keeps x below all k b g = go x
    where
      f : Levels → StructTree → Value
      f l s = value.Struct (record_of set l s.bytes below.pointers b)

      h : KeepsInside f
      h j s u = ap value.Struct (record_keeps j s.bytes below.pointers all.pointers (suc (length set.brands)) b u)

      go : (y : Tree) → Same (of_read (f (one_less (Left (suc k)))) (as_struct y (suc k))) (of_read (f (one_less (Left k))) (as_struct y k))
      go tree.Null = read_keeps f h _ k
      go (tree.Struct bytes ps) = read_keeps f h _ k
      go (tree.Voids n) = read_keeps f h _ k
      go (tree.Bits bs) = read_keeps f h _ k
      go (tree.Numbers w bytes) = read_keeps f h _ k
      go (tree.Pointers ps) = read_keeps f h _ k
      go (tree.Composite d p es) = read_keeps f h _ k
      go (tree.FaultLeaf y) = λ u. refl

  list_tree_keeps : (x : Tree) (below : Below) → AllBelow Keeps below → (k : ℕ) (e : SchemaType) → Same (tree_value set x below (Left (suc k)) (ListType e)) (tree_value set x below (Left k) (ListType e))
  list_tree_keeps x below all k e = go x
    where
      f : Levels → Tree → Value
      f l y = elements_value set x below l e

      h : KeepsInside f
      h j y u = ap value.Elements (row_keeps _ _ (element_keeps x below all j e) 0 (list_length x) u)

      go : (y : Tree) → Same (of_read (f (one_less (Left (suc k)))) (as_list (element_size e) y (suc k))) (of_read (f (one_less (Left k))) (as_list (element_size e) y k))
      go tree.Null = read_keeps f h _ k
      go (tree.Struct bytes ps) = read_keeps f h _ k
      go (tree.Voids n) = read_keeps f h _ k
      go (tree.Bits bs) = read_keeps f h _ k
      go (tree.Numbers w bytes) = read_keeps f h _ k
      go (tree.Pointers ps) = read_keeps f h _ k
      go (tree.Composite d p es) = read_keeps f h _ k
      go (tree.FaultLeaf y) = λ u. refl

  tree_keeps : (x : Tree) (below : Below) → AllBelow Keeps below → Keeps (tree_value set x below)
  tree_keeps x below all k TextType p = λ u. refl
  tree_keeps x below all k DataType p = λ u. refl
  tree_keeps x below all k (StructType b g) p = struct_tree_keeps x below all k b g
  tree_keeps x below all k (ListType e) p = list_tree_keeps x below all k e
  tree_keeps x below all k AnyPointerType p = λ u. refl
  tree_keeps x below all k t p = absurd (true≢false (sym p))

  -- what is too deep is cut
  deep_cut : (l : Levels) (t : SchemaType) → is_pointer t ≡ true → is_uncut (deep l t) ≡ true → ⊥
  deep_cut l TextType p u = true≢false (sym u)
  deep_cut l DataType p u = true≢false (sym u)
  deep_cut l (StructType b g) p u = true≢false (sym u)
  deep_cut l (ListType e) p u = true≢false (sym u)
  deep_cut l AnyPointerType p u = true≢false (sym u)
  deep_cut l t p u = true≢false (sym p)

  pub no_and : (q b : Bool) → b ≡ false → (q && b) ≡ false
  no_and true b e = e
  no_and false b e = refl

  first_keeps : (body : Body) → AllReadings Keeps body.pointers → Keeps (first_pointer set body)
  first_keeps body all zero t p = go (is_there (r (Left 0) t))
    where
      r : Reading
      r = nth_reading body.pointers 0

      above : first_pointer set body (Left 1) t ≡ r (Left 0) t
      above = second_of (is_there (r (Left 1) t) && (1 == 0)) _ _ (no_and (is_there (r (Left 1) t)) (1 == 0) refl)

      go : (q : Bool) → Same (first_pointer set body (Left 1) t) (elim (q && true) as (λ _. Value) [ true ↦ deep (Left 0) t | false ↦ r (Left 0) t ])
      go true u = absurd (deep_cut (Left 0) t p u)
      go false u = ap unleveled above
  first_keeps body all (suc k) t p =
      subst (λ (v : Value). Same v (first_pointer set body (Left (suc k)) t)) (sym (enters (suc k)))
      (subst (λ (v : Value). Same (r (Left (suc k)) t) v) (sym (enters k)) (nth_reading_is Keeps null_keeps body.pointers all 0 k t p))
    where
      r : Reading
      r = nth_reading body.pointers 0

      enters : (j : ℕ) → first_pointer set body (Left (suc j)) t ≡ r (Left j) t
      enters j = second_of (is_there (r (Left (suc j)) t) && (suc j == 0)) _ _ (no_and (is_there (r (Left (suc j)) t)) (suc j == 0) (no_level j)) ∙ ap (λ (l : Levels). r l t) (left_one_less j)

  pub values_of_keep : (xs : Trees) → AllReadings Keeps (values_of set xs)
  values_of_keep = each_pointer Keeps null_keeps set first_keeps tree_keeps
