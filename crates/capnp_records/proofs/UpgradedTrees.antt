-- Trees under an older schema and a newer one, where lists became lists of structs.
use Rattle.std.proofs.Common.{ℕ, zero, suc, ◌<◌, ◌≡◌, ◌⊎◌, refl, List, [], ◌∷◌, Bool, true, false, not, cond, ◌&&◌, ◌==◌, IsTrue, Result, Ok, Err, length, ap, ap₂, inl, inr, sym, subst, ◌∙◌}
use Rattle.std.proofs.lemmas.Bool.{true≢false}
use Rattle.capnp_wire.specs.Tree as tree
use Rattle.capnp_device.specs.declared.error.ErrorKind.{ErrorKind}
use Rattle.capnp_device.specs.declared.error.ErrorKind.TheVariants.{TooDeep, WrongElementSize, WrongPointerKind}
use Rattle.capnp_wire.specs.Elements.{reads_list}
use Rattle.capnp_wire.specs.Reading.{as_data, as_list, as_struct, as_text, element_number, element_struct, empty_list, list_length, reads_bits, reads_numbers, reads_pointers, reads_structs, reads_voids}
use Rattle.capnp_wire.specs.StandFirst.{NumbersStandFirst}
use Rattle.capnp_wire.specs.Tree.{StructTree, Structs, Tree, Trees, nth_struct}
use Rattle.capnp_wire.specs.WellFormed.{AreElements, AreWellFormed, IsWellFormed}
use Rattle.capnp_wire.specs.declared.size.ElementSize.TheVariants as size
use Rattle.capnp_schema.specs.Accepted.{GroupFits}
use Rattle.capnp_schema.specs.Ranges.{HasWidths}
use Rattle.capnp_schema.specs.Schema.{FieldKind, Schemas, TypedField, field_at, fields_of, node_of, Value as SchemaValue}
use Rattle.capnp_schema.specs.SlotValue.{slot_number}
use Rattle.capnp_schema.specs.Types.{AnyPointerType, BoolType, DataType, EnumType, IntType, ListType, SchemaType, StructType, TextType, UIntType, VoidType, element_size, integer_size, is_pointer, struct_number}
use Rattle.capnp_records.specs.Compatible.{Pairs, Related, SharedStruct, became_struct, can_become_struct, elements_by, first_field, first_fields, is_empty_default, projected, projected_elements, stands_first}
use Rattle.capnp_records.specs.Facts.Frame.{and_left, and_right, second_of}
use Rattle.capnp_records.specs.Facts.ListValues.{below_body, below_of, nth_body_is}
use Rattle.capnp_records.specs.Reading.{Below, Body, Reading, bodies_of, element_value, elements_value, entered_value, first_pointer, kind_value, nth_body, nth_reading, null, number_value, of_read, only_reading, non_union_parts, record_of, record_within, slot_value, struct_below, tree_value, union_of, value_of, values_of}
use Rattle.capnp_records.specs.Record.{MoreValues, Endless, Left, Levels, NoValues, Parts, Union, Value, Values, levels_asked, is_there, one_less, values_from}
use Rattle.capnp_records.specs.Record as value
use Rattle.capnp_records.specs.Laws.{UpgradeLaw}
use Rattle.capnp_schema.specs.Facts.Fields.{brand_there}
use Rattle.capnp_records.proofs.Projects.{fields_fit}
use Rattle.capnp_records.specs.Upgrades.{are_uncut, asked_by, each_lists_read, first_lists_read, is_uncut, lists_read, struct_lists_read, unleveled, unleveled_values}
use Rattle.capnp_records.specs.Facts.DefaultTree.{tree_value_there}
use Rattle.capnp_wire.specs.declared.fault.Fault.TheVariants as fault
use Rattle.capnp_records.proofs.Readings.{AllBelow, AllBodies, AllReadings, bytes_below_are, each_pointer, nth_body_reads, nth_reading_is, pointers_below_are, struct_below_are}
use Rattle.capnp_records.proofs.RelatedTypes.{element_size_related}
use Rattle.capnp_records.proofs.Uncut.{Keeps, no_and, left_one_less, uncut_unleveled, values_of_keep, null_keeps}
use Rattle.capnp_records.proofs.UpgradedElements.{First, first_number, first_of_struct}
use Rattle.capnp_records.proofs.UpgradedRecords.{RecordSees, Sees, Upgrades, null_upgrades, record_sees, sees_moved}

-- whether something stands at a pointer is the same under every type
abbrev There : Reading → Type 0
There r = (l : Levels) (s t : SchemaType) → is_there (r l s) ≡ is_there (r l t)

null_there : There null
null_there l s t = refl

module _ (set : Schemas) where
  tree_there : (x : Tree) (below : Below) → AllBelow There below → There (tree_value set x below)
  tree_there x below all l s t = tree_value_there set x below l s ∙ sym (tree_value_there set x below l t)

  first_there : (body : Body) → AllReadings There body.pointers → There (first_pointer set body)
  first_there body all l s t = go (is_there (r l s) && (levels_asked l == 0)) (is_there (r l t) && (levels_asked l == 0)) (ap (λ q. q && (levels_asked l == 0)) (nth_reading_is There null_there body.pointers all 0 l s t))
    where
      r : Reading
      r = nth_reading body.pointers 0

      deep : Reading
      deep = tree_value set (tree.FaultLeaf fault.TooDeep) (struct_below [])

      go : (a b : Bool) → a ≡ b → is_there (elim a as (λ _. Value) [ true ↦ deep l s | false ↦ r (one_less l) s ]) ≡ is_there (elim b as (λ _. Value) [ true ↦ deep l t | false ↦ r (one_less l) t ])
      go true true e = tree_there (tree.FaultLeaf fault.TooDeep) (struct_below []) (struct_below_are There null_there [] tt) l s t
      go false false e = nth_reading_is There null_there body.pointers all 0 (one_less l) s t
      go true false e = absurd (true≢false e)
      go false true e = absurd (true≢false (sym e))

  body_there : (es : Structs) (i : ℕ) → AllReadings There (nth_body (bodies_of set es) i).pointers
  body_there es i = subst (λ (y : Body). AllReadings There y.pointers) (sym (nth_body_is set es i)) (each_pointer There null_there set first_there tree_there (nth_struct es i).pointers)

-- a list of which the elements became structs
pub record IsUpgraded (set : Schemas) (pairs : Pairs) (s t : SchemaType) : Type 0 where
  pub brand : ℕ
  pub generic : ℕ
  pub is : t ≡ StructType brand generic
  pub can : can_become_struct s ≡ true
  pub first : stands_first set brand ≡ true
  pub related : Related true set pairs s (field_at set brand 0).type

module _ (set : Schemas) (pairs : Pairs) where
  by_first : (s : SchemaType) (b g : ℕ) → can_become_struct s ≡ true → (Related true set pairs s (StructType b g) → ⊥) → (q : Bool) → stands_first set b ≡ q →
      Related true set pairs s (elim q as (λ _. SchemaType) [ true ↦ (field_at set b 0).type | false ↦ StructType b g ]) →
      (Related true set pairs s (StructType b g) × (became_struct s (StructType b g) ≡ false)) ⊎ IsUpgraded set pairs s (StructType b g)
  by_first s b g can none true e h = inr (record { brand = b; generic = g; is = refl; can = can; first = e; related = h })
  by_first s b g can none false e h = absurd (none h)

  -- the elements of related lists are related, or became structs
  pub list_kind : (s t : SchemaType) → Related true set pairs (ListType s) (ListType t) → (Related true set pairs s t × (became_struct s t ≡ false)) ⊎ IsUpgraded set pairs s t
  list_kind (IntType n) (StructType b g) h = by_first (IntType n) b g refl (λ x. x) (stands_first set b) refl h
  list_kind (UIntType n) (StructType b g) h = by_first (UIntType n) b g refl (λ x. x) (stands_first set b) refl h
  list_kind TextType (StructType b g) h = by_first TextType b g refl (λ x. x) (stands_first set b) refl h
  list_kind DataType (StructType b g) h = by_first DataType b g refl (λ x. x) (stands_first set b) refl h
  list_kind (ListType e) (StructType b g) h = by_first (ListType e) b g refl (λ x. x) (stands_first set b) refl h
  list_kind (StructType a i) (StructType b g) h = inl (h, refl)
  list_kind s (StructType b g) h = absurd h
  list_kind s t h = inl (h, refl)

  module _ (closed : (a b : ℕ) → IsTrue (pairs a b) → SharedStruct true set pairs a b)
      (fits : (b i : ℕ) → i < length (fields_of set b) → GroupFits set (field_at set b i).field.kind (field_at set b i).type)
      (widths : (b i : ℕ) → i < length (fields_of set b) → HasWidths (field_at set b i).type) (law : NumbersStandFirst) where
    under : (l : Levels) (bytes : List ℕ) (rs : List Reading) → AllReadings (Upgrades set pairs) rs → (a b : ℕ) → IsTrue (pairs a b) → RecordSees set pairs a b (record_of set l bytes rs a) (record_of set l bytes rs b)
    under l bytes rs all a b p = record_sees set pairs l bytes rs all closed fits widths (suc (length set.brands)) a b p

    entered_sees : (l : Levels) (s t : SchemaType) (v w : Value) → Sees set pairs s t v w → Sees set pairs s t (entered_value l v) (entered_value l w)
    entered_sees l s t v w h = go (levels_asked l == 0)
      where
        go : (q : Bool) → Sees set pairs s t (elim q as (λ _. Value) [ true ↦ value.Fault TooDeep | false ↦ v ]) (elim q as (λ _. Value) [ true ↦ value.Fault TooDeep | false ↦ w ])
        go true = λ u. refl
        go false = h

    -- ---- lists of related elements ----

    element_sees : (x : Tree) (below : Below) → AllBelow (Upgrades set pairs) below → (l : Levels) (s t : SchemaType) → Related true set pairs s t → HasWidths s → (i : ℕ) → Sees set pairs s t (element_value set x below l s i) (element_value set x below l t i)
    element_sees x below all l VoidType VoidType h k i = λ u. refl
    element_sees x below all l BoolType BoolType h k i = λ u. refl
    element_sees x below all l (IntType m) (IntType n) h k i = λ u. ap (λ j. number_value (IntType j) (element_number j x i)) h
    element_sees x below all l (UIntType m) (UIntType n) h k i = λ u. ap (λ j. number_value (UIntType j) (element_number j x i)) h
    element_sees x below all l (EnumType m) (EnumType n) h k i = λ u. refl
    element_sees x below all l TextType TextType h k i = all.element_pointers i l TextType TextType h k
    element_sees x below all l DataType DataType h k i = all.element_pointers i l DataType DataType h k
    element_sees x below all l AnyPointerType AnyPointerType h k i = all.element_pointers i l AnyPointerType AnyPointerType h k
    element_sees x below all l (ListType s) (ListType t) h k i = all.element_pointers i l (ListType s) (ListType t) h k
    element_sees x below all l (StructType a g) (StructType b j) h k i =
        entered_sees l (StructType a g) (StructType b j) _ _ (λ u. ap value.Struct (under (one_less l) (below.element_body i).bytes (below.element_body i).pointers (all.element_bodies i) a b h u))
    element_sees x below all l s t h k i = absurd h

    row_sees : (s t : SchemaType) (f g : ℕ → Value) → ((i : ℕ) → Sees set pairs s t (f i) (g i)) → (a n : ℕ) →
        each_lists_read set s t (unleveled_values (values_from f a n)) (unleveled_values (values_from g a n)) ≡ true → unleveled_values (values_from f a n) ≡ projected_elements set s t (unleveled_values (values_from g a n))
    row_sees s t f g h a zero u = refl
    row_sees s t f g h a (suc n) u = ap₂ MoreValues (h a (and_left _ _ u)) (row_sees s t f g h (suc a) n (and_right (lists_read set s t (unleveled (f a)) (unleveled (g a))) _ u))

    -- ---- lists of elements that became structs ----

    abbrev FirstSees : SchemaType → SchemaType → Value → Value → Type 0
    FirstSees s t v w = is_uncut (unleveled w) ≡ true → struct_lists_read set s t (unleveled v) (unleveled w) ≡ true → unleveled v ≡ first_field set s t (unleveled w)

    first_row : (s t : SchemaType) (f g : ℕ → Value) → ((i : ℕ) → FirstSees s t (f i) (g i)) → (a n : ℕ) → are_uncut (unleveled_values (values_from g a n)) ≡ true →
        first_lists_read set s t (unleveled_values (values_from f a n)) (unleveled_values (values_from g a n)) ≡ true → unleveled_values (values_from f a n) ≡ first_fields set s t (unleveled_values (values_from g a n))
    first_row s t f g h a zero c u = refl
    first_row s t f g h a (suc n) c u =
        ap₂ MoreValues (h a (and_left _ _ c) (and_left _ _ u))
        (first_row s t f g h (suc a) n (and_right (is_uncut (unleveled (g a))) _ c) (and_right (struct_lists_read set s t (unleveled (f a)) (unleveled (g a))) _ u))

    -- a pointer that is read with one level less
    lesser : (r : Reading) → Upgrades set pairs r → Keeps set r → (l : Levels) → (levels_asked l == 0) ≡ false → (s t : SchemaType) → Related true set pairs s t → HasWidths s → is_pointer t ≡ true →
        is_uncut (r (one_less l) t) ≡ true → Sees set pairs s t (r l s) (r (one_less l) t)
    lesser r up keeps Endless e s t h k p c = up Endless s t h k
    lesser r up keeps (Left zero) e s t h k p c = absurd (true≢false e)
    lesser r up keeps (Left (suc n)) e s t h k p c =
        subst (λ (w : Value). lists_read set s t (unleveled (r (Left (suc n)) s)) w ≡ true → unleveled (r (Left (suc n)) s) ≡ projected set s t w)
        (keeps n t p (subst (λ (m : Levels). is_uncut (r m t) ≡ true) (left_one_less n) c) ∙ ap (λ (m : Levels). unleveled (r m t)) (sym (left_one_less n)))
        (up (Left (suc n)) s t h k)

    only_first : (rs : List Reading) (i : ℕ) → nth_reading (only_reading rs i) 0 ≡ nth_reading rs i
    only_first [] i = refl
    only_first (r ∷ rs) zero = refl
    only_first (r ∷ rs) (suc i) = only_first rs i

    clash : false ≡ true → ⊥
    clash e = true≢false (sym e)

    -- an element that is a pointer, and the first pointer of the struct in its place
    first_pointer_is : (x : Tree) → AllBelow (Upgrades set pairs) (below_of set x) → reads_list size.Pointer x ≡ true → (l : Levels) → (levels_asked l == 0) ≡ false → (s t : SchemaType) → Related true set pairs s t → HasWidths s → is_pointer t ≡ true → (i : ℕ) →
        is_uncut (nth_reading ((below_of set x).element_body i).pointers 0 (one_less l) t) ≡ true →
        Sees set pairs s t ((below_of set x).element_pointer i l s) (nth_reading ((below_of set x).element_body i).pointers 0 (one_less l) t)
    first_pointer_is tree.Null all reads l e s t h k p i c = absurd (clash reads)
    first_pointer_is (tree.Struct bytes ps) all reads l e s t h k p i c = absurd (clash reads)
    first_pointer_is (tree.Voids n) all reads l e s t h k p i c = absurd (clash reads)
    first_pointer_is (tree.Bits bs) all reads l e s t h k p i c = absurd (clash reads)
    first_pointer_is (tree.Numbers w bytes) all reads l e s t h k p i c = absurd (clash reads)
    first_pointer_is (tree.Pointers ps) all reads l e s t h k p i c =
        let rs : List Reading = values_of set ps in
        sees_moved set pairs s t _ _ _ _ refl (ap (λ (r : Reading). r (one_less l) t) (only_first rs i))
        (lesser (nth_reading rs i) (all.element_pointers i) (nth_reading_is (Keeps set) (null_keeps set) rs (values_of_keep set ps) i) l e s t h k p
        (subst (λ (r : Reading). is_uncut (r (one_less l) t) ≡ true) (only_first rs i) c))
    first_pointer_is (tree.Composite d p es) all reads l e s t h k q i c =
        let body : Body = nth_body (bodies_of set es) i in
        let r : Reading = nth_reading body.pointers 0 in
        sees_moved set pairs s t _ (r (one_less l) s) _ _ (second_of (is_there (r l s) && (levels_asked l == 0)) _ _ (no_and set (is_there (r l s)) (levels_asked l == 0) e)) refl
        (nth_reading_is (Upgrades set pairs) (null_upgrades set pairs) body.pointers (all.element_bodies i) 0 (one_less l) s t h k)
    first_pointer_is (tree.FaultLeaf y) all reads l e s t h k p i c = absurd (clash reads)

    -- an element, and the slot of field 0 of the struct in its place
    module _ (x : Tree) (formed : IsWellFormed x) (all : AllBelow (Upgrades set pairs) (below_of set x)) (l : Levels) where
      abbrev body : ℕ → Body
      body i = (below_of set x).element_body i

      abbrev inner : ℕ → SchemaValue → SchemaType → Value
      inner i d t = slot_value (one_less l) (body i).bytes (body i).pointers 0 d t

      same_bytes : (i : ℕ) → (element_struct x i).bytes ≡ (body i).bytes
      same_bytes i = ap (λ (y : Body). y.bytes) (sym (below_body set x i))

      first_slot : (levels_asked l == 0) ≡ false → (s t : SchemaType) → can_become_struct s ≡ true → Related true set pairs s t → HasWidths s → reads_list (element_size s) x ≡ true → (d : SchemaValue) → is_empty_default d ≡ true → (i : ℕ) →
          is_uncut (inner i d t) ≡ true → Sees set pairs s t (element_value set x (below_of set x) l s i) (inner i d t)
      first_slot e (IntType m) (IntType n) can h k reads d empty i c = λ u.
          ap (number_value (IntType m)) (first_number law x formed m k reads d empty i ∙ ap (λ (bs : List ℕ). slot_number bs 0 d (IntType m)) (same_bytes i))
          ∙ ap (λ j. number_value (IntType j) (slot_number (body i).bytes 0 d (IntType j))) h
      first_slot e (IntType m) t can h k reads d empty i c = absurd h
      first_slot e (UIntType m) (UIntType n) can h k reads d empty i c = λ u.
          ap (number_value (UIntType m)) (first_number law x formed m k reads d empty i ∙ ap (λ (bs : List ℕ). slot_number bs 0 d (UIntType m)) (same_bytes i))
          ∙ ap (λ j. number_value (UIntType j) (slot_number (body i).bytes 0 d (UIntType j))) h
      first_slot e (UIntType m) t can h k reads d empty i c = absurd h
      first_slot e TextType TextType can h k reads d empty i c = first_pointer_is x all reads l e TextType TextType h k refl i c
      first_slot e TextType t can h k reads d empty i c = absurd h
      first_slot e DataType DataType can h k reads d empty i c = first_pointer_is x all reads l e DataType DataType h k refl i c
      first_slot e DataType t can h k reads d empty i c = absurd h
      first_slot e (ListType s) (ListType t) can h k reads d empty i c = first_pointer_is x all reads l e (ListType s) (ListType t) h k refl i c
      first_slot e (ListType s) t can h k reads d empty i c = absurd h
      first_slot e s t can h k reads d empty i c = absurd (clash can)

      upgraded_element : (s : SchemaType) (b g : ℕ) → can_become_struct s ≡ true → stands_first set b ≡ true → Related true set pairs s (field_at set b 0).type → HasWidths s → reads_list (element_size s) x ≡ true → (i : ℕ) →
          FirstSees s (field_at set b 0).type (element_value set x (below_of set x) l s i) (element_value set x (below_of set x) l (StructType b g) i)
      upgraded_element s b g can first h k reads i = go (levels_asked l == 0) refl
        where
          t : SchemaType
          t = (field_at set b 0).type

          older : Value
          older = element_value set x (below_of set x) l s i

          f : First set b
          f = first_of_struct set b first

          v : TypedField → Value
          v y = kind_value (record_within (length set.brands) set (one_less l) (body i).bytes (body i).pointers) (one_less l) (body i).bytes (body i).pointers y.field.kind y.type

          parts : non_union_parts v (fields_of set b) ≡ MoreValues (inner i f.default t) (f.rest v)
          parts = f.parts v ∙ ap (λ (k : FieldKind). MoreValues (kind_value (record_within (length set.brands) set (one_less l) (body i).bytes (body i).pointers) (one_less l) (body i).bytes (body i).pointers k t) (f.rest v)) f.kind

          un : Union
          un = union_of v (node_of set b) (fields_of set b) (body i).bytes

          go : (q : Bool) → (levels_asked l == 0) ≡ q → FirstSees s t older (elim q as (λ _. Value) [ true ↦ value.Fault TooDeep | false ↦ value.Struct (Parts (non_union_parts v (fields_of set b)) un) ])
          go true e = λ c u. absurd (clash c)
          go false e = subst (λ (vs : Values). FirstSees s t older (value.Struct (Parts vs un))) (sym parts)
              (λ c u. first_slot e s t can h k reads f.default f.is_empty i (sym (uncut_unleveled (inner i f.default t)) ∙ and_left _ _ (and_left (are_uncut (unleveled_values (MoreValues (inner i f.default t) (f.rest v)))) _ c)) u)

      abbrev IsListSeen : SchemaType → ℕ → ℕ → Value → Value → Type 0
      IsListSeen s b g older newer = Sees set pairs (ListType s) (ListType (StructType b g)) older newer

      rows_seen : (s : SchemaType) (b g : ℕ) → can_become_struct s ≡ true → stands_first set b ≡ true → Related true set pairs s (field_at set b 0).type → HasWidths s → reads_list (element_size s) x ≡ true →
          IsListSeen s b g (elements_value set x (below_of set x) l s) (elements_value set x (below_of set x) l (StructType b g))
      rows_seen s b g can first h k reads u =
          let t = (field_at set b 0).type in
          let vs = unleveled_values (values_from (element_value set x (below_of set x) l s) 0 (list_length x)) in
          let ws = unleveled_values (values_from (element_value set x (below_of set x) l (StructType b g)) 0 (list_length x)) in
          let both = subst (λ (q : Bool). asked_by q (are_uncut ws && first_lists_read set s t vs ws) (each_lists_read set s (StructType b g) vs ws) ≡ true) can u in
          ap value.Elements (first_row s t _ _ (upgraded_element s b g can first h k reads) 0 (list_length x) (and_left _ _ both) (and_right (are_uncut ws) _ both))
          ∙ ap (λ (q : Bool). elements_by q (first_fields set s t ws) (projected_elements set s (StructType b g) ws)) (sym can)

      listed : (s : SchemaType) (b g : ℕ) → can_become_struct s ≡ true → stands_first set b ≡ true → Related true set pairs s (field_at set b 0).type → HasWidths s →
          (q older newer : Bool) → (older ≡ true → newer ≡ true) → (older ≡ true → reads_list (element_size s) x ≡ true) →
          IsListSeen s b g (of_read {A = Tree} (λ _. elements_value set x (below_of set x) l s) (cond q (Err TooDeep) (cond older (Ok x) (Err WrongElementSize))))
          (of_read {A = Tree} (λ _. elements_value set x (below_of set x) l (StructType b g)) (cond q (Err TooDeep) (cond newer (Ok x) (Err WrongElementSize))))
      listed s b g can first h k true older newer too reads = λ u. refl
      listed s b g can first h k false true true too reads = rows_seen s b g can first h k (reads refl)
      listed s b g can first h k false true false too reads = absurd (clash (too refl))
      listed s b g can first h k false false true too reads = λ u. absurd (clash (subst (λ (q : Bool). not q ≡ true) can u))
      listed s b g can first h k false false false too reads = λ u. refl

    no_bit_integers : (n : ℕ) → reads_bits (integer_size n) ≡ false
    no_bit_integers zero = refl
    no_bit_integers (suc zero) = refl
    no_bit_integers (suc (suc zero)) = refl
    no_bit_integers (suc (suc (suc zero))) = refl
    no_bit_integers (suc (suc (suc (suc zero)))) = refl
    no_bit_integers (suc (suc (suc (suc (suc n))))) = refl

    no_bits_read : (s : SchemaType) → can_become_struct s ≡ true → reads_bits (element_size s) ≡ true → false ≡ true
    no_bits_read (IntType n) can e = sym (no_bit_integers n) ∙ e
    no_bits_read (UIntType n) can e = sym (no_bit_integers n) ∙ e
    no_bits_read TextType can e = e
    no_bits_read DataType can e = e
    no_bits_read (ListType s) can e = e
    no_bits_read s can e = can

    upgraded_list : (x : Tree) → IsWellFormed x → AllBelow (Upgrades set pairs) (below_of set x) → (l : Levels) (s : SchemaType) (b g : ℕ) → can_become_struct s ≡ true → stands_first set b ≡ true → Related true set pairs s (field_at set b 0).type → HasWidths s →
        Sees set pairs (ListType s) (ListType (StructType b g)) (tree_value set x (below_of set x) l (ListType s)) (tree_value set x (below_of set x) l (ListType (StructType b g)))
    upgraded_list tree.Null formed all l s b g can first h k = go (levels_asked l == 0)
      where
        go : (q : Bool) → Sees set pairs (ListType s) (ListType (StructType b g)) (of_read {A = Tree} (λ _. value.Elements NoValues) (cond q (Err TooDeep) (Ok (empty_list (element_size s))))) (of_read {A = Tree} (λ _. value.Elements NoValues) (cond q (Err TooDeep) (Ok (empty_list size.InlineComposite))))
        go true u = refl
        go false u = ap (λ (q : Bool). elements_by q NoValues NoValues) (sym can)
    upgraded_list (tree.Struct bytes ps) formed all l s b g can first h k = go (levels_asked l == 0)
      where
        go : (q : Bool) → Sees set pairs (ListType s) (ListType (StructType b g)) (of_read {A = Tree} (λ _. elements_value set (tree.Struct bytes ps) (below_of set (tree.Struct bytes ps)) (one_less l) s) (cond q (Err TooDeep) (Err WrongPointerKind)))
            (of_read {A = Tree} (λ _. elements_value set (tree.Struct bytes ps) (below_of set (tree.Struct bytes ps)) (one_less l) (StructType b g)) (cond q (Err TooDeep) (Err WrongPointerKind)))
        go true u = refl
        go false u = refl
    upgraded_list (tree.Voids n) formed all l s b g can first h k = listed (tree.Voids n) formed all (one_less l) s b g can first h k (levels_asked l == 0) (reads_voids (element_size s)) true (λ e. refl) (λ e. e)
    upgraded_list (tree.Bits bs) formed all l s b g can first h k = listed (tree.Bits bs) formed all (one_less l) s b g can first h k (levels_asked l == 0) (reads_bits (element_size s)) false (no_bits_read s can) (λ e. e)
    upgraded_list (tree.Numbers w bytes) formed all l s b g can first h k = listed (tree.Numbers w bytes) formed all (one_less l) s b g can first h k (levels_asked l == 0) (reads_numbers (element_size s) w) true (λ e. refl) (λ e. e)
    upgraded_list (tree.Pointers ps) formed all l s b g can first h k = listed (tree.Pointers ps) formed all (one_less l) s b g can first h k (levels_asked l == 0) (reads_pointers (element_size s)) true (λ e. refl) (λ e. e)
    upgraded_list (tree.Composite d p es) formed all l s b g can first h k = listed (tree.Composite d p es) formed all (one_less l) s b g can first h k (levels_asked l == 0) (reads_structs (element_size s) d p) true (λ e. refl) (λ e. e)
    upgraded_list (tree.FaultLeaf y) formed all l s b g can first h k = λ u. refl

    -- ---- trees ----

    plain_list : (x : Tree) (below : Below) → AllBelow (Upgrades set pairs) below → (l : Levels) (s t : SchemaType) → Related true set pairs s t → became_struct s t ≡ false → HasWidths s →
        Sees set pairs (ListType s) (ListType t) (tree_value set x below l (ListType s)) (tree_value set x below l (ListType t))
    plain_list x below all l s t h stays k =
        sees_moved set pairs (ListType s) (ListType t) _ _ _ _ (ap (λ z. of_read (λ _. elements_value set x below (one_less l) s) (as_list z x (levels_asked l))) (element_size_related true set pairs s t h)) refl (go (as_list (element_size t) x (levels_asked l)))
      where
        go : (r : Result Tree ErrorKind) → Sees set pairs (ListType s) (ListType t) (of_read (λ _. elements_value set x below (one_less l) s) r) (of_read (λ _. elements_value set x below (one_less l) t) r)
        go (Ok y) u =
            let vs = unleveled_values (values_from (element_value set x below (one_less l) s) 0 (list_length x)) in
            let ws = unleveled_values (values_from (element_value set x below (one_less l) t) 0 (list_length x)) in
            let f0 = (field_at set (struct_number t) 0).type in
            let each = subst (λ (q : Bool). asked_by q (are_uncut ws && first_lists_read set s f0 vs ws) (each_lists_read set s t vs ws) ≡ true) stays u in
            ap value.Elements (row_sees s t _ _ (element_sees x below all (one_less l) s t h k) 0 (list_length x) each)
            ∙ ap (λ (q : Bool). elements_by q (first_fields set s f0 ws) (projected_elements set s t ws)) (sym stays)
        go (Err kind) u = refl

    tree_sees : (x : Tree) → IsWellFormed x → AllBelow (Upgrades set pairs) (below_of set x) → Upgrades set pairs (tree_value set x (below_of set x))
    tree_sees x formed all l VoidType VoidType h k = λ u. refl
    tree_sees x formed all l BoolType BoolType h k = λ u. refl
    tree_sees x formed all l (IntType m) (IntType n) h k = λ u. refl
    tree_sees x formed all l (UIntType m) (UIntType n) h k = λ u. refl
    tree_sees x formed all l (EnumType m) (EnumType n) h k = λ u. refl
    tree_sees x formed all l TextType TextType h k = go (as_text x)
      where
        go : (r : Result (List ℕ) ErrorKind) → Sees set pairs TextType TextType (of_read value.Text r) (of_read value.Text r)
        go (Ok bytes) u = refl
        go (Err kind) u = refl
    tree_sees x formed all l DataType DataType h k = go (as_data x)
      where
        go : (r : Result (List ℕ) ErrorKind) → Sees set pairs DataType DataType (of_read value.Data r) (of_read value.Data r)
        go (Ok bytes) u = refl
        go (Err kind) u = refl
    tree_sees x formed all l (StructType a i) (StructType b j) h k = go (as_struct x (levels_asked l))
      where
        go : (r : Result StructTree ErrorKind) → Sees set pairs (StructType a i) (StructType b j) (of_read (λ (s : StructTree). value.Struct (record_of set (one_less l) s.bytes (below_of set x).pointers a)) r) (of_read (λ (s : StructTree). value.Struct (record_of set (one_less l) s.bytes (below_of set x).pointers b)) r)
        go (Ok s) u = ap value.Struct (under (one_less l) s.bytes (below_of set x).pointers all.pointers a b h u)
        go (Err kind) u = refl
    tree_sees x formed all l (ListType s) (ListType t) h k = go (list_kind s t h)
      where
        go : (Related true set pairs s t × (became_struct s t ≡ false)) ⊎ IsUpgraded set pairs s t → Sees set pairs (ListType s) (ListType t) (tree_value set x (below_of set x) l (ListType s)) (tree_value set x (below_of set x) l (ListType t))
        go (inl plain) = plain_list x (below_of set x) all l s t plain.0 plain.1 k
        go (inr up) = subst (λ (t : SchemaType). Sees set pairs (ListType s) (ListType t) (tree_value set x (below_of set x) l (ListType s)) (tree_value set x (below_of set x) l (ListType t))) (sym up.is)
            (upgraded_list x formed all l s up.brand up.generic up.can up.first up.related k)
    tree_sees x formed all l AnyPointerType AnyPointerType h k = λ u. refl
    tree_sees x formed all l s t h k = absurd h

    -- ---- whole trees ----

    first_sees : (body : Body) → AllReadings There body.pointers → AllReadings (Upgrades set pairs) body.pointers → Upgrades set pairs (first_pointer set body)
    first_sees body there all l s t h k =
        go (is_there (r l s) && (levels_asked l == 0)) (is_there (r l t) && (levels_asked l == 0)) (ap (λ q. q && (levels_asked l == 0)) (nth_reading_is There null_there body.pointers there 0 l s t))
      where
        r : Reading
        r = nth_reading body.pointers 0

        deep : Reading
        deep = tree_value set (tree.FaultLeaf fault.TooDeep) (struct_below [])

        go : (a b : Bool) → a ≡ b → Sees set pairs s t (elim a as (λ _. Value) [ true ↦ deep l s | false ↦ r (one_less l) s ]) (elim b as (λ _. Value) [ true ↦ deep l t | false ↦ r (one_less l) t ])
        go true true e = tree_sees (tree.FaultLeaf fault.TooDeep) tt (struct_below_are (Upgrades set pairs) (null_upgrades set pairs) [] tt) l s t h k
        go false false e = nth_reading_is (Upgrades set pairs) (null_upgrades set pairs) body.pointers all 0 (one_less l) s t h k
        go true false e = absurd (true≢false e)
        go false true e = absurd (true≢false (sym e))

    mutual
      each : (x : Tree) → IsWellFormed x → Upgrades set pairs (value_of set x)
      each tree.Null formed = null_upgrades set pairs
      each (tree.Struct bytes ps) formed = tree_sees (tree.Struct bytes ps) formed (struct_below_are (Upgrades set pairs) (null_upgrades set pairs) (values_of set ps) (each_of ps formed.4))
      each (tree.Voids n) formed = tree_sees (tree.Voids n) formed (bytes_below_are (Upgrades set pairs) (null_upgrades set pairs) (tree.Voids n))
      each (tree.Bits bs) formed = tree_sees (tree.Bits bs) formed (bytes_below_are (Upgrades set pairs) (null_upgrades set pairs) (tree.Bits bs))
      each (tree.Numbers w bytes) formed = tree_sees (tree.Numbers w bytes) formed (bytes_below_are (Upgrades set pairs) (null_upgrades set pairs) (tree.Numbers w bytes))
      each (tree.Pointers ps) formed = tree_sees (tree.Pointers ps) formed (pointers_below_are (Upgrades set pairs) (null_upgrades set pairs) (values_of set ps) (each_of ps formed.1))
      each (tree.Composite d p es) formed =
          tree_sees (tree.Composite d p es) formed (record {
            pointers = tt;
            element_pointers = λ i. first_sees (nth_body (bodies_of set es) i) (body_there set es i) (nth_body_reads (Upgrades set pairs) (null_upgrades set pairs) (bodies_of set es) (each_body d p es formed.4) i);
            element_bodies = nth_body_reads (Upgrades set pairs) (null_upgrades set pairs) (bodies_of set es) (each_body d p es formed.4);
          })
      each (tree.FaultLeaf y) formed = tree_sees (tree.FaultLeaf y) formed (struct_below_are (Upgrades set pairs) (null_upgrades set pairs) [] tt)

      pub each_of : (xs : Trees) → AreWellFormed xs → AllReadings (Upgrades set pairs) (values_of set xs)
      each_of tree.NoTrees formed = tt
      each_of (tree.MoreTrees x xs) formed = (each x formed.0, each_of xs formed.1)

      each_body : (d p : ℕ) (es : Structs) → AreElements d p es → AllBodies (Upgrades set pairs) (bodies_of set es)
      each_body d p tree.NoStructs formed = tt
      each_body d p (tree.MoreStructs bytes ps es) formed = (each_of ps formed.3, each_body d p es formed.4)

-- ---- accepted sets ----

pub upgrades_hold : NumbersStandFirst → UpgradeLaw
upgrades_hold law set accepted ranges older newer upgrade l s formed read =
    let widths : (b i : ℕ) → i < length (fields_of set b) → HasWidths (field_at set b i).type = λ b i i_in. ranges.types b i (brand_there set b i i_in) i_in in
    record_sees set upgrade.pairs l s.bytes (values_of set s.pointers)
    (each_of set upgrade.pairs upgrade.closed (fields_fit set accepted) widths law s.pointers formed.3)
    upgrade.closed (fields_fit set accepted) widths (suc (length set.brands)) older newer upgrade.given read
