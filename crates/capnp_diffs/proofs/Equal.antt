-- Where no change is found, the values are equal; and equal values have none.
use Rattle.std.proofs.Common.{ℕ, suc, ◌≡◌, refl, ℤ, pos, negsuc, List, [], ◌∷◌, ◌++◌, Bool, true, false, ◌==◌, ◌&&◌, arith, ap, ap₂, sym, subst}
use Rattle.std.proofs.lemmas.Bool.{eqb-true, eq-eqb, true≢false}
use Rattle.capnp_wire.specs.Tree as tree
use Rattle.capnp_wire.specs.Tree.{StructTree, Structs, Tree, Trees}
use Rattle.capnp_wire.specs.declared.fault.Fault.{Fault}
use Rattle.capnp_wire.specs.declared.fault.Fault.TheVariants as fault
use Rattle.capnp_schema.specs.Schema.{FieldKind, Group, Schemas, Slot, field_at, is_member}
use Rattle.capnp_schema.specs.Types.{ListType, SchemaType, StructType}
use Rattle.capnp_records.specs.Call.{ElementAt, FieldNumber, PathStep}
use Rattle.capnp_records.specs.Part.{value_count}
use Rattle.capnp_records.specs.Record as value
use Rattle.capnp_records.specs.Record.{Active, Endless, Left, MoreValues, NoUnion, NoValues, Parts, Record, Union, Unknown, Value, Values}
use Rattle.capnp_diffs.specs.Changes.{AreElsewhere, AreFieldsTold, ByKind, Change, Either, IsGroupTold, IsLeafTold, IsRecordTold, IsRowTold, IsTold, IsUnionTold, OnlyIf, all_behind, field_changes, if_active, list_changes, record_changes, row_changes, same_bits, same_bytes, same_fault, same_leaf, same_number, same_structs, same_tree, same_trees, same_truth, switch_changes, union_changes, unless_same, value_changes, whole_change}

-- ---- lists of changes ----

pub none_left : (xs ys : List Change) → (xs ++ ys) ≡ [] → xs ≡ []
none_left [] ys e = refl
none_left (x ∷ xs) ys e = absurd (some_none e)
  where
    some_none : {c : Change} {cs : List Change} → (c ∷ cs) ≡ [] → ⊥
    some_none e = cc

pub none_right : (xs ys : List Change) → (xs ++ ys) ≡ [] → ys ≡ []
none_right [] ys e = e
none_right (x ∷ xs) ys e = absurd (some_none e)
  where
    some_none : {c : Change} {cs : List Change} → (c ∷ cs) ≡ [] → ⊥
    some_none e = cc

pub none_behind : (step : PathStep) (cs : List Change) → all_behind step cs ≡ [] → cs ≡ []
none_behind step [] e = refl
none_behind step (c ∷ cs) e = absurd (some_none e)
  where
    some_none : {c : Change} {cs : List Change} → (c ∷ cs) ≡ [] → ⊥
    some_none e = cc

pub one_none : {c : Change} {cs : List Change} → (c ∷ cs) ≡ [] → ⊥
one_none e = cc

-- ---- values without parts ----

and_both : (a b : Bool) → (a && b) ≡ true → (a ≡ true) × (b ≡ true)
and_both true b e = (refl, e)
and_both false b e = absurd (true≢false (sym e))

same_bytes_is : (xs ys : List ℕ) → same_bytes xs ys ≡ true → xs ≡ ys
same_bytes_is [] [] e = refl
same_bytes_is (x ∷ xs) (y ∷ ys) e = let (head, tail) = and_both (x == y) (same_bytes xs ys) e in ap₂ (λ a b. a ∷ b) (eqb-true x y head) (same_bytes_is xs ys tail)
same_bytes_is xs ys e = absurd (true≢false (sym e))

pub same_bytes_refl : (xs : List ℕ) → same_bytes xs xs ≡ true
same_bytes_refl [] = refl
same_bytes_refl (x ∷ xs) = ap₂ (λ a b. a && b) (eq-eqb x x refl) (same_bytes_refl xs)

same_number_is : (x y : ℤ) → same_number x y ≡ true → x ≡ y
same_number_is (pos m) (pos n) e = ap pos (eqb-true m n e)
same_number_is (negsuc m) (negsuc n) e = ap negsuc (eqb-true m n e)
same_number_is x y e = absurd (true≢false (sym e))

same_number_refl : (x : ℤ) → same_number x x ≡ true
same_number_refl (pos n) = eq-eqb n n refl
same_number_refl (negsuc n) = eq-eqb n n refl

same_truth_is : (a b : Bool) → same_truth a b ≡ true → a ≡ b
same_truth_is true true e = refl
same_truth_is false false e = refl
same_truth_is a b e = absurd (true≢false (sym e))

same_truth_refl : (a : Bool) → same_truth a a ≡ true
same_truth_refl true = refl
same_truth_refl false = refl

same_bits_is : (xs ys : List Bool) → same_bits xs ys ≡ true → xs ≡ ys
same_bits_is [] [] e = refl
same_bits_is (a ∷ xs) (b ∷ ys) e = let (head, tail) = and_both (same_truth a b) (same_bits xs ys) e in ap₂ (λ x y. x ∷ y) (same_truth_is a b head) (same_bits_is xs ys tail)
same_bits_is xs ys e = absurd (true≢false (sym e))

same_bits_refl : (xs : List Bool) → same_bits xs xs ≡ true
same_bits_refl [] = refl
same_bits_refl (a ∷ xs) = ap₂ (λ x y. x && y) (same_truth_refl a) (same_bits_refl xs)

same_fault_is : (j k : Fault) → same_fault j k ≡ true → j ≡ k
same_fault_is fault.BadPointer fault.BadPointer e = refl
same_fault_is fault.TooDeep fault.TooDeep e = refl
same_fault_is fault.CapabilityPointer fault.CapabilityPointer e = refl
same_fault_is j k e = absurd (true≢false (sym e))

same_fault_refl : (k : Fault) → same_fault k k ≡ true
same_fault_refl fault.BadPointer = refl
same_fault_refl fault.TooDeep = refl
same_fault_refl fault.CapabilityPointer = refl

mutual
  same_tree_is : (x y : Tree) → same_tree x y ≡ true → x ≡ y
  same_tree_is tree.Null tree.Null e = refl
  same_tree_is (tree.Struct xs ps) (tree.Struct ys qs) e = let (data_is, below_is) = and_both (same_bytes xs ys) (same_trees ps qs) e in ap₂ tree.Struct (same_bytes_is xs ys data_is) (same_trees_is ps qs below_is)
  same_tree_is (tree.Voids m) (tree.Voids n) e = ap tree.Voids (eqb-true m n e)
  same_tree_is (tree.Bits xs) (tree.Bits ys) e = ap tree.Bits (same_bits_is xs ys e)
  same_tree_is (tree.Numbers m xs) (tree.Numbers n ys) e = let (width_is, bytes_is) = and_both (m == n) (same_bytes xs ys) e in ap₂ tree.Numbers (eqb-true m n width_is) (same_bytes_is xs ys bytes_is)
  same_tree_is (tree.Pointers ps) (tree.Pointers qs) e = ap tree.Pointers (same_trees_is ps qs e)
  same_tree_is (tree.Composite a b es) (tree.Composite c d fs) e =
      let (first_is, rest) = and_both (a == c) ((b == d) && same_structs es fs) e in
      let (second_is, below_is) = and_both (b == d) (same_structs es fs) rest in
      ap₂ (λ (sizes : ℕ × ℕ) (z : Structs). tree.Composite sizes.0 sizes.1 z) (ap₂ (λ (m n : ℕ). (m, n)) (eqb-true a c first_is) (eqb-true b d second_is)) (same_structs_is es fs below_is)
  same_tree_is (tree.FaultLeaf j) (tree.FaultLeaf k) e = ap tree.FaultLeaf (same_fault_is j k e)
  same_tree_is x y e = absurd (true≢false (sym e))

  same_trees_is : (xs ys : Trees) → same_trees xs ys ≡ true → xs ≡ ys
  same_trees_is tree.NoTrees tree.NoTrees e = refl
  same_trees_is (tree.MoreTrees x xs) (tree.MoreTrees y ys) e = let (head, tail) = and_both (same_tree x y) (same_trees xs ys) e in ap₂ tree.MoreTrees (same_tree_is x y head) (same_trees_is xs ys tail)
  same_trees_is xs ys e = absurd (true≢false (sym e))

  same_structs_is : (es fs : Structs) → same_structs es fs ≡ true → es ≡ fs
  same_structs_is tree.NoStructs tree.NoStructs e = refl
  same_structs_is (tree.MoreStructs xs ps es) (tree.MoreStructs ys qs fs) e =
      let (data_is, rest) = and_both (same_bytes xs ys) (same_trees ps qs && same_structs es fs) e in
      let (below_is, others) = and_both (same_trees ps qs) (same_structs es fs) rest in
      ap₂ (λ (here : StructTree) (z : Structs). tree.MoreStructs here.bytes here.pointers z)
      (ap₂ (λ (bytes : List ℕ) (pointers : Trees). record { bytes = bytes; pointers = pointers }) (same_bytes_is xs ys data_is) (same_trees_is ps qs below_is)) (same_structs_is es fs others)
  same_structs_is es fs e = absurd (true≢false (sym e))

mutual
  pub same_tree_refl : (x : Tree) → same_tree x x ≡ true
  same_tree_refl tree.Null = refl
  same_tree_refl (tree.Struct xs ps) = ap₂ (λ a b. a && b) (same_bytes_refl xs) (same_trees_refl ps)
  same_tree_refl (tree.Voids n) = eq-eqb n n refl
  same_tree_refl (tree.Bits xs) = same_bits_refl xs
  same_tree_refl (tree.Numbers n xs) = ap₂ (λ a b. a && b) (eq-eqb n n refl) (same_bytes_refl xs)
  same_tree_refl (tree.Pointers ps) = same_trees_refl ps
  same_tree_refl (tree.Composite m n es) = ap₂ (λ a b. a && b) (eq-eqb m m refl) (ap₂ (λ a b. a && b) (eq-eqb n n refl) (same_structs_refl es))
  same_tree_refl (tree.FaultLeaf k) = same_fault_refl k

  same_trees_refl : (xs : Trees) → same_trees xs xs ≡ true
  same_trees_refl tree.NoTrees = refl
  same_trees_refl (tree.MoreTrees x xs) = ap₂ (λ a b. a && b) (same_tree_refl x) (same_trees_refl xs)

  same_structs_refl : (es : Structs) → same_structs es es ≡ true
  same_structs_refl tree.NoStructs = refl
  same_structs_refl (tree.MoreStructs xs ps es) = ap₂ (λ a b. a && b) (same_bytes_refl xs) (ap₂ (λ a b. a && b) (same_trees_refl ps) (same_structs_refl es))

pub same_leaf_is : (v w : Value) → same_leaf v w ≡ true → v ≡ w
same_leaf_is value.Void value.Void e = refl
same_leaf_is (value.Truth a) (value.Truth b) e = ap value.Truth (same_truth_is a b e)
same_leaf_is (value.Number x) (value.Number y) e = ap value.Number (same_number_is x y e)
same_leaf_is (value.Enum m) (value.Enum n) e = ap value.Enum (eqb-true m n e)
same_leaf_is (value.Text xs) (value.Text ys) e = ap value.Text (same_bytes_is xs ys e)
same_leaf_is (value.Data xs) (value.Data ys) e = ap value.Data (same_bytes_is xs ys e)
same_leaf_is (value.Untyped x) (value.Untyped y) e = ap value.Untyped (same_tree_is x y e)
same_leaf_is (value.Missing Endless) (value.Missing Endless) e = refl
same_leaf_is value.Elsewhere value.Elsewhere e = refl
same_leaf_is v w e = absurd (true≢false (sym e))

pub same_leaf_refl : (t : SchemaType) (v : Value) → IsLeafTold t v v → same_leaf v v ≡ true
same_leaf_refl t value.Void told = refl
same_leaf_refl t (value.Truth a) told = same_truth_refl a
same_leaf_refl t (value.Number x) told = same_number_refl x
same_leaf_refl t (value.Enum n) told = eq-eqb n n refl
same_leaf_refl t (value.Text xs) told = same_bytes_refl xs
same_leaf_refl t (value.Data xs) told = same_bytes_refl xs
same_leaf_refl t (value.Struct r) told = absurd told.2
same_leaf_refl t (value.Group r) told = absurd told.0
same_leaf_refl t (value.Elements vs) told = absurd told.2
same_leaf_refl t (value.Untyped x) told = same_tree_refl x
same_leaf_refl t (value.Fault kind) told = absurd told.0
same_leaf_refl t (value.Missing Endless) told = refl
same_leaf_refl t (value.Missing (Left n)) told = absurd told.1
same_leaf_refl t value.Elsewhere told = refl

-- no change of a leaf: it is the same
leaf_same : (q : Bool) (v w : Value) (c : Change) → same_leaf v w ≡ q → unless_same q c ≡ [] → v ≡ w
leaf_same true v w c e none = same_leaf_is v w e
leaf_same false v w c e none = absurd (one_none none)

-- ---- all values ----

pub elsewhere_same : (v w : Value) → AreElsewhere v w → v ≡ w
elsewhere_same value.Elsewhere value.Elsewhere told = refl
elsewhere_same v w told = absurd told

-- a list is unchanged where its elements are
list_none : (step : PathStep) (e : SchemaType) (ws : Values) (q : Bool) (cs : List Change) → list_changes step e ws q cs ≡ [] → (q ≡ true) × (cs ≡ [])
list_none step (StructType b g) ws true cs none = (refl, none_behind step cs none)
list_none step e ws true [] none = (refl, refl)
list_none step e ws true (c ∷ cs) none = absurd (one_none none)
list_none step e ws false cs none = absurd (one_none none)

no_switch : (set : Schemas) (j : ℕ) (t : SchemaType) (w : Value) → switch_changes set j t w ≡ [] → ⊥
no_switch set j (StructType b g) (value.Group q) none = one_none none
no_switch set j t w none = one_none none

by_kind : {S G : Type 0} {R : Type 0} (k : FieldKind) → (S → R) → (G → R) → ByKind k S G → R
by_kind (Slot offset d) s g told = s told
by_kind (Group node) s g told = g told

by_member : {M F : Type 0} {R : Type 0} (q : Bool) → (M → R) → (F → R) → Either q M F → R
by_member true m f told = m told
by_member false m f told = f told

-- the active member is the same, and so is what it has
active_same : (i j : ℕ) (v w : Value) (q : Bool) (kept switched : Type 0) (cs ds : List Change) → (j == i) ≡ q → (kept → cs ≡ [] → v ≡ w) → (ds ≡ [] → ⊥) → Either q kept switched → if_active q cs ds ≡ [] → Active i v ≡ Active j w
active_same i j v w true kept switched cs ds e same never told none = ap₂ Active (sym (eqb-true j i e)) (same told none)
active_same i j v w false kept switched cs ds e same never told none = absurd (never none)

-- at the place of a member nothing is changed
pub nothing_elsewhere : (set : Schemas) (t : SchemaType) (step : PathStep) → value_changes set step t value.Elsewhere value.Elsewhere ≡ []
nothing_elsewhere set (StructType b g) step = refl
nothing_elsewhere set (ListType e) step = refl
nothing_elsewhere set t step = refl

module _ (set : Schemas) where
  mutual
    pub told_same : (t : SchemaType) (v w : Value) (step : PathStep) → IsTold set t v w → value_changes set step t v w ≡ [] → v ≡ w
    told_same (StructType b g) (value.Struct r) (value.Struct q) step told none = ap value.Struct (record_same q r b told (none_behind step (record_changes set b r q) none))
    told_same (ListType e) (value.Elements vs) (value.Elements ws) step told none =
        let (count, rest) = list_none step e ws (value_count vs == value_count ws) (row_changes set e 0 vs ws) none in
        ap value.Elements (row_same ws vs e 0 (eqb-true _ _ count) (subst (λ q. OnlyIf q (IsRowTold set e vs ws)) count told) rest)
    told_same (StructType b g) (value.Group r) (value.Group q) step told none = absurd told.0
    told_same t v w step told none = leaf_same (same_leaf v w) v w (whole_change step t w) refl none

    pub group_same : (t : SchemaType) (v w : Value) (step : PathStep) → IsGroupTold set t v w → value_changes set step t v w ≡ [] → v ≡ w
    group_same (StructType b g) (value.Group r) (value.Group q) step told none = ap value.Group (record_same q r b told (none_behind step (record_changes set b r q) none))
    group_same t v w step told none = absurd told

    pub row_same : (ws vs : Values) (e : SchemaType) (i : ℕ) → value_count vs ≡ value_count ws → IsRowTold set e vs ws → row_changes set e i vs ws ≡ [] → vs ≡ ws
    row_same NoValues NoValues e i count told none = refl
    row_same NoValues (MoreValues v vs) e i count told none = absurd (omega (arith, count))
    row_same (MoreValues w ws) NoValues e i count told none = absurd (omega (arith, count))
    row_same (MoreValues w ws) (MoreValues v vs) e i count told none =
        ap₂ MoreValues (told_same e v w (ElementAt i) told.1 (none_left _ _ none)) (row_same ws vs e (suc i) (omega (arith, count)) told.2 (none_right _ _ none))

    pub fields_same : (ws vs : Values) (b i : ℕ) → AreFieldsTold set b i vs ws → field_changes set b i vs ws ≡ [] → vs ≡ ws
    fields_same NoValues NoValues b i told none = refl
    fields_same NoValues (MoreValues v vs) b i told none = absurd told
    fields_same (MoreValues w ws) NoValues b i told none = absurd told
    fields_same (MoreValues w ws) (MoreValues v vs) b i told none =
        ap₂ MoreValues
        (by_member (is_member (field_at set b i).field) (elsewhere_same v w)
        (by_kind (field_at set b i).field.kind (λ is. told_same (field_at set b i).type v w (FieldNumber i) is (none_left _ _ none)) (λ is. group_same (field_at set b i).type v w (FieldNumber i) is (none_left _ _ none)))
        told.1)
        (fields_same ws vs b (suc i) told.2 (none_right _ _ none))

    pub union_same : (w u : Union) (b : ℕ) → IsUnionTold set b u w → union_changes set b u w ≡ [] → u ≡ w
    union_same NoUnion NoUnion b told none = refl
    union_same NoUnion (Active i v) b told none = absurd told
    union_same NoUnion (Unknown m) b told none = absurd told
    union_same (Unknown n) NoUnion b told none = absurd told
    union_same (Unknown n) (Active i v) b told none = absurd told
    union_same (Unknown n) (Unknown m) b told none = ap Unknown told
    union_same (Active j w) NoUnion b told none = absurd (no_switch set j (field_at set b j).type w none)
    union_same (Active j w) (Unknown m) b told none = absurd (no_switch set j (field_at set b j).type w none)
    union_same (Active j w) (Active i v) b told none =
        active_same i j v w (j == i) _ _ _ _ refl
        (by_kind (field_at set b j).field.kind (told_same (field_at set b j).type v w (FieldNumber j)) (group_same (field_at set b j).type v w (FieldNumber j)))
        (no_switch set j (field_at set b j).type w) told.2 none

    pub record_same : (q r : Record) (b : ℕ) → IsRecordTold set b r q → record_changes set b r q ≡ [] → r ≡ q
    record_same (Parts ws w) (Parts vs u) b told none = ap₂ Parts (fields_same ws vs b 0 told.0 (none_left _ _ none)) (union_same w u b told.1 (none_right _ _ none))

  -- ---- equal values have no change ----

  unless_none : (q : Bool) (c : Change) → q ≡ true → unless_same q c ≡ []
  unless_none true c e = refl
  unless_none false c e = absurd (true≢false (sym e))

  list_unchanged : (step : PathStep) (e : SchemaType) (ws : Values) (q : Bool) (cs : List Change) → q ≡ true → cs ≡ [] → list_changes step e ws q cs ≡ []
  list_unchanged step (StructType b g) ws true [] e none = refl
  list_unchanged step t ws true [] e none = refl
  list_unchanged step t ws true (c ∷ cs) e none = absurd (one_none none)
  list_unchanged step t ws false cs e none = absurd (true≢false (sym e))

  both_none : (xs ys : List Change) → xs ≡ [] → ys ≡ [] → (xs ++ ys) ≡ []
  both_none xs ys e f = ap₂ (λ a b. a ++ b) e f

  active_none : (q : Bool) (kept switched : Type 0) (cs ds : List Change) → q ≡ true → (kept → cs ≡ []) → Either q kept switched → if_active q cs ds ≡ []
  active_none true kept switched cs ds e none told = none told
  active_none false kept switched cs ds e none told = absurd (true≢false (sym e))

  pub elsewhere_none : (t : SchemaType) (v : Value) (step : PathStep) → AreElsewhere v v → value_changes set step t v v ≡ []
  elsewhere_none t value.Elsewhere step told = nothing_elsewhere set t step
  elsewhere_none t v step told = absurd told

  mutual
    pub told_none : (t : SchemaType) (v : Value) (step : PathStep) → IsTold set t v v → value_changes set step t v v ≡ []
    told_none (StructType b g) (value.Struct r) step told = ap (all_behind step) (record_none r b told)
    told_none (ListType e) (value.Elements vs) step told =
        let count = eq-eqb (value_count vs) (value_count vs) refl in
        list_unchanged step e vs (value_count vs == value_count vs) (row_changes set e 0 vs vs) count (row_none vs e 0 (subst (λ q. OnlyIf q (IsRowTold set e vs vs)) count told))
    told_none (StructType b g) (value.Group r) step told = absurd told.0
    told_none t v step told = unless_none (same_leaf v v) (whole_change step t v) (same_leaf_refl t v told)

    pub group_none : (t : SchemaType) (v : Value) (step : PathStep) → IsGroupTold set t v v → value_changes set step t v v ≡ []
    group_none (StructType b g) (value.Group r) step told = ap (all_behind step) (record_none r b told)
    group_none t v step told = absurd told

    pub row_none : (vs : Values) (e : SchemaType) (i : ℕ) → IsRowTold set e vs vs → row_changes set e i vs vs ≡ []
    row_none NoValues e i told = refl
    row_none (MoreValues v vs) e i told = both_none _ _ (told_none e v (ElementAt i) told.1) (row_none vs e (suc i) told.2)

    pub fields_none : (vs : Values) (b i : ℕ) → AreFieldsTold set b i vs vs → field_changes set b i vs vs ≡ []
    fields_none NoValues b i told = refl
    fields_none (MoreValues v vs) b i told =
        both_none _ _
        (by_member (is_member (field_at set b i).field) (elsewhere_none (field_at set b i).type v (FieldNumber i))
        (by_kind (field_at set b i).field.kind (told_none (field_at set b i).type v (FieldNumber i)) (group_none (field_at set b i).type v (FieldNumber i)))
        told.1)
        (fields_none vs b (suc i) told.2)

    pub union_none : (u : Union) (b : ℕ) → IsUnionTold set b u u → union_changes set b u u ≡ []
    union_none NoUnion b told = refl
    union_none (Unknown n) b told = refl
    union_none (Active i v) b told =
        active_none (i == i) _ _ _ _ (eq-eqb i i refl) (by_kind (field_at set b i).field.kind (told_none (field_at set b i).type v (FieldNumber i)) (group_none (field_at set b i).type v (FieldNumber i))) told.2

    pub record_none : (r : Record) (b : ℕ) → IsRecordTold set b r r → record_changes set b r r ≡ []
    record_none (Parts vs u) b told = both_none _ _ (fields_none vs b 0 told.0) (union_none u b told.1)
