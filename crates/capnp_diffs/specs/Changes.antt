-- What is changed where one record is made into another: the fields and elements that differ, by the paths to them.
use Rattle.std.specs.Prelude.{ℕ, suc, ◌<◌, ◌≡◌, ⊤, ℤ, pos, negsuc, List, [], ◌∷◌, ◌++◌, length, map, Bool, true, false, not, ◌==◌, ◌&&◌}
use Rattle.capnp_wire.specs.Tree as tree
use Rattle.capnp_wire.specs.Tree.{Structs, Tree, Trees}
use Rattle.capnp_wire.specs.declared.fault.Fault.{Fault}
use Rattle.capnp_wire.specs.declared.fault.Fault.TheVariants as fault
use Rattle.capnp_schema.specs.Types.{SchemaType, StructType, ListType, is_pointer}
use Rattle.capnp_schema.specs.Schema.{Schemas, FieldKind, Slot, Group, field_at, fields_of, is_member}
use Rattle.capnp_records.specs.Call.{PathStep, FieldNumber, ElementAt}
use Rattle.capnp_records.specs.Default.{default_record}
use Rattle.capnp_records.specs.Part.{active_value, is_active, value_count}
use Rattle.capnp_records.specs.Record as value
use Rattle.capnp_records.specs.Record.{Active, Endless, Left, MoreValues, NoUnion, NoValues, Parts, Record, Union, Unknown, Value, Values}

-- ---- what is done at a place ----

-- a value of a type is put there; or it becomes its default, of a pointer nothing; or a group becomes its default record
pub data Goal : Type 0 where
  Puts : SchemaType → Value → Goal
  Clears : Goal
  Inits : Goal

-- the path to a field, the field, and what is done to it
pub record Change : Type 0 where
  pub path : List PathStep
  pub last : PathStep
  pub goal : Goal

-- the same from one step further out
abbrev pub behind : PathStep → Change → Change
behind step c = record { path = step ∷ c.path; last = c.last; goal = c.goal }

abbrev pub all_behind : PathStep → List Change → List Change
all_behind step cs = map (behind step) cs

-- what is missing is cleared, and all else is put
abbrev pub goal_of : SchemaType → Value → Goal
goal_of t (value.Missing l) = Clears
goal_of t v = Puts t v

-- a part is replaced as a whole
abbrev pub whole_change : PathStep → SchemaType → Value → Change
whole_change step t w = record { path = []; last = step; goal = goal_of t w }

-- ---- values without parts ----

abbrev pub same_bytes : List ℕ → List ℕ → Bool
same_bytes [] [] = true
same_bytes (x ∷ xs) (y ∷ ys) = (x == y) && same_bytes xs ys
same_bytes xs ys = false

abbrev pub same_number : ℤ → ℤ → Bool
same_number (pos m) (pos n) = m == n
same_number (negsuc m) (negsuc n) = m == n
same_number x y = false

abbrev pub same_truth : Bool → Bool → Bool
same_truth true true = true
same_truth false false = true
same_truth a b = false

abbrev pub same_bits : List Bool → List Bool → Bool
same_bits [] [] = true
same_bits (a ∷ xs) (b ∷ ys) = same_truth a b && same_bits xs ys
same_bits xs ys = false

abbrev pub same_fault : Fault → Fault → Bool
same_fault fault.BadPointer fault.BadPointer = true
same_fault fault.TooDeep fault.TooDeep = true
same_fault fault.CapabilityPointer fault.CapabilityPointer = true
same_fault j k = false

-- whether two trees are the same, for untyped pointers
abbrev mutual
  pub same_tree : Tree → Tree → Bool
  same_tree tree.Null tree.Null = true
  same_tree (tree.Struct xs ps) (tree.Struct ys qs) = same_bytes xs ys && same_trees ps qs
  same_tree (tree.Voids m) (tree.Voids n) = m == n
  same_tree (tree.Bits xs) (tree.Bits ys) = same_bits xs ys
  same_tree (tree.Numbers m xs) (tree.Numbers n ys) = (m == n) && same_bytes xs ys
  same_tree (tree.Pointers ps) (tree.Pointers qs) = same_trees ps qs
  same_tree (tree.Composite a b es) (tree.Composite c d fs) = (a == c) && ((b == d) && same_structs es fs)
  same_tree (tree.FaultLeaf j) (tree.FaultLeaf k) = same_fault j k
  same_tree x y = false

  pub same_trees : Trees → Trees → Bool
  same_trees tree.NoTrees tree.NoTrees = true
  same_trees (tree.MoreTrees x xs) (tree.MoreTrees y ys) = same_tree x y && same_trees xs ys
  same_trees xs ys = false

  pub same_structs : Structs → Structs → Bool
  same_structs tree.NoStructs tree.NoStructs = true
  same_structs (tree.MoreStructs xs ps es) (tree.MoreStructs ys qs fs) = same_bytes xs ys && (same_trees ps qs && same_structs es fs)
  same_structs es fs = false

-- whether two values are the same, of those that have no parts; a float is its bits
abbrev pub same_leaf : Value → Value → Bool
same_leaf value.Void value.Void = true
same_leaf (value.Truth a) (value.Truth b) = same_truth a b
same_leaf (value.Number x) (value.Number y) = same_number x y
same_leaf (value.Enum m) (value.Enum n) = m == n
same_leaf (value.Text xs) (value.Text ys) = same_bytes xs ys
same_leaf (value.Data xs) (value.Data ys) = same_bytes xs ys
same_leaf (value.Untyped x) (value.Untyped y) = same_tree x y
same_leaf (value.Missing Endless) (value.Missing Endless) = true
same_leaf value.Elsewhere value.Elsewhere = true
same_leaf v w = false

abbrev pub unless_same : Bool → Change → List Change
unless_same true c = []
unless_same false c = c ∷ []

-- ---- lists ----

-- A list of structs of the same length is gone into. Any other list is put whole where it has another length or an element
-- that differs.
abbrev pub list_changes : PathStep → SchemaType → Values → (same_length : Bool) → (elements : List Change) → List Change
list_changes step (StructType b g) ws true cs = all_behind step cs
list_changes step e ws true [] = []
list_changes step e ws true (c ∷ cs) = whole_change step (ListType e) (value.Elements ws) ∷ []
list_changes step e ws false cs = whole_change step (ListType e) (value.Elements ws) ∷ []

-- ---- records ----

abbrev pub if_active : Bool → List Change → List Change → List Change
if_active true kept switched = kept
if_active false kept switched = switched

-- From an old value to a new one of a type, which a step leads to: structs, groups and lists that stand on both sides are gone
-- into; what else differs is put whole. The non-union fields come by index, and then the union's member: one that becomes
-- active is put, and a group that does is made anew first.
abbrev mutual
  pub value_changes : Schemas → PathStep → SchemaType → Value → Value → List Change
  value_changes set step (StructType b g) (value.Struct r) (value.Struct q) = all_behind step (record_changes set b r q)
  value_changes set step (StructType b g) (value.Group r) (value.Group q) = all_behind step (record_changes set b r q)
  value_changes set step (ListType e) (value.Elements vs) (value.Elements ws) = list_changes step e ws (value_count vs == value_count ws) (row_changes set e 0 vs ws)
  value_changes set step t v w = unless_same (same_leaf v w) (whole_change step t w)

  pub row_changes : Schemas → SchemaType → ℕ → Values → Values → List Change
  row_changes set e i (MoreValues v vs) (MoreValues w ws) = value_changes set (ElementAt i) e v w ++ row_changes set e (suc i) vs ws
  row_changes set e i vs ws = []

  pub field_changes : Schemas → ℕ → ℕ → Values → Values → List Change
  field_changes set b i (MoreValues v vs) (MoreValues w ws) = value_changes set (FieldNumber i) (field_at set b i).type v w ++ field_changes set b (suc i) vs ws
  field_changes set b i vs ws = []

  pub switch_changes : Schemas → ℕ → SchemaType → Value → List Change
  switch_changes set j (StructType b g) (value.Group q) =
      record { path = []; last = FieldNumber j; goal = Inits } ∷ all_behind (FieldNumber j) (record_changes set b (default_record set Endless b) q)
  switch_changes set j t w = whole_change (FieldNumber j) t w ∷ []

  pub union_changes : Schemas → ℕ → Union → Union → List Change
  union_changes set b u NoUnion = []
  union_changes set b u (Unknown number) = []
  union_changes set b u (Active j w) =
      if_active (is_active u j) (value_changes set (FieldNumber j) (field_at set b j).type (active_value u) w) (switch_changes set j (field_at set b j).type w)

  pub record_changes : Schemas → ℕ → Record → Record → List Change
  record_changes set b (Parts vs u) (Parts ws w) = field_changes set b 0 vs ws ++ union_changes set b u w

-- ---- which records have such calls ----

-- what can be read, and is no group
abbrev pub IsRead : Value → Type 0
IsRead (value.Fault kind) = ⊥
IsRead (value.Group r) = ⊥
IsRead v = ⊤

-- What a call can put into a slot: no untyped pointer but a null, and nothing that can't be read. What is missing is missing behind a
-- pointer.
abbrev pub CanStand : SchemaType → Value → Type 0
CanStand t (value.Fault kind) = ⊥
CanStand t (value.Group r) = ⊥
CanStand t (value.Untyped x) = ⊥
CanStand t (value.Missing Endless) = is_pointer t ≡ true
CanStand t (value.Missing (Left n)) = ⊥
CanStand t v = ⊤

-- values of which not both have parts
abbrev pub AreApart : Value → Value → Type 0
AreApart (value.Struct r) (value.Struct q) = ⊥
AreApart (value.Elements vs) (value.Elements ws) = ⊥
AreApart v w = ⊤

abbrev pub OnlyIf : Bool → Type 0 → Type 0
OnlyIf true P = P
OnlyIf false P = ⊤

-- both can be read, and what differs can be put
abbrev pub IsLeafTold : SchemaType → Value → Value → Type 0
IsLeafTold t v w = IsRead v × OnlyIf (not (same_leaf v w)) (CanStand t w) × AreApart v w

abbrev pub Either : Bool → Type 0 → Type 0 → Type 0
Either true P Q = P
Either false P Q = Q

abbrev pub ByKind : FieldKind → (slot : Type 0) → (group : Type 0) → Type 0
ByKind (Slot offset default) slot group = slot
ByKind (Group node) slot group = group

-- the elements of a list of structs are structs
abbrev pub AreElements : SchemaType → Value → Value → Type 0
AreElements (StructType b g) (value.Struct r) (value.Struct q) = ⊤
AreElements (StructType b g) v w = ⊥
AreElements e v w = ⊤

abbrev pub AreElsewhere : Value → Value → Type 0
AreElsewhere value.Elsewhere value.Elsewhere = ⊤
AreElsewhere v w = ⊥

-- Calls make the old value into the new one: each part that is looked at can be read on both sides, what changes can be put by
-- a call, and a discriminant that names no member stands in both. So it is at every depth that is gone into.
abbrev mutual
  pub IsTold : Schemas → SchemaType → Value → Value → Type 0
  IsTold set (StructType b g) (value.Struct r) (value.Struct q) = IsRecordTold set b r q
  IsTold set (ListType e) (value.Elements vs) (value.Elements ws) = OnlyIf (value_count vs == value_count ws) (IsRowTold set e vs ws)
  IsTold set t v w = IsLeafTold t v w

  pub IsGroupTold : Schemas → SchemaType → Value → Value → Type 0
  IsGroupTold set (StructType b g) (value.Group r) (value.Group q) = IsRecordTold set b r q
  IsGroupTold set t v w = ⊥

  pub IsRowTold : Schemas → SchemaType → Values → Values → Type 0
  IsRowTold set e (MoreValues v vs) (MoreValues w ws) = AreElements e v w × IsTold set e v w × IsRowTold set e vs ws
  IsRowTold set e vs ws = ⊤

  pub AreFieldsTold : Schemas → ℕ → ℕ → Values → Values → Type 0
  AreFieldsTold set b i (MoreValues v vs) (MoreValues w ws) =
      (i < length (fields_of set b))
      × Either (is_member (field_at set b i).field) (AreElsewhere v w) (ByKind (field_at set b i).field.kind (IsTold set (field_at set b i).type v w) (IsGroupTold set (field_at set b i).type v w))
      × AreFieldsTold set b (suc i) vs ws
  AreFieldsTold set b i NoValues NoValues = ⊤
  AreFieldsTold set b i vs ws = ⊥

  -- a member that becomes active
  pub IsSwitchTold : Schemas → SchemaType → Value → Type 0
  IsSwitchTold set (StructType b g) (value.Group q) = IsRecordTold set b (default_record set Endless b) q
  IsSwitchTold set t w = ⊥

  pub IsUnionTold : Schemas → ℕ → Union → Union → Type 0
  IsUnionTold set b NoUnion NoUnion = ⊤
  IsUnionTold set b (Unknown m) (Unknown n) = m ≡ n
  IsUnionTold set b u (Active j w) =
      (j < length (fields_of set b)) × (is_member (field_at set b j).field ≡ true)
      × Either (is_active u j)
      (ByKind (field_at set b j).field.kind (IsTold set (field_at set b j).type (active_value u) w) (IsGroupTold set (field_at set b j).type (active_value u) w))
      (ByKind (field_at set b j).field.kind (CanStand (field_at set b j).type w) (IsSwitchTold set (field_at set b j).type w))
  IsUnionTold set b u w = ⊥

  pub IsRecordTold : Schemas → ℕ → Record → Record → Type 0
  IsRecordTold set b (Parts vs u) (Parts ws w) = AreFieldsTold set b 0 vs ws × IsUnionTold set b u w
