-- What stands behind a pointer's slot that a step goes into, and why it is refused.
use Rattle.std.proofs.Common.{ℕ, zero, suc, ◌≡◌, refl, Bool, true, false, not, ◌&&◌, Option, Some, None, Ok, Err, IsTrue, IfErr, OnOk, Result, IsOk, length, ap, sym, subst, ◌∙◌}
use Rattle.std.proofs.lemmas.Bool.{true≢false}
use Rattle.capnp_device.specs.declared.error.Error.{Error}
use Rattle.capnp_device.specs.declared.error.ErrorKind.{ErrorKind}
use Rattle.capnp_device.specs.declared.error.ErrorKind.TheVariants.{InactiveMember, OutOfMemory}
use Rattle.capnp_wire.specs.Edits.{IsDueRefusal, struct_refusal}
use Rattle.capnp_wire.specs.Tree as tree
use Rattle.capnp_wire.specs.Tree.{MoreTrees, NoTrees, StructTree, Tree, Trees, nth_tree}
use Rattle.capnp_wire.specs.Words.{first_fault, first_fault_of_all, first_of}
use Rattle.capnp_wire.specs.declared.fault.Fault.{Fault}
use Rattle.capnp_schema.specs.FieldLists.{index_of, typed_of}
use Rattle.capnp_schema.specs.Schema.{FieldKind, Group, Schemas, Slot, default_of, kind_default, Value as SchemaValue}
use Rattle.capnp_schema.specs.Types.{SchemaType, StructType, is_pointer}
use Rattle.capnp_schema.specs.declared.schema.fields.Field.{Field}
use Rattle.capnp_records.specs.Facts.Refusals.{struct_refused}
use Rattle.capnp_records.specs.Call.{Refused}
use Rattle.capnp_records.specs.Facts.Frame.{chosen_first}
use Rattle.capnp_records.specs.Facts.PartRead.{CanEnter, can_enter, slot_part}
use Rattle.capnp_records.specs.Facts.Pointers.{values_of_nth}
use Rattle.capnp_records.specs.Part.{is_inactive}
use Rattle.capnp_records.specs.Reading.{Reading, kind_value, reads, record_within, value_of, values_of}
use Rattle.capnp_records.specs.Record.{Endless, Record, Value}
use Rattle.capnp_records.specs.Record as value
use Rattle.capnp_records.specs.Step.{CanRefuse, Found, StepTarget, fault_of, for_memory, is_group_field, takes_room, walked_by_type}
use Rattle.capnp_records.specs.Writes.Fill.{IsAtRest}
use Rattle.capnp_records.specs.Writes.Stand.{FieldRests, KindRests, KindWithin, SlotWithin, left_field}
use Rattle.capnp_records.specs.Writes.TreeEnds.{TreeEnds, offset_of}
use Rattle.capnp_records.specs.Writes.TreeRun.{TreeEnd, TreeWalks}
use Rattle.capnp_slots.specs.Fields.{IsPointerField, IsSlot, field_brand, field_set}
use Rattle.capnp_slots.specs.Fills.{RestsIn, due_in, fill_due, pointer_in}
use Rattle.capnp_call.proofs.Entered.{enters, part_in, passes, short, unread}
use Rattle.capnp_call.specs.Walks.{IsWalked, StepGoes, StepStops}
use Rattle.capnp_call.specs.Steps.Walks.{FieldEnters}
use Rattle.capnp_call.specs.Ways.{target_in}

-- ---- trees ----

some_none : {A : Type 0} {a : A} → Some a ≡ None → ⊥
some_none e = cc

first_none : (o p : Option Fault) → first_of o p ≡ None → o ≡ None
first_none None p h = refl
first_none (Some k) p h = absurd (some_none h)

later_none : (o p : Option Fault) → first_of o p ≡ None → p ≡ None
later_none None p h = h
later_none (Some k) p h = absurd (some_none h)

-- a pointer of a row without faults is none
pub nth_sound : (ts : Trees) (i : ℕ) → first_fault_of_all ts ≡ None → first_fault (nth_tree ts i) ≡ None
nth_sound NoTrees i h = refl
nth_sound (MoreTrees t ts) zero h = first_none (first_fault t) (first_fault_of_all ts) h
nth_sound (MoreTrees t ts) (suc i) h = nth_sound ts i (later_none (first_fault t) (first_fault_of_all ts) h)

-- a struct, or a null, can be read as one
struct_read : (set : Schemas) (x : Tree) (b g : ℕ) → struct_refusal x ≡ None → first_fault x ≡ None → fault_of (value_of set x Endless (StructType b g)) ≡ None
struct_read set tree.Null b g due whole = refl
struct_read set (tree.Struct bytes ps) b g due whole = refl
struct_read set (tree.Voids n) b g due whole = absurd (some_none due)
struct_read set (tree.Bits bs) b g due whole = absurd (some_none due)
struct_read set (tree.Numbers w bytes) b g due whole = absurd (some_none due)
struct_read set (tree.Pointers ps) b g due whole = absurd (some_none due)
struct_read set (tree.Composite d p es) b g due whole = absurd (some_none due)
struct_read set (tree.FaultLeaf k) b g due whole = absurd (some_none whole)

-- ---- a field that is walked ----

err_ok : {A : Type 0} {kind : ErrorKind} {a : A} → Ok a ≡ Err kind → ⊥
err_ok e = cc

-- is active
pub walked_active : (f : Field) (s : StructTree) → IsWalked f s → is_inactive (reads (field_set f) s (field_brand f)) (typed_of f).field (index_of f) ≡ false
walked_active f s walks = go (target_in value.Struct f s).inactive refl (walks value.Struct)
  where
    x : StepTarget
    x = target_in value.Struct f s

    go : (q : Bool) → x.inactive ≡ q → Ok x ≡ (elim q as (λ _. Found) [ true ↦ Err InactiveMember | false ↦ walked_by_type x x.type ]) → x.inactive ≡ false
    go true e h = absurd (err_ok h)
    go false e h = e

-- what a pointer's slot has is what its tree reads as
pub pointed : (f : Field) (s : StructTree) → IsSlot f → IsPointerField f → IsWalked f s → part_in f s ≡ value_of (field_set f) (pointer_in f s) Endless (typed_of f).type
pointed f s slot pointer walks = go (typed_of f).field.kind refl
  where
    set : Schemas
    set = field_set f

    t : SchemaType
    t = (typed_of f).type

    enter : CanEnter set s (field_brand f) (index_of f)
    enter = can_enter set s (field_brand f) (index_of f) f.inside (walked_active f s walks)

    go : (k : FieldKind) → (typed_of f).field.kind ≡ k → part_in f s ≡ value_of set (nth_tree s.pointers (offset_of k)) Endless t
    go (Slot offset d) e =
        enter.part ∙ (slot_part set Endless s (typed_of f) offset d e
        ∙ (chosen_first (is_pointer t) _ _ pointer
        ∙ ap (λ (r : Reading). r Endless t) (values_of_nth set s.pointers offset)))
    go (Group node) e = absurd (true≢false (sym (ap is_group_field e) ∙ slot))

-- a slot at which a step rests
rests_kind : (set : Schemas) (k : FieldKind) (t : SchemaType) (s : StructTree) → is_group_field k ≡ false → KindRests set k t s → IsAtRest set (kind_default k) t (nth_tree s.pointers (offset_of k))
rests_kind set (Slot offset d) t s slot h = h
rests_kind set (Group node) t s slot h = absurd (true≢false slot)

pub rests_in : (f : Field) (s : StructTree) → IsSlot f → FieldRests (field_set f) (typed_of f) s → RestsIn f s
rests_in f s slot h = rests_kind (field_set f) (typed_of f).field.kind (typed_of f).type s slot h

-- ---- refusals ----

abbrev pub is_memory : ErrorKind → Bool
is_memory OutOfMemory = true
is_memory k = false

pub memory_is : (k : ErrorKind) → is_memory k ≡ true → k ≡ OutOfMemory
memory_is OutOfMemory h = refl
memory_is k h = absurd (true≢false (sym h))

-- what nothing there refuses is refused for the want of memory
pub due_memory : (e : Error) (due : Option ErrorKind) → IsDueRefusal e due → due ≡ None → e.kind ≡ OutOfMemory
due_memory e due refusal none = go (is_memory e.kind) refl
  where
    go : (q : Bool) → is_memory e.kind ≡ q → e.kind ≡ OutOfMemory
    go true h = memory_is e.kind h
    go false h = absurd (some_none (sym (refusal.0 (λ same. true≢false (sym (ap is_memory same) ∙ h))) ∙ none))

-- ---- a struct's slot ----

module _ (f : Field) (s : StructTree) (b g : ℕ) (slot : IsSlot f) (pointer : IsPointerField f) (type_is : StructType b g ≡ (typed_of f).type) (walks : IsWalked f s) (whole : first_fault_of_all s.pointers ≡ None) where
  abbrev x : Tree
  x = pointer_in f s

  abbrev set : Schemas
  set = field_set f

  abbrev d : SchemaValue
  d = default_of (typed_of f).field

  struct_within : (k : FieldKind) (t : SchemaType) → StructType b g ≡ t → KindWithin set k t s
  struct_within (Slot offset d) t e = subst (λ (u : SchemaType). SlotWithin set u d (nth_tree s.pointers offset)) e tt
  struct_within (Group node) t e = tt

  read : due_in f s ≡ None → fault_of (part_in f s) ≡ None
  read due =
      ap fault_of (pointed f s slot pointer walks)
      ∙ subst (λ (t : SchemaType). fill_due set d t x ≡ None → fault_of (value_of set x Endless t) ≡ None) type_is (λ e. struct_read set x b g e (nth_sound s.pointers _ whole)) due

  unreadable : (kind : ErrorKind) → due_in f s ≡ Some kind → fault_of (part_in f s) ≡ Some kind
  unreadable kind due =
      ap fault_of (pointed f s slot pointer walks)
      ∙ subst (λ (t : SchemaType). fill_due set d t x ≡ Some kind → fault_of (value_of set x Endless t) ≡ Some kind) type_is (λ e. struct_refused set x b g kind e) due

  has_room : (whole : Record → Value) → CanRefuse set (target_in whole f s) OutOfMemory
  has_room whole =
      for_memory (subst (λ (t : SchemaType). IsTrue (takes_room (target_in whole f s) t (part_in f s))) type_is (subst (λ (q : Bool). IsTrue (not q && true)) (sym slot) refl))

  -- nothing is refused there: the struct is entered
  pub struct_goes : due_in f s ≡ None → StepGoes f s
  struct_goes due path last op reply inner goes_on =
      passes f (TreeWalks set (TreeEnds set last op) path) s reply (left_field (typed_of f) s inner) walks
      (enters f (TreeWalks set (TreeEnds set last op) path) s reply (left_field (typed_of f) s inner) (read due) (struct_within (typed_of f).field.kind (typed_of f).type type_is) inner goes_on refl)

  -- something else stands there, or memory is refused
  pub struct_stops : (e : Error) → IsDueRefusal e (due_in f s) → (RestsIn f s → ⊥) → StepStops f s e.kind
  struct_stops e refusal moves path last op = passes f further s (Refused e.kind) s walks (go (due_in f s) refl)
    where
      further : TreeEnd
      further = TreeWalks set (TreeEnds set last op) path

      go : (o : Option ErrorKind) → due_in f s ≡ o → FieldEnters f further s (Refused e.kind) s
      go (Some kind) due = unread f further s (Refused e.kind) s kind (unreadable kind due) (ap Refused (refusal.1 kind due)) refl
      go None due = short f further s (Refused e.kind) s OutOfMemory (read due) has_room (λ h. moves (rests_in f s slot h)) (ap Refused (due_memory e (due_in f s) refusal due)) refl

  -- the same of an answer
  pub struct_entered : {A : Type 0} (r : Result A Error) → OnOk r (due_in f s ≡ None) → OnOk r (StepGoes f s)
  struct_entered (Ok a) h = struct_goes h
  struct_entered (Err e) h = tt

  pub struct_stopped : {A : Type 0} (r : Result A Error) → IfErr r (λ e. IsDueRefusal e (due_in f s)) → (RestsIn f s → IsOk r) → IfErr r (λ e. StepStops f s e.kind)
  struct_stopped (Ok a) h rests = tt
  struct_stopped (Err e) h rests = struct_stops e h (λ at. true≢false (sym (rests at)))

-- ---- a group ----

-- the same struct is entered
pub group_goes : (f : Field) (s : StructTree) → is_group_field (typed_of f).field.kind ≡ true → IsWalked f s → StepGoes f s
group_goes f s is_group walks path last op reply inner goes_on =
    passes f further s reply (left_field (typed_of f) s inner) walks (enters f further s reply (left_field (typed_of f) s inner) (ap fault_of enter.part ∙ read (typed_of f).field.kind is_group) (within (typed_of f).field.kind is_group) inner goes_on refl)
  where
    set : Schemas
    set = field_set f

    further : TreeEnd
    further = TreeWalks set (TreeEnds set last op) path

    enter : CanEnter set s (field_brand f) (index_of f)
    enter = can_enter set s (field_brand f) (index_of f) f.inside (walked_active f s walks)

    read : (k : FieldKind) → is_group_field k ≡ true → fault_of (kind_value (record_within (length set.brands) set Endless s.bytes (values_of set s.pointers)) Endless s.bytes (values_of set s.pointers) k (typed_of f).type) ≡ None
    read (Slot offset d) h = absurd (true≢false (sym h))
    read (Group node) h = refl

    within : (k : FieldKind) → is_group_field k ≡ true → KindWithin set k (typed_of f).type s
    within (Slot offset d) h = absurd (true≢false (sym h))
    within (Group node) h = tt
