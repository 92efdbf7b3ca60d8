-- What stands behind a list's slot that a step goes into, and why it is refused.
use Rattle.std.proofs.Common.{ℕ, ◌-◌, ◌*◌, ◌^◌, ◌<◌, ◌≡◌, ◌⊎◌, refl, List, Bool, true, false, not, ◌&&◌, Option, Some, None, Result, Ok, Err, IsOk, IsTrue, IfErr, OnOk, ap, inl, inr, sym, subst, ◌∙◌}
use Rattle.std.proofs.lemmas.Bool.{true≢false}
use Rattle.capnp_device.specs.declared.error.Error.{Error}
use Rattle.capnp_device.specs.declared.error.ErrorKind.{ErrorKind}
use Rattle.capnp_device.specs.declared.error.ErrorKind.TheVariants.{OutOfMemory}
use Rattle.capnp_wire.specs.Defaults.{list_refusal, takes_default}
use Rattle.capnp_wire.specs.Edits.{IsDueRefusal}
use Rattle.capnp_wire.specs.Elements.{reads_list}
use Rattle.capnp_wire.specs.Facts.Room.{reads_list_as_list}
use Rattle.capnp_wire.specs.Reading.{as_list, is_null_tree}
use Rattle.capnp_wire.specs.StructLists.{HoldsStructs}
use Rattle.capnp_wire.specs.Tree as tree
use Rattle.capnp_wire.specs.Tree.{StructTree, Tree, nth_tree}
use Rattle.capnp_wire.specs.WellFormed.{IsWellFormed}
use Rattle.capnp_wire.specs.Words.{first_fault, first_fault_of_all}
use Rattle.capnp_wire.specs.declared.size.StructSize.{StructSize}
use Rattle.capnp_schema.specs.Accepted.{Decodes, IsDefaultOf, KindDefault, words_root}
use Rattle.capnp_schema.specs.Defaults.{DefaultFits, IsDefaultReadAs, value_default_tree}
use Rattle.capnp_schema.specs.FieldLists.{typed_of}
use Rattle.capnp_schema.specs.Ranges.{HasRanges}
use Rattle.capnp_schema.specs.Schema.{AnyPointerValue, FieldKind, Group, ListValue, Schemas, Slot, StructValue, brand_at, default_of, kind_default, Value as SchemaValue}
use Rattle.capnp_schema.specs.Types.{ListType, SchemaType, StructType, element_size}
use Rattle.capnp_schema.specs.declared.schema.fields.Field.{Field}
use Rattle.capnp_records.specs.Call.{Refused}
use Rattle.capnp_records.specs.Facts.Extension.{list_sound}
use Rattle.capnp_records.specs.Facts.ListValues.{list_there}
use Rattle.capnp_records.specs.Facts.Readers.{null_is}
use Rattle.capnp_records.specs.Reading.{value_of}
use Rattle.capnp_records.specs.Record.{Endless, Record, Value, is_there}
use Rattle.capnp_records.specs.Record as value
use Rattle.capnp_records.specs.Step.{CanRefuse, StepTarget, fault_of, filled_value, for_memory, for_size, is_group_field, is_list_default, is_struct_list, size_of, takes_room}
use Rattle.capnp_records.specs.Writes.Fill.{IsAtRest, filled_list, list_or_default}
use Rattle.capnp_schema.specs.Plan.{brand_size}
use Rattle.capnp_records.specs.Writes.Stand.{KindWithin, SlotWithin, left_field}
use Rattle.capnp_records.specs.Writes.TreeEnds.{TreeEnds, offset_of}
use Rattle.capnp_records.specs.Writes.TreeRun.{TreeEnd, TreeWalks}
use Rattle.capnp_slots.specs.Fields.{IsPointerField, IsSlot, field_set}
use Rattle.capnp_slots.specs.Fills.{RestsIn, due_in, fill_due, filled_in, filled_tree, pointer_in}
use Rattle.capnp_call.proofs.Behind.{due_memory, nth_sound, pointed, rests_in}
use Rattle.capnp_call.proofs.Entered.{enters, part_in, passes, short, unread}
use Rattle.capnp_call.proofs.ListReads.{IsPastSize, IsTooLarge, IsUnreadable, kept_default, list_read, list_unfilled, plain_reads, structs_stand}
use Rattle.capnp_call.specs.Lists.{IsListStand}
use Rattle.capnp_call.specs.Walks.{IsWalked, StepGoes, StepStops}
use Rattle.capnp_call.specs.Steps.Walks.{FieldEnters}
use Rattle.capnp_call.specs.Ways.{target_in}

-- ---- defaults ----

-- a default of a list is null, or read as a list of its type
abbrev pub IsListDefault : SchemaValue → SchemaType → Type 0
IsListDefault d e = (words : List ℕ) → d ≡ ListValue words → IsWellFormed (words_root words) × IsOk (as_list (element_size e) (words_root words) 1)

kind_is : (k : FieldKind) (t : SchemaType) → is_group_field k ≡ false → KindDefault IsDefaultOf k t → IsDefaultOf (kind_default k) t
kind_is (Slot o d) t e h = h
kind_is (Group n) t e h = absurd (true≢false e)

-- a default that is taken for a null is a list
default_null : (d : SchemaValue) (e : SchemaType) → IsDefaultOf d (ListType e) → Decodes d → not (is_null_tree (value_default_tree d)) ≡ is_list_default d
default_null (ListValue words) e of dec = refl
default_null (StructValue words) e of dec = absurd of
default_null (AnyPointerValue words) e of dec = ap (λ (y : Tree). not (is_null_tree y)) dec
default_null d e of dec = refl

-- ---- how a list stands that was filled ----

read_so : (e : SchemaType) (y : Tree) → (r : Result Tree ErrorKind) → as_list (element_size e) y 1 ≡ r → IsOk r → is_null_tree y ≡ false → reads_list (element_size e) y ≡ true
read_so e y (Ok z) is ok there = reads_list_as_list (element_size e) y 1 z there is
read_so e y (Err k) is ok there = absurd (true≢false (sym ok))

-- a null's default, or what stands there
plain_stands : (d : SchemaValue) (x : Tree) (e : SchemaType) → list_refusal (element_size e) x ≡ None → IsListDefault d e → is_null_tree (list_or_default d x) ≡ false → reads_list (element_size e) (list_or_default d x) ≡ true
plain_stands d x e due of there = go (is_null_tree x) refl
  where
    filled_null : (d : SchemaValue) → IsListDefault d e → is_null_tree (list_or_default d tree.Null) ≡ false → reads_list (element_size e) (list_or_default d tree.Null) ≡ true
    filled_null (ListValue words) of there = read_so e (words_root words) (as_list (element_size e) (words_root words) 1) refl (of words refl).1 there
    filled_null d of there = absurd (true≢false there)

    go : (q : Bool) → is_null_tree x ≡ q → reads_list (element_size e) (list_or_default d x) ≡ true
    go true h = subst (λ (y : Tree). reads_list (element_size e) (list_or_default d y) ≡ true) (sym (null_is x h))
        (filled_null d of (subst (λ (y : Tree). is_null_tree (list_or_default d y) ≡ false) (null_is x h) there))
    go false h = subst (λ (y : Tree). reads_list (element_size e) y ≡ true) (sym (kept_default d x h)) (plain_reads e x due h)

filled_reads : (set : Schemas) (d : SchemaValue) (x : Tree) (e : SchemaType) → fill_due set d (ListType e) x ≡ None → first_fault (list_or_default d x) ≡ None → IsListDefault d e →
    is_null_tree (filled_list set e d x) ≡ false → reads_list (element_size e) (filled_list set e d x) ≡ true
filled_reads set d x (StructType b g) due whole of there = structs_stand (brand_size set b) (list_or_default d x) due whole there
filled_reads set d x e due whole of there = plain_stands d x e due of there

pub list_stands : (set : Schemas) (d : SchemaValue) (x : Tree) (e : SchemaType) → fill_due set d (ListType e) x ≡ None → first_fault (list_or_default d x) ≡ None → IsListDefault d e →
    IsWellFormed (filled_list set e d x) → IsListStand set e (filled_list set e d x)
list_stands set d x e due whole of formed = record {
  reads_it = filled_reads set d x e due whole of;
  sound = list_sound set e (list_or_default d x);
  formed = formed;
}

-- ---- memory ----

-- in a null no struct has to be extended, and in a list of structs that is there one may have to be
pub null_holds : (size : StructSize) (x : Tree) → is_null_tree x ≡ true → HoldsStructs size x
null_holds size x h = subst (HoldsStructs size) (sym (null_is x h)) tt

memory_structs : (x : StepTarget) (b g : ℕ) (v : Value) → is_there v ≡ true → IsTrue (takes_room x (ListType (StructType b g)) v)
memory_structs x b g (value.Missing l) h = absurd (true≢false (sym h))
memory_structs x b g v h = refl

pub memory_there : (set : Schemas) (x : StepTarget) (b g : ℕ) (p : Tree) → x.part ≡ value_of set p Endless (ListType (StructType b g)) → is_null_tree p ≡ false → IsTrue (takes_room x (ListType (StructType b g)) x.part)
memory_there set x b g p part h = memory_structs x b g x.part (ap is_there part ∙ list_there set p (StructType b g) h)

-- a null takes memory for a default alone, and so does a list of other elements
memory_plain : (set : Schemas) (x : StepTarget) (e : SchemaType) (p : Tree) → x.part ≡ value_of set p Endless (ListType e) → (takes_default (value_default_tree x.default) p ≡ false → ⊥) →
    IsDefaultOf x.default (ListType e) → Decodes x.default → IsTrue (takes_room x (ListType e) x.part)
memory_plain set x e p part takes of dec = go (is_null_tree p) refl
  where
    found : (q : Bool) → is_list_default x.default ≡ q → is_null_tree p ≡ true → IsTrue (takes_room x (ListType e) x.part)
    found true k h = subst (λ v. IsTrue (takes_room x (ListType e) v)) (sym (part ∙ ap (λ (y : Tree). value_of set y Endless (ListType e)) (null_is p h))) k
    found false k h = absurd (takes (ap (λ q. q && not (is_null_tree (value_default_tree x.default))) h ∙ (default_null x.default e of dec ∙ k)))

    go : (q : Bool) → is_null_tree p ≡ q → IsTrue (takes_room x (ListType e) x.part)
    go true h = found (is_list_default x.default) refl h
    go false h = absurd (takes (ap (λ q. q && not (is_null_tree (value_default_tree x.default))) h))

memory_for : (set : Schemas) (x : StepTarget) (e : SchemaType) (p : Tree) → x.part ≡ value_of set p Endless (ListType e) → fill_due set x.default (ListType e) p ≡ None →
    (IsAtRest set x.default (ListType e) p → ⊥) → IsDefaultOf x.default (ListType e) → Decodes x.default → IsTrue (takes_room x (ListType e) x.part)
memory_for set x (StructType b g) p part due moves of dec = go (is_null_tree p) refl
  where
    go : (q : Bool) → is_null_tree p ≡ q → IsTrue (takes_room x (ListType (StructType b g)) x.part)
    go true h = memory_plain set x (StructType b g) p part (λ same. moves (same, null_holds (brand_size set b) p h)) of dec
    go false h = memory_there set x b g p part h
memory_for set x e p part due moves of dec = memory_plain set x e p part (λ same. moves (same, due)) of dec

-- ---- a list's slot ----

pub slot_within : (set : Schemas) (d : SchemaValue) (x : Tree) (e : SchemaType) → fill_due set d (ListType e) x ≡ None → SlotWithin set (ListType e) d x
slot_within set d x (StructType b g) due = due
slot_within set d x e due = tt

module _ (f : Field) (s : StructTree) (e : SchemaType) (slot : IsSlot f) (pointer : IsPointerField f) (type_is : ListType e ≡ (typed_of f).type) (walks : IsWalked f s) (whole : first_fault_of_all s.pointers ≡ None)
    (fits : DefaultFits (typed_of f)) (default_formed : IsWellFormed (value_default_tree (default_of (typed_of f).field))) where
  abbrev x : Tree
  x = pointer_in f s

  abbrev set : Schemas
  set = field_set f

  abbrev d : SchemaValue
  d = default_of (typed_of f).field

  due_as : (o : Option ErrorKind) → due_in f s ≡ o → fill_due set d (ListType e) x ≡ o
  due_as o due = subst (λ (t : SchemaType). fill_due set d t x ≡ o) (sym type_is) due

  part_is : part_in f s ≡ value_of set x Endless (ListType e)
  part_is = pointed f s slot pointer walks ∙ ap (value_of set x Endless) (sym type_is)

  default_is : IsDefaultOf d (ListType e)
  default_is = subst (IsDefaultOf d) (sym type_is) (kind_is (typed_of f).field.kind (typed_of f).type slot fits.kind)

  pub list_default : IsListDefault d e
  list_default words is = (
    subst IsWellFormed (ap value_default_tree is) default_formed,
    subst (λ (y : Tree). IsOk (as_list (element_size e) y 1)) (ap value_default_tree is) (subst (λ (t : SchemaType). IsDefaultReadAs t (value_default_tree d)) (sym type_is) fits.read).1,
  )

  -- nothing in what is filled can't be followed
  default_sound : first_fault (list_or_default d x) ≡ None
  default_sound = go d refl (is_null_tree x) refl
    where
      null_sound : (c : SchemaValue) → first_fault (value_default_tree c) ≡ None → first_fault (list_or_default c tree.Null) ≡ None
      null_sound (ListValue words) h = h
      null_sound c h = refl

      go : (c : SchemaValue) → d ≡ c → (q : Bool) → is_null_tree x ≡ q → first_fault (list_or_default d x) ≡ None
      go c e true h = subst (λ (y : Tree). first_fault (list_or_default d y) ≡ None) (sym (null_is x h)) (null_sound d fits.sound)
      go c e false h = subst (λ (y : Tree). first_fault y ≡ None) (sym (kept_default d x h)) (nth_sound s.pointers _ whole)

  -- ---- what was filled ----

  pub filled_is : filled_in f s ≡ filled_list set e d x
  filled_is = subst (λ (t : SchemaType). filled_tree set d t x ≡ filled_list set e d x) type_is refl

  pub stands : due_in f s ≡ None → IsWellFormed (filled_in f s) → IsListStand set e (filled_in f s)
  stands due formed =
      subst (IsListStand set e) (sym filled_is)
      (list_stands set d x e (due_as None due) default_sound list_default (subst IsWellFormed filled_is formed))

  list_within : (k : FieldKind) (t : SchemaType) → ListType e ≡ t → fill_due set (kind_default k) t (nth_tree s.pointers (offset_of k)) ≡ None → KindWithin set k t s
  list_within (Slot offset c) t is due =
      subst (λ (u : SchemaType). SlotWithin set u c (nth_tree s.pointers offset)) is
      (slot_within set c (nth_tree s.pointers offset) e (subst (λ (u : SchemaType). fill_due set c u (nth_tree s.pointers offset) ≡ None) (sym is) due))
  list_within (Group node) t is due = tt

  -- nothing is refused there: the list is entered
  pub list_goes : due_in f s ≡ None → StepGoes f s
  list_goes due path last op reply inner goes_on =
      passes f further s reply (left_field (typed_of f) s inner) walks
      (enters f further s reply (left_field (typed_of f) s inner) (ap fault_of part_is ∙ list_read set d x e (due_as None due) (nth_sound s.pointers _ whole))
      (list_within (typed_of f).field.kind (typed_of f).type type_is due) inner goes_on refl)
    where
      further : TreeEnd
      further = TreeWalks set (TreeEnds set last op) path

  -- ---- what was not ----

  module _ (ranges : HasRanges set) (formed : IsWellFormed x) where
    sizes : (b : ℕ) → ((brand_size set b).data_words < 2 ^ 16) × ((brand_size set b).pointers < 2 ^ 16)
    sizes b = ((ranges.nodes (brand_at set b).node).data_words, (ranges.nodes (brand_at set b).node).pointers)

    has_size : (kind : ErrorKind) → IsPastSize set d e x kind → (w : Record → Value) → CanRefuse set (target_in w f s) kind
    has_size kind past w =
        subst (CanRefuse set (target_in w f s)) (sym past.0)
        (for_size (subst (λ (t : SchemaType). IsTrue (is_struct_list t)) type_is past.1)
        (subst (λ (t : SchemaType). 2 ^ 29 - 1 < size_of (filled_value set d t (part_in f s)) * 131070) type_is
        (subst (λ v. 2 ^ 29 - 1 < size_of (filled_value set d (ListType e) v) * 131070) (sym part_is) past.2)))

    has_room : due_in f s ≡ None → (RestsIn f s → ⊥) → (w : Record → Value) → CanRefuse set (target_in w f s) OutOfMemory
    has_room due moves w =
        for_memory (subst (λ (t : SchemaType). IsTrue (takes_room (target_in w f s) t (part_in f s))) type_is
        (memory_for set (target_in w f s) e x part_is (due_as None due) (λ rests. moves (subst (λ (t : SchemaType). IsAtRest set d t x) type_is rests)) default_is fits.decodes))

    -- something else stands there, or is past the format, or memory is refused
    pub list_stops : (r : Error) → IsDueRefusal r (due_in f s) → (RestsIn f s → ⊥) → StepStops f s r.kind
    list_stops r refusal moves path last op = passes f further s (Refused r.kind) s walks (go (due_in f s) refl)
      where
        further : TreeEnd
        further = TreeWalks set (TreeEnds set last op) path

        refused : (kind : ErrorKind) → r.kind ≡ kind → IsUnreadable set e x kind ⊎ IsTooLarge set d e x kind → FieldEnters f further s (Refused r.kind) s
        refused kind is (inl h) = unread f further s (Refused r.kind) s kind (ap fault_of part_is ∙ h.fault) (ap Refused is) refl
        refused kind is (inr h) = short f further s (Refused r.kind) s kind (ap fault_of part_is ∙ h.sound) (has_size kind h.past) (λ at. moves (rests_in f s slot at)) (ap Refused is) refl

        go : (o : Option ErrorKind) → due_in f s ≡ o → FieldEnters f further s (Refused r.kind) s
        go (Some kind) due = refused kind (refusal.1 kind due) (list_unfilled set d x e kind sizes list_default formed (due_as (Some kind) due))
        go None due = short f further s (Refused r.kind) s OutOfMemory (ap fault_of part_is ∙ list_read set d x e (due_as None due) (nth_sound s.pointers _ whole)) (has_room due moves) (λ at. moves (rests_in f s slot at))
            (ap Refused (due_memory r (due_in f s) refusal due)) refl

    -- the same of an answer
    pub list_stopped : {A : Type 0} (r : Result A Error) → IfErr r (λ n. IsDueRefusal n (due_in f s)) → (RestsIn f s → IsOk r) → IfErr r (λ n. StepStops f s n.kind)
    list_stopped (Ok a) h rests = tt
    list_stopped (Err n) h rests = list_stops n h (λ at. true≢false (sym (rests at)))

  pub list_entered : {A : Type 0} (r : Result A Error) → OnOk r (due_in f s ≡ None) → OnOk r (StepGoes f s)
  list_entered (Ok a) h = list_goes h
  list_entered (Err n) h = tt

  pub list_left : {A : Type 0} (r : Result A Error) → OnOk r (due_in f s ≡ None) → OnOk r (IsWellFormed (filled_in f s)) → OnOk r (IsListStand set e (filled_in f s))
  list_left (Ok a) h k = stands h k
  list_left (Err n) h k = tt
