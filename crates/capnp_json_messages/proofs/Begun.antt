-- Parts that are begun, and what is left of the whole once they hold what they are to hold.
use Rattle.std.proofs.Common.{ℕ, zero, suc, ◌≡◌, ◌<◌, refl, true, List, ap, sym, subst, ◌∙◌, length}
use Rattle.std.proofs.lemmas.Bool.{true≢false}
use Rattle.capnp_wire.specs.Edits.{struct_in, with_pointer_tree, with_tree, zero_struct}
use Rattle.capnp_wire.specs.Place.{struct_tree}
use Rattle.capnp_wire.specs.Tree.{MoreTrees, NoTrees, StructTree, Tree, Trees, tree_count}
use Rattle.capnp_arena.specs.Built.{LeavesIn, built_at}
use Rattle.capnp_arena.specs.Facts.Laws.{IsInStruct, in_struct, struct_planted}
use Rattle.capnp_arena.specs.Facts.Places.{then}
use Rattle.capnp_arena.specs.Facts.Structs.{tree_struct}
use Rattle.capnp_arena.specs.Forest.{Changes, Forest, tree}
use Rattle.capnp_arena.specs.Frame.{LeavesPointer, LeavesStruct}
use Rattle.capnp_arena.specs.Segment.{segment}
use Rattle.capnp_arena.specs.Shape.{StructIn, shape_at}
use Rattle.capnp_arena.specs.declared.arena.Arena.{Arena}
use Rattle.capnp_arena.specs.declared.arena.Place.{Place}
use Rattle.capnp_schema.specs.FieldLists.{index_of, typed_of}
use Rattle.capnp_schema.specs.Facts.Groups.{is_shallow}
use Rattle.capnp_schema.specs.Plan.{brand_size}
use Rattle.capnp_schema.specs.Schema.{FieldKind, Group, Schemas, Slot, node_of}
use Rattle.capnp_schema.specs.StructHandles.{generic_of, number_of, set_of}
use Rattle.capnp_schema.specs.Types.{ListType, SchemaType, StructType, is_pointer}
use Rattle.capnp_schema.specs.declared.schema.fields.Field.{Field}
use Rattle.capnp_schema.specs.declared.schema.structs.StructSchema.{StructSchema}
use Rattle.capnp_records.proofs.Contents.{IsInside}
use Rattle.capnp_records.proofs.GroupClear.{fits_group, within_cleared}
use Rattle.capnp_records.proofs.SlotWrite.{slot_inside}
use Rattle.capnp_records.specs.Default.{default_record}
use Rattle.capnp_records.specs.Facts.FieldWrite.{fits_after, ready_switched}
use Rattle.capnp_records.specs.Facts.GroupWrite.{turns_group, turns_trans}
use Rattle.capnp_records.specs.Facts.Pointers.{nth_tree_put_same}
use Rattle.capnp_records.specs.Laws.{IsFieldAt}
use Rattle.capnp_records.specs.Reading.{reads, value_of}
use Rattle.capnp_records.specs.Record as value
use Rattle.capnp_records.specs.Record.{Endless, Record, Value}
use Rattle.capnp_records.specs.Step.{is_group_field}
use Rattle.capnp_records.specs.Writes.Contents.{init_tree, new_list}
use Rattle.capnp_records.specs.Writes.Overlay.{IsSwitchedTo, Turns, cleared_group, switched_struct}
use Rattle.capnp_records.specs.Writes.Slots.{At, Fits}
use Rattle.capnp_records.specs.Writes.TreeEnds.{offset_of}
use Rattle.capnp_slots.specs.Fields.{IsRoomFor, IsSlot, field_brand, field_set, pointer_index, slot_with}
use Rattle.capnp_slots.specs.Fills.{pointer_in}
use Rattle.capnp_slots.specs.Groups.{IsGroupAt, group_without}
use Rattle.capnp_json_messages.specs.Reads.{PutsInto}
use Rattle.capnp_json_messages.specs.Started.{GroupStarted, ListStarted, StructStarted, new_struct}
use Rattle.capnp_json_messages.proofs.SlotPuts.{slot_puts}

-- ---- a pointer of a struct ----

again : (ts : Trees) (i : ℕ) (x y : Tree) → with_tree (with_tree ts i x) i y ≡ with_tree ts i y
again NoTrees i x y = refl
again (MoreTrees t ts) zero x y = refl
again (MoreTrees t ts) (suc i) x y = ap (MoreTrees t) (again ts i x y)

-- what is put behind a slot, and then again
slot_again : (f : Field) (s : StructTree) (x y : Tree) → with_pointer_tree (slot_with f (At x) s) (pointer_index f) y ≡ slot_with f (At y) s
slot_again f s x y = ap (λ ps. record (switched_struct (node_of (field_set f) (field_brand f)) (typed_of f).field s) { pointers = ps }) (again (switched_struct (node_of (field_set f) (field_brand f)) (typed_of f).field s).pointers (offset_of (typed_of f).field.kind) x y)

module _ (f : Field) (s : StructTree) (at : IsFieldAt (field_set f) (field_brand f) (index_of f)) (room : IsRoomFor f s) where
  -- it stands there
  pub slot_here : (x : Tree) → IsSlot f → is_pointer (typed_of f).type ≡ true → pointer_in f (slot_with f (At x) s) ≡ x
  slot_here x slot pointer = go (typed_of f).field.kind refl
    where
      set : Schemas
      set = field_set f

      m : StructTree
      m = switched_struct (node_of set (field_brand f)) (typed_of f).field s

      fits : Fits set (field_brand f) m
      fits = fits_after _ set (field_brand f) s m (ready_switched set at.accepted at.ranges (field_brand f) (index_of f) at.brand at.index s room).writes room

      go : (k : FieldKind) → (typed_of f).field.kind ≡ k → pointer_in f (slot_with f (At x) s) ≡ x
      go (Group n) k = absurd (true≢false (sym (ap is_group_field k) ∙ slot))
      go (Slot offset d) k =
          let inside : IsInside m offset (typed_of f).type = slot_inside set at.accepted (field_brand f) (index_of f) at.brand at.index offset d k m fits in
          nth_tree_put_same m.pointers (offset_of (typed_of f).field.kind) x (subst (λ i. i < tree_count m.pointers) (sym (ap offset_of k)) (inside.pointer pointer))

-- a slot that was written, by the word that leads there
pub record SlotOpen (f : Field) (place : Place) (old m : Arena) (x : Tree) (word : ℕ) : Type 0 where
  pub written : built_at m place ≡ slot_with f (At x) (built_at old place)
  pub frame : LeavesStruct place old m
  pub leaves : (new : List ℕ) → Forest new word → Changes word (segment m) new → LeavesIn place (pointer_index f) m word new

pub record SlotLeft (f : Field) (place : Place) (old later : Arena) (word : ℕ) : Type 0 where
  pub frame : LeavesStruct place old later
  pub written : built_at later place ≡ slot_with f (At (tree (segment later) word)) (built_at old place)

pub slot_left : (f : Field) (place : Place) (old m later : Arena) (x : Tree) (word : ℕ) → SlotOpen f place old m x word → LeavesPointer word m later → SlotLeft f place old later word
slot_left f place old m later x word slot left =
    let inside : LeavesIn place (pointer_index f) m word (segment later) = slot.leaves (segment later) left.forest left.changes in
    record {
      frame = record { planted = inside.planted; changes = then slot.frame.changes inside.changes };
      written = inside.struct ∙ (ap (λ (y : StructTree). with_pointer_tree y (pointer_index f) (tree (segment later) word)) slot.written ∙ slot_again f (built_at old place) x (tree (segment later) word));
    }

-- what a call in a struct leaves of the pointer that leads to it
pub struct_pointer : (m later : Arena) (word : ℕ) (q : Place) → Forest (segment m) word → shape_at (segment m) word ≡ StructIn q.start q.data_words q.pointers → LeavesStruct q m later → LeavesPointer word m later
struct_pointer m later word q forest shape left =
    let inside : IsInStruct (segment m) (segment later) word q.start q.data_words q.pointers = in_struct (segment m) (segment later) word q.start q.data_words q.pointers forest shape left.planted left.changes in
    record { forest = inside.forest; changes = inside.changes }

pub struct_tree_there : (m later : Arena) (word : ℕ) (q : Place) → Forest (segment m) word → shape_at (segment m) word ≡ StructIn q.start q.data_words q.pointers → LeavesStruct q m later → tree (segment later) word ≡ struct_tree (built_at later q)
struct_tree_there m later word q forest shape left =
    (in_struct (segment m) (segment later) word q.start q.data_words q.pointers forest shape left.planted left.changes).tree

module _ (f : Field) (place : Place) (old m : Arena) (word : ℕ) (at : IsFieldAt (field_set f) (field_brand f) (index_of f)) (room : IsRoomFor f (built_at old place)) (slot : IsSlot f) where
  -- a tree behind the slot is put into the record
  pub tree_puts : (x : Tree) (later : Arena) (v : Value) → is_pointer (typed_of f).type ≡ true → SlotOpen f place old m x word → LeavesPointer word m later
      → value_of (field_set f) (tree (segment later) word) Endless (typed_of f).type ≡ v → PutsInto f (built_at old place) (built_at later place) v
  tree_puts x later v pointer opened left is =
      slot_puts f (built_at old place) at room (built_at later place) (At (tree (segment later) word)) v slot (record { suits = pointer; reads_as = is }) (slot_left f place old m later x word opened left).written

  -- a new struct
  pub struct_begun : (schema : StructSchema) (x : Tree) (q : Place) (new : StructTree) → set_of schema ≡ field_set f → StructType (number_of schema) (generic_of schema) ≡ (typed_of f).type
      → SlotOpen f place old m x word → Forest (segment m) word → tree (segment m) word ≡ struct_tree new → shape_at (segment m) word ≡ StructIn q.start q.data_words q.pointers → new ≡ new_struct schema
      → StructStarted f schema place old m q
  struct_begun schema x q new of_set type_is opened forest here shape is = record {
    planted = struct_planted (segment m) word q.start q.data_words q.pointers forest shape;
    here = ap struct_in (sym (tree_struct (segment m) word q.start q.data_words q.pointers forest shape) ∙ here) ∙ is;
    frame = λ later left. (slot_left f place old m later x word opened (struct_pointer m later word q forest shape left)).frame;
    puts = λ later left. tree_puts x later (value.Struct (reads (set_of schema) (built_at later q) (number_of schema))) (sym (ap is_pointer type_is)) opened (struct_pointer m later word q forest shape left)
        (ap (λ t. value_of (field_set f) (tree (segment later) word) Endless t) (sym type_is)
        ∙ (ap (λ (y : Tree). value_of (field_set f) y Endless (StructType (number_of schema) (generic_of schema))) (struct_tree_there m later word q forest shape left)
        ∙ ap (λ (z : Schemas). value.Struct (reads z (built_at later q) (number_of schema))) (sym of_set)));
  }

  -- a new list
  pub list_begun : (e : SchemaType) (count : ℕ) (x : Tree) → ListType e ≡ (typed_of f).type → SlotOpen f place old m x word → Forest (segment m) word → tree (segment m) word ≡ new_list (field_set f) e count
      → ListStarted f e place count old m word
  list_begun e count x type_is opened forest here = record {
    forest = forest;
    here = here;
    frame = λ later left. (slot_left f place old m later x word opened left).frame;
    puts = λ later left. tree_puts x later (value_of (field_set f) (tree (segment later) word) Endless (ListType e)) (sym (ap is_pointer type_is)) opened left
        (ap (λ t. value_of (field_set f) (tree (segment later) word) Endless t) (sym type_is));
  }

-- what a new slot of a struct's type leads to
pub init_tree_is : (f : Field) (schema : StructSchema) → set_of schema ≡ field_set f → StructType (number_of schema) (generic_of schema) ≡ (typed_of f).type → init_tree (field_set f) (typed_of f).type ≡ struct_tree (new_struct schema)
init_tree_is f schema of_set type_is =
    ap (init_tree (field_set f)) (sym type_is) ∙ ap (λ (z : Schemas). struct_tree (zero_struct (brand_size z (number_of schema)))) (sym of_set)

-- ---- groups ----

pub group_begun : (f : Field) (g : StructSchema) (s s' : StructTree) → IsFieldAt (field_set f) (field_brand f) (index_of f) → IsRoomFor f s → IsGroupAt f g → s' ≡ group_without f s → GroupStarted f g s s'
group_begun f g s s' at room leads written = record {
  room = subst (λ (z : Schemas). Fits z n s') (sym leads.set) (fits_after _ set n m s' cleared.writes fits);
  here = subst (λ (z : Schemas). reads z s' n ≡ default_record z Endless n) (sym leads.set) cleared.record_after;
  puts = λ later r turns. turns_group set at.accepted b i n at.brand at.index leads.names s m later r ready
      (turns_trans set n m s' later (default_record set Endless n) r cleared (subst (λ (z : Schemas). Turns z n s' later r) leads.set turns));
}
  where
    set : Schemas
    set = field_set f

    b : ℕ
    b = field_brand f

    i : ℕ
    i = index_of f

    n : ℕ
    n = number_of g

    m : StructTree
    m = switched_struct (node_of set b) (typed_of f).field s

    ready : IsSwitchedTo set b (typed_of f) s m
    ready = ready_switched set at.accepted at.ranges b i at.brand at.index s room

    fits : Fits set n m
    fits = fits_group set at.accepted b i n at.brand at.index leads.names m (fits_after _ set b s m ready.writes room)

    in_set : n < length set.brands
    in_set = subst (λ (z : Schemas). n < length z.brands) leads.set leads.stands.number

    cleared : Turns set n m s' (default_record set Endless n)
    cleared = subst (λ y. Turns set n m y (default_record set Endless n)) (ap (λ k. cleared_group set k m) leads.number ∙ sym written)
        (within_cleared (length set.brands) set at.accepted at.ranges n in_set (is_shallow set at.accepted b at.brand i at.index n leads.names) m fits)
