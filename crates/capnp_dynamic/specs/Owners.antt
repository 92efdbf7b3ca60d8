-- The struct or list that a part was handed out of: what it is by then, and what it is once the part has been written.
--
-- A part holds the reference to the message of what it was handed out of. So what its last call leaves there is what its owner
-- ends with.
use Rattle.std.specs.Prelude.{ℕ, List, Bool, true, false, ⊤, ◌≡◌}
use Rattle.std.specs.Borrow.{MutBor}
use Rattle.capnp_wire.specs.Edits.{with_pointer_tree}
use Rattle.capnp_wire.specs.Elements.{with_pointer_element, with_struct_element}
use Rattle.capnp_wire.specs.Reading.{element_pointer}
use Rattle.capnp_wire.specs.Tree.{StructTree, Tree}
use Rattle.capnp_arena.specs.Built.{ChangesIn, LeavesIn, built_at, place_words}
use Rattle.capnp_arena.specs.Forest.{Changes, Forest, PartChanges, Planted, struct_from, tree}
use Rattle.capnp_arena.specs.Frame.{LeavesPointer, LeavesStruct}
use Rattle.capnp_arena.specs.Leaves.{Leaves}
use Rattle.capnp_arena.specs.Segment.{segment}
use Rattle.capnp_arena.specs.Shape.{shape_at}
use Rattle.capnp_arena.specs.declared.arena.Arena.{Arena}
use Rattle.capnp_arena.specs.declared.arena.Place.{Place}
use Rattle.capnp_builders.specs.Blobs.{data_behind, data_word, text_behind, text_word}
use Rattle.capnp_builders.specs.Pointers.{arena_behind, untyped_word as pointer_word}
use Rattle.capnp_schema.specs.FieldLists.{typed_of}
use Rattle.capnp_schema.specs.Types.{is_pointer}
use Rattle.capnp_schema.specs.declared.schema.fields.Field.{Field}
use Rattle.capnp_records.specs.Step.{is_group_field}
use Rattle.capnp_records.specs.Writes.Contents.{initn_tree}
use Rattle.capnp_records.specs.Writes.ElementEnds.{element_written}
use Rattle.capnp_records.specs.Writes.Slots.{At}
use Rattle.capnp_slots.specs.Fields.{pointer_index, slot_with}
use Rattle.capnp_slots.specs.Fills.{element_filled, filled_in, is_behind}
use Rattle.capnp_slots.specs.Inits.{init_content, initn_content}
use Rattle.capnp_dynamic.specs.Built.{built_element, built_elements, built_set, list_behind, place_of, struct_behind, word_of}
use Rattle.capnp_dynamic.specs.Taken.{is_struct_type}
use Rattle.capnp_dynamic.specs.declared.dynamic_list.build.Builder.{Builder as ListHandle}
use Rattle.capnp_dynamic.specs.declared.dynamic_value.build.Builder.{Builder as BuiltValue}
use Rattle.capnp_dynamic.specs.declared.dynamic_value.build.Builder.TheVariants as built_value

-- a value stands at the pointer of a word of a message
abbrev pub IsValueAt : MutBor Arena → ℕ → BuiltValue → Type 0
IsValueAt a at (built_value.Text b) = (text_behind b ≡ a) × (text_word b ≡ at)
IsValueAt a at (built_value.«Data» b) = (data_behind b ≡ a) × (data_word b ≡ at)
IsValueAt a at (built_value.Struct s) = (struct_behind s ≡ a) × (shape_at (segment a.now) at ≡ place_words (place_of s))
IsValueAt a at (built_value.List l) = (list_behind l ≡ a) × (word_of l ≡ at)
IsValueAt a at (built_value.AnyPointer p) = (arena_behind p ≡ a) × (pointer_word p ≡ at)
IsValueAt a at v = ⊥

-- and so at pointer i of the struct at a place: what a call at the pointer leaves, the struct has there
pub record IsAtPointer (a : MutBor Arena) (p : Place) (i : ℕ) (v : BuiltValue) : Type 0 where
  pub at : ℕ
  pub stands : IsValueAt a at v
  pub leaves : (new : List ℕ) → Forest new at → Changes at (segment a.now) new → LeavesIn p i a.now at new

-- a value stands at pointer i of the struct that has become `s`, and nothing else of the message has changed; the reference to
-- the message is the owner's
pub record IsPartOf (owner : MutBor Arena) (p : Place) (i : ℕ) (s : StructTree) (v : BuiltValue) : Type 0 where
  pub arena : MutBor Arena
  pub there : IsAtPointer arena p i v
  pub same : arena.ghost_name ≡ owner.ghost_name
  pub frame : LeavesStruct p owner.now arena.now
  pub becomes : built_at arena.now p ≡ s

-- a group that was got is the same struct, of the same message; in one that was started anew nothing else has changed
abbrev pub IsSameStruct : MutBor Arena → Place → BuiltValue → Type 0
IsSameStruct owner p (built_value.Struct g) = (struct_behind g ≡ owner) × (place_of g ≡ p)
IsSameStruct owner p v = ⊥

abbrev pub IsStartedStruct : MutBor Arena → Place → BuiltValue → Type 0
IsStartedStruct owner p (built_value.Struct g) = ((struct_behind g).ghost_name ≡ owner.ghost_name) × (place_of g ≡ p) × ChangesIn p owner.now (struct_behind g).now
IsStartedStruct owner p v = ⊥

-- by the kind of a field: what is said of a group, and of a pointer. A number has no reference, and nothing is said of the
-- owner then
abbrev pub by_kind : (group pointer : Bool) → Type 0 → Type 0 → Type 0
by_kind true pointer G P = G
by_kind false true G P = P
by_kind false false G P = ⊤

-- what a get hands out of a field is of the struct at a place; and so what an init does, and one with a size
abbrev pub IsGotOf : MutBor Arena → Place → Field → BuiltValue → Type 0
IsGotOf owner p f v =
    by_kind (is_group_field (typed_of f).field.kind) (is_pointer (typed_of f).type) (IsSameStruct owner p v)
    (IsPartOf owner p (pointer_index f) (with_pointer_tree (built_at owner.now p) (pointer_index f) (filled_in f (built_at owner.now p))) v)

abbrev pub IsStartedOf : MutBor Arena → Place → Field → BuiltValue → Type 0
IsStartedOf owner p f v =
    by_kind (is_group_field (typed_of f).field.kind) (is_pointer (typed_of f).type) (IsStartedStruct owner p v)
    (IsPartOf owner p (pointer_index f) (slot_with f (init_content f) (built_at owner.now p)) v)

abbrev pub IsSizedOf : MutBor Arena → Place → Field → ℕ → BuiltValue → Type 0
IsSizedOf owner p f n v = IsPartOf owner p (pointer_index f) (slot_with f (initn_content f n) (built_at owner.now p)) v

-- ---- elements ----

-- a value stands at pointer j of the list at a word: what a call at the pointer leaves, the list has there
pub record IsAtElement (a : MutBor Arena) (list j : ℕ) (v : BuiltValue) : Type 0 where
  pub at : ℕ
  pub stands : IsValueAt a at v
  pub leaves : (new : List ℕ) → Forest new at → Changes at (segment a.now) new → Leaves list (with_pointer_element j (tree new at) (tree (segment a.now) list)) (segment a.now) new

-- a value stands at pointer j of the list that has become `x`, and nothing else of the message has changed; the reference to the
-- message is the owner's
pub record IsElementOf (owner : MutBor Arena) (list j : ℕ) (x : Tree) (v : BuiltValue) : Type 0 where
  pub arena : MutBor Arena
  pub there : IsAtElement arena list j v
  pub same : arena.ghost_name ≡ owner.ghost_name
  pub frame : LeavesPointer list owner.now arena.now
  pub becomes : tree (segment arena.now) list ≡ x

-- a value is struct j of the list at a word, in the same message: what is made of the struct, the list has there
abbrev pub IsStructOf : MutBor Arena → (list j : ℕ) → BuiltValue → Type 0
IsStructOf owner list j (built_value.Struct s) =
    (struct_behind s ≡ owner)
    × ((new : List ℕ) → Planted new (place_words (place_of s)) → PartChanges (place_words (place_of s)) (segment owner.now) new →
    Leaves list (with_struct_element j (struct_from new (place_of s).start (place_of s).data_words (place_of s).pointers) (tree (segment owner.now) list)) (segment owner.now) new)
IsStructOf owner list j v = ⊥

-- what a get hands out of an element is of the list; and so what an init does. Nothing is said where it is a number
abbrev pub IsElementGot : ListHandle → ℕ → BuiltValue → Type 0
IsElementGot l j v =
    by_kind (is_struct_type (built_element l)) (is_behind (built_element l)) (IsStructOf (list_behind l) (word_of l) j v)
    (IsElementOf (list_behind l) (word_of l) j (with_pointer_element j (element_filled (built_set l) (built_element l) (element_pointer (built_elements l) j 1)) (built_elements l)) v)

abbrev pub IsElementStarted : ListHandle → ℕ → ℕ → BuiltValue → Type 0
IsElementStarted l j n v = IsElementOf (list_behind l) (word_of l) j (element_written (built_element l) (built_elements l) j (At (initn_tree (built_set l) (built_element l) n))) v
