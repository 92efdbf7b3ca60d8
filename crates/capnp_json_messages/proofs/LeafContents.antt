-- What a leaf is given as, and what is then written into a slot.
use Rattle.std.proofs.Common.{ℕ, ◌≡◌, ◌==◌, ◌⊎◌, inl, inr, refl, [], Bool, true, false, cond, Option, Some, None, sym, subst, ◌∙◌}
use Rattle.std.specs.Prelude.{⊤, pos}
use Rattle.std.proofs.lemmas.Bool.{true≢false}
use Rattle.capnp_device.specs.declared.error.ErrorKind.TheVariants.{TypeMismatch}
use Rattle.capnp_wire.specs.Tree as tree
use Rattle.capnp_wire.specs.Tree.{StructTree, Tree}
use Rattle.capnp_schema.specs.FieldLists.{index_of, typed_of}
use Rattle.capnp_schema.specs.Schema.{Schemas, Value as SchemaValue, default_of}
use Rattle.capnp_schema.specs.Types.{AnyPointerType, BoolType, DataType, EnumType, IntType, ListType, SchemaType, StructType, TextType, UIntType, VoidType}
use Rattle.capnp_schema.specs.declared.schema.fields.Field.{Field}
use Rattle.capnp_records.specs.Call.{Source}
use Rattle.capnp_records.specs.Facts.GroupWrite.{cleared_content_value, suits_cleared}
use Rattle.capnp_records.specs.Facts.NewTrees.{copied_given}
use Rattle.capnp_records.specs.Facts.Numbers.{IsStored, number_content_value, stored_given, suits_number}
use Rattle.capnp_records.specs.Given.{Copies, Fails, Gives, Given, given_slot}
use Rattle.capnp_records.specs.Laws.{IsFieldAt}
use Rattle.capnp_records.specs.Reading.{slot_value}
use Rattle.capnp_records.specs.Record as value
use Rattle.capnp_records.specs.Record.{Endless, Value}
use Rattle.capnp_records.specs.Writes.Contents.{SourceFits}
use Rattle.capnp_records.specs.Writes.Overlay.{cleared_content}
use Rattle.capnp_slots.specs.Fields.{IsRoomFor, IsSlot, field_brand, field_set, slot_with}
use Rattle.capnp_slots.specs.Primitives.{given_content, set_content}
use Rattle.capnp_from_json.specs.LeafReads.{is_typed, leaf_value}
use Rattle.capnp_from_json.specs.declared.leaves.Leaf.{Leaf}
use Rattle.capnp_from_json.specs.declared.leaves.Leaf.TheVariants as leaf
use Rattle.capnp_json_messages.specs.Steps.Sources.{leaf_source}
use Rattle.capnp_json_messages.specs.Reads.{PutsInto}
use Rattle.capnp_json_messages.proofs.SlotPuts.{IsContentOf, slot_puts}

-- a value is given at once, or as a copy
abbrev pub GivesValue : Given → Value → Type 0
GivesValue g v = (g ≡ Gives v) ⊎ ((x : Tree) × (past : Bool) × (g ≡ Copies x past v))

abbrev pub GivesLeaf : Schemas → SchemaType → Option Source → Value → Type 0
GivesLeaf set t None v = ⊤
GivesLeaf set t (Some s) v = GivesValue (given_slot set t s) v

given_if : (q : Bool) (v : Value) → q ≡ true → GivesValue (cond q (Gives v) (Fails TypeMismatch)) v
given_if true v e = inl refl
given_if false v e = absurd (true≢false (sym e))

pub gives_leaf : (set : Schemas) (t : SchemaType) (l : Leaf) → is_typed t l ≡ true → GivesLeaf set t (leaf_source l) (leaf_value l)
gives_leaf set VoidType leaf.Void e = inl refl
gives_leaf set BoolType (leaf.Bool b) e = inl refl
gives_leaf set (IntType k) (leaf.Int8 x) e = given_if (k == 1) (value.Number x) e
gives_leaf set (IntType k) (leaf.Int16 x) e = given_if (k == 2) (value.Number x) e
gives_leaf set (IntType k) (leaf.Int32 x) e = given_if (k == 4) (value.Number x) e
gives_leaf set (IntType k) (leaf.Int64 x) e = given_if (k == 8) (value.Number x) e
gives_leaf set (UIntType k) (leaf.UInt8 n) e = given_if (k == 1) (value.Number (pos n)) e
gives_leaf set (UIntType k) (leaf.UInt16 n) e = given_if (k == 2) (value.Number (pos n)) e
gives_leaf set (UIntType k) (leaf.UInt32 n) e = given_if (k == 4) (value.Number (pos n)) e
gives_leaf set (UIntType k) (leaf.UInt64 n) e = given_if (k == 8) (value.Number (pos n)) e
gives_leaf set (EnumType m) (leaf.Enum n) e = inl refl
gives_leaf set TextType (leaf.Text bytes) e = inr (tree.Null, _, refl)
gives_leaf set DataType (leaf.«Data» bytes) e = inr (tree.Null, _, refl)
gives_leaf set t leaf.Null e = tt
gives_leaf set t l e = absurd (true≢false (sym e))

-- what is written into a slot for it
pub slot_content : (f : Field) (s : Source) (v : Value) → IsFieldAt (field_set f) (field_brand f) (index_of f) → SourceFits s → GivesValue (given_slot (field_set f) (typed_of f).type s) v → IsContentOf f (set_content f s) v
slot_content f s v at fits (inl e) =
    let d : SchemaValue = default_of (typed_of f).field in
    let t : SchemaType = (typed_of f).type in
    let stored : IsStored t v = stored_given (field_set f) t s v e fits in
    subst (λ g. IsContentOf f (given_content d t s g) v) (sym e)
    (record { suits = suits_number d t v stored (at.ranges.masks (field_brand f) (index_of f) at.brand at.index); reads_as = number_content_value (field_set f) d t v stored })
slot_content f s v at fits (inr (x, past, e)) =
    let d : SchemaValue = default_of (typed_of f).field in
    let t : SchemaType = (typed_of f).type in
    let copied = copied_given (field_set f) t s x past v e fits in
    subst (λ g. IsContentOf f (given_content d t s g) v) (sym e) (record { suits = copied.pointer; reads_as = copied.reads_as })

-- what a null pointer reads as
null_is : (t : SchemaType) (offset : ℕ) (d : SchemaValue) → is_typed t leaf.Null ≡ true → slot_value Endless [] [] offset d t ≡ value.Missing Endless
null_is TextType offset d e = refl
null_is DataType offset d e = refl
null_is (StructType b g) offset d e = refl
null_is (ListType t) offset d e = refl
null_is AnyPointerType offset d e = refl
null_is t offset d e = absurd (true≢false (sym e))

pub null_content : (f : Field) → is_typed (typed_of f).type leaf.Null ≡ true → IsContentOf f (cleared_content (typed_of f).type) (value.Missing Endless)
null_content f e = record {
  suits = suits_cleared (typed_of f).type;
  reads_as = cleared_content_value (field_set f) 0 (default_of (typed_of f).field) (typed_of f).type ∙ null_is (typed_of f).type 0 (default_of (typed_of f).field) e;
}

-- ---- a leaf in a slot ----

some_is : {s : Source} → Some s ≡ None → ⊥
some_is e = cc

pub null_leaf : (l : Leaf) → leaf_source l ≡ None → l ≡ leaf.Null
null_leaf leaf.Null e = refl
null_leaf l e = absurd (some_is e)

module _ (f : Field) (s s' : StructTree) (at : IsFieldAt (field_set f) (field_brand f) (index_of f)) (slot : IsSlot f) (room : IsRoomFor f s) (l : Leaf) (typed : is_typed (typed_of f).type l ≡ true) where
  pub null_puts : leaf_source l ≡ None → s' ≡ slot_with f (cleared_content (typed_of f).type) s → PutsInto f s s' (leaf_value l)
  null_puts e written =
      let n : l ≡ leaf.Null = null_leaf l e in
      subst (λ x. PutsInto f s s' (leaf_value x)) (sym n)
      (slot_puts f s at room s' (cleared_content (typed_of f).type) (value.Missing Endless) slot (null_content f (subst (λ x. is_typed (typed_of f).type x ≡ true) n typed)) written)

  pub leaf_puts : (source : Source) → leaf_source l ≡ Some source → SourceFits source → s' ≡ slot_with f (set_content f source) s → PutsInto f s s' (leaf_value l)
  leaf_puts source e fits written =
      slot_puts f s at room s' (set_content f source) (leaf_value l) slot
      (slot_content f source (leaf_value l) at fits (subst (λ o. GivesLeaf (field_set f) (typed_of f).type o (leaf_value l)) e (gives_leaf (field_set f) (typed_of f).type l typed)))
      written
