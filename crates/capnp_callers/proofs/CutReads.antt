-- A reader whose trees are cut off further down answers of a field that has no parts of its own what stands there.
use Rattle.std.specs.Prelude.{ℕ, suc, ◌≡◌, refl, ⊤, Bool, true, false, cond, length, List, Err, Ok}
use Rattle.std.proofs.Common.{ap, sym, subst, ◌∙◌}
use Rattle.capnp_device.specs.declared.error.ErrorKind.TheVariants.{WrongElementSize}
use Rattle.capnp_wire.specs.Reading.{reads_pointers, reads_structs}
use Rattle.capnp_wire.specs.Tree as tree
use Rattle.capnp_wire.specs.Tree.{StructTree, Structs, Tree, Trees, nth_tree}
use Rattle.capnp_arena.specs.Same.{IsStructCutOf, SameParts, SameRow, SameTo}
use Rattle.capnp_schema.specs.Schema.{Schemas, Value as SchemaValue, FieldKind, Slot, Group, TypedField, default_of}
use Rattle.capnp_schema.specs.Types.{SchemaType, TextType, DataType, StructType, ListType, AnyPointerType, element_size}
use Rattle.capnp_records.specs.Default.{read_of}
use Rattle.capnp_records.specs.Facts.Pointers.{values_of_nth}
use Rattle.capnp_records.specs.Reading.{Reading, kind_value, nth_reading, of_read, record_within, value_of, values_of}
use Rattle.capnp_records.specs.Record as value
use Rattle.capnp_records.specs.Record.{Left, Record, Value, Values}
use Rattle.capnp_dynamic_readers.specs.Reads.{field_read, handed_out}

-- a value without parts: no record, no list and no tree
abbrev pub IsLeaf : Value → Type 0
IsLeaf (value.Struct r) = ⊥
IsLeaf (value.Group r) = ⊥
IsLeaf (value.Elements vs) = ⊥
IsLeaf (value.Untyped x) = ⊥
IsLeaf v = ⊤

module _ (set : Schemas) (d : SchemaValue) where
  -- what a reader with 64 levels reads of a pointer
  abbrev read_at : Tree → SchemaType → Value
  read_at x t = read_of set d t (value_of set x (Left 64) t)

  abbrev Agrees : Tree → Tree → SchemaType → Type 0
  Agrees x y t = IsLeaf (read_at y t) → read_at x t ≡ read_at y t

  struct_agrees : (bytes : List ℕ) (ps qs : Trees) (t : SchemaType) → Agrees (tree.Struct bytes ps) (tree.Struct bytes qs) t
  struct_agrees bytes ps qs (StructType b g) leaf = absurd leaf
  struct_agrees bytes ps qs AnyPointerType leaf = absurd leaf
  struct_agrees bytes ps qs t leaf = refl

  list_agrees : (e : SchemaType) (x y : Tree) (v w : Values) (q : Bool) →
      IsLeaf (read_of set d (ListType e) (of_read (λ (_ : Tree). value.Elements w) (cond q (Ok y) (Err WrongElementSize)))) →
      read_of set d (ListType e) (of_read (λ (_ : Tree). value.Elements v) (cond q (Ok x) (Err WrongElementSize)))
      ≡ read_of set d (ListType e) (of_read (λ (_ : Tree). value.Elements w) (cond q (Ok y) (Err WrongElementSize)))
  list_agrees e x y v w true leaf = absurd leaf
  list_agrees e x y v w false leaf = refl

  pointers_agree : (ps qs : Trees) (t : SchemaType) → Agrees (tree.Pointers ps) (tree.Pointers qs) t
  pointers_agree ps qs (ListType e) leaf = list_agrees e (tree.Pointers ps) (tree.Pointers qs) _ _ (reads_pointers (element_size e)) leaf
  pointers_agree ps qs AnyPointerType leaf = absurd leaf
  pointers_agree ps qs t leaf = refl

  composite_agrees : (data_words pointers : ℕ) (es fs : Structs) (t : SchemaType) → Agrees (tree.Composite data_words pointers es) (tree.Composite data_words pointers fs) t
  composite_agrees n p es fs (ListType e) leaf = list_agrees e (tree.Composite n p es) (tree.Composite n p fs) _ _ (reads_structs (element_size e) n p) leaf
  composite_agrees n p es fs AnyPointerType leaf = absurd leaf
  composite_agrees n p es fs t leaf = refl

  tree_agrees : (n : ℕ) (x y : Tree) (t : SchemaType) → SameTo (suc n) x y → Agrees x y t
  tree_agrees n tree.Null y t h leaf = ap (λ (z : Tree). read_at z t) (sym h)
  tree_agrees n (tree.Struct bytes ps) y t (qs, e, row) leaf = subst (λ (z : Tree). Agrees (tree.Struct bytes ps) z t) (sym e) (struct_agrees bytes ps qs t) leaf
  tree_agrees n (tree.Voids k) y t h leaf = ap (λ (z : Tree). read_at z t) (sym h)
  tree_agrees n (tree.Bits bits) y t h leaf = ap (λ (z : Tree). read_at z t) (sym h)
  tree_agrees n (tree.Numbers w bytes) y t h leaf = ap (λ (z : Tree). read_at z t) (sym h)
  tree_agrees n (tree.Pointers ps) y t (qs, e, row) leaf = subst (λ (z : Tree). Agrees (tree.Pointers ps) z t) (sym e) (pointers_agree ps qs t) leaf
  tree_agrees n (tree.Composite k p es) y t (fs, e, row) leaf = subst (λ (z : Tree). Agrees (tree.Composite k p es) z t) (sym e) (composite_agrees k p es fs t) leaf
  tree_agrees n (tree.FaultLeaf k) y t h leaf = ap (λ (z : Tree). read_at z t) (sym h)

  module _ (n : ℕ) (bytes : List ℕ) (ps qs : Trees) (row : SameRow (SameTo (suc n)) ps qs) where
    pointer_agrees : (o : ℕ) (t : SchemaType) → IsLeaf (read_of set d t (nth_reading (values_of set qs) o (Left 64) t)) →
        read_of set d t (nth_reading (values_of set ps) o (Left 64) t) ≡ read_of set d t (nth_reading (values_of set qs) o (Left 64) t)
    pointer_agrees o t leaf =
        ap (λ (r : Reading). read_of set d t (r (Left 64) t)) (values_of_nth set ps o)
        ∙ (tree_agrees n (nth_tree ps o) (nth_tree qs o) t (row.1 o) (subst (λ (r : Reading). IsLeaf (read_of set d t (r (Left 64) t))) (values_of_nth set qs o) leaf)
        ∙ ap (λ (r : Reading). read_of set d t (r (Left 64) t)) (sym (values_of_nth set qs o)))

    part_agrees : (f g : ℕ → Record) (k : FieldKind) (t : SchemaType) → IsLeaf (handed_out k (read_of set d t (kind_value g (Left 64) bytes (values_of set qs) k t))) →
        handed_out k (read_of set d t (kind_value f (Left 64) bytes (values_of set ps) k t)) ≡ handed_out k (read_of set d t (kind_value g (Left 64) bytes (values_of set qs) k t))
    part_agrees f g (Group node) t leaf = absurd leaf
    part_agrees f g (Slot o c) TextType leaf = pointer_agrees o TextType leaf
    part_agrees f g (Slot o c) DataType leaf = pointer_agrees o DataType leaf
    part_agrees f g (Slot o c) (StructType b x) leaf = pointer_agrees o (StructType b x) leaf
    part_agrees f g (Slot o c) (ListType e) leaf = pointer_agrees o (ListType e) leaf
    part_agrees f g (Slot o c) AnyPointerType leaf = pointer_agrees o AnyPointerType leaf
    part_agrees f g (Slot o c) t leaf = refl

field_agrees : (set : Schemas) (n : ℕ) (x s : StructTree) → SameParts (SameTo (suc n)) x s → (f : TypedField) → IsLeaf (field_read set (Left 64) s f) → field_read set (Left 64) x f ≡ field_read set (Left 64) s f
field_agrees set n x s h f leaf =
    let within : List ℕ → Trees → ℕ → Record = λ bytes ps. record_within (length set.brands) set (Left 64) bytes (values_of set ps) in
    ap (λ (bytes : List ℕ). handed_out f.field.kind (read_of set (default_of f.field) f.type (kind_value (within bytes x.pointers) (Left 64) bytes (values_of set x.pointers) f.field.kind f.type))) (sym h.0)
    ∙ part_agrees set (default_of f.field) n s.bytes x.pointers s.pointers h.1 (within s.bytes x.pointers) (within s.bytes s.pointers) f.field.kind f.type leaf

pub leaf_cut : (set : Schemas) (x s : StructTree) → IsStructCutOf x s → (f : TypedField) → IsLeaf (field_read set (Left 64) s f) → field_read set (Left 64) x f ≡ field_read set (Left 64) s f
unfolding IsStructCutOf
leaf_cut set x s h f leaf = field_agrees set 64 x s h f leaf
