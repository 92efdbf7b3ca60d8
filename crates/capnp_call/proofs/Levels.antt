-- What a reader with 64 levels is answered is what the whole record says.
use Rattle.std.proofs.Common.{ℕ, ◌≡◌, ◌⊎◌, refl, List, Bool, true, false, cond, length, IsTrue, ◌==◌, Result, Option, Some, None, Ok, Err, ap, sym, subst, ◌∙◌}
use Rattle.std.proofs.lemmas.Bool.{true≢false}
use Rattle.capnp_wire.specs.Tree as tree
use Rattle.capnp_wire.specs.Tree.{StructTree, Tree, Trees, nth_tree}
use Rattle.capnp_device.specs.declared.error.ErrorKind.{ErrorKind}
use Rattle.capnp_device.specs.declared.error.ErrorKind.TheVariants.{OutOfMemory, TooDeep, WrongElementSize}
use Rattle.capnp_wire.specs.Reading.{as_list, as_struct, is_null_tree, list_length, reads_bits, reads_numbers, reads_pointers, reads_structs, reads_voids, with_level}
use Rattle.capnp_wire.specs.declared.size.ElementSize.{ElementSize}
use Rattle.capnp_schema.specs.Accepted.{words_root}
use Rattle.capnp_schema.specs.Schema.{Schemas, StructValue, ListValue, FieldKind, Slot, Group, TypedField, default_of, Value as SchemaValue}
use Rattle.capnp_schema.specs.Types.{SchemaType, TextType, DataType, StructType, ListType, AnyPointerType, element_size}
use Rattle.capnp_records.specs.Default.{default_value, empty_value, read_of, unless_null}
use Rattle.capnp_records.specs.Facts.DefaultTree.{read_there}
use Rattle.capnp_records.specs.Facts.Readers.{null_is, value_there}
use Rattle.capnp_records.specs.Facts.ListValues.{below_of, count_values_from}
use Rattle.capnp_records.specs.Facts.Pointers.{values_of_nth}
use Rattle.capnp_records.specs.Operation.{Answers, answer_of, takes_memory}
use Rattle.capnp_records.specs.Reading.{Below, Reading, element_value, elements_value, kind_value, nth_reading, of_read, part_of, record_of, record_within, tree_value, value_of, values_of}
use Rattle.capnp_records.specs.Record as value
use Rattle.capnp_records.specs.Record.{Endless, Left, Record, Value, one_less, values_from}
use Rattle.capnp_records.specs.Call.{GivesValue, ListPlain, Reply}
use Rattle.capnp_records.specs.Step.{IsRefused, fault_of}
use Rattle.capnp_dynamic_readers.specs.Reads.{field_read, handed_out}

-- ---- get ----

-- two values are answered alike
pub record SameAnswer (t : SchemaType) (v w : Value) : Type 0 where
  pub plain_is : answer_of t v ≡ answer_of t w
  pub fault_is : fault_of v ≡ fault_of w

pub same_from : {t : SchemaType} {v w : Value} → v ≡ w → SameAnswer t v w
same_from {t} {v} {w} e = record { plain_is = ap (answer_of t) e; fault_is = ap fault_of e }

pub same_then : {t : SchemaType} {u v w : Value} → SameAnswer t u v → SameAnswer t v w → SameAnswer t u w
same_then a b = record { plain_is = a.plain_is ∙ b.plain_is; fault_is = a.fault_is ∙ b.fault_is }

pub answers_same : (t : SchemaType) (v w : Value) (old new : Value) (reply : Reply) → SameAnswer t v w → Answers t v (fault_of v) old reply new → Answers t w (fault_of w) old reply new
answers_same t v w old new reply s h = go (fault_of w) (subst (λ o. Answers t v o old reply new) s.fault_is h)
  where
    go : (o : Option ErrorKind) → Answers t v o old reply new → Answers t w o old reply new
    go (Some kind) h = h
    go None h = subst (λ p. ((reply ≡ GivesValue p) × (new ≡ old)) ⊎ (IsTrue (takes_memory t) × IsRefused OutOfMemory reply old new)) s.plain_is h

pub alike : {t : SchemaType} {v w : Value} → answer_of t v ≡ answer_of t w → fault_of v ≡ fault_of w → SameAnswer t v w
alike p f = record { plain_is = p; fault_is = f }

module _ (set : Schemas) where
  elements : (f g : ℕ → Value) (t : SchemaType) (n : ℕ) → SameAnswer t (value.Elements (values_from f 0 n)) (value.Elements (values_from g 0 n))
  elements f g t n = alike (ap ListPlain (count_values_from f 0 n ∙ sym (count_values_from g 0 n))) refl

  list_read : (f g : ℕ → Value) (t : SchemaType) (x : Tree) (q : Bool) (kind : ErrorKind) →
      SameAnswer t (of_read (λ (_ : Tree). value.Elements (values_from f 0 (list_length x))) (cond q (Ok x) (Err kind))) (of_read (λ (_ : Tree). value.Elements (values_from g 0 (list_length x))) (cond q (Ok x) (Err kind)))
  list_read f g t x true kind = elements f g t (list_length x)
  list_read f g t x false kind = alike refl refl

  -- where a level is left, a struct or list is read as where none are counted
  module _ (n : ℕ) (enough : (n == 0) ≡ false) where
    with_enough : {A : Type 0} (r : Result A ErrorKind) → with_level n r ≡ with_level 1 r
    with_enough r = ap (λ q. cond q (Err TooDeep) r) enough

    struct_enough : (x : Tree) → as_struct x n ≡ as_struct x 1
    struct_enough tree.Null = with_enough _
    struct_enough (tree.Struct bytes ps) = with_enough _
    struct_enough (tree.Voids k) = with_enough _
    struct_enough (tree.Bits bs) = with_enough _
    struct_enough (tree.Numbers w bytes) = with_enough _
    struct_enough (tree.Pointers ps) = with_enough _
    struct_enough (tree.Composite d p es) = with_enough _
    struct_enough (tree.FaultLeaf k) = refl

    list_enough : (size : ElementSize) (x : Tree) → as_list size x n ≡ as_list size x 1
    list_enough size tree.Null = with_enough _
    list_enough size (tree.Struct bytes ps) = with_enough _
    list_enough size (tree.Voids k) = with_enough _
    list_enough size (tree.Bits bs) = with_enough _
    list_enough size (tree.Numbers w bytes) = with_enough _
    list_enough size (tree.Pointers ps) = with_enough _
    list_enough size (tree.Composite d p es) = with_enough _
    list_enough size (tree.FaultLeaf k) = refl

    module _ (below : Below) where
      struct_there : (b g : ℕ) (x : Tree) → SameAnswer (StructType b g) (tree_value set x below (Left n) (StructType b g)) (tree_value set x below Endless (StructType b g))
      struct_there b g x = same_then (same_from (ap (of_read (λ (s : StructTree). value.Struct (record_of set (one_less (Left n)) s.bytes below.pointers b))) (struct_enough x))) (go x)
        where
          go : (x : Tree) → SameAnswer (StructType b g)
              (of_read (λ (s : StructTree). value.Struct (record_of set (one_less (Left n)) s.bytes below.pointers b)) (as_struct x 1))
              (of_read (λ (s : StructTree). value.Struct (record_of set Endless s.bytes below.pointers b)) (as_struct x 1))
          go tree.Null = alike refl refl
          go (tree.Struct bytes ps) = alike refl refl
          go (tree.Voids k) = alike refl refl
          go (tree.Bits bs) = alike refl refl
          go (tree.Numbers w bytes) = alike refl refl
          go (tree.Pointers ps) = alike refl refl
          go (tree.Composite d p es) = alike refl refl
          go (tree.FaultLeaf k) = alike refl refl

      list_there : (e : SchemaType) (x : Tree) → SameAnswer (ListType e) (tree_value set x below (Left n) (ListType e)) (tree_value set x below Endless (ListType e))
      list_there e x = same_then (same_from (ap (of_read (λ (_ : Tree). elements_value set x below (one_less (Left n)) e)) (list_enough (element_size e) x))) (go x)
        where
          go : (y : Tree) → SameAnswer (ListType e) (of_read (λ (_ : Tree). elements_value set y below (one_less (Left n)) e) (as_list (element_size e) y 1)) (of_read (λ (_ : Tree). elements_value set y below (one_less Endless) e) (as_list (element_size e) y 1))
          go tree.Null = elements (element_value set tree.Null below (one_less (Left n)) e) (element_value set tree.Null below (one_less Endless) e) (ListType e) (list_length tree.Null)
          go (tree.Struct bytes ps) = alike refl refl
          go (tree.Voids k) = list_read _ _ (ListType e) (tree.Voids k) (reads_voids (element_size e)) WrongElementSize
          go (tree.Bits bs) = list_read _ _ (ListType e) (tree.Bits bs) (reads_bits (element_size e)) WrongElementSize
          go (tree.Numbers w bytes) = list_read _ _ (ListType e) (tree.Numbers w bytes) (reads_numbers (element_size e) w) WrongElementSize
          go (tree.Pointers ps) = list_read _ _ (ListType e) (tree.Pointers ps) (reads_pointers (element_size e)) WrongElementSize
          go (tree.Composite d p es) = list_read _ _ (ListType e) (tree.Composite d p es) (reads_structs (element_size e) d p) WrongElementSize
          go (tree.FaultLeaf k) = alike refl refl

      tree_there : (x : Tree) (t : SchemaType) → SameAnswer t (tree_value set x below (Left n) t) (tree_value set x below Endless t)
      tree_there x (StructType b g) = struct_there b g x
      tree_there x (ListType e) = list_there e x
      tree_there x t = alike refl refl

    -- a pointer that isn't null
    pub there : (x : Tree) (t : SchemaType) → is_null_tree x ≡ false → SameAnswer t (value_of set x (Left n) t) (value_of set x Endless t)
    there tree.Null t e = absurd (true≢false e)
    there (tree.Struct bytes ps) t e = tree_there (below_of set (tree.Struct bytes ps)) (tree.Struct bytes ps) t
    there (tree.Voids k) t e = tree_there (below_of set (tree.Voids k)) (tree.Voids k) t
    there (tree.Bits bs) t e = tree_there (below_of set (tree.Bits bs)) (tree.Bits bs) t
    there (tree.Numbers w bytes) t e = tree_there (below_of set (tree.Numbers w bytes)) (tree.Numbers w bytes) t
    there (tree.Pointers ps) t e = tree_there (below_of set (tree.Pointers ps)) (tree.Pointers ps) t
    there (tree.Composite d p es) t e = tree_there (below_of set (tree.Composite d p es)) (tree.Composite d p es) t
    there (tree.FaultLeaf k) t e = tree_there (below_of set (tree.FaultLeaf k)) (tree.FaultLeaf k) t

  -- a default
  unless : (t : SchemaType) (x : Tree) → SameAnswer t (empty_value set (Left 64) t) (empty_value set Endless t) → SameAnswer t (unless_null set (Left 64) t x) (unless_null set Endless t x)
  unless t x none = go (is_null_tree x) refl
    where
      go : (q : Bool) → is_null_tree x ≡ q → SameAnswer t
          (elim q as (λ _. Value) [ true ↦ empty_value set (Left 64) t | false ↦ value_of set x (Left 64) t ])
          (elim q as (λ _. Value) [ true ↦ empty_value set Endless t | false ↦ value_of set x Endless t ])
      go true e = none
      go false e = there 64 refl x t e

  default_same : (d : SchemaValue) (t : SchemaType) → SameAnswer t (default_value set (Left 64) d t) (default_value set Endless d t)
  default_same (StructValue words) (StructType b g) = unless (StructType b g) (words_root words) (alike refl refl)
  default_same (ListValue words) (ListType e) = unless (ListType e) (words_root words) (alike refl refl)
  default_same d (StructType b g) = alike refl refl
  default_same d (ListType e) = alike refl refl
  default_same d t = alike refl refl

  -- a pointer, or its default
  pub read_same : (d : SchemaValue) (t : SchemaType) (x : Tree) → SameAnswer t (read_of set d t (value_of set x (Left 64) t)) (read_of set d t (value_of set x Endless t))
  read_same d t x = go (is_null_tree x) refl
    where
      go : (q : Bool) → is_null_tree x ≡ q → SameAnswer t (read_of set d t (value_of set x (Left 64) t)) (read_of set d t (value_of set x Endless t))
      go true e = subst (λ y. SameAnswer t (read_of set d t (value_of set y (Left 64) t)) (read_of set d t (value_of set y Endless t))) (sym (null_is x e)) (default_same d t)
      go false e =
          same_then (same_from (read_there set d t _ (value_there set x (Left 64) t e)))
          (same_then (there 64 refl x t e) (same_from (sym (read_there set d t _ (value_there set x Endless t e)))))

  module _ (bytes : List ℕ) (ps : Trees) (d : SchemaValue) where
    pointed : (o : ℕ) (t : SchemaType) → SameAnswer t (read_of set d t (nth_reading (values_of set ps) o (Left 64) t)) (read_of set d t (nth_reading (values_of set ps) o Endless t))
    pointed o t =
        same_then (same_from (ap (λ (r : Reading). read_of set d t (r (Left 64) t)) (values_of_nth set ps o)))
        (same_then (read_same d t (nth_tree ps o)) (same_from (sym (ap (λ (r : Reading). read_of set d t (r Endless t)) (values_of_nth set ps o)))))

    part_same : (f g : ℕ → Record) (k : FieldKind) (t : SchemaType) →
        SameAnswer t (handed_out k (read_of set d t (kind_value f (Left 64) bytes (values_of set ps) k t))) (read_of set d t (kind_value g Endless bytes (values_of set ps) k t))
    part_same f g (Group node) t = alike refl refl
    part_same f g (Slot o c) TextType = pointed o TextType
    part_same f g (Slot o c) DataType = pointed o DataType
    part_same f g (Slot o c) (StructType b x) = pointed o (StructType b x)
    part_same f g (Slot o c) (ListType e) = pointed o (ListType e)
    part_same f g (Slot o c) AnyPointerType = pointed o AnyPointerType
    part_same f g (Slot o c) t = alike refl refl

  -- a field's read
  pub field_same : (s : StructTree) (f : TypedField) → SameAnswer f.type (field_read set (Left 64) s f) (read_of set (default_of f.field) f.type (part_of set Endless s.bytes (values_of set s.pointers) f))
  field_same s f = part_same s.bytes s.pointers (default_of f.field) (record_within (length set.brands) set (Left 64) s.bytes (values_of set s.pointers)) (record_within (length set.brands) set Endless s.bytes (values_of set s.pointers)) f.field.kind f.type
