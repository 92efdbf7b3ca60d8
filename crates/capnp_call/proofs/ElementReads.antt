-- An element that is read is what the whole record has, whatever levels the reader has.
use Rattle.std.proofs.Common.{ℕ, ◌<◌, ◌≡◌, refl, Bool, true, false, ◌==◌, Result, IfOk, ap, sym, subst, ◌∙◌}
use Rattle.capnp_device.specs.declared.error.Error.{Error}
use Rattle.capnp_device.specs.declared.error.ErrorKind.TheVariants.{TooDeep}
use Rattle.capnp_wire.specs.Reading.{element_levels, element_pointer, is_null_tree, list_length}
use Rattle.capnp_wire.specs.Standing.{list_levels, list_of}
use Rattle.capnp_wire.specs.Tree as tree
use Rattle.capnp_wire.specs.Tree.{Tree}
use Rattle.capnp_schema.specs.Accepted.{NamesEntries}
use Rattle.capnp_schema.specs.Schema.{Schemas, VoidValue}
use Rattle.capnp_schema.specs.Types.{AnyPointerType, DataType, ListType, SchemaType, StructType, TextType}
use Rattle.capnp_records.specs.Call.{Get, Reply}
use Rattle.capnp_records.specs.Default.{empty_value, read_of}
use Rattle.capnp_records.specs.Facts.DefaultTree.{read_there}
use Rattle.capnp_records.specs.Facts.ListValues.{below_of}
use Rattle.capnp_records.specs.Facts.Readers.{null_is, pointer_read, value_there}
use Rattle.capnp_records.specs.Operation.{Answers, Does, answer_of}
use Rattle.capnp_records.specs.Reading.{element_value, value_of}
use Rattle.capnp_records.specs.Record as value
use Rattle.capnp_records.specs.Record.{Endless, Left, Value}
use Rattle.capnp_records.specs.Step.{fault_of}
use Rattle.capnp_records.specs.Steps.Stand.{seen_element}
use Rattle.capnp_dynamic_readers.specs.Handles.{element_of, list_reader_of, list_set}
use Rattle.capnp_dynamic_readers.specs.Reads.{element_seen}
use Rattle.capnp_dynamic_readers.specs.Seen.{answered_value}
use Rattle.capnp_dynamic_readers.specs.Typed.{IsOf}
use Rattle.capnp_dynamic_readers.specs.declared.dynamic_list.Reader.{Reader as ListHandle}
use Rattle.capnp_dynamic_readers.specs.declared.dynamic_value.Reader.{Reader as DynamicValue}
use Rattle.capnp_arena.specs.Same.{IsCutOf}
use Rattle.capnp_call.proofs.Heads.{element_cut}
use Rattle.capnp_call.proofs.Levels.{SameAnswer, answers_same, same_from, same_then, there}
use Rattle.capnp_call.proofs.ListWalks.{part_seen}
use Rattle.capnp_call.specs.Steps.Lists.{element_at}

-- ---- a pointer that is an element ----

-- elements have no defaults
empty_same : (set : Schemas) (n : ℕ) → (n == 0) ≡ false → (t : SchemaType) → SameAnswer t (read_of set VoidValue t (value_of set tree.Null (Left n) t)) (read_of set VoidValue t (value_of set tree.Null Endless t))
empty_same set n enough (StructType b g) = record {
  plain_is = ap (λ q. answer_of (StructType b g) (elim q as (λ _. Value) [ true ↦ value.Fault TooDeep | false ↦ empty_value set (Left n) (StructType b g) ])) enough;
  fault_is = ap (λ q. fault_of (elim q as (λ _. Value) [ true ↦ value.Fault TooDeep | false ↦ empty_value set (Left n) (StructType b g) ])) enough;
}
empty_same set n enough (ListType e) = record {
  plain_is = ap (λ q. answer_of (ListType e) (elim q as (λ _. Value) [ true ↦ value.Fault TooDeep | false ↦ empty_value set (Left n) (ListType e) ])) enough;
  fault_is = ap (λ q. fault_of (elim q as (λ _. Value) [ true ↦ value.Fault TooDeep | false ↦ empty_value set (Left n) (ListType e) ])) enough;
}
empty_same set n enough t = same_from refl

pointer_same : (set : Schemas) (n : ℕ) → (n == 0) ≡ false → (t : SchemaType) (y : Tree) → SameAnswer t (read_of set VoidValue t (value_of set y (Left n) t)) (read_of set VoidValue t (value_of set y Endless t))
pointer_same set n enough t y = go (is_null_tree y) refl
  where
    go : (q : Bool) → is_null_tree y ≡ q → SameAnswer t (read_of set VoidValue t (value_of set y (Left n) t)) (read_of set VoidValue t (value_of set y Endless t))
    go true e = subst (λ z. SameAnswer t (read_of set VoidValue t (value_of set z (Left n) t)) (read_of set VoidValue t (value_of set z Endless t))) (sym (null_is y e)) (empty_same set n enough t)
    go false e =
        same_then (same_from (read_there set VoidValue t _ (value_there set y (Left n) t e)))
        (same_then (there set n enough y t e) (same_from (sym (read_there set VoidValue t _ (value_there set y Endless t e)))))

-- of a list of structs it is read through the struct
levels_enough : (x : Tree) → (element_levels x 64 == 0) ≡ false
levels_enough (tree.Composite d p es) = refl
levels_enough x = refl

uncut : (x : Tree) (i : ℕ) → element_pointer x i 64 ≡ element_pointer x i 1
uncut (tree.Composite d p es) i = refl
uncut x i = refl

module _ (set : Schemas) (x : Tree) (i : ℕ) where
  behind : (t : SchemaType) → SameAnswer t (read_of set VoidValue t ((below_of set x).element_pointer i (Left 64) t)) (read_of set VoidValue t (value_of set (element_pointer x i 1) Endless t))
  behind t =
      same_then (same_from (ap (read_of set VoidValue t) (pointer_read set x i 64 t)))
      (same_then (pointer_same set (element_levels x 64) (levels_enough x) t (element_pointer x i 64))
      (same_from (ap (λ (y : Tree). read_of set VoidValue t (value_of set y Endless t)) (uncut x i))))

  -- ---- an element ----

  element_same : (e : SchemaType) → SameAnswer e (read_of set VoidValue e (element_value set x (below_of set x) (Left 64) e i)) (read_of set VoidValue e (seen_element set x e i))
  element_same TextType = behind TextType
  element_same DataType = behind DataType
  element_same (StructType b g) = record { plain_is = refl; fault_is = refl }
  element_same (ListType t) = behind (ListType t)
  element_same AnyPointerType = behind AnyPointerType
  element_same e = same_from refl

-- a reader of a list under a type of a set
pub record StandsIn (r : ListHandle) (set : Schemas) (e : SchemaType) (x : Tree) : Type 0 where
  pub set_is : list_set r ≡ set
  pub element_is : element_of r ≡ e
  pub list_is : list_of (list_reader_of r) ≡ x
  pub levels : list_levels (list_reader_of r) ≡ 64

seen_is : (r : ListHandle) (set : Schemas) (e : SchemaType) (x : Tree) (i : ℕ) → StandsIn r set e x → element_seen r i ≡ read_of set VoidValue e (element_value set x (below_of set x) (Left 64) e i)
seen_is r set e x i on =
    ap (λ (z : Schemas). read_of z VoidValue (element_of r) (element_value z (list_of (list_reader_of r)) (below_of z (list_of (list_reader_of r))) (Left (list_levels (list_reader_of r))) (element_of r) i)) on.set_is
    ∙ (ap (λ (t : SchemaType). read_of set VoidValue t (element_value set (list_of (list_reader_of r)) (below_of set (list_of (list_reader_of r))) (Left (list_levels (list_reader_of r))) t i)) on.element_is
    ∙ (ap (λ (y : Tree). read_of set VoidValue e (element_value set y (below_of set y) (Left (list_levels (list_reader_of r))) e i)) on.list_is
    ∙ ap (λ (n : ℕ). read_of set VoidValue e (element_value set x (below_of set x) (Left n) e i)) on.levels))

pub get_reads : (r : ListHandle) (set : Schemas) (e : SchemaType) (y x : Tree) (i : ℕ) (read : Result DynamicValue Error) (reply : Reply) → StandsIn r set e y → IsCutOf y x → i < list_length x → NamesEntries set e →
    answered_value read ≡ element_seen r i → (NamesEntries (list_set r) (element_of r) → IfOk read (IsOf (list_set r) (element_of r))) →
    ((set : Schemas) (t : SchemaType) (old : Value) → IfOk read (IsOf set t) → Answers t (answered_value read) (fault_of (answered_value read)) old reply old) →
    (old : Value) → Does set Get (element_at set e x i) old reply old
get_reads r set e y x i read reply on cut inside entries value typed answers old =
    let named : NamesEntries (list_set r) (element_of r) = subst (λ (z : Schemas). NamesEntries z (element_of r)) (sym on.set_is) (subst (NamesEntries set) (sym on.element_is) entries) in
    let is_of : IfOk read (IsOf set e) = subst (λ (t : SchemaType). IfOk read (IsOf set t)) on.element_is (subst (λ (z : Schemas). IfOk read (IsOf z (element_of r))) on.set_is (typed named)) in
    answers_same e (answered_value read) _ old old reply
    (same_then (same_from (value ∙ seen_is r set e y i on))
    (same_then (same_then (element_same set y i e) (element_cut set y x cut i e)) (same_from (ap (read_of set VoidValue e) (sym (part_seen set e x i inside))))))
    (answers set e old is_of)
