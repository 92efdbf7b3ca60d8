-- What is answered of a tree that is cut off further down is what is answered of the whole one.
use Rattle.std.proofs.Common.{ℕ, suc, ◌≡◌, ◌<◌, refl, Bool, true, false, cond, not, ◌&&◌, length, List, Err, Ok, ap, sym, subst, ◌∙◌}
use Rattle.capnp_device.specs.declared.error.ErrorKind.{ErrorKind}
use Rattle.capnp_device.specs.declared.error.ErrorKind.TheVariants.{WrongElementSize}
use Rattle.capnp_wire.specs.Reading.{cut_pointer, is_null_tree, list_length, reads_pointers, reads_structs}
use Rattle.capnp_wire.specs.Slot.{number_at}
use Rattle.capnp_wire.specs.Tree as tree
use Rattle.capnp_wire.specs.Tree.{StructTree, Structs, Tree, Trees, nth_struct, nth_tree, struct_count, tree_count}
use Rattle.capnp_arena.specs.Same.{IsCutOf, IsStructCutOf, SameParts, SameRow, SameTo}
use Rattle.capnp_base.specs.declared.introspect.TypeVariant.{TypeVariant}
use Rattle.capnp_schema.specs.Accepted.{IsAccepted}
use Rattle.capnp_schema.specs.Plan.{plan_of}
use Rattle.capnp_schema.specs.Schema.{Schemas, Value as SchemaValue, VoidValue, FieldKind, Slot, Group, TypedField, default_of, field_at, fields_of}
use Rattle.capnp_schema.specs.Types.{SchemaType, IntType, UIntType, EnumType, TextType, DataType, StructType, ListType, AnyPointerType, element_size, seen_variant}
use Rattle.capnp_schema.specs.declared.plan.Place.{Place}
use Rattle.capnp_schema.specs.declared.plan.Place.TheVariants as place
use Rattle.capnp_schema.specs.declared.plan.SlotPlan.{SlotPlan}
use Rattle.capnp_records.specs.Call.{ListPlain}
use Rattle.capnp_records.specs.Default.{read_of}
use Rattle.capnp_records.specs.Facts.DefaultTree.{read_there}
use Rattle.capnp_records.specs.Facts.ListValues.{below_of, count_values_from}
use Rattle.capnp_records.specs.Facts.Pointers.{values_of_nth}
use Rattle.capnp_records.specs.Facts.Readers.{null_is, value_there}
use Rattle.capnp_records.specs.Part.{has_of, is_inactive}
use Rattle.capnp_records.specs.Reading.{Reading, element_value, kind_value, nth_reading, number_value, of_read, part_of, record_within, struct_record, value_of, values_of}
use Rattle.capnp_records.specs.Record as value
use Rattle.capnp_records.specs.Record.{Endless, Left, Levels, Record, Value, one_less, values_from}
use Rattle.capnp_records.specs.Steps.Stand.{seen_element}
use Rattle.capnp_dynamic_readers.specs.Facts.HasWhich.{active_by_plan, has_by_plan}
use Rattle.capnp_dynamic_readers.specs.Planned.{place_there}
use Rattle.capnp_dynamic_readers.specs.Steps.Planned.{member_there, planned_has}
use Rattle.capnp_dynamic_readers.specs.Reads.{field_read}
use Rattle.capnp_call.proofs.Levels.{SameAnswer, alike, field_same, same_from, same_then}

-- ---- one level ----

null_alike : (n : ℕ) (x y : Tree) → SameTo (suc n) x y → is_null_tree y ≡ is_null_tree x
null_alike n tree.Null y h = ap is_null_tree h
null_alike n (tree.Struct bytes ps) y (qs, e, row) = ap is_null_tree e
null_alike n (tree.Voids k) y h = ap is_null_tree h
null_alike n (tree.Bits bs) y h = ap is_null_tree h
null_alike n (tree.Numbers w bytes) y h = ap is_null_tree h
null_alike n (tree.Pointers ps) y (qs, e, row) = ap is_null_tree e
null_alike n (tree.Composite d p es) y (fs, e, row) = ap is_null_tree e
null_alike n (tree.FaultLeaf k) y h = ap is_null_tree h

module _ (set : Schemas) where
  list_alike : (f g : ℕ → Value) (t : SchemaType) (x y : Tree) (q : Bool) (kind : ErrorKind) → list_length y ≡ list_length x →
      SameAnswer t (of_read (λ (_ : Tree). value.Elements (values_from f 0 (list_length x))) (cond q (Ok x) (Err kind))) (of_read (λ (_ : Tree). value.Elements (values_from g 0 (list_length y))) (cond q (Ok y) (Err kind)))
  list_alike f g t x y true kind e = alike (ap ListPlain (count_values_from f 0 (list_length x) ∙ (sym e ∙ sym (count_values_from g 0 (list_length y))))) refl
  list_alike f g t x y false kind e = alike refl refl

  struct_value : (bytes : List ℕ) (ps qs : Trees) (t : SchemaType) → SameAnswer t (value_of set (tree.Struct bytes ps) Endless t) (value_of set (tree.Struct bytes qs) Endless t)
  struct_value bytes ps qs (StructType b g) = alike refl refl
  struct_value bytes ps qs (ListType e) = alike refl refl
  struct_value bytes ps qs t = alike refl refl

  pointers_value : (ps qs : Trees) (t : SchemaType) → tree_count qs ≡ tree_count ps → SameAnswer t (value_of set (tree.Pointers ps) Endless t) (value_of set (tree.Pointers qs) Endless t)
  pointers_value ps qs (StructType b g) h = alike refl refl
  pointers_value ps qs (ListType e) h =
      list_alike (element_value set (tree.Pointers ps) (below_of set (tree.Pointers ps)) (one_less Endless) e) (element_value set (tree.Pointers qs) (below_of set (tree.Pointers qs)) (one_less Endless) e) (ListType e) (tree.Pointers ps) (tree.Pointers qs) (reads_pointers (element_size e)) WrongElementSize h
  pointers_value ps qs t h = alike refl refl

  composite_value : (d p : ℕ) (es fs : Structs) (t : SchemaType) → struct_count fs ≡ struct_count es → SameAnswer t (value_of set (tree.Composite d p es) Endless t) (value_of set (tree.Composite d p fs) Endless t)
  composite_value d p es fs (StructType b g) h = alike refl refl
  composite_value d p es fs (ListType e) h =
      list_alike (element_value set (tree.Composite d p es) (below_of set (tree.Composite d p es)) (one_less Endless) e) (element_value set (tree.Composite d p fs) (below_of set (tree.Composite d p fs)) (one_less Endless) e) (ListType e) (tree.Composite d p es) (tree.Composite d p fs) (reads_structs (element_size e) d p) WrongElementSize h
  composite_value d p es fs t h = alike refl refl

  -- what stands at a pointer
  value_alike : (n : ℕ) (x y : Tree) (t : SchemaType) → SameTo (suc n) x y → SameAnswer t (value_of set x Endless t) (value_of set y Endless t)
  value_alike n tree.Null y t h = same_from (ap (λ (z : Tree). value_of set z Endless t) (sym h))
  value_alike n (tree.Struct bytes ps) y t (qs, e, row) = subst (λ (z : Tree). SameAnswer t (value_of set (tree.Struct bytes ps) Endless t) (value_of set z Endless t)) (sym e) (struct_value bytes ps qs t)
  value_alike n (tree.Voids k) y t h = same_from (ap (λ (z : Tree). value_of set z Endless t) (sym h))
  value_alike n (tree.Bits bs) y t h = same_from (ap (λ (z : Tree). value_of set z Endless t) (sym h))
  value_alike n (tree.Numbers w bytes) y t h = same_from (ap (λ (z : Tree). value_of set z Endless t) (sym h))
  value_alike n (tree.Pointers ps) y t (qs, e, row) = subst (λ (z : Tree). SameAnswer t (value_of set (tree.Pointers ps) Endless t) (value_of set z Endless t)) (sym e) (pointers_value ps qs t row.0)
  value_alike n (tree.Composite d p es) y t (fs, e, row) = subst (λ (z : Tree). SameAnswer t (value_of set (tree.Composite d p es) Endless t) (value_of set z Endless t)) (sym e) (composite_value d p es fs t row.0)
  value_alike n (tree.FaultLeaf k) y t h = same_from (ap (λ (z : Tree). value_of set z Endless t) (sym h))

  -- the same, or a default
  read_alike : (n : ℕ) (d : SchemaValue) (t : SchemaType) (x y : Tree) → SameTo (suc n) x y → SameAnswer t (read_of set d t (value_of set x Endless t)) (read_of set d t (value_of set y Endless t))
  read_alike n d t x y h = go (is_null_tree x) refl
    where
      go : (q : Bool) → is_null_tree x ≡ q → SameAnswer t (read_of set d t (value_of set x Endless t)) (read_of set d t (value_of set y Endless t))
      go true e = same_from (ap (λ (z : Tree). read_of set d t (value_of set z Endless t)) (null_is x e ∙ sym (null_is y (null_alike n x y h ∙ e))))
      go false e =
          same_then (same_from (read_there set d t _ (value_there set x Endless t e)))
          (same_then (value_alike n x y t h) (same_from (sym (read_there set d t _ (value_there set y Endless t (null_alike n x y h ∙ e))))))

  -- ---- fields ----

  module _ (n : ℕ) (bytes : List ℕ) (ps qs : Trees) (row : SameRow (SameTo (suc n)) ps qs) (d : SchemaValue) where
    pointed : (o : ℕ) (t : SchemaType) → SameAnswer t (read_of set d t (nth_reading (values_of set ps) o Endless t)) (read_of set d t (nth_reading (values_of set qs) o Endless t))
    pointed o t =
        same_then (same_from (ap (λ (r : Reading). read_of set d t (r Endless t)) (values_of_nth set ps o)))
        (same_then (read_alike n d t (nth_tree ps o) (nth_tree qs o) (row.1 o)) (same_from (sym (ap (λ (r : Reading). read_of set d t (r Endless t)) (values_of_nth set qs o)))))

    part_alike : (f g : ℕ → Record) (k : FieldKind) (t : SchemaType) → SameAnswer t (read_of set d t (kind_value f Endless bytes (values_of set ps) k t)) (read_of set d t (kind_value g Endless bytes (values_of set qs) k t))
    part_alike f g (Group node) t = alike refl refl
    part_alike f g (Slot o c) TextType = pointed o TextType
    part_alike f g (Slot o c) DataType = pointed o DataType
    part_alike f g (Slot o c) (StructType b x) = pointed o (StructType b x)
    part_alike f g (Slot o c) (ListType e) = pointed o (ListType e)
    part_alike f g (Slot o c) AnyPointerType = pointed o AnyPointerType
    part_alike f g (Slot o c) t = alike refl refl

  -- a field's read, by a reader with 64 levels
  field_alike : (n : ℕ) (x s : StructTree) → SameParts (SameTo (suc n)) x s → (f : TypedField) →
      SameAnswer f.type (field_read set (Left 64) x f) (read_of set (default_of f.field) f.type (part_of set Endless s.bytes (values_of set s.pointers) f))
  field_alike n x s h f =
      same_then (field_same set x f)
      (subst (λ (b : List ℕ). SameAnswer f.type (read_of set (default_of f.field) f.type (part_of set Endless x.bytes (values_of set x.pointers) f)) (read_of set (default_of f.field) f.type (part_of set Endless b (values_of set s.pointers) f))) (sym h.0)
      (part_alike n x.bytes x.pointers s.pointers h.1 (default_of f.field) (record_within _ set Endless x.bytes (values_of set x.pointers)) (record_within _ set Endless x.bytes (values_of set s.pointers)) f.field.kind f.type))

  pub field_cut : (x s : StructTree) → IsStructCutOf x s → (f : TypedField) →
      SameAnswer f.type (field_read set (Left 64) x f) (read_of set (default_of f.field) f.type (part_of set Endless s.bytes (values_of set s.pointers) f))
  unfolding IsStructCutOf
  field_cut x s h f = field_alike 64 x s h f

pub bytes_cut : (x s : StructTree) → IsStructCutOf x s → s.bytes ≡ x.bytes
unfolding IsStructCutOf
bytes_cut x s h = h.0

-- whether a field is there
place_alike : (n : ℕ) (x s : StructTree) → SameParts (SameTo (suc n)) x s → (p : Place) → place_there x p ≡ place_there s p
place_alike n x s h place.Nothing = refl
place_alike n x s h (place.Bits start bits mask) = refl
place_alike n x s h (place.Pointer i) = ap not (sym (null_alike n (nth_tree x.pointers i) (nth_tree s.pointers i) (h.1.1 i)))
place_alike n x s h (place.Group b) = refl

has_alike : (n : ℕ) (x s : StructTree) → SameParts (SameTo (suc n)) x s → (p : SlotPlan) → planned_has x p ≡ planned_has s p
has_alike n x s h p = ap (λ b. member_there b p.member && place_there x p.place) (sym h.0) ∙ ap (λ q. member_there s.bytes p.member && q) (place_alike n x s h p.place)

pub has_cut : (set : Schemas) (l : Levels) (x s : StructTree) → IsStructCutOf x s → IsAccepted set → (b i : ℕ) → b < length set.brands → i < length (fields_of set b) → (v : TypeVariant) → seen_variant v ≡ (field_at set b i).type →
    has_of (struct_record set l x b) (field_at set b i).field i ≡ has_of (struct_record set Endless s b) (field_at set b i).field i
unfolding IsStructCutOf
has_cut set l x s h accepted b i b_in i_in v e =
    sym (has_by_plan set l x accepted b i b_in i_in v e) ∙ (has_alike 64 x s h (plan_of set b (field_at set b i)) ∙ has_by_plan set Endless s accepted b i b_in i_in v e)

pub active_cut : (set : Schemas) (l : Levels) (x s : StructTree) → s.bytes ≡ x.bytes → IsAccepted set → (b i : ℕ) → b < length set.brands → i < length (fields_of set b) →
    not (is_inactive (struct_record set l x b) (field_at set b i).field i) ≡ not (is_inactive (struct_record set Endless s b) (field_at set b i).field i)
active_cut set l x s h accepted b i b_in i_in =
    sym (active_by_plan set l x accepted b i b_in i_in) ∙ (ap (λ bytes. member_there bytes (plan_of set b (field_at set b i)).member) (sym h) ∙ active_by_plan set Endless s accepted b i b_in i_in)

-- ---- elements ----

cut_one : (t : Tree) → cut_pointer 1 t ≡ t
cut_one tree.Null = refl
cut_one (tree.Struct bytes ps) = refl
cut_one (tree.Voids k) = refl
cut_one (tree.Bits bs) = refl
cut_one (tree.Numbers w bytes) = refl
cut_one (tree.Pointers ps) = refl
cut_one (tree.Composite d p es) = refl
cut_one (tree.FaultLeaf k) = refl

cut_alike : (n : ℕ) (t u : Tree) → SameTo (suc n) t u → SameTo (suc n) (cut_pointer 1 t) (cut_pointer 1 u)
cut_alike n t u h = subst (λ (a : Tree). SameTo (suc n) a (cut_pointer 1 u)) (sym (cut_one t)) (subst (SameTo (suc n) t) (sym (cut_one u)) h)

module _ (set : Schemas) (n : ℕ) where
  abbrev seen : Tree → ℕ → SchemaType → Value
  seen x i e = read_of set VoidValue e (seen_element set x e i)

  struct_element : (bytes : List ℕ) (ps qs : Trees) (i : ℕ) (e : SchemaType) → SameAnswer e (seen (tree.Struct bytes ps) i e) (seen (tree.Struct bytes qs) i e)
  struct_element bytes ps qs i (StructType b g) = alike refl refl
  struct_element bytes ps qs i e = alike refl refl

  pointers_element : (ps qs : Trees) → ((i : ℕ) → SameTo (suc n) (nth_tree ps i) (nth_tree qs i)) → (i : ℕ) (e : SchemaType) → SameAnswer e (seen (tree.Pointers ps) i e) (seen (tree.Pointers qs) i e)
  pointers_element ps qs h i TextType = read_alike set n VoidValue TextType (nth_tree ps i) (nth_tree qs i) (h i)
  pointers_element ps qs h i DataType = read_alike set n VoidValue DataType (nth_tree ps i) (nth_tree qs i) (h i)
  pointers_element ps qs h i (ListType e) = read_alike set n VoidValue (ListType e) (nth_tree ps i) (nth_tree qs i) (h i)
  pointers_element ps qs h i AnyPointerType = read_alike set n VoidValue AnyPointerType (nth_tree ps i) (nth_tree qs i) (h i)
  pointers_element ps qs h i (StructType b g) = alike refl refl
  pointers_element ps qs h i e = alike refl refl

  composite_element : (d p : ℕ) (es fs : Structs) → ((i : ℕ) → SameParts (SameTo (suc n)) (nth_struct es i) (nth_struct fs i)) → (i : ℕ) (e : SchemaType) → SameAnswer e (seen (tree.Composite d p es) i e) (seen (tree.Composite d p fs) i e)
  composite_element d p es fs h i (IntType w) = same_from (ap (λ (b : List ℕ). read_of set VoidValue (IntType w) (number_value (IntType w) (number_at w 0 b))) (sym (h i).0))
  composite_element d p es fs h i (UIntType w) = same_from (ap (λ (b : List ℕ). read_of set VoidValue (UIntType w) (number_value (UIntType w) (number_at w 0 b))) (sym (h i).0))
  composite_element d p es fs h i (EnumType k) = same_from (ap (λ (b : List ℕ). read_of set VoidValue (EnumType k) (number_value (EnumType k) (number_at 2 0 b))) (sym (h i).0))
  composite_element d p es fs h i TextType = read_alike set n VoidValue TextType (cut_pointer 1 (nth_tree (nth_struct es i).pointers 0)) (cut_pointer 1 (nth_tree (nth_struct fs i).pointers 0)) (cut_alike n _ _ ((h i).1.1 0))
  composite_element d p es fs h i DataType = read_alike set n VoidValue DataType (cut_pointer 1 (nth_tree (nth_struct es i).pointers 0)) (cut_pointer 1 (nth_tree (nth_struct fs i).pointers 0)) (cut_alike n _ _ ((h i).1.1 0))
  composite_element d p es fs h i (ListType e) = read_alike set n VoidValue (ListType e) (cut_pointer 1 (nth_tree (nth_struct es i).pointers 0)) (cut_pointer 1 (nth_tree (nth_struct fs i).pointers 0)) (cut_alike n _ _ ((h i).1.1 0))
  composite_element d p es fs h i AnyPointerType = read_alike set n VoidValue AnyPointerType (cut_pointer 1 (nth_tree (nth_struct es i).pointers 0)) (cut_pointer 1 (nth_tree (nth_struct fs i).pointers 0)) (cut_alike n _ _ ((h i).1.1 0))
  composite_element d p es fs h i (StructType b g) = alike refl refl
  composite_element d p es fs h i e = alike refl refl

  element_alike : (x y : Tree) → SameTo (suc (suc n)) x y → (i : ℕ) (e : SchemaType) → SameAnswer e (seen x i e) (seen y i e)
  element_alike tree.Null y h i e = same_from (ap (λ (z : Tree). seen z i e) (sym h))
  element_alike (tree.Struct bytes ps) y (qs, is, row) i e = subst (λ (z : Tree). SameAnswer e (seen (tree.Struct bytes ps) i e) (seen z i e)) (sym is) (struct_element bytes ps qs i e)
  element_alike (tree.Voids k) y h i e = same_from (ap (λ (z : Tree). seen z i e) (sym h))
  element_alike (tree.Bits bs) y h i e = same_from (ap (λ (z : Tree). seen z i e) (sym h))
  element_alike (tree.Numbers w bytes) y h i e = same_from (ap (λ (z : Tree). seen z i e) (sym h))
  element_alike (tree.Pointers ps) y (qs, is, row) i e = subst (λ (z : Tree). SameAnswer e (seen (tree.Pointers ps) i e) (seen z i e)) (sym is) (pointers_element ps qs row.1 i e)
  element_alike (tree.Composite d p es) y (fs, is, row) i e = subst (λ (z : Tree). SameAnswer e (seen (tree.Composite d p es) i e) (seen z i e)) (sym is) (composite_element d p es fs row.1 i e)
  element_alike (tree.FaultLeaf k) y h i e = same_from (ap (λ (z : Tree). seen z i e) (sym h))

pub element_cut : (set : Schemas) (x y : Tree) → IsCutOf x y → (i : ℕ) (e : SchemaType) → SameAnswer e (read_of set VoidValue e (seen_element set x e i)) (read_of set VoidValue e (seen_element set y e i))
unfolding IsCutOf
element_cut set x y h i e = element_alike set 63 x y h i e
