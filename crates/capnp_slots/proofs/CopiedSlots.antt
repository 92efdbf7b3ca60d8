-- What is copied into a slot is what its copy is given.
use Rattle.std.specs.Prelude.{ℕ, List, ◌*◌, ◌≡◌, refl, Bool, true, false, ◌==◌, cond, Option, Some, None, option_map, Result, Ok, Err, IsOk, OnOk, IfErr, ⊤}
use Rattle.std.specs.Borrow.{Bor}
use Rattle.std.proofs.Common.{ap, sym, subst, ◌∙◌}
use Rattle.std.proofs.lemmas.Bool.{true≢false}
use Rattle.capnp_device.specs.declared.error.Error.{Error}
use Rattle.capnp_device.specs.declared.error.ErrorKind.{ErrorKind}
use Rattle.capnp_device.specs.declared.error.ErrorKind.TheVariants.{OutOfMemory, TooDeep}
use Rattle.capnp_wire.specs.Tree as tree
use Rattle.capnp_wire.specs.Tree.{StructTree, Tree, empty_struct, nth_tree}
use Rattle.capnp_wire.specs.Defaults.{error_of}
use Rattle.capnp_wire.specs.Edits.{IsCopyRefusal}
use Rattle.capnp_wire.specs.Reading.{as_data, as_list, as_struct, as_text, empty_list, is_null_tree}
use Rattle.capnp_wire.specs.Words.{first_fault}
use Rattle.capnp_wire.specs.declared.size.ElementSize.{ElementSize}
use Rattle.capnp_schema.specs.Accepted.{IsDefaultOf, KindDefault, IsListOrNull, IsStructOrNull}
use Rattle.capnp_schema.specs.Defaults.{DefaultFits, IsDefaultReadAs, value_default_tree as words_tree}
use Rattle.capnp_schema.specs.Schema.{FieldKind, Group, Slot, default_of, kind_default, Schemas, TextValue, DataValue, StructValue, ListValue, AnyPointerValue, Value as SchemaValue}
use Rattle.capnp_schema.specs.Types.{width, AnyPointerType, DataType, ListType, SchemaType, StructType, TextType, element_size, is_pointer}
use Rattle.capnp_records.specs.Default.{default_value, read_of, unless_null}
use Rattle.capnp_records.specs.Facts.DefaultTree.{read_there}
use Rattle.capnp_records.specs.Facts.ListValues.{below_of}
use Rattle.capnp_records.specs.Facts.Readers.{data_read, list_value, null_is, struct_is_read, text_read, value_there}
use Rattle.capnp_records.specs.Given.{Copies, Fails, Given, data_tree}
use Rattle.capnp_records.specs.GroupCopy.{pointer_copy, read_copy}
use Rattle.capnp_records.specs.Reading.{elements_value, of_read, struct_record, value_of}
use Rattle.capnp_records.specs.Record.{Endless, Left, Levels, Value, one_less}
use Rattle.capnp_records.specs.Record as value
use Rattle.capnp_records.specs.Step.{fault_of, is_group_field}
use Rattle.capnp_records.specs.Writes.Slots.{At, Bits, Suits}
use Rattle.capnp_records.specs.Writes.TreeCopy.{slot_default_tree}
use Rattle.capnp_records.specs.Facts.Frame.{chosen_first, second_of}
use Rattle.capnp_schema.specs.Facts.Bits.{bits_at_bounded}
use Rattle.capnp_schema.specs.FieldLists.{typed_of}
use Rattle.capnp_schema.specs.SlotValue.{bits_at}
use Rattle.capnp_schema.specs.Views.{IsViewOf}
use Rattle.capnp_schema.specs.declared.plan.Place.TheVariants as place
use Rattle.capnp_schema.specs.declared.plan.SlotPlan.{SlotPlan}
use Rattle.capnp_schema.specs.declared.schema.fields.Field.{Field}
use Rattle.capnp_schema.specs.declared.value.Value.TheVariants as view
use Rattle.capnp_slots.specs.Copied.{IsCopied, IsCopiedFrom, copy_content, copy_given, refusal_of}
use Rattle.capnp_slots.specs.Steps.Copied.{IsGivenCopy, default_in, pointer_content, pointer_given, read_due}
use Rattle.capnp_slots.specs.Fields.{IsPointerField, IsRoomFor, IsSlot, field_set, Keeps, names_of, pointer_index, slot_with}
use Rattle.capnp_slots.specs.Steps.Fields.{IsSlotPlan}
use Rattle.capnp_slots.specs.Steps.Planned.{place_bits, plan_written}
use Rattle.capnp_slots.specs.Sources.{IsSetRefusal, IsTaken, copy_due}

-- ---- the fault of a read ----

fault_read : {A : Type 0} (g : A → Value) (r : Result A ErrorKind) → ((a : A) → fault_of (g a) ≡ None) → fault_of (of_read g r) ≡ error_of r
fault_read g (Ok a) h = h a
fault_read g (Err k) h = refl

fault_entered : {A : Type 0} (q : Bool) (v : Value) (a : A) → fault_of v ≡ None → fault_of (elim q as (λ _. Value) [ true ↦ value.Fault TooDeep | false ↦ v ]) ≡ error_of (cond q (Err TooDeep) (Ok a))
fault_entered true v a h = refl
fault_entered false v a h = h

-- ---- defaults are read ----

struct_root : (set : Schemas) (n b g : ℕ) (y : Tree) → IsStructOrNull y → fault_of (unless_null set (Left n) (StructType b g) y) ≡ None
struct_root set n b g tree.Null h = refl
struct_root set n b g (tree.Struct bytes ps) h = refl
struct_root set n b g y h = absurd h

levels_same : (s : ElementSize) (y : Tree) → is_null_tree y ≡ false → IsListOrNull y → as_list s y 64 ≡ as_list s y 1
levels_same s tree.Null there h = absurd (true≢false there)
levels_same s (tree.Voids n) there h = refl
levels_same s (tree.Bits bs) there h = refl
levels_same s (tree.Numbers w bytes) there h = refl
levels_same s (tree.Pointers ps) there h = refl
levels_same s (tree.Composite d p es) there h = refl
levels_same s y there h = absurd h

ok_none : {A : Type 0} (r : Result A ErrorKind) → IsOk r → error_of r ≡ None
ok_none (Ok a) h = refl
ok_none (Err k) h = absurd (true≢false (sym h))

list_there : (set : Schemas) (n : ℕ) (e : SchemaType) (y : Tree) → is_null_tree y ≡ false → fault_of (value_of set y (Left n) (ListType e)) ≡ error_of (as_list (element_size e) y n)
list_there set n e y there = ap fault_of (list_value set y (Left n) e there) ∙ fault_read (λ (_ : Tree). elements_value set y (below_of set y) (one_less (Left n)) e) (as_list (element_size e) y n) (λ a. refl)

list_root : (set : Schemas) (n : ℕ) (e : SchemaType) (y : Tree) → IsListOrNull y → IsOk (as_list (element_size e) y 1) → fault_of (unless_null set (Left n) (ListType e) y) ≡ None
list_root set n e y h ok = go (is_null_tree y) refl
  where
    go : (q : Bool) → is_null_tree y ≡ q → fault_of (elim q as (λ _. Value) [ true ↦ value.Elements value.NoValues | false ↦ value_of set y (Left 64) (ListType e) ]) ≡ None
    go true e' = refl
    go false there = list_there set 64 e y there ∙ (ap error_of (levels_same (element_size e) y there h) ∙ ok_none (as_list (element_size e) y 1) ok)

null_due : (set : Schemas) (n : ℕ) (t : SchemaType) (d : SchemaValue) → is_pointer t ≡ true → (AnyPointerType ≡ t → ⊥) → IsDefaultOf d t → IsDefaultReadAs t (words_tree d) → fault_of (default_value set (Left n) d t) ≡ read_due t tree.Null n
null_due set n TextType (TextValue bytes) p typed of reads = refl
null_due set n TextType (AnyPointerValue words) p typed of reads = refl
null_due set n TextType d p typed of reads = absurd of
null_due set n DataType (DataValue bytes) p typed of reads = refl
null_due set n DataType (AnyPointerValue words) p typed of reads = refl
null_due set n DataType d p typed of reads = absurd of
null_due set n (StructType b g) (StructValue words) p typed of reads = fault_entered (n == 0) _ empty_struct (struct_root set n b g (words_tree (StructValue words)) reads)
null_due set n (StructType b g) (AnyPointerValue words) p typed of reads = fault_entered (n == 0) _ empty_struct refl
null_due set n (StructType b g) d p typed of reads = absurd of
null_due set n (ListType e) (ListValue words) p typed of reads = fault_entered (n == 0) _ (empty_list (element_size e)) (list_root set n e (words_tree (ListValue words)) reads.0 reads.1)
null_due set n (ListType e) (AnyPointerValue words) p typed of reads = fault_entered (n == 0) _ (empty_list (element_size e)) refl
null_due set n (ListType e) d p typed of reads = absurd of
null_due set n AnyPointerType d p typed of reads = absurd (typed refl)
null_due set n t d p typed of reads = absurd (true≢false (sym p))

-- ---- what a pointer is refused with ----

there_due : (set : Schemas) (n : ℕ) (t : SchemaType) (x : Tree) → is_pointer t ≡ true → (AnyPointerType ≡ t → ⊥) → is_null_tree x ≡ false → fault_of (value_of set x (Left n) t) ≡ read_due t x n
there_due set n TextType x p typed h = ap fault_of (text_read set x (Left n) h) ∙ fault_read value.Text (as_text x) (λ a. refl)
there_due set n DataType x p typed h = ap fault_of (data_read set x (Left n) h) ∙ fault_read value.Data (as_data x) (λ a. refl)
there_due set n (StructType b g) x p typed h = ap fault_of (struct_is_read set x (Left n) b g h) ∙ fault_read (λ (s : StructTree). value.Struct (struct_record set (one_less (Left n)) s b)) (as_struct x n) (λ a. refl)
there_due set n (ListType e) x p typed h = list_there set n e x h
there_due set n AnyPointerType x p typed h = absurd (typed refl)
there_due set n t x p typed h = absurd (true≢false (sym p))

read_faults : (set : Schemas) (n : ℕ) (t : SchemaType) (d : SchemaValue) (x : Tree) → is_pointer t ≡ true → (AnyPointerType ≡ t → ⊥) → IsDefaultOf d t → IsDefaultReadAs t (words_tree d) →
    fault_of (read_of set d t (value_of set x (Left n) t)) ≡ read_due t x n
read_faults set n t d x p typed of reads = go (is_null_tree x) refl
  where
    go : (q : Bool) → is_null_tree x ≡ q → fault_of (read_of set d t (value_of set x (Left n) t)) ≡ read_due t x n
    go true h =
        ap (λ y. fault_of (read_of set d t (value_of set y (Left n) t))) (null_is x h)
        ∙ (null_due set n t d p typed of reads ∙ ap (λ y. read_due t y n) (sym (null_is x h)))
    go false h = ap fault_of (read_there set d t (value_of set x (Left n) t) (value_there set x (Left n) t h)) ∙ there_due set n t x p typed h

-- ---- what it is given ----

typed_copy : (set : Schemas) (n : ℕ) (t : SchemaType) (d : SchemaValue) (x : Tree) → is_pointer t ≡ true → (AnyPointerType ≡ t → ⊥) →
    pointer_copy set (Left n) x d t ≡ read_copy (fault_of (read_of set d t (value_of set x (Left n) t))) (Copies x false (read_of set d t (value_of set x Endless t)))
typed_copy set n TextType d x p typed = refl
typed_copy set n DataType d x p typed = refl
typed_copy set n (StructType b g) d x p typed = refl
typed_copy set n (ListType e) d x p typed = refl
typed_copy set n AnyPointerType d x p typed = absurd (typed refl)
typed_copy set n t d x p typed = absurd (true≢false (sym p))

typed_or : (t : SchemaType) (n : ℕ) (x : Tree) → read_due t x n ≡ None → AnyPointerType ≡ t → ⊥
typed_or AnyPointerType n x h e = cc
typed_or t n x h e = cc

module _ (set : Schemas) (n : ℕ) (t : SchemaType) (d : SchemaValue) (x : Tree) (p : is_pointer t ≡ true) (of : IsDefaultOf d t) (reads : IsDefaultReadAs t (words_tree d)) where
  pub pointer_taken : read_due t x n ≡ None → pointer_copy set (Left n) x d t ≡ Copies x false (read_of set d t (value_of set x Endless t))
  pointer_taken h =
      let typed : AnyPointerType ≡ t → ⊥ = typed_or t n x h in
      typed_copy set n t d x p typed ∙ ap (λ o. read_copy o (Copies x false (read_of set d t (value_of set x Endless t)))) (read_faults set n t d x p typed of reads ∙ h)

some_same : {k j : ErrorKind} → Some k ≡ Some j → k ≡ j
some_same e = cc

pub pointer_refused : (set : Schemas) (n : ℕ) (t : SchemaType) (d : SchemaValue) (x : Tree) → is_pointer t ≡ true → IsDefaultOf d t → IsDefaultReadAs t (words_tree d) → (k : ErrorKind) →
    Some k ≡ read_due t x n → pointer_copy set (Left n) x d t ≡ Fails k
pointer_refused set n AnyPointerType d x p of reads k h = ap Fails (some_same (sym h))
pointer_refused set n TextType d x p of reads k h = ap (λ o. read_copy o (Copies x false (read_of set d TextType (value_of set x Endless TextType)))) (read_faults set n TextType d x p (λ e. cc) of reads ∙ sym h)
pointer_refused set n DataType d x p of reads k h = ap (λ o. read_copy o (Copies x false (read_of set d DataType (value_of set x Endless DataType)))) (read_faults set n DataType d x p (λ e. cc) of reads ∙ sym h)
pointer_refused set n (StructType b g) d x p of reads k h = ap (λ o. read_copy o (Copies x false (read_of set d (StructType b g) (value_of set x Endless (StructType b g))))) (read_faults set n (StructType b g) d x p (λ e. cc) of reads ∙ sym h)
pointer_refused set n (ListType e) d x p of reads k h = ap (λ o. read_copy o (Copies x false (read_of set d (ListType e) (value_of set x Endless (ListType e))))) (read_faults set n (ListType e) d x p (λ e. cc) of reads ∙ sym h)
pointer_refused set n t d x p of reads k h = absurd (true≢false (sym p))

-- ---- the copy's answers ----

pub is_taken : (g : Given) (x : Tree) (v : Value) → g ≡ Copies x false v → first_fault x ≡ None → IsTaken g
is_taken g x v e sound = subst IsTaken (sym e) (ap (option_map _) sound, refl)

pub null_taken : (g : Given) (x : Tree) (v : Value) → g ≡ Copies x false v → is_null_tree x ≡ true → IsTaken g
null_taken g x v e h = is_taken g x v e (ap first_fault (null_is x h))

pub memory_refusal : (g : Given) (x : Tree) (v : Value) (k : ErrorKind) → g ≡ Copies x false v → k ≡ OutOfMemory → IsSetRefusal g k
memory_refusal g x v k e h = subst (λ (y : Given). IsSetRefusal y k) (sym e) (λ other. absurd (other h))

pub copy_refusal : (g : Given) (x : Tree) (v : Value) (error : Error) → g ≡ Copies x false v → IsCopyRefusal error (first_fault x) → IsSetRefusal g error.kind
copy_refusal g x v error e h = subst (λ (y : Given). IsSetRefusal y error.kind) (sym e) (λ other. ap (λ o. copy_due o false) (h other))

pub fails_refusal : (g : Given) (k : ErrorKind) → g ≡ Fails k → IsSetRefusal g k
fails_refusal g k e = subst (λ (y : Given). IsSetRefusal y k) (sym e) refl

-- ---- defaults that are put in the place of a null ----

pub data_put : (d : SchemaValue) (t : SchemaType) (y : Bor (List ℕ)) → IsDefaultOf d t → IsViewOf d (view.«Data» y) → data_tree y.now ≡ slot_default_tree d t
data_put (DataValue bytes) DataType y of h = ap data_tree h
data_put (DataValue bytes) t y of h = absurd of
data_put d t y of h = absurd h

-- ---- the bits of a slot ----

module _ (f : Field) (plan : SlotPlan) (is : IsSlotPlan f plan) (l : Levels) (x s s' : StructTree) (no_pointer : is_pointer (typed_of f).type ≡ false) where
  abbrev bits : ℕ
  bits = bits_at x.bytes (pointer_index f * width (typed_of f).type) (width (typed_of f).type)

  suits : Suits (typed_of f).type (Bits bits)
  suits = (no_pointer, bits_at_bounded x.bytes (pointer_index f * width (typed_of f).type) (width (typed_of f).type))

  content : copy_content f x ≡ Bits bits
  content = second_of (is_pointer (typed_of f).type) _ _ no_pointer

  pub bits_copied : IsRoomFor f s → s' ≡ plan_written plan (Bits (place_bits plan.place x.bytes)) s → IsCopied f (copy_given f l x) (copy_content f x) s s'
  bits_copied room e =
      let written : s' ≡ slot_with f (Bits bits) s = e ∙ (ap (λ n. plan_written plan (Bits n) s) (is.loads x.bytes no_pointer) ∙ is.writes (Bits bits) s suits) in
      record {
        taken = subst IsTaken (sym (second_of (is_pointer (typed_of f).type) _ _ no_pointer)) tt;
        written = written ∙ ap (λ c. slot_with f c s) (sym content);
        kept = subst (Keeps (names_of f) s) (sym written) (is.keeps (Bits bits) s room suits tt);
      }

-- ---- the copy of a pointer ----

kind_is : (k : FieldKind) (t : SchemaType) → is_group_field k ≡ false → KindDefault IsDefaultOf k t → IsDefaultOf (kind_default k) t
kind_is (Slot o d) t e h = h
kind_is (Group n) t e h = absurd (true≢false e)

same_type : (f : Field) (u : SchemaType) (n : ℕ) (x : Tree) (o : Option ErrorKind) → u ≡ (typed_of f).type → o ≡ read_due u x n → o ≡ read_due (typed_of f).type x n
same_type f u n x o e h = h ∙ ap (λ t. read_due t x n) e

module _ (f : Field) (n : ℕ) (x : Tree) (slot : IsSlot f) (pointer : IsPointerField f) (fits : DefaultFits (typed_of f)) (u : SchemaType) (same : u ≡ (typed_of f).type) where
  of : IsDefaultOf (default_of (typed_of f).field) (typed_of f).type
  of = kind_is (typed_of f).field.kind (typed_of f).type slot fits.kind

  pub check_given : (r : Result ⊤ Error) → refusal_of r ≡ read_due u x n → OnOk r (IsGivenCopy f n x)
  check_given (Ok a) h = (_, pointer_taken (field_set f) n (typed_of f).type (default_of (typed_of f).field) x pointer of fits.read (sym (same_type f u n x None same h)))
  check_given (Err e) h = tt

  pub check_cause : (r : Result ⊤ Error) → refusal_of r ≡ read_due u x n → IfErr r (λ e. IsSetRefusal (pointer_given f n x) e.kind)
  check_cause (Ok a) h = tt
  check_cause (Err e) h = fails_refusal (pointer_given f n x) e.kind (pointer_refused (field_set f) n (typed_of f).type (default_of (typed_of f).field) x pointer of fits.read e.kind (same_type f u n x (Some e.kind) same h))

module _ (f : Field) (n : ℕ) (x : Tree) (given : IsGivenCopy f n x) (s s' : StructTree) where
  pub null_copied : (r : Result ⊤ Error) → is_null_tree x ≡ true → OnOk r (s' ≡ slot_with f (At (default_in f)) s) → OnOk r (Keeps (names_of f) s s') → OnOk r (IsCopied f (pointer_given f n x) (pointer_content f x) s s')
  null_copied (Ok a) h written kept = record {
    taken = null_taken (pointer_given f n x) x given.0 given.1 h;
    written = written ∙ ap (λ (y : Tree). slot_with f (pointer_content f y) s) (sym (null_is x h));
    kept = kept;
  }
  null_copied (Err e) h written kept = tt

  pub there_copied : (r : Result ⊤ Error) → is_null_tree x ≡ false → OnOk r (s' ≡ slot_with f (At x) s) → OnOk r (Keeps (names_of f) s s') → OnOk r (first_fault x ≡ None) → OnOk r (IsCopied f (pointer_given f n x) (pointer_content f x) s s')
  there_copied (Ok a) h written kept sound = record {
    taken = is_taken (pointer_given f n x) x given.0 given.1 sound;
    written = written ∙ ap (λ (y : Tree). slot_with f (At y) s) (sym (second_of (is_null_tree x) _ _ h));
    kept = kept;
  }
  there_copied (Err e) h written kept sound = tt

  pub null_cause : (r : Result ⊤ Error) → IfErr r (λ e. e.kind ≡ OutOfMemory) → IfErr r (λ e. IsSetRefusal (pointer_given f n x) e.kind)
  null_cause (Ok a) h = tt
  null_cause (Err e) h = memory_refusal (pointer_given f n x) x given.0 e.kind given.1 h

  pub there_cause : (r : Result ⊤ Error) → IfErr r (λ e. IsCopyRefusal e (first_fault x)) → IfErr r (λ e. IsSetRefusal (pointer_given f n x) e.kind)
  there_cause (Ok a) h = tt
  there_cause (Err e) h = copy_refusal (pointer_given f n x) x given.0 e given.1 h

-- ---- the pointer of a struct ----

module _ (f : Field) (x : StructTree) (n i m : ℕ) (y : Tree) (pointer : IsPointerField f) (index : i ≡ pointer_index f) (read : y ≡ nth_tree x.pointers i) (levels : m ≡ n) where
  same_tree : y ≡ nth_tree x.pointers (pointer_index f)
  same_tree = read ∙ ap (nth_tree x.pointers) index

  same_given : pointer_given f m y ≡ copy_given f (Left n) x
  same_given = ap (λ k. pointer_given f k y) levels ∙ (ap (pointer_given f n) same_tree ∙ sym (chosen_first (is_pointer (typed_of f).type) _ _ pointer))

  same_content : pointer_content f y ≡ copy_content f x
  same_content = ap (pointer_content f) same_tree ∙ sym (chosen_first (is_pointer (typed_of f).type) _ _ pointer)

  pub behind_copied : (r : Result ⊤ Error) (s s' : StructTree) → OnOk r (IsCopied f (pointer_given f m y) (pointer_content f y) s s') → OnOk r (IsCopiedFrom f n x s s')
  behind_copied r s s' h = subst (λ c. OnOk r (IsCopied f (copy_given f (Left n) x) c s s')) same_content (subst (λ g. OnOk r (IsCopied f g (pointer_content f y) s s')) same_given h)

  pub behind_cause : (r : Result ⊤ Error) → IfErr r (λ e. IsSetRefusal (pointer_given f m y) e.kind) → IfErr r (λ e. IsSetRefusal (copy_given f (Left n) x) e.kind)
  behind_cause r h = subst (λ g. IfErr r (λ e. IsSetRefusal g e.kind)) same_given h
