-- What stands behind a pointer, or in its default, is the read of the pointer's value.
use Rattle.std.proofs.Common.{ℕ, ◌+◌, ◌-◌, ◌≡◌, refl, List, Bool, true, false, ◌==◌, Result, Ok, Err, Some, None, IfOk, arith, ap, ap₂, sym, ◌∙◌}
use Rattle.capnp_device.specs.declared.error.ErrorKind.{ErrorKind}
use Rattle.capnp_device.specs.declared.error.Error.{Error}
use Rattle.capnp_wire.specs.Standing.{list_levels, list_of, list_read, struct_levels, struct_of, struct_read}
use Rattle.capnp_wire.specs.declared.list_reader.ListReader.{ListReader}
use Rattle.capnp_wire.specs.declared.struct_reader.StructReader.{StructReader}
use Rattle.capnp_wire.specs.Tree as tree
use Rattle.capnp_wire.specs.Tree.{StructTree, Tree}
use Rattle.capnp_wire.specs.Reading.{as_data, as_list, as_struct, as_text, empty_list, is_null_tree}
use Rattle.capnp_wire.specs.declared.size.ElementSize.{ElementSize}
use Rattle.capnp_wire.specs.declared.size.ElementSize.TheVariants as size
use Rattle.capnp_schema.specs.Accepted.{words_root}
use Rattle.capnp_schema.specs.Schema.{Schemas, VoidValue, StructValue, ListValue, Value as SchemaValue}
use Rattle.capnp_schema.specs.Types.{AnyPointerType, DataType, ListType, SchemaType, StructType, TextType, element_size}
use Rattle.capnp_records.specs.Facts.Entered.{entered_ok, entered_some, never_ok, null_read, ok_if, refused_entered, there_read}
use Rattle.capnp_records.specs.Facts.ListValues.{below_of}
use Rattle.capnp_records.specs.Facts.Readers.{data_read, list_value, null_is, struct_is_read, text_read, untyped_read}
use Rattle.capnp_records.specs.Default.{default_value, empty_value, read_of, unless_null}
use Rattle.capnp_records.specs.Reading.{elements_value, entered_value, of_read, struct_record, value_of}
use Rattle.capnp_records.specs.Record.{Left, Levels, Value}
use Rattle.capnp_records.specs.Record as value
use Rattle.capnp_dynamic_readers.specs.Steps.Behind.{data_of, list_answered, default_list_words, struct_answered, struct_words, default_text_bytes}

some_same : {X : Type 0} {x y : X} → Some x ≡ Some y → x ≡ y
some_same e = cc

-- ---- texts, data and untyped pointers ----

text_default : (set : Schemas) (l : Levels) (d : SchemaValue) → value.Text (default_text_bytes d) ≡ default_value set l d TextType
text_default set l VoidValue = refl
text_default set l d = refl

data_default : (set : Schemas) (l : Levels) (d : SchemaValue) → value.Data (data_of d) ≡ default_value set l d DataType
data_default set l VoidValue = refl
data_default set l d = refl

untyped_default : (set : Schemas) (l : Levels) (d : SchemaValue) → value.Untyped tree.Null ≡ default_value set l d AnyPointerType
untyped_default set l VoidValue = refl
untyped_default set l d = refl

pub text_null : (set : Schemas) (d : SchemaValue) (x : Tree) (l : Levels) (bytes : List ℕ) → is_null_tree x ≡ true → bytes ≡ default_text_bytes d → value.Text bytes ≡ read_of set d TextType (value_of set x l TextType)
text_null set d x l bytes h e = ap value.Text e ∙ (text_default set l d ∙ sym (null_read set d TextType x l h))

pub text_there : (set : Schemas) (d : SchemaValue) (x : Tree) (l : Levels) (r : Result (List ℕ) ErrorKind) → is_null_tree x ≡ false → r ≡ as_text x → of_read value.Text r ≡ read_of set d TextType (value_of set x l TextType)
text_there set d x l r h e = ap (of_read value.Text) e ∙ (sym (text_read set x l h) ∙ sym (there_read set d TextType x l h))

pub data_null : (set : Schemas) (d : SchemaValue) (x : Tree) (l : Levels) (bytes : List ℕ) → is_null_tree x ≡ true → bytes ≡ data_of d → value.Data bytes ≡ read_of set d DataType (value_of set x l DataType)
data_null set d x l bytes h e = ap value.Data e ∙ (data_default set l d ∙ sym (null_read set d DataType x l h))

pub data_there : (set : Schemas) (d : SchemaValue) (x : Tree) (l : Levels) (r : Result (List ℕ) ErrorKind) → is_null_tree x ≡ false → r ≡ as_data x → of_read value.Data r ≡ read_of set d DataType (value_of set x l DataType)
data_there set d x l r h e = ap (of_read value.Data) e ∙ (sym (data_read set x l h) ∙ sym (there_read set d DataType x l h))

pub untyped_seen : (set : Schemas) (d : SchemaValue) (x : Tree) (l : Levels) → value.Untyped x ≡ read_of set d AnyPointerType (value_of set x l AnyPointerType)
untyped_seen set d x l = go (is_null_tree x) refl
  where
    go : (q : Bool) → is_null_tree x ≡ q → value.Untyped x ≡ read_of set d AnyPointerType (value_of set x l AnyPointerType)
    go true h = ap value.Untyped (null_is x h) ∙ (untyped_default set l d ∙ sym (null_read set d AnyPointerType x l h))
    go false h = sym (untyped_read set x l h) ∙ sym (there_read set d AnyPointerType x l h)

-- ---- structs ----

module _ (set : Schemas) (b g : ℕ) (d : SchemaValue) (x : Tree) (n : ℕ) where
  abbrev pub struct_seen : Value
  struct_seen = read_of set d (StructType b g) (value_of set x (Left n) (StructType b g))

  -- what is there, by its read
  struct_as : is_null_tree x ≡ false → struct_seen ≡ of_read (λ (s : StructTree). value.Struct (struct_record set (Left (n - 1)) s b)) (as_struct x n)
  struct_as h = there_read set d (StructType b g) x (Left n) h ∙ struct_is_read set x (Left n) b g h

  pub struct_there : (s : StructTree) (m : ℕ) → is_null_tree x ≡ false → Ok s ≡ as_struct x n → m + 1 ≡ n → value.Struct (struct_record set (Left m) s b) ≡ struct_seen
  struct_there s m h e levels =
      ap (λ k. value.Struct (struct_record set (Left k) s b)) (omega (arith, levels))
      ∙ (ap (of_read (λ (s : StructTree). value.Struct (struct_record set (Left (n - 1)) s b))) e ∙ sym (struct_as h))

  -- the default, once a level was there for the null
  abbrev struct_inner : SchemaValue → Value
  struct_inner (StructValue words) = unless_null set (Left n) (StructType b g) (words_root words)
  struct_inner d = empty_value set (Left n) (StructType b g)

  struct_default : (d : SchemaValue) → default_value set (Left n) d (StructType b g) ≡ entered_value (Left n) (struct_inner d)
  struct_default VoidValue = refl
  struct_default d = refl

  struct_is_bare : (d : SchemaValue) → None ≡ struct_words d → struct_inner d ≡ empty_value set (Left n) (StructType b g)
  struct_is_bare (StructValue x) e = cc
  struct_is_bare d e = refl

  struct_is_words : (d : SchemaValue) (words : List ℕ) → Some words ≡ struct_words d → struct_inner d ≡ unless_null set (Left n) (StructType b g) (words_root words)
  struct_is_words (StructValue x) words e = ap (λ w. unless_null set (Left n) (StructType b g) (words_root w)) (some_same (sym e))
  struct_is_words d words e = cc

  struct_is_null : is_null_tree x ≡ true → struct_seen ≡ entered_value (Left n) (struct_inner d)
  struct_is_null h = null_read set d (StructType b g) x (Left n) h ∙ struct_default d

  struct_empty : (s : StructTree) (m : ℕ) → is_null_tree x ≡ true → Ok s ≡ as_struct x n → m + 1 ≡ n → value.Struct (struct_record set (Left m) s b) ≡ empty_value set (Left n) (StructType b g)
  struct_empty s m h e levels =
      ap₂ (λ k (s : StructTree). value.Struct (struct_record set (Left k) s b)) (omega (arith, levels)) (entered_ok (n == 0) _ _ _ (e ∙ ap (λ y. as_struct y n) (null_is x h)))

  pub struct_bare : (s : StructTree) (m : ℕ) → is_null_tree x ≡ true → Ok s ≡ as_struct x n → m + 1 ≡ n → None ≡ struct_words d → value.Struct (struct_record set (Left m) s b) ≡ struct_seen
  struct_bare s m h e levels none =
      struct_empty s m h e levels ∙ (sym (struct_is_bare d none) ∙ (sym (entered_some n m _ levels) ∙ sym (struct_is_null h)))

  pub struct_null : (s : StructTree) (m : ℕ) (words : List ℕ) → is_null_tree x ≡ true → Ok s ≡ as_struct x n → m + 1 ≡ n → Some words ≡ struct_words d → is_null_tree (words_root words) ≡ true → value.Struct (struct_record set (Left m) s b) ≡ struct_seen
  struct_null s m words h e levels some null =
      struct_empty s m h e levels
      ∙ (sym (ap (λ q. elim q as (λ _. Value) [ true ↦ empty_value set (Left n) (StructType b g) | false ↦ value_of set (words_root words) (Left 64) (StructType b g) ]) null)
      ∙ (sym (struct_is_words d words some) ∙ (sym (entered_some n m _ levels) ∙ sym (struct_is_null h))))

  struct_of_words : (r : Result StructReader Error) (y : Tree) → is_null_tree y ≡ false → struct_read r ≡ as_struct y 64 → IfOk r (λ s. struct_levels s + 1 ≡ 64) → struct_answered set b r ≡ value_of set y (Left 64) (StructType b g)
  struct_of_words (Ok s) y h e levels =
      ap (λ k. value.Struct (struct_record set (Left k) (struct_of s) b)) (omega (arith, levels))
      ∙ (ap (of_read (λ (s : StructTree). value.Struct (struct_record set (Left 63) s b))) e ∙ sym (struct_is_read set y (Left 64) b g h))
  struct_of_words (Err f) y h e levels = ap (of_read (λ (s : StructTree). value.Struct (struct_record set (Left 63) s b))) e ∙ sym (struct_is_read set y (Left 64) b g h)

  pub struct_from_words : (r : Result StructReader Error) (m : ℕ) (words : List ℕ) → is_null_tree x ≡ true → m + 1 ≡ n → Some words ≡ struct_words d → is_null_tree (words_root words) ≡ false →
      struct_read r ≡ as_struct (words_root words) 64 → IfOk r (λ s. struct_levels s + 1 ≡ 64) → struct_answered set b r ≡ struct_seen
  struct_from_words r m words h levels some there e left =
      struct_of_words r (words_root words) there e left
      ∙ (sym (ap (λ q. elim q as (λ _. Value) [ true ↦ empty_value set (Left n) (StructType b g) | false ↦ value_of set (words_root words) (Left 64) (StructType b g) ]) there)
      ∙ (sym (struct_is_words d words some) ∙ (sym (entered_some n m _ levels) ∙ sym (struct_is_null h))))

  pub struct_refused : (k : ErrorKind) → Err k ≡ as_struct x n → value.Fault k ≡ struct_seen
  struct_refused k e = go (is_null_tree x) refl
    where
      go : (q : Bool) → is_null_tree x ≡ q → value.Fault k ≡ struct_seen
      go true h = refused_entered (n == 0) k _ _ (e ∙ ap (λ y. as_struct y n) (null_is x h)) ∙ sym (struct_is_null h)
      go false h = ap (of_read (λ (s : StructTree). value.Struct (struct_record set (Left (n - 1)) s b))) e ∙ sym (struct_as h)

-- ---- lists ----

list_same : (size : ElementSize) (x y : Tree) (n : ℕ) → is_null_tree x ≡ false → Ok y ≡ as_list size x n → y ≡ x
list_same size tree.Null y n h e = cc
list_same size (tree.Struct bytes ps) y n h e = absurd (never_ok (n == 0) _ _ _ e)
list_same size (tree.Voids m) y n h e = ok_if (n == 0) _ _ _ _ _ e
list_same size (tree.Bits bs) y n h e = ok_if (n == 0) _ _ _ _ _ e
list_same size (tree.Numbers w bytes) y n h e = ok_if (n == 0) _ _ _ _ _ e
list_same size (tree.Pointers ps) y n h e = ok_if (n == 0) _ _ _ _ _ e
list_same size (tree.Composite m p es) y n h e = ok_if (n == 0) _ _ _ _ _ e
list_same size (tree.FaultLeaf k) y n h e = cc

no_elements : (set : Schemas) (l : Levels) (e : SchemaType) (s : ElementSize) → elements_value set (empty_list s) (below_of set (empty_list s)) l e ≡ value.Elements value.NoValues
no_elements set l e size.Void = refl
no_elements set l e s = refl

module _ (set : Schemas) (t : SchemaType) (s : ElementSize) (sized : element_size t ≡ s) (d : SchemaValue) (x : Tree) (n : ℕ) where
  abbrev pub list_seen : Value
  list_seen = read_of set d (ListType t) (value_of set x (Left n) (ListType t))

  list_as : (y : Tree) (l : ℕ) → is_null_tree y ≡ false → value_of set y (Left l) (ListType t) ≡ of_read (λ (_ : Tree). elements_value set y (below_of set y) (Left (l - 1)) t) (as_list s y l)
  list_as y l h = list_value set y (Left l) t h ∙ ap (λ z. of_read (λ (_ : Tree). elements_value set y (below_of set y) (Left (l - 1)) t) (as_list z y l)) sized

  list_ok : (y z : Tree) (l m : ℕ) → is_null_tree y ≡ false → Ok z ≡ as_list s y l → m + 1 ≡ l → elements_value set z (below_of set z) (Left m) t ≡ value_of set y (Left l) (ListType t)
  list_ok y z l m h e levels =
      ap₂ (λ k v. elements_value set v (below_of set v) (Left k) t) (omega (arith, levels)) (list_same s y z l h e)
      ∙ (ap (of_read (λ (_ : Tree). elements_value set y (below_of set y) (Left (l - 1)) t)) e ∙ sym (list_as y l h))

  pub list_there : (y : Tree) (m : ℕ) → is_null_tree x ≡ false → Ok y ≡ as_list s x n → m + 1 ≡ n → elements_value set y (below_of set y) (Left m) t ≡ list_seen
  list_there y m h e levels = list_ok x y n m h e levels ∙ sym (there_read set d (ListType t) x (Left n) h)

  abbrev list_inner : SchemaValue → Value
  list_inner (ListValue words) = unless_null set (Left n) (ListType t) (words_root words)
  list_inner d = empty_value set (Left n) (ListType t)

  list_default : (d : SchemaValue) → default_value set (Left n) d (ListType t) ≡ entered_value (Left n) (list_inner d)
  list_default VoidValue = refl
  list_default d = refl

  list_is_bare : (d : SchemaValue) → None ≡ default_list_words d → list_inner d ≡ value.Elements value.NoValues
  list_is_bare (ListValue x) e = cc
  list_is_bare d e = refl

  list_words : (d : SchemaValue) (words : List ℕ) → Some words ≡ default_list_words d → list_inner d ≡ unless_null set (Left n) (ListType t) (words_root words)
  list_words (ListValue x) words e = ap (λ w. unless_null set (Left n) (ListType t) (words_root w)) (some_same (sym e))
  list_words d words e = cc

  list_is_null : is_null_tree x ≡ true → list_seen ≡ entered_value (Left n) (list_inner d)
  list_is_null h = null_read set d (ListType t) x (Left n) h ∙ list_default d

  list_empty : (y : Tree) (m : ℕ) → is_null_tree x ≡ true → Ok y ≡ as_list s x n → elements_value set y (below_of set y) (Left m) t ≡ value.Elements value.NoValues
  list_empty y m h e = ap (λ v. elements_value set v (below_of set v) (Left m) t) (entered_ok (n == 0) _ _ _ (e ∙ ap (λ y. as_list s y n) (null_is x h))) ∙ no_elements set (Left m) t s

  pub list_bare : (y : Tree) (m : ℕ) → is_null_tree x ≡ true → Ok y ≡ as_list s x n → m + 1 ≡ n → None ≡ default_list_words d → elements_value set y (below_of set y) (Left m) t ≡ list_seen
  list_bare y m h e levels none = list_empty y m h e ∙ (sym (list_is_bare d none) ∙ (sym (entered_some n m _ levels) ∙ sym (list_is_null h)))

  pub list_null : (y : Tree) (m : ℕ) (words : List ℕ) → is_null_tree x ≡ true → Ok y ≡ as_list s x n → m + 1 ≡ n → Some words ≡ default_list_words d → is_null_tree (words_root words) ≡ true → elements_value set y (below_of set y) (Left m) t ≡ list_seen
  list_null y m words h e levels some null =
      list_empty y m h e
      ∙ (sym (ap (λ q. elim q as (λ _. Value) [ true ↦ empty_value set (Left n) (ListType t) | false ↦ value_of set (words_root words) (Left 64) (ListType t) ]) null)
      ∙ (sym (list_words d words some) ∙ (sym (entered_some n m _ levels) ∙ sym (list_is_null h))))

  list_of_words : (r : Result ListReader Error) (y : Tree) → is_null_tree y ≡ false → list_read r ≡ as_list s y 64 → IfOk r (λ l. list_levels l + 1 ≡ 64) → list_answered set t r ≡ value_of set y (Left 64) (ListType t)
  list_of_words (Ok l) y h e levels = list_ok y (list_of l) 64 (list_levels l) h e levels
  list_of_words (Err f) y h e levels = ap (of_read (λ (_ : Tree). elements_value set y (below_of set y) (Left 63) t)) e ∙ sym (list_as y 64 h)

  pub list_from_words : (r : Result ListReader Error) (m : ℕ) (words : List ℕ) → is_null_tree x ≡ true → m + 1 ≡ n → Some words ≡ default_list_words d → is_null_tree (words_root words) ≡ false →
      list_read r ≡ as_list s (words_root words) 64 → IfOk r (λ l. list_levels l + 1 ≡ 64) → list_answered set t r ≡ list_seen
  list_from_words r m words h levels some there e left =
      list_of_words r (words_root words) there e left
      ∙ (sym (ap (λ q. elim q as (λ _. Value) [ true ↦ empty_value set (Left n) (ListType t) | false ↦ value_of set (words_root words) (Left 64) (ListType t) ]) there)
      ∙ (sym (list_words d words some) ∙ (sym (entered_some n m _ levels) ∙ sym (list_is_null h))))

  pub list_refused : (k : ErrorKind) → Err k ≡ as_list s x n → value.Fault k ≡ list_seen
  list_refused k e = go (is_null_tree x) refl
    where
      go : (q : Bool) → is_null_tree x ≡ q → value.Fault k ≡ list_seen
      go true h = refused_entered (n == 0) k _ _ (e ∙ ap (λ y. as_list s y n) (null_is x h)) ∙ sym (list_is_null h)
      go false h = ap (of_read (λ (_ : Tree). elements_value set x (below_of set x) (Left (n - 1)) t)) e ∙ (sym (list_as x n h) ∙ sym (there_read set d (ListType t) x (Left n) h))

-- ---- without a default ----

pub text_undefaulted : (set : Schemas) (x : Tree) (l : Levels) (r : Result (List ℕ) ErrorKind) → r ≡ as_text x → of_read value.Text r ≡ read_of set VoidValue TextType (value_of set x l TextType)
text_undefaulted set x l r e = go (is_null_tree x) refl
  where
    go : (q : Bool) → is_null_tree x ≡ q → of_read value.Text r ≡ read_of set VoidValue TextType (value_of set x l TextType)
    go true h = ap (of_read value.Text) e ∙ ap (λ y. of_read value.Text (as_text y)) (null_is x h) ∙ ap (λ y. read_of set VoidValue TextType (value_of set y l TextType)) (sym (null_is x h))
    go false h = text_there set VoidValue x l r h e

pub data_undefaulted : (set : Schemas) (x : Tree) (l : Levels) (r : Result (List ℕ) ErrorKind) → r ≡ as_data x → of_read value.Data r ≡ read_of set VoidValue DataType (value_of set x l DataType)
data_undefaulted set x l r e = go (is_null_tree x) refl
  where
    go : (q : Bool) → is_null_tree x ≡ q → of_read value.Data r ≡ read_of set VoidValue DataType (value_of set x l DataType)
    go true h = ap (of_read value.Data) e ∙ ap (λ y. of_read value.Data (as_data y)) (null_is x h) ∙ ap (λ y. read_of set VoidValue DataType (value_of set y l DataType)) (sym (null_is x h))
    go false h = data_there set VoidValue x l r h e

pub list_undefaulted : (set : Schemas) (t : SchemaType) (s : ElementSize) (sized : element_size t ≡ s) (x : Tree) (n : ℕ) (r : Result ListReader Error) →
    list_read r ≡ as_list s x n → IfOk r (λ l. list_levels l + 1 ≡ n) → list_answered set t r ≡ read_of set VoidValue (ListType t) (value_of set x (Left n) (ListType t))
list_undefaulted set t s sized x n (Ok l) e levels = go (is_null_tree x) refl
  where
    go : (q : Bool) → is_null_tree x ≡ q → list_answered set t (Ok l) ≡ read_of set VoidValue (ListType t) (value_of set x (Left n) (ListType t))
    go true h = list_bare set t s sized VoidValue x n (list_of l) (list_levels l) h e levels refl
    go false h = list_there set t s sized VoidValue x n (list_of l) (list_levels l) h e levels
list_undefaulted set t s sized x n (Err f) e levels = list_refused set t s sized VoidValue x n f.kind e

pub struct_undefaulted : (set : Schemas) (b g : ℕ) (x : Tree) (n : ℕ) (r : Result StructReader Error) →
    struct_read r ≡ as_struct x n → IfOk r (λ s. struct_levels s + 1 ≡ n) → struct_answered set b r ≡ read_of set VoidValue (StructType b g) (value_of set x (Left n) (StructType b g))
struct_undefaulted set b g x n (Ok s) e levels = go (is_null_tree x) refl
  where
    go : (q : Bool) → is_null_tree x ≡ q → struct_answered set b (Ok s) ≡ read_of set VoidValue (StructType b g) (value_of set x (Left n) (StructType b g))
    go true h = struct_bare set b g VoidValue x n (struct_of s) (struct_levels s) h e levels refl
    go false h = struct_there set b g VoidValue x n (struct_of s) (struct_levels s) h e levels
struct_undefaulted set b g x n (Err f) e levels = struct_refused set b g VoidValue x n f.kind e
