-- What stands behind a pointer, as a text, data, struct or list, is the read of the pointer's value, where the slot's default is
-- empty or leads nowhere.
use Rattle.std.proofs.Common.{ℕ, ◌+◌, ◌-◌, ◌<◌, ◌≡◌, ◌∙◌, arith, ap, ap₂, refl, sym, List, [], Bool, true, false, ◌==◌, Result, Ok, Err, IfOk}
use Rattle.capnp_device.specs.declared.error.Error.{Error}
use Rattle.capnp_device.specs.declared.error.ErrorKind.{ErrorKind}
use Rattle.capnp_wire.specs.Place.{tree_at}
use Rattle.capnp_wire.specs.Reading.{as_data, as_list, as_struct, as_text, empty_list, is_null_tree}
use Rattle.capnp_wire.specs.Standing.{levels_of, list_levels, list_of, list_read, struct_levels, struct_of, struct_read, tree_of}
use Rattle.capnp_wire.specs.Tree as tree
use Rattle.capnp_wire.specs.Tree.{StructTree, Tree}
use Rattle.capnp_wire.specs.declared.list_reader.ListReader.{ListReader}
use Rattle.capnp_wire.specs.declared.pointer_reader.PointerReader.{PointerReader}
use Rattle.capnp_wire.specs.declared.size.ElementSize.{ElementSize}
use Rattle.capnp_wire.specs.declared.size.ElementSize.TheVariants as size
use Rattle.capnp_wire.specs.declared.struct_reader.StructReader.{StructReader}
use Rattle.capnp_schema.specs.Builtin.{zero_word}
use Rattle.capnp_schema.specs.Schema.{DataValue, ListValue, Schemas, StructValue, TextValue, VoidValue, Value as SchemaValue}
use Rattle.capnp_schema.specs.Types.{DataType, ListType, SchemaType, TextType, element_size}
use Rattle.capnp_records.specs.Default.{default_record, default_value, read_of}
use Rattle.capnp_records.specs.Facts.Entered.{entered_ok, entered_some, never_ok, null_read, ok_if, refused_entered, there_read}
use Rattle.capnp_records.specs.Facts.ListValues.{below_of}
use Rattle.capnp_records.specs.Facts.Readers.{data_read, list_value as list_read_as, null_is, struct_is_read, text_read}
use Rattle.capnp_records.specs.Reading.{elements_value, entered_value, of_read, struct_record, value_of}
use Rattle.capnp_records.specs.Record as value
use Rattle.capnp_records.specs.Record.{Left, Levels, NoValues, Value, one_less}
use Rattle.capnp_dynamic_readers.specs.Reads.{pointer_read}
use Rattle.capnp_known.specs.Known.{list_value, struct_type, struct_value}

-- ---- texts and data ----

pub text_met : (set : Schemas) (x : Tree) (l : Levels) (r : Result (List ℕ) ErrorKind) → r ≡ as_text x → of_read value.Text r ≡ read_of set (TextValue []) TextType (value_of set x l TextType)
text_met set x l r e = go (is_null_tree x) refl
  where
    go : (q : Bool) → is_null_tree x ≡ q → of_read value.Text r ≡ read_of set (TextValue []) TextType (value_of set x l TextType)
    go true h = ap (of_read value.Text) e ∙ (ap (λ y. of_read value.Text (as_text y)) (null_is x h) ∙ ap (λ y. read_of set (TextValue []) TextType (value_of set y l TextType)) (sym (null_is x h)))
    go false h = ap (of_read value.Text) e ∙ (sym (text_read set x l h) ∙ sym (there_read set (TextValue []) TextType x l h))

pub data_met : (set : Schemas) (x : Tree) (l : Levels) (r : Result (List ℕ) ErrorKind) → r ≡ as_data x → of_read value.Data r ≡ read_of set (DataValue []) DataType (value_of set x l DataType)
data_met set x l r e = go (is_null_tree x) refl
  where
    go : (q : Bool) → is_null_tree x ≡ q → of_read value.Data r ≡ read_of set (DataValue []) DataType (value_of set x l DataType)
    go true h = ap (of_read value.Data) e ∙ (ap (λ y. of_read value.Data (as_data y)) (null_is x h) ∙ ap (λ y. read_of set (DataValue []) DataType (value_of set y l DataType)) (sym (null_is x h)))
    go false h = ap (of_read value.Data) e ∙ (sym (data_read set x l h) ∙ sym (there_read set (DataValue []) DataType x l h))

-- ---- structs ----

null_struct : (set : Schemas) (b : ℕ) (l : Levels) → default_value set l (StructValue zero_word) (struct_type b) ≡ entered_value l (value.Struct (default_record set (one_less l) b))
unfolding tree_at
null_struct set b l = refl

module _ (set : Schemas) (b : ℕ) (x : Tree) (n : ℕ) where
  abbrev struct_seen : Value
  struct_seen = read_of set (StructValue zero_word) (struct_type b) (value_of set x (Left n) (struct_type b))

  struct_null : is_null_tree x ≡ true → struct_seen ≡ entered_value (Left n) (value.Struct (default_record set (Left (n - 1)) b))
  struct_null h = null_read set (StructValue zero_word) (struct_type b) x (Left n) h ∙ null_struct set b (Left n)

  struct_as : is_null_tree x ≡ false → struct_seen ≡ of_read (λ (s : StructTree). value.Struct (struct_record set (Left (n - 1)) s b)) (as_struct x n)
  struct_as h = there_read set (StructValue zero_word) (struct_type b) x (Left n) h ∙ struct_is_read set x (Left n) b b h

  struct_fault : (k : ErrorKind) → Err k ≡ as_struct x n → (q : Bool) → is_null_tree x ≡ q → value.Fault k ≡ struct_seen
  struct_fault k e true h = refused_entered (n == 0) k _ _ (e ∙ ap (λ y. as_struct y n) (null_is x h)) ∙ sym (struct_null h)
  struct_fault k e false h = ap (of_read (λ (s : StructTree). value.Struct (struct_record set (Left (n - 1)) s b))) e ∙ sym (struct_as h)

  struct_there : (s : StructTree) (m : ℕ) → Ok s ≡ as_struct x n → m + 1 ≡ n → (q : Bool) → is_null_tree x ≡ q → value.Struct (struct_record set (Left m) s b) ≡ struct_seen
  struct_there s m e levels true h =
      ap₂ (λ k (y : StructTree). value.Struct (struct_record set (Left k) y b)) (omega (arith, levels)) (entered_ok (n == 0) _ _ _ (e ∙ ap (λ y. as_struct y n) (null_is x h)))
      ∙ (sym (entered_some n m _ levels) ∙ sym (struct_null h))
  struct_there s m e levels false h =
      ap (λ k. value.Struct (struct_record set (Left k) s b)) (omega (arith, levels))
      ∙ (ap (of_read (λ (y : StructTree). value.Struct (struct_record set (Left (n - 1)) y b))) e ∙ sym (struct_as h))

  pub struct_met : (r : Result StructReader Error) → struct_read r ≡ as_struct x n → IfOk r (λ s. struct_levels s + 1 ≡ n) → struct_value set b r ≡ struct_seen
  struct_met (Ok s) e levels = struct_there (struct_of s) (struct_levels s) e levels (is_null_tree x) refl
  struct_met (Err f) e levels = struct_fault f.kind e (is_null_tree x) refl

-- ---- lists ----

-- a default of a list that leads nowhere
abbrev pub IsNoList : Schemas → SchemaValue → SchemaType → Type 0
IsNoList set d t = (l : Levels) → default_value set l d (ListType t) ≡ entered_value l (value.Elements NoValues)

pub null_list : (set : Schemas) (t : SchemaType) → IsNoList set (ListValue zero_word) t
unfolding tree_at
null_list set t l = refl

pub no_default : (set : Schemas) (t : SchemaType) → IsNoList set VoidValue t
no_default set t l = refl

list_same : (s : ElementSize) (x y : Tree) (n : ℕ) → is_null_tree x ≡ false → Ok y ≡ as_list s x n → y ≡ x
list_same s tree.Null y n h e = cc
list_same s (tree.Struct bytes ps) y n h e = absurd (never_ok (n == 0) _ _ _ e)
list_same s (tree.Voids m) y n h e = ok_if (n == 0) _ _ _ _ _ e
list_same s (tree.Bits bs) y n h e = ok_if (n == 0) _ _ _ _ _ e
list_same s (tree.Numbers w bytes) y n h e = ok_if (n == 0) _ _ _ _ _ e
list_same s (tree.Pointers ps) y n h e = ok_if (n == 0) _ _ _ _ _ e
list_same s (tree.Composite m p es) y n h e = ok_if (n == 0) _ _ _ _ _ e
list_same s (tree.FaultLeaf k) y n h e = cc

no_elements : (set : Schemas) (l : Levels) (e : SchemaType) (s : ElementSize) → elements_value set (empty_list s) (below_of set (empty_list s)) l e ≡ value.Elements NoValues
no_elements set l e size.Void = refl
no_elements set l e s = refl

module _ (set : Schemas) (t : SchemaType) (s : ElementSize) (sized : element_size t ≡ s) (d : SchemaValue) (none : IsNoList set d t) (x : Tree) (n : ℕ) where
  abbrev list_seen : Value
  list_seen = read_of set d (ListType t) (value_of set x (Left n) (ListType t))

  list_null : is_null_tree x ≡ true → list_seen ≡ entered_value (Left n) (value.Elements NoValues)
  list_null h = null_read set d (ListType t) x (Left n) h ∙ none (Left n)

  list_as : is_null_tree x ≡ false → list_seen ≡ of_read (λ (_ : Tree). elements_value set x (below_of set x) (Left (n - 1)) t) (as_list s x n)
  list_as h =
      there_read set d (ListType t) x (Left n) h
      ∙ (list_read_as set x (Left n) t h ∙ ap (λ z. of_read (λ (_ : Tree). elements_value set x (below_of set x) (Left (n - 1)) t) (as_list z x n)) sized)

  list_fault : (k : ErrorKind) → Err k ≡ as_list s x n → (q : Bool) → is_null_tree x ≡ q → value.Fault k ≡ list_seen
  list_fault k e true h = refused_entered (n == 0) k _ _ (e ∙ ap (λ y. as_list s y n) (null_is x h)) ∙ sym (list_null h)
  list_fault k e false h = ap (of_read (λ (_ : Tree). elements_value set x (below_of set x) (Left (n - 1)) t)) e ∙ sym (list_as h)

  list_there : (y : Tree) (m : ℕ) → Ok y ≡ as_list s x n → m + 1 ≡ n → (q : Bool) → is_null_tree x ≡ q → elements_value set y (below_of set y) (Left m) t ≡ list_seen
  list_there y m e levels true h =
      ap (λ v. elements_value set v (below_of set v) (Left m) t) (entered_ok (n == 0) _ _ _ (e ∙ ap (λ z. as_list s z n) (null_is x h)))
      ∙ (no_elements set (Left m) t s ∙ (sym (entered_some n m _ levels) ∙ sym (list_null h)))
  list_there y m e levels false h =
      ap₂ (λ k v. elements_value set v (below_of set v) (Left k) t) (omega (arith, levels)) (list_same s x y n h e)
      ∙ (ap (of_read (λ (_ : Tree). elements_value set x (below_of set x) (Left (n - 1)) t)) e ∙ sym (list_as h))

  pub list_met : (r : Result ListReader Error) → list_read r ≡ as_list s x n → IfOk r (λ l. list_levels l + 1 ≡ n) → list_value set t r ≡ list_seen
  list_met (Ok l) e levels = list_there (list_of l) (list_levels l) e levels (is_null_tree x) refl
  list_met (Err f) e levels = list_fault f.kind e (is_null_tree x) refl

  pub list_unmet : (k : ErrorKind) → Err k ≡ as_list s x n → value.Fault k ≡ list_seen
  list_unmet k e = list_fault k e (is_null_tree x) refl

-- the list behind a null pointer is empty, where a level is left for it
pub null_list_read : (set : Schemas) (d : SchemaValue) (t : SchemaType) → IsNoList set d t → (p : PointerReader) → tree_of p ≡ tree.Null → 0 < levels_of p → pointer_read set d (ListType t) p ≡ value.Elements NoValues
null_list_read set d t none p null left =
    ap (λ x. read_of set d (ListType t) (value_of set x (Left (levels_of p)) (ListType t))) null
    ∙ (none (Left (levels_of p)) ∙ entered_some (levels_of p) (levels_of p - 1) _ (omega (arith, left)))
