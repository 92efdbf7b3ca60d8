-- What is put whole, and what of pointers is compared whole.
use Rattle.std.specs.Prelude.{⊤}
use Rattle.std.proofs.Common.{ℕ, ◌≡◌, refl, List, [], ◌∷◌, Bool, true, false, not, Option, Some, None, Result, Ok, Err, OnOk, ◌⊎◌, inl, inr, ap, sym, ◌∙◌, subst, option_map}
use Rattle.std.specs.Borrow.{Bor}
use Rattle.capnp_wire.specs.Reading.{is_null_tree, refusal}
use Rattle.capnp_wire.specs.Standing.{list_of, struct_of}
use Rattle.capnp_wire.specs.Tree.{Tree}
use Rattle.capnp_wire.specs.Words.{first_fault, first_fault_of_all}
use Rattle.capnp_wire.specs.declared.list_reader.ListReader.{ListReader}
use Rattle.capnp_wire.specs.declared.struct_reader.StructReader.{StructReader}
use Rattle.capnp_base.specs.declared.introspect.«Type».{«Type» as TypeHandle}
use Rattle.capnp_schema.specs.Schema.{Schemas}
use Rattle.capnp_schema.specs.StructHandles.{number_of, set_of}
use Rattle.capnp_schema.specs.Types.{AnyPointerType, DataType, ListType, TextType, seen_type}
use Rattle.capnp_schema.specs.declared.schema.structs.StructSchema.{StructSchema}
use Rattle.capnp_records.specs.Facts.Extension.{reads_rounded}
use Rattle.capnp_records.specs.Facts.Readers as readers
use Rattle.capnp_records.specs.Reading.{reads, value_of}
use Rattle.capnp_records.specs.Record as value
use Rattle.capnp_records.specs.Record.{Endless, Value}
use Rattle.capnp_dynamic_readers.specs.Handles.{list_reader_of, list_set, reader_of, schema_of, type_of}
use Rattle.capnp_dynamic_readers.specs.Typed.{struct_type}
use Rattle.capnp_dynamic_readers.specs.declared.dynamic_list.Reader.{Reader as ListHandle}
use Rattle.capnp_dynamic_readers.specs.declared.dynamic_struct.Reader.{Reader as StructHandle}
use Rattle.capnp_dynamic_readers.specs.declared.dynamic_value.Reader.TheVariants as dynamic
use Rattle.capnp_diffs.specs.Changes.{Clears, IsLeafTold, OnlyIf, same_leaf, whole_change}
use Rattle.capnp_diffs.specs.Found.{IsReady, goal_seen}
use Rattle.capnp_diffs.specs.Steps.Adding.{Adds, IsFoundAt, one_change}
use Rattle.capnp_diffs.specs.Steps.Leaves.{data_value, list_value, text_value}
use Rattle.capnp_call.specs.Seen.{step_seen}
use Rattle.capnp_call.specs.declared.calls.Op.TheVariants as op
use Rattle.capnp_call.specs.declared.calls.Step.{Step}
use Rattle.capnp_diffs.specs.declared.change.Change.{Change as FoundChange}
use Rattle.capnp_diffs.proofs.Added.{adds_none, other_added, same_added}
use Rattle.capnp_diffs.proofs.Behind.{null_is, null_missing}
use Rattle.capnp_diffs.proofs.Equal.{same_tree_refl}

pub ok_map : {T E P Q : Type 0} (r : Result T E) → (P → Q) → OnOk r P → OnOk r Q
ok_map (Ok x) f h = f h
ok_map (Err e) f h = tt {0}

-- ---- texts and data ----

either_way : (q : Bool) → OnlyIf q ⊤
either_way true = tt
either_way false = tt

text_told : (o p : Option (Bor (List ℕ))) → IsLeafTold TextType (text_value o) (text_value p)
text_told None None = (tt, tt, tt)
text_told None (Some y) = (tt, tt, tt)
text_told (Some x) None = (tt, refl, tt)
text_told (Some x) (Some y) = (tt, either_way (not (same_leaf (text_value (Some x)) (text_value (Some y)))), tt)

data_told : (o p : Option (Bor (List ℕ))) → IsLeafTold DataType (data_value o) (data_value p)
data_told None None = (tt, tt, tt)
data_told None (Some y) = (tt, tt, tt)
data_told (Some x) None = (tt, refl, tt)
data_told (Some x) (Some y) = (tt, either_way (not (same_leaf (data_value (Some x)) (data_value (Some y)))), tt)

pub data_same : (o p : Option (Bor (List ℕ))) → same_leaf (data_value o) (data_value p) ≡ same_leaf (text_value o) (text_value p)
data_same None None = refl
data_same None (Some y) = refl
data_same (Some x) None = refl
data_same (Some x) (Some y) = refl

module _ (set : Schemas) (step : Step) (path : List Step) (old new : List FoundChange) (v w : Value) (o p : Option (Bor (List ℕ))) where
  pub text_other : v ≡ text_value o → w ≡ text_value p → same_leaf (text_value o) (text_value p) ≡ false → Adds set path old new (whole_change (step_seen step) TextType (text_value p) ∷ []) → IsFoundAt set step TextType v w path old new
  text_other e f differ adds =
      subst (λ x. IsFoundAt set step TextType x w path old new) (sym e) (subst (λ y. IsFoundAt set step TextType (text_value o) y path old new) (sym f)
      (record { adds = other_added set path old new (text_value o) (text_value p) (whole_change (step_seen step) TextType (text_value p)) differ adds; told = text_told o p }))

  pub text_unchanged : v ≡ text_value o → w ≡ text_value p → same_leaf (text_value o) (text_value p) ≡ true → IsFoundAt set step TextType v w path old old
  text_unchanged e f same =
      subst (λ x. IsFoundAt set step TextType x w path old old) (sym e) (subst (λ y. IsFoundAt set step TextType (text_value o) y path old old) (sym f)
      (record { adds = same_added set path old (text_value o) (text_value p) (whole_change (step_seen step) TextType (text_value p)) same; told = text_told o p }))

  pub data_other : v ≡ data_value o → w ≡ data_value p → same_leaf (text_value o) (text_value p) ≡ false → Adds set path old new (whole_change (step_seen step) DataType (data_value p) ∷ []) → IsFoundAt set step DataType v w path old new
  data_other e f differ adds =
      subst (λ x. IsFoundAt set step DataType x w path old new) (sym e) (subst (λ y. IsFoundAt set step DataType (data_value o) y path old new) (sym f)
      (record { adds = other_added set path old new (data_value o) (data_value p) (whole_change (step_seen step) DataType (data_value p)) (data_same o p ∙ differ) adds; told = data_told o p }))

  pub data_unchanged : v ≡ data_value o → w ≡ data_value p → same_leaf (text_value o) (text_value p) ≡ true → IsFoundAt set step DataType v w path old old
  data_unchanged e f same =
      subst (λ x. IsFoundAt set step DataType x w path old old) (sym e) (subst (λ y. IsFoundAt set step DataType (data_value o) y path old old) (sym f)
      (record { adds = same_added set path old (data_value o) (data_value p) (whole_change (step_seen step) DataType (data_value p)) (data_same o p ∙ same); told = data_told o p }))

-- ---- untyped pointers ----

null_or : (x : Tree) → (is_null_tree x ≡ true) ⊎ (is_null_tree x ≡ false)
null_or x = go (is_null_tree x) refl
  where
    go : (q : Bool) → is_null_tree x ≡ q → (is_null_tree x ≡ true) ⊎ (is_null_tree x ≡ false)
    go true e = inl e
    go false e = inr e

pub untyped_cleared : (set : Schemas) (step : Step) (path : List Step) (old new : List FoundChange) (x y : Tree) → (x ≡ y → ⊥) → is_null_tree y ≡ true → Adds set path old new (one_change step Clears) →
    IsFoundAt set step AnyPointerType (value_of set x Endless AnyPointerType) (value_of set y Endless AnyPointerType) path old new
untyped_cleared set step path old new x y differ null adds = by_null (null_or x)
  where
    by_null : (is_null_tree x ≡ true) ⊎ (is_null_tree x ≡ false) → IsFoundAt set step AnyPointerType (value_of set x Endless AnyPointerType) (value_of set y Endless AnyPointerType) path old new
    by_null (inl missing) = absurd (differ (null_is x missing ∙ sym (null_is y null)))
    by_null (inr there) =
        subst (λ v. IsFoundAt set step AnyPointerType v (value_of set y Endless AnyPointerType) path old new) (sym (readers.untyped_read set x Endless there))
        (subst (λ w. IsFoundAt set step AnyPointerType (value.Untyped x) w path old new) (sym (null_missing set y AnyPointerType null)) (record { adds = adds; told = (tt, refl, tt) }))

pub untyped_unchanged : (set : Schemas) (step : Step) (path : List Step) (old : List FoundChange) (x y : Tree) → x ≡ y →
    IsFoundAt set step AnyPointerType (value_of set x Endless AnyPointerType) (value_of set y Endless AnyPointerType) path old old
untyped_unchanged set step path old x y same =
    subst (λ z. IsFoundAt set step AnyPointerType (value_of set x Endless AnyPointerType) (value_of set z Endless AnyPointerType) path old old) same (by_null (null_or x))
  where
    by_null : (is_null_tree x ≡ true) ⊎ (is_null_tree x ≡ false) → IsFoundAt set step AnyPointerType (value_of set x Endless AnyPointerType) (value_of set x Endless AnyPointerType) path old old
    by_null (inl missing) = subst (λ v. IsFoundAt set step AnyPointerType v v path old old) (sym (null_missing set x AnyPointerType missing)) (record { adds = adds_none set path old; told = (tt, tt, tt) })
    by_null (inr there) =
        subst (λ v. IsFoundAt set step AnyPointerType v v path old old) (sym (readers.untyped_read set x Endless there))
        (record {
          adds = same_added set path old (value.Untyped x) (value.Untyped x) (whole_change (step_seen step) AnyPointerType (value.Untyped x)) (same_tree_refl x);
          told = (tt, subst (λ q. OnlyIf (not q) ⊥) (sym (same_tree_refl x)) tt, tt);
        })

-- ---- structs and lists ----

pub struct_put : (schema : StructSchema) (r : StructReader) (h : StructHandle) (step : Step) (path : List Step) (old new : List FoundChange) → schema_of h ≡ schema → reader_of h ≡ r → first_fault_of_all (struct_of r).pointers ≡ None →
    ((set : Schemas) → IsReady set (op.Set (dynamic.Struct h)) → Adds set path old new (one_change step (goal_seen (op.Set (dynamic.Struct h))))) →
    Adds (set_of schema) path old new (whole_change (step_seen step) (struct_type schema) (value.Struct (reads (set_of schema) (struct_of r) (number_of schema))) ∷ [])
struct_put schema r h step path old new is_schema is_reader sound added =
    subst (λ (s : StructSchema). Adds (set_of s) path old new (whole_change (step_seen step) (struct_type s) (value.Struct (reads (set_of s) (struct_of r) (number_of s))) ∷ [])) is_schema
    (subst (λ (z : StructReader). Adds (set_of (schema_of h)) path old new (whole_change (step_seen step) (struct_type (schema_of h)) (value.Struct (reads (set_of (schema_of h)) (struct_of z) (number_of (schema_of h)))) ∷ [])) is_reader
    (added (set_of (schema_of h)) (
      ap value.Struct (reads_rounded (set_of (schema_of h)) (struct_of (reader_of h)) (number_of (schema_of h))),
      ap (option_map refusal) (subst (λ (z : StructReader). first_fault_of_all (struct_of z).pointers ≡ None) (sym is_reader) sound),
    )))

pub list_put : (set : Schemas) (element : TypeHandle) (l : ListReader) (h : ListHandle) (x : Tree) (step : Step) (path : List Step) (old new : List FoundChange) → list_set h ≡ set → type_of h ≡ element → list_reader_of h ≡ l → list_of l ≡ x →
    value_of set x Endless (ListType (seen_type element)) ≡ list_value set (seen_type element) (Some l) → first_fault x ≡ None →
    ((s : Schemas) → IsReady s (op.Set (dynamic.List h)) → Adds s path old new (one_change step (goal_seen (op.Set (dynamic.List h))))) →
    Adds set path old new (whole_change (step_seen step) (ListType (seen_type element)) (list_value set (seen_type element) (Some l)) ∷ [])
list_put set element l h x step path old new is_set is_element is_reader same is_value sound added =
    at_set set is_set element is_element l is_reader same is_value
  where
    at_reader : (l : ListReader) → list_reader_of h ≡ l → list_of l ≡ x → value_of (list_set h) x Endless (ListType (seen_type (type_of h))) ≡ list_value (list_set h) (seen_type (type_of h)) (Some l) →
        Adds (list_set h) path old new (whole_change (step_seen step) (ListType (seen_type (type_of h))) (list_value (list_set h) (seen_type (type_of h)) (Some l)) ∷ [])
    at_reader l is same is_value =
        subst (λ (z : ListReader). Adds (list_set h) path old new (whole_change (step_seen step) (ListType (seen_type (type_of h))) (list_value (list_set h) (seen_type (type_of h)) (Some z)) ∷ [])) is
        (added (list_set h) (
          ap (λ t. value_of (list_set h) t Endless (ListType (seen_type (type_of h)))) (ap list_of is ∙ same) ∙ (is_value ∙ ap (λ (z : ListReader). list_value (list_set h) (seen_type (type_of h)) (Some z)) (sym is)),
          ap (option_map refusal) (ap first_fault (ap list_of is ∙ same) ∙ sound),
        ))

    at_set : (set : Schemas) → list_set h ≡ set → (element : TypeHandle) → type_of h ≡ element → (l : ListReader) → list_reader_of h ≡ l → list_of l ≡ x → value_of set x Endless (ListType (seen_type element)) ≡ list_value set (seen_type element) (Some l) →
        Adds set path old new (whole_change (step_seen step) (ListType (seen_type element)) (list_value set (seen_type element) (Some l)) ∷ [])
    at_set set is_set element is_element l is same is_value =
        subst (λ s. Adds s path old new (whole_change (step_seen step) (ListType (seen_type element)) (list_value s (seen_type element) (Some l)) ∷ [])) is_set
        (subst (λ e. Adds (list_set h) path old new (whole_change (step_seen step) (ListType (seen_type e)) (list_value (list_set h) (seen_type e) (Some l)) ∷ [])) is_element
        (at_reader l is same
        (subst (λ e. value_of (list_set h) x Endless (ListType (seen_type e)) ≡ list_value (list_set h) (seen_type e) (Some l)) (sym is_element)
        (subst (λ s. value_of s x Endless (ListType (seen_type element)) ≡ list_value s (seen_type element) (Some l)) (sym is_set) is_value))))

pub ok_both : {T E P Q R : Type 0} (r : Result T E) → (P → Q → R) → OnOk r P → OnOk r Q → OnOk r R
ok_both (Ok x) f h k = f h k
ok_both (Err e) f h k = tt {0}
