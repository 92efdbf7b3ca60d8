-- What the wire fills from a field's default is what a builder's get leaves.
use Rattle.std.proofs.Common.{ℕ, ◌≡◌, ◌≢◌, refl, List, Bool, true, false, cond, Option, Some, None, option_map, Ok, Err, Result, IsOk, ap, sym, subst, ◌∙◌}
use Rattle.std.specs.Borrow.{Bor}
use Rattle.std.proofs.lemmas.Bool.{true≢false}
use Rattle.capnp_device.specs.declared.error.ErrorKind.{ErrorKind}
use Rattle.capnp_wire.specs.Tree as tree
use Rattle.capnp_wire.specs.Tree.{StructTree, Tree, Trees, nth_tree}
use Rattle.capnp_wire.specs.declared.size.ElementSize.TheVariants.{InlineComposite}
use Rattle.capnp_base.specs.Types.{variant_of, variant_element_size as size_of_variant}
use Rattle.capnp_base.specs.declared.introspect.RawBrandedStructSchema.{RawBrandedStructSchema}
use Rattle.capnp_base.specs.declared.introspect.«Type».{«Type» as TypeHandle}
use Rattle.capnp_base.specs.declared.introspect.TypeVariant.{TypeVariant}
use Rattle.capnp_base.specs.declared.introspect.TypeVariant.TheVariants as variant
use Rattle.capnp_base.specs.declared.text.Reader.{Reader as TextReader}
use Rattle.capnp_schema.specs.Facts.Layers.{seen_which}
use Rattle.capnp_schema.specs.Views.{IsViewOf}
use Rattle.capnp_schema.specs.declared.value.Value.{Value as View}
use Rattle.capnp_schema.specs.declared.value.Value.TheVariants as view
use Rattle.capnp_wire.specs.Reading.{as_list, is_null_tree, refusal}
use Rattle.capnp_wire.specs.Defaults as wire
use Rattle.capnp_wire.specs.Edits.{extended_struct, struct_in, struct_refusal, with_pointer_tree}
use Rattle.capnp_wire.specs.StructLists.{struct_list_refusal}
use Rattle.capnp_wire.specs.Words.{first_fault}
use Rattle.capnp_wire.specs.declared.pointer_reader.PointerReader.{PointerReader}
use Rattle.capnp_wire.specs.declared.size.ElementSize.{ElementSize}
use Rattle.capnp_wire.specs.declared.size.StructSize.{StructSize}
use Rattle.capnp_schema.specs.Accepted.{Decodes, IsDefaultOf, IsStructOrNull, KindDefault}
use Rattle.capnp_schema.specs.Defaults.{value_default_tree}
use Rattle.capnp_schema.specs.FieldLists.{typed_of}
use Rattle.capnp_schema.specs.Schema.{FieldKind, Group, Schemas, Slot, Value, TextValue, DataValue, StructValue, ListValue, AnyPointerValue, VoidValue, default_of, kind_default}
use Rattle.capnp_schema.specs.Types.{SchemaType, StructType, ListType, seen_type, seen_variant}
use Rattle.capnp_schema.specs.declared.schema.fields.Field.{Field}
use Rattle.capnp_records.specs.Facts.Frame.{second_of}
use Rattle.capnp_records.specs.Facts.Pointers.{with_tree_same}
use Rattle.capnp_records.specs.Writes.TreeCopy.{or_else}
use Rattle.capnp_records.specs.Step.{is_group_field}
use Rattle.capnp_records.specs.Writes.Fill.{IsAtRest, default_struct, entered_list, filled_slot_struct, list_or_default}
use Rattle.capnp_schema.specs.Plan.{brand_size}
use Rattle.capnp_slots.specs.Fields.{IsSlot}
use Rattle.capnp_slots.specs.Fills.{fill_due}
use Rattle.capnp_slots.specs.Steps.Fills.{IsDefaultPointer, FilledListRests, blob_filled, list_due}

-- ---- the pointer of a default ----

kind_is : (k : FieldKind) (t : SchemaType) → is_group_field k ≡ false → KindDefault IsDefaultOf k t → IsDefaultOf (kind_default k) t
kind_is (Slot o d) t e h = h
kind_is (Group n) t e h = absurd (true≢false e)

pub default_is : (f : Field) (r : Option PointerReader) → IsSlot f → IsDefaultPointer f r → IsDefaultOf (default_of (typed_of f).field) (typed_of f).type
default_is f r slot is = kind_is (typed_of f).field.kind (typed_of f).type slot is.fits.kind

-- a default of a pointer type
module _ (d : Value) (decodes : Decodes d) where
  -- ---- structs ----

  struct_default : (b g : ℕ) → IsDefaultOf d (StructType b g) → struct_in (value_default_tree d) ≡ default_struct d
  struct_default b g of = go d of decodes
    where
      go : (d : Value) → IsDefaultOf d (StructType b g) → Decodes d → struct_in (value_default_tree d) ≡ default_struct d
      go (StructValue words) of h = refl
      go (AnyPointerValue words) of h = ap struct_in h
      go d of h = absurd of

  pub struct_filled : (set : Schemas) (b g : ℕ) (x : Tree) → IsDefaultOf d (StructType b g) → wire.filled_struct (value_default_tree d) (brand_size set b) x ≡ filled_slot_struct set b d x
  struct_filled set b g x of = go (is_null_tree x)
    where
      go : (q : Bool) → extended_struct (brand_size set b) (struct_in (cond q (value_default_tree d) x)) ≡ extended_struct (brand_size set b) (elim q as (λ _. StructTree) [ true ↦ default_struct d | false ↦ struct_in x ])
      go true = ap (extended_struct (brand_size set b)) (struct_default b g of)
      go false = refl

  -- ---- lists ----

  pub list_filled : (e : SchemaType) (x : Tree) → IsDefaultOf d (ListType e) → wire.or_default (value_default_tree d) x ≡ list_or_default d x
  list_filled e x of = go d of decodes x
    where
      go : (d : Value) → IsDefaultOf d (ListType e) → Decodes d → (x : Tree) → wire.or_default (value_default_tree d) x ≡ list_or_default d x
      go (ListValue words) of h tree.Null = refl
      go (ListValue words) of h x = refl
      go (AnyPointerValue words) of h tree.Null = h
      go (AnyPointerValue words) of h x = refl
      go d of h x = absurd of

-- ---- refusals ----

module _ (D : Tree) (sound : first_fault D ≡ None) where
  no_fault : wire.fault_refusal D ≡ None
  no_fault = ap (option_map refusal) sound

  due_none : (o : Option ErrorKind) → wire.first_due o None ≡ o
  due_none None = refl
  due_none (Some k) = refl

  first : (o : Option ErrorKind) → wire.first_due o (wire.fault_refusal D) ≡ o
  first o = ap (wire.first_due o) no_fault ∙ due_none o

  is_struct : IsStructOrNull D → struct_refusal D ≡ None
  is_struct h = go D h
    where
      go : (x : Tree) → IsStructOrNull x → struct_refusal x ≡ None
      go tree.Null h = refl
      go (tree.Struct bytes ps) h = refl
      go x h = absurd h

  null_struct : (x : Tree) → is_null_tree x ≡ true → None ≡ struct_refusal x
  null_struct tree.Null e = refl
  null_struct x e = absurd (true≢false (sym e))

  pub struct_due : (x : Tree) → IsStructOrNull D → wire.filled_struct_refusal D x ≡ struct_refusal x
  struct_due x h = go (is_null_tree x) refl
    where
      go : (q : Bool) → is_null_tree x ≡ q → cond q (wire.struct_default_refusal D) (struct_refusal x) ≡ struct_refusal x
      go true e = first (struct_refusal D) ∙ (is_struct h ∙ null_struct x e)
      go false e = refl

  is_list : (size : ElementSize) → IsOk (as_list size D 1) → wire.list_refusal size D ≡ None
  is_list size h = go (as_list size D 1) h
    where
      go : (r : Result Tree ErrorKind) → IsOk r → wire.error_of r ≡ None
      go (Ok x) h = refl
      go (Err k) h = absurd (true≢false (sym h))

  null_list : (size : ElementSize) (x : Tree) → is_null_tree x ≡ true → None ≡ wire.list_refusal size x
  null_list size tree.Null e = refl
  null_list size x e = absurd (true≢false (sym e))

  pub list_is_due : (size : ElementSize) (x : Tree) → IsOk (as_list size D 1) → wire.filled_list_refusal D size x ≡ wire.list_refusal size x
  list_is_due size x h = go (is_null_tree x) refl
    where
      go : (q : Bool) → is_null_tree x ≡ q → cond q (wire.list_default_refusal size D) (wire.list_refusal size x) ≡ wire.list_refusal size x
      go true e = first (wire.list_refusal size D) ∙ (is_list size h ∙ null_list size x e)
      go false e = refl

  pub structs_due : (size : StructSize) (x : Tree) → wire.filled_structs_refusal D size x ≡ struct_list_refusal size (wire.or_default D x)
  structs_due size x = go (is_null_tree x)
    where
      go : (q : Bool) → cond q (wire.structs_default_refusal size D) (struct_list_refusal size x) ≡ struct_list_refusal size (cond q D x)
      go true = first (struct_list_refusal size D)
      go false = refl

-- ---- what stays ----

pub pointer_same : (s : StructTree) (i : ℕ) → s ≡ with_pointer_tree s i (nth_tree s.pointers i)
pointer_same s i = sym (ap (λ (ts : Trees). record { bytes = s.bytes; pointers = ts }) (with_tree_same s.pointers i))

pub not_null : (x y : Tree) → is_null_tree x ≡ false → x ≡ or_else x y
not_null x y e = sym (second_of (is_null_tree x) y x e)

pub same_there : (s s' : StructTree) (i : ℕ) (x : Tree) → s' ≡ s → nth_tree s.pointers i ≡ x → s' ≡ with_pointer_tree s i x
same_there s s' i x e h = e ∙ (pointer_same s i ∙ ap (with_pointer_tree s i) h)

pub no_blob : (d : Value) (v : View) (x : Tree) → IsViewOf d v → ((y : TextReader) → v ≡ view.Text y → ⊥) → ((y : Bor (List ℕ)) → v ≡ view.«Data» y → ⊥) → x ≡ blob_filled d x
no_blob (TextValue bytes) (view.Text y) x h no_text no_data = absurd (no_text y refl)
no_blob (TextValue bytes) v x h no_text no_data = absurd h
no_blob (DataValue bytes) (view.«Data» y) x h no_text no_data = absurd (no_data y refl)
no_blob (DataValue bytes) v x h no_text no_data = absurd h
no_blob d v x h no_text no_data = refl

-- ---- lists of elements that are no structs ----

-- such a list is entered as it is, and refused by the size of its elements
pub record IsPlain (set : Schemas) (e : SchemaType) (size : ElementSize) : Type 0 where
  pub enters : (x : Tree) → entered_list set e x ≡ x
  pub due : (D x : Tree) → list_due set e D x ≡ wire.filled_list_refusal D size x
  pub rests : (D x : Tree) → FilledListRests set e D x → (wire.takes_default D x ≡ false) × (wire.filled_list_refusal D size x ≡ None)
  pub fills : (x : Tree) → fill_due set VoidValue (ListType e) x ≡ wire.list_refusal size x
  pub still : (x : Tree) → IsAtRest set VoidValue (ListType e) x → wire.list_refusal size x ≡ None
  pub simple : size ≢ InlineComposite

module _ (set : Schemas) where
  by_variant : (v : TypeVariant) → ((x : RawBrandedStructSchema) → v ≡ variant.Struct x → ⊥) → IsPlain set (seen_variant v) (size_of_variant v)
  by_variant (variant.Struct x) other = absurd (other x refl)
  by_variant v other = record { enters = λ x. refl; due = λ D x. refl; rests = λ D x h. h; fills = λ x. refl; still = λ x h. h.1; simple = λ e. cc }

  pub is_plain : (t : TypeHandle) (v : TypeVariant) (size : ElementSize) → v ≡ variant_of t → size ≡ size_of_variant (variant_of t) → ((x : RawBrandedStructSchema) → v ≡ variant.Struct x → ⊥) →
      IsPlain set (seen_type t) size
  is_plain t v size e f other =
      subst (IsPlain set (seen_type t)) (sym (f ∙ ap size_of_variant (sym e)))
      (subst (λ u. IsPlain set u (size_of_variant v)) (ap seen_variant e ∙ seen_which t) (by_variant v other))
