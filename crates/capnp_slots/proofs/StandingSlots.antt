-- What stands at a slot's pointer, and is not null, takes nothing of the slot's default.
use Rattle.std.proofs.Common.{ℕ, ◌≡◌, refl, Bool, true, false, cond, not, ◌&&◌, None, ap, sym, subst, ◌∙◌}
use Rattle.std.proofs.lemmas.Bool.{true≢false}
use Rattle.capnp_wire.specs.Tree as tree
use Rattle.capnp_wire.specs.Tree.{StructTree, Tree, nth_tree}
use Rattle.capnp_wire.specs.Defaults as wire
use Rattle.capnp_wire.specs.Defaults.{error_of}
use Rattle.capnp_wire.specs.Edits.{HoldsStruct, extended_struct, struct_in, struct_refusal}
use Rattle.capnp_wire.specs.Place.{struct_tree}
use Rattle.capnp_wire.specs.Reading.{as_data, as_text, is_null_tree}
use Rattle.capnp_wire.specs.StructLists.{struct_list_refusal}
use Rattle.capnp_wire.specs.declared.size.StructSize.{StructSize}
use Rattle.capnp_base.specs.declared.introspect.RawBrandedStructSchema.{RawBrandedStructSchema}
use Rattle.capnp_base.specs.declared.introspect.«Type».{«Type» as TypeHandle}
use Rattle.capnp_base.specs.declared.introspect.TypeVariant.{TypeVariant}
use Rattle.capnp_base.specs.declared.introspect.TypeVariant.TheVariants as variant
use Rattle.capnp_schema.specs.FieldLists.{typed_of}
use Rattle.capnp_schema.specs.declared.schema.fields.Field.{Field}
use Rattle.capnp_schema.specs.Schema.{Schemas, Value, ListValue, TextValue, DataValue, default_of}
use Rattle.capnp_schema.specs.Types.{SchemaType, TextType, DataType, StructType, ListType, element_size, seen_type, seen_variant}
use Rattle.capnp_records.specs.Facts.Frame.{second_of}
use Rattle.capnp_records.specs.Given.{data_tree}
use Rattle.capnp_base.specs.Text.{text_tree}
use Rattle.capnp_records.specs.Writes.Fill.{IsAtRest, default_struct, entered_list, list_or_default}
use Rattle.capnp_schema.specs.Plan.{brand_size}
use Rattle.capnp_slots.specs.Fills.{fill_due, filled_tree, pointer_in}
use Rattle.capnp_slots.specs.Steps.Fills.{FilledListRests, list_due}
use Rattle.capnp_slots.specs.Fields.{field_set, pointer_index}
use Rattle.capnp_slots.proofs.FilledSlots.{IsPart, part_as, part_left}

second : {A : Type 0} (q : Bool) (a b : A) → q ≡ false → cond q a b ≡ b
second true a b e = absurd (true≢false e)
second false a b e = refl

neither : (q r : Bool) → q ≡ false → (q && r) ≡ false
neither true r e = absurd (true≢false e)
neither false r e = refl

or_stays : (d : Value) (x : Tree) → is_null_tree x ≡ false → list_or_default d x ≡ x
or_stays (ListValue words) tree.Null e = absurd (true≢false e)
or_stays d x e = refl

-- what is left of a text or data
pub text_stays : (set : Schemas) (d : Value) (x : Tree) → is_null_tree x ≡ false → x ≡ filled_tree set d TextType x
text_stays set (TextValue bytes) x e = sym (second_of (is_null_tree x) (text_tree bytes) x e)
text_stays set d x e = refl

pub data_stays : (set : Schemas) (d : Value) (x : Tree) → is_null_tree x ≡ false → x ≡ filled_tree set d DataType x
data_stays set (DataValue bytes) x e = sym (second_of (is_null_tree x) (data_tree bytes) x e)
data_stays set d x e = refl

module _ (set : Schemas) (d : Value) (x : Tree) (there : is_null_tree x ≡ false) where
  -- a list is filled as if there were no default
  pub record ListStands (e : SchemaType) (t : SchemaType) : Type 0 where
    pub filled : entered_list set e (wire.or_default tree.Null x) ≡ filled_tree set d t x
    pub due : list_due set e tree.Null x ≡ fill_due set d t x
    pub rests : IsAtRest set d t x → FilledListRests set e tree.Null x

  list_entered : (e : SchemaType) → entered_list set e (wire.or_default tree.Null x) ≡ filled_tree set d (ListType e) x
  list_entered e = ap (entered_list set e) (second (is_null_tree x) tree.Null x there ∙ sym (or_stays d x there))

  takes_none : wire.takes_default tree.Null x ≡ false
  takes_none = neither (is_null_tree x) (not (is_null_tree tree.Null)) there

  plain_due : (e : SchemaType) → wire.filled_list_refusal tree.Null (element_size e) x ≡ wire.list_refusal (element_size e) x
  plain_due e = second (is_null_tree x) _ (wire.list_refusal (element_size e) x) there

  plain_rests : (e : SchemaType) → {P : Type 0} → P × (wire.list_refusal (element_size e) x ≡ None) → (wire.takes_default tree.Null x ≡ false) × (wire.filled_list_refusal tree.Null (element_size e) x ≡ None)
  plain_rests e h = (takes_none, plain_due e ∙ h.1)

  stands : (e : SchemaType) → ListStands e (ListType e)
  stands (StructType b g) = record {
    filled = list_entered (StructType b g);
    due = second (is_null_tree x) _ (struct_list_refusal (brand_size set b) x) there ∙ ap (struct_list_refusal (brand_size set b)) (sym (or_stays d x there));
    rests = λ h. (takes_none, h.1);
  }
  stands e = record { filled = list_entered e; due = plain_due e; rests = plain_rests e }

  pub list_stands : (e t : SchemaType) → ListType e ≡ t → ListStands e t
  list_stands e t h = subst (ListStands e) h (stands e)

-- ---- by a field ----

pub struct_at : (f : Field) (i : ℕ) (s : StructTree) → i ≡ pointer_index f → is_null_tree (nth_tree s.pointers i) ≡ false → (b g : ℕ) (size : StructSize) → size ≡ brand_size (field_set f) b → StructType b g ≡ (typed_of f).type →
    IsPart f s (struct_tree (extended_struct size (struct_in (nth_tree s.pointers i)))) (struct_refusal (nth_tree s.pointers i)) (HoldsStruct size (nth_tree s.pointers i))
struct_at f i s at there b g size same t =
    let set : Schemas = field_set f in
    let d : Value = default_of (typed_of f).field in
    let x : Tree = pointer_in f s in
    let stands : is_null_tree x ≡ false = subst (λ j. is_null_tree (nth_tree s.pointers j) ≡ false) at there in
    subst (λ (z : StructSize). IsPart f s (struct_tree (extended_struct z (struct_in (nth_tree s.pointers i)))) (struct_refusal (nth_tree s.pointers i)) (HoldsStruct z (nth_tree s.pointers i))) (sym same)
    (subst (λ j. IsPart f s (struct_tree (extended_struct (brand_size set b) (struct_in (nth_tree s.pointers j)))) (struct_refusal (nth_tree s.pointers j)) (HoldsStruct (brand_size set b) (nth_tree s.pointers j))) (sym at)
    (record {
      filled = subst (λ u. struct_tree (extended_struct (brand_size set b) (struct_in x)) ≡ filled_tree set d u x) t
          (ap (λ y. struct_tree (extended_struct (brand_size set b) y)) (sym (second_of (is_null_tree x) (default_struct d) (struct_in x) stands)));
      due = subst (λ u. struct_refusal x ≡ fill_due set d u x) t refl;
      rests = λ r. subst (λ u. IsAtRest set d u x) (sym t) r;
    }))

module _ (f : Field) (v : TypeVariant) (i : ℕ) (s : StructTree) (at : i ≡ pointer_index f) (h : seen_variant v ≡ (typed_of f).type) (there : is_null_tree (nth_tree s.pointers i) ≡ false) where
  stands_there : is_null_tree (pointer_in f s) ≡ false
  stands_there = subst (λ j. is_null_tree (nth_tree s.pointers j) ≡ false) at there

  pub struct_stands_in : (raw : RawBrandedStructSchema) (size : StructSize) → size ≡ brand_size (field_set f) raw.number → v ≡ variant.Struct raw →
      IsPart f s (struct_tree (extended_struct size (struct_in (nth_tree s.pointers i)))) (struct_refusal (nth_tree s.pointers i)) (HoldsStruct size (nth_tree s.pointers i))
  struct_stands_in raw size same e = struct_at f i s at there raw.number raw.generic size same (ap seen_variant (sym e) ∙ h)

  pub text_in : v ≡ variant.Text → IsPart f s (nth_tree s.pointers i) (error_of (as_text (nth_tree s.pointers i))) ⊥
  text_in e = part_left f s _ _ _ _ (text_stays (field_set f) (default_of (typed_of f).field) (nth_tree s.pointers i) there) (part_as f s i TextType at (ap seen_variant (sym e) ∙ h))

  pub data_in : v ≡ variant.«Data» → IsPart f s (nth_tree s.pointers i) (error_of (as_data (nth_tree s.pointers i))) ⊥
  data_in e = part_left f s _ _ _ _ (data_stays (field_set f) (default_of (typed_of f).field) (nth_tree s.pointers i) there) (part_as f s i DataType at (ap seen_variant (sym e) ∙ h))

  -- what stands at a list's slot, by the set that the code has
  pub list_in : (set : Schemas) (element : TypeHandle) → set ≡ field_set f → v ≡ variant.List element →
      IsPart f s (entered_list set (seen_type element) (wire.or_default tree.Null (nth_tree s.pointers i))) (list_due set (seen_type element) tree.Null (nth_tree s.pointers i))
      (FilledListRests set (seen_type element) tree.Null (nth_tree s.pointers i))
  list_in set element same e =
      let part = list_stands (field_set f) (default_of (typed_of f).field) (pointer_in f s) stands_there (seen_type element) (typed_of f).type (ap seen_variant (sym e) ∙ h) in
      subst (λ (z : Schemas). IsPart f s (entered_list z (seen_type element) (wire.or_default tree.Null (nth_tree s.pointers i))) (list_due z (seen_type element) tree.Null (nth_tree s.pointers i))
      (FilledListRests z (seen_type element) tree.Null (nth_tree s.pointers i))) (sym same)
      (subst (λ j. IsPart f s (entered_list (field_set f) (seen_type element) (wire.or_default tree.Null (nth_tree s.pointers j))) (list_due (field_set f) (seen_type element) tree.Null (nth_tree s.pointers j))
      (FilledListRests (field_set f) (seen_type element) tree.Null (nth_tree s.pointers j))) (sym at)
      (record { filled = part.filled; due = part.due; rests = part.rests }))
