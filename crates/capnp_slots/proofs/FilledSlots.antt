-- What is filled into a slot, by the slot's type.
use Rattle.std.specs.Prelude.{ℕ, ◌≡◌, refl, false, ⊤, Option, None, Result, Ok, Err, IfErr, IsOk, OnErr, OnOk}
use Rattle.std.proofs.Common.{ap, sym, subst, ◌∙◌}
use Rattle.capnp_device.specs.declared.error.Error.{Error}
use Rattle.capnp_device.specs.declared.error.ErrorKind.{ErrorKind}
use Rattle.capnp_wire.specs.Defaults as wire
use Rattle.capnp_wire.specs.Defaults.{error_of}
use Rattle.capnp_wire.specs.Edits.{HoldsStruct, IsDueRefusal}
use Rattle.capnp_wire.specs.Place.{struct_tree}
use Rattle.capnp_wire.specs.Reading.{as_data, as_text}
use Rattle.capnp_wire.specs.StructLists.{struct_list_refusal}
use Rattle.capnp_wire.specs.Tree.{StructTree, Tree, nth_tree}
use Rattle.capnp_wire.specs.Words.{first_fault}
use Rattle.capnp_wire.specs.declared.pointer_reader.PointerReader.{PointerReader}
use Rattle.capnp_wire.specs.declared.size.StructSize.{StructSize}
use Rattle.capnp_base.specs.declared.introspect.RawBrandedStructSchema.{RawBrandedStructSchema}
use Rattle.capnp_base.specs.declared.introspect.«Type».{«Type» as TypeHandle}
use Rattle.capnp_base.specs.declared.introspect.TypeVariant.{TypeVariant}
use Rattle.capnp_base.specs.declared.introspect.TypeVariant.TheVariants as variant
use Rattle.capnp_schema.specs.FieldLists.{typed_of}
use Rattle.capnp_schema.specs.declared.schema.fields.Field.{Field}
use Rattle.capnp_schema.specs.Accepted.{Decodes, IsDefaultOf}
use Rattle.capnp_schema.specs.Defaults.{IsDefaultReadAs, value_default_tree}
use Rattle.capnp_schema.specs.Schema.{Schemas, Value, TextValue, DataValue, default_of}
use Rattle.capnp_schema.specs.Types.{SchemaType, TextType, DataType, StructType, ListType, AnyPointerType, element_size, seen_type, seen_variant}
use Rattle.capnp_records.specs.Writes.Fill.{IsAtRest, entered_list}
use Rattle.capnp_schema.specs.Plan.{brand_size}
use Rattle.capnp_slots.specs.Copied.{refusal_of}
use Rattle.capnp_slots.specs.Fills.{RestsIn, due_in, fill_due, filled_in, filled_tree, pointer_in}
use Rattle.capnp_slots.specs.Steps.Fills.{HoldsThere, IsDefaultPointer, IsFilled, IsSlotFilled, FilledListRests, blob_filled, list_due}
use Rattle.capnp_slots.specs.Fields.{IsSlot, field_set, pointer_index}
use Rattle.capnp_slots.proofs.ElementFills.{always, due_cause, due_within}
use Rattle.capnp_slots.proofs.Filled.{default_is, list_is_due, list_filled, same_there, struct_due, struct_filled, structs_due}

-- a clause of what was refused
always_err : {A E : Type 0} {P : Type 0} (r : Result A E) → P → OnErr r P
always_err (Ok a) p = tt
always_err (Err e) p = p

-- a default of a type, and the tree of its pointer
pub record IsOwnDefault (d : Value) (t : SchemaType) (D : Tree) : Type 0 where
  pub is : D ≡ value_default_tree d
  pub kind : IsDefaultOf d t
  pub decodes : Decodes d
  pub sound : first_fault (value_default_tree d) ≡ None
  pub read : IsDefaultReadAs t (value_default_tree d)

module _ (set : Schemas) (d : Value) (D x : Tree) where
  -- ---- structs ----

  pub record StructFills (size : StructSize) (t : SchemaType) : Type 0 where
    pub filled : struct_tree (wire.filled_struct D size x) ≡ filled_tree set d t x
    pub due : wire.filled_struct_refusal D x ≡ fill_due set d t x
    pub rests : IsAtRest set d t x → HoldsStruct size x

  pub struct_fills : (b g : ℕ) (t : SchemaType) → StructType b g ≡ t → IsOwnDefault d t D → StructFills (brand_size set b) t
  struct_fills b g t e own =
      subst (λ u. IsOwnDefault d u D → StructFills (brand_size set b) u) e
      (λ own. record {
        filled = ap struct_tree (ap (λ y. wire.filled_struct y (brand_size set b) x) own.is ∙ struct_filled d own.decodes set b g x own.kind);
        due = ap (λ y. wire.filled_struct_refusal y x) own.is ∙ struct_due (value_default_tree d) own.sound x own.read;
        rests = λ h. h;
      }) own

  -- ---- lists ----

  pub record ListFills (e : SchemaType) (t : SchemaType) : Type 0 where
    pub filled : entered_list set e (wire.or_default D x) ≡ filled_tree set d t x
    pub due : list_due set e D x ≡ fill_due set d t x
    pub rests : IsAtRest set d t x → FilledListRests set e D x

  plain_due : (e : SchemaType) → IsOwnDefault d (ListType e) D → wire.filled_list_refusal D (element_size e) x ≡ wire.list_refusal (element_size e) x
  plain_due e own = ap (λ y. wire.filled_list_refusal y (element_size e) x) own.is ∙ list_is_due (value_default_tree d) own.sound (element_size e) x own.read.1

  plain_rests : (e : SchemaType) → IsOwnDefault d (ListType e) D → (wire.takes_default (value_default_tree d) x ≡ false) × (wire.list_refusal (element_size e) x ≡ None) →
      (wire.takes_default D x ≡ false) × (wire.filled_list_refusal D (element_size e) x ≡ None)
  plain_rests e own h = (ap (λ y. wire.takes_default y x) own.is ∙ h.0, plain_due e own ∙ h.1)

  list_entered : (e : SchemaType) → IsOwnDefault d (ListType e) D → entered_list set e (wire.or_default D x) ≡ filled_tree set d (ListType e) x
  list_entered e own = ap (entered_list set e) (ap (λ y. wire.or_default y x) own.is ∙ list_filled d own.decodes e x own.kind)

  fills : (e : SchemaType) → IsOwnDefault d (ListType e) D → ListFills e (ListType e)
  fills (StructType b g) own = record {
    filled = list_entered (StructType b g) own;
    due = ap (λ y. wire.filled_structs_refusal y (brand_size set b) x) own.is
        ∙ (structs_due (value_default_tree d) own.sound (brand_size set b) x ∙ ap (struct_list_refusal (brand_size set b)) (list_filled d own.decodes (StructType b g) x own.kind));
    rests = λ h. (ap (λ y. wire.takes_default y x) own.is ∙ h.0, h.1);
  }
  fills e own = record { filled = list_entered e own; due = plain_due e own; rests = plain_rests e own }

  pub list_fills : (e t : SchemaType) → ListType e ≡ t → IsOwnDefault d t D → ListFills e t
  list_fills e t h own = subst (λ u. IsOwnDefault d u D → ListFills e u) h (fills e) own

-- ---- by a field ----

-- what a call leaves at a pointer, refuses and lets rest is what the field's slot asks
pub record IsPart (f : Field) (s : StructTree) (x : Tree) (d : Option ErrorKind) (P : Type 0) : Type 0 where
  pub filled : x ≡ filled_in f s
  pub due : d ≡ due_in f s
  pub rests : RestsIn f s → P

pub part_left : (f : Field) (s : StructTree) (x y : Tree) (d : Option ErrorKind) (P : Type 0) → x ≡ y → IsPart f s y d P → IsPart f s x d P
part_left f s x y d P e part = record { filled = e ∙ part.filled; due = part.due; rests = part.rests }

-- by the slot's type
abbrev PartAs : Field → StructTree → SchemaType → ℕ → Type 0
PartAs f s t i = IsPart f s (filled_tree (field_set f) (default_of (typed_of f).field) t (nth_tree s.pointers i)) (fill_due (field_set f) (default_of (typed_of f).field) t (nth_tree s.pointers i))
    (IsAtRest (field_set f) (default_of (typed_of f).field) t (nth_tree s.pointers i))

pub part_as : (f : Field) (s : StructTree) (i : ℕ) (t : SchemaType) → i ≡ pointer_index f → t ≡ (typed_of f).type → PartAs f s t i
part_as f s i t at h = subst (PartAs f s t) (sym at) (subst (λ u. PartAs f s u (pointer_index f)) (sym h) (record { filled = refl; due = refl; rests = λ r. r }))

-- a text is its default where it is null, and so is data; they never rest
text_fills : (set : Schemas) (d : Value) (x : Tree) → IsDefaultOf d TextType → blob_filled d x ≡ filled_tree set d TextType x
text_fills set (DataValue bytes) x of = absurd of
text_fills set d x of = refl

data_fills : (set : Schemas) (d : Value) (x : Tree) → IsDefaultOf d DataType → blob_filled d x ≡ filled_tree set d DataType x
data_fills set (TextValue bytes) x of = absurd of
data_fills set d x of = refl

module _ (f : Field) (v : TypeVariant) (i : ℕ) (s : StructTree) (at : i ≡ pointer_index f) (h : seen_variant v ≡ (typed_of f).type) where
  pub text_part : IsDefaultOf (default_of (typed_of f).field) (typed_of f).type → v ≡ variant.Text → IsPart f s (blob_filled (default_of (typed_of f).field) (nth_tree s.pointers i)) (error_of (as_text (nth_tree s.pointers i))) ⊥
  text_part of e =
      let t : TextType ≡ (typed_of f).type = ap seen_variant (sym e) ∙ h in
      part_left f s _ _ _ _ (text_fills (field_set f) _ (nth_tree s.pointers i) (subst (IsDefaultOf (default_of (typed_of f).field)) (sym t) of)) (part_as f s i TextType at t)

  pub data_part : IsDefaultOf (default_of (typed_of f).field) (typed_of f).type → v ≡ variant.«Data» → IsPart f s (blob_filled (default_of (typed_of f).field) (nth_tree s.pointers i)) (error_of (as_data (nth_tree s.pointers i))) ⊥
  data_part of e =
      let t : DataType ≡ (typed_of f).type = ap seen_variant (sym e) ∙ h in
      part_left f s _ _ _ _ (data_fills (field_set f) _ (nth_tree s.pointers i) (subst (IsDefaultOf (default_of (typed_of f).field)) (sym t) of)) (part_as f s i DataType at t)

  -- an untyped pointer is left as it is
  pub untyped_part : v ≡ variant.AnyPointer → IsPart f s (nth_tree s.pointers i) None ⊥
  untyped_part e = part_as f s i AnyPointerType at (ap seen_variant (sym e) ∙ h)

module _ (f : Field) (r : Option PointerReader) (slot : IsSlot f) (is : IsDefaultPointer f r) where
  own_default : IsOwnDefault (default_of (typed_of f).field) (typed_of f).type (wire.default_tree r)
  own_default = record { is = is.tree; kind = default_is f r slot is; decodes = is.fits.decodes; sound = is.fits.sound; read = is.fits.read }

  -- a struct's slot, by the size that the code has
  abbrev pub StructPart : StructTree → StructSize → ℕ → Type 0
  StructPart s size i = IsPart f s (struct_tree (wire.filled_struct (wire.default_tree r) size (nth_tree s.pointers i))) (wire.filled_struct_refusal (wire.default_tree r) (nth_tree s.pointers i))
      (HoldsStruct size (nth_tree s.pointers i))

  pub struct_part : (raw : RawBrandedStructSchema) (v : TypeVariant) (size : StructSize) (i : ℕ) (s : StructTree) → size ≡ brand_size (field_set f) raw.number → i ≡ pointer_index f →
      v ≡ variant.Struct raw → seen_variant v ≡ (typed_of f).type → StructPart s size i
  struct_part raw v size i s same at e h =
      let fills = struct_fills (field_set f) (default_of (typed_of f).field) (wire.default_tree r) (pointer_in f s) raw.number raw.generic (typed_of f).type (ap seen_variant (sym e) ∙ h) own_default in
      subst (λ (z : StructSize). StructPart s z i) (sym same)
      (subst (StructPart s (brand_size (field_set f) raw.number)) (sym at) (record { filled = fills.filled; due = fills.due; rests = fills.rests }))

  -- a list's slot, by the set that the code has
  abbrev pub ListPart : StructTree → SchemaType → Schemas → ℕ → Type 0
  ListPart s e set i = IsPart f s (entered_list set e (wire.or_default (wire.default_tree r) (nth_tree s.pointers i))) (list_due set e (wire.default_tree r) (nth_tree s.pointers i))
      (FilledListRests set e (wire.default_tree r) (nth_tree s.pointers i))

  pub list_part : (set : Schemas) (element : TypeHandle) (v : TypeVariant) (i : ℕ) (s : StructTree) → set ≡ field_set f → i ≡ pointer_index f → v ≡ variant.List element → seen_variant v ≡ (typed_of f).type →
      ListPart s (seen_type element) set i
  list_part set element v i s same at e h =
      let fills = list_fills (field_set f) (default_of (typed_of f).field) (wire.default_tree r) (pointer_in f s) (seen_type element) (typed_of f).type (ap seen_variant (sym e) ∙ h) own_default in
      subst (λ (z : Schemas). ListPart s (seen_type element) z i) (sym same)
      (subst (ListPart s (seen_type element) (field_set f)) (sym at) (record { filled = fills.filled; due = fills.due; rests = fills.rests }))

-- ---- by a struct ----

-- a call left something at a pointer, refuses it or lets it rest: so a slot was filled
module _ (s s' : StructTree) (i : ℕ) (r : Result ⊤ Error) where
  pub made_filled : (x y : Tree) (d e : Option ErrorKind) (P Q : Type 0) → x ≡ y → d ≡ e → (Q → P) →
      OnOk r (HoldsThere s i s' x) → OnOk r (d ≡ None) → OnErr r (s' ≡ s) → IfErr r (λ n. IsDueRefusal n d) → (P → IsOk r) → IsFilled y e Q s i r s'
  made_filled x y d e P Q left due rests ok within refused cause still = record {
    filled = subst (λ t. OnOk r (HoldsThere s i s' t)) left ok;
    within = subst (λ o. OnOk r (o ≡ None)) due within;
    refused = refused;
    cause = subst (λ o. IfErr r (λ n. IsDueRefusal n o)) due cause;
    rests = λ q. still (rests q);
  }

  pub filled_as : (x y : Tree) (d e : Option ErrorKind) (P Q : Type 0) → x ≡ y → d ≡ e → (Q → P) → IsFilled x d P s i r s' → IsFilled y e Q s i r s'
  filled_as x y d e P Q left due rests h = made_filled x y d e P Q left due rests h.filled h.within h.refused h.cause h.rests

  -- a part that was filled so is a slot that was filled
  pub part_filled : (f : Field) (x : Tree) (d : Option ErrorKind) (P : Type 0) → IsPart f s x d P → IsFilled x d P s i r s' → IsSlotFilled f s i r s'
  part_filled f x d P part = filled_as x (filled_in f s) d (due_in f s) P (RestsIn f s) part.filled part.due part.rests

  pub part_made : (f : Field) (x : Tree) (d : Option ErrorKind) (P : Type 0) → IsPart f s x d P →
      OnOk r (HoldsThere s i s' x) → OnOk r (d ≡ None) → OnErr r (s' ≡ s) → IfErr r (λ n. IsDueRefusal n d) → (P → IsOk r) → IsSlotFilled f s i r s'
  part_made f x d P part = made_filled x (filled_in f s) d (due_in f s) P (RestsIn f s) part.filled part.due part.rests

  -- what is read as the slot's type stays there
  pub part_stayed : (f : Field) (d : Option ErrorKind) → IsPart f s (nth_tree s.pointers i) d ⊥ → s' ≡ s → refusal_of r ≡ d → IsSlotFilled f s i r s'
  part_stayed f d part stays due =
      part_made f (nth_tree s.pointers i) d ⊥ part (always r (same_there s s' i _ stays refl)) (due_within r d due) (always_err r stays) (due_cause r d due) (λ h. absurd h)
