-- What was filled, or started anew, can be handed out.
use Rattle.std.proofs.Common.{ℕ, ◌≡◌, refl, List, Bool, true, false, Option, Some, None, IsOk, Ok, Err, Result, arith, sym, subst, ◌∙◌}
use Rattle.std.proofs.lemmas.Bool.{true≢false}
use Rattle.capnp_device.specs.declared.error.ErrorKind.{ErrorKind}
use Rattle.capnp_wire.specs.Tree as tree
use Rattle.capnp_wire.specs.Tree.{StructTree, Tree, nth_tree}
use Rattle.capnp_wire.specs.Defaults.{error_of, list_refusal}
use Rattle.capnp_wire.specs.Edits.{zero_list}
use Rattle.capnp_wire.specs.Facts.Lengths.{HasAtLeast_extended}
use Rattle.capnp_wire.specs.Reading.{as_data, as_list, as_text, is_null_tree}
use Rattle.capnp_wire.specs.StructLists.{HoldsStructs, struct_list, struct_list_refusal}
use Rattle.capnp_wire.specs.Words.{first_fault}
use Rattle.capnp_wire.specs.declared.fault.Fault.{Fault}
use Rattle.capnp_wire.specs.declared.size.ElementSize.{ElementSize}
use Rattle.capnp_wire.specs.declared.size.ElementSize.TheVariants as size
use Rattle.capnp_wire.specs.declared.size.StructSize.{StructSize}
use Rattle.capnp_base.specs.ReadBack.{as_text_text_tree}
use Rattle.capnp_schema.specs.Accepted.{words_root}
use Rattle.capnp_schema.specs.Defaults.{IsDefaultReadAs, value_default_tree}
use Rattle.capnp_schema.specs.Schema.{Schemas, Value, TextValue, DataValue, ListValue, default_of}
use Rattle.capnp_schema.specs.Types.{is_pointer, SchemaType, VoidType, BoolType, IntType, UIntType, EnumType, TextType, DataType, StructType, ListType, AnyPointerType, element_size}
use Rattle.capnp_base.specs.Text.{text_tree}
use Rattle.capnp_records.specs.Writes.Contents.{new_list}
use Rattle.capnp_records.specs.Writes.Fill.{IsAtRest, list_or_default}
use Rattle.capnp_records.specs.Writes.TreeEnds.{offset_of}
use Rattle.capnp_schema.specs.Plan.{brand_size}
use Rattle.capnp_slots.specs.Fills.{fill_due, filled_tree, RestsIn, due_in, filled_in}
use Rattle.capnp_device.specs.declared.error.Error.{Error}
use Rattle.capnp_schema.specs.FieldLists.{IsFound, typed_of}
use Rattle.capnp_schema.specs.StructHandles.{set_of, struct_field}
use Rattle.capnp_schema.specs.declared.schema.fields.Field.{Field}
use Rattle.capnp_schema.specs.declared.schema.structs.StructSchema.{StructSchema}
use Rattle.capnp_records.specs.Step.{is_group_field}
use Rattle.capnp_slots.specs.Fields.{IsPointerField, IsSlot, field_set}
use Rattle.capnp_slots.specs.Groups.{IsGroupAt}
use Rattle.capnp_dynamic.specs.Built.{HoldsElements, built_schema, built_struct}
use Rattle.capnp_dynamic.specs.Handed.{HandsField, HandsNumber, HandsOut, IsPartRefusal, IsPartWithin, IsRefusalAt, IsWithinAt, part_handed}
use Rattle.capnp_dynamic.specs.Steps.Handed.{CanBeHanded}
use Rattle.capnp_dynamic.specs.declared.dynamic_struct.build.Builder.{Builder as StructHandle}
use Rattle.capnp_dynamic.specs.declared.dynamic_value.build.Builder.TheVariants as built
use Rattle.capnp_dynamic.proofs.Builders.{moved}
use Rattle.capnp_dynamic.specs.declared.dynamic_value.build.Builder.{Builder as BuiltValue}

-- ---- texts and data ----

no_error : {A : Type 0} (r : Result A ErrorKind) → error_of r ≡ None → IsOk r
no_error (Ok x) e = refl
no_error (Err k) e = absurd cc

pub text_is : (bytes : List ℕ) → IsOk (as_text (text_tree bytes))
text_is bytes = subst (λ (r : Result (List ℕ) ErrorKind). IsOk r) (sym (as_text_text_tree bytes)) refl

text_filled : (d : Value) (x : Tree) → error_of (as_text x) ≡ None → (set : Schemas) → IsOk (as_text (filled_tree set d TextType x))
text_filled (TextValue bytes) x e set = go (is_null_tree x)
  where
    go : (q : Bool) → IsOk (as_text (elim q as (λ _. Tree) [ true ↦ text_tree bytes | false ↦ x ]))
    go true = text_is bytes
    go false = no_error (as_text x) e
text_filled d x e set = no_error (as_text x) e

data_filled : (d : Value) (x : Tree) → error_of (as_data x) ≡ None → (set : Schemas) → IsOk (as_data (filled_tree set d DataType x))
data_filled (DataValue bytes) x e set = go (is_null_tree x)
  where
    go : (q : Bool) → IsOk (as_data (elim q as (λ _. Tree) [ true ↦ tree.Numbers 1 bytes | false ↦ x ]))
    go true = refl
    go false = no_error (as_data x) e
data_filled d x e set = no_error (as_data x) e

-- ---- lists ----

no_leaf : (k : Fault) → first_fault (tree.FaultLeaf k) ≡ None → ⊥
no_leaf k e = cc

structs_hold : (s : StructSize) (y : Tree) → struct_list_refusal s y ≡ None → first_fault (struct_list s y) ≡ None → HoldsStructs s (struct_list s y)
structs_hold s tree.Null e h = tt
structs_hold s (tree.Struct bytes ps) e h = absurd cc
structs_hold s (tree.Voids n) e h = (omega arith, omega arith)
structs_hold s (tree.Bits bs) e h = absurd cc
structs_hold s (tree.Numbers w bytes) e h = (omega arith, omega arith)
structs_hold s (tree.Pointers ps) e h = (omega arith, omega arith)
structs_hold s (tree.Composite w p es) e h = (omega arith, omega arith)
structs_hold s (tree.FaultLeaf k) e h = absurd (no_leaf k h)

reads_ok : (s : ElementSize) (x : Tree) → IsOk (as_list s x 1) → list_refusal s x ≡ None
reads_ok s x h = go (as_list s x 1) h
  where
    go : (r : Result Tree ErrorKind) → IsOk r → error_of r ≡ None
    go (Ok y) h = refl
    go (Err k) h = absurd (true≢false (sym h))

-- a default that is entered as a list is read as its type's
module _ (e : SchemaType) where
  listed : (d : Value) → IsDefaultReadAs (ListType e) (value_default_tree d) → (x : Tree) → list_refusal (element_size e) x ≡ None → list_refusal (element_size e) (list_or_default d x) ≡ None
  listed (ListValue words) h tree.Null n = reads_ok (element_size e) (words_root words) h.1
  listed (ListValue words) h (tree.Struct bytes ps) n = n
  listed (ListValue words) h (tree.Voids c) n = n
  listed (ListValue words) h (tree.Bits bs) n = n
  listed (ListValue words) h (tree.Numbers w bytes) n = n
  listed (ListValue words) h (tree.Pointers ps) n = n
  listed (ListValue words) h (tree.Composite w p es) n = n
  listed (ListValue words) h (tree.FaultLeaf k) n = n
  listed d h x n = n

list_filled : (set : Schemas) (d : Value) (e : SchemaType) → IsDefaultReadAs (ListType e) (value_default_tree d) → (x : Tree) → fill_due set d (ListType e) x ≡ None → first_fault (filled_tree set d (ListType e) x) ≡ None →
    HoldsElements set e (filled_tree set d (ListType e) x)
list_filled set d (StructType b g) h x e n = structs_hold (brand_size set b) (list_or_default d x) e n
list_filled set d VoidType h x e n = listed VoidType d h x e
list_filled set d BoolType h x e n = listed BoolType d h x e
list_filled set d (IntType k) h x e n = listed (IntType k) d h x e
list_filled set d (UIntType k) h x e n = listed (UIntType k) d h x e
list_filled set d (EnumType k) h x e n = listed (EnumType k) d h x e
list_filled set d TextType h x e n = listed TextType d h x e
list_filled set d DataType h x e n = listed DataType d h x e
list_filled set d (ListType t) h x e n = listed (ListType t) d h x e
list_filled set d AnyPointerType h x e n = listed AnyPointerType d h x e

-- ---- by type ----

pub can_fill : (set : Schemas) (d : Value) (t : SchemaType) → IsDefaultReadAs t (value_default_tree d) → (x : Tree) → fill_due set d t x ≡ None → first_fault (filled_tree set d t x) ≡ None → CanBeHanded set t (filled_tree set d t x)
can_fill set d TextType h x e n = text_filled d x e set
can_fill set d DataType h x e n = data_filled d x e set
can_fill set d (StructType b g) h x e n = (refl, HasAtLeast_extended (brand_size set b) _)
can_fill set d (ListType t) h x e n = list_filled set d t h x e n
can_fill set d VoidType h x e n = tt
can_fill set d BoolType h x e n = tt
can_fill set d (IntType k) h x e n = tt
can_fill set d (UIntType k) h x e n = tt
can_fill set d (EnumType k) h x e n = tt
can_fill set d AnyPointerType h x e n = tt

-- ---- what is new ----

zero_list_sound : (s : ElementSize) (n : ℕ) → list_refusal s (zero_list s n) ≡ None
zero_list_sound size.Void n = refl
zero_list_sound size.Bit n = refl
zero_list_sound size.Byte n = refl
zero_list_sound size.TwoBytes n = refl
zero_list_sound size.FourBytes n = refl
zero_list_sound size.EightBytes n = refl
zero_list_sound size.Pointer n = refl
zero_list_sound size.InlineComposite n = refl

pub new_list_holds : (set : Schemas) (e : SchemaType) (n : ℕ) → HoldsElements set e (new_list set e n)
new_list_holds set (StructType b g) n = (omega arith, omega arith)
new_list_holds set VoidType n = zero_list_sound size.Void n
new_list_holds set BoolType n = zero_list_sound size.Bit n
new_list_holds set (IntType k) n = zero_list_sound (element_size (IntType k)) n
new_list_holds set (UIntType k) n = zero_list_sound (element_size (UIntType k)) n
new_list_holds set (EnumType k) n = zero_list_sound size.TwoBytes n
new_list_holds set TextType n = zero_list_sound size.Pointer n
new_list_holds set DataType n = zero_list_sound size.Pointer n
new_list_holds set (ListType t) n = zero_list_sound size.Pointer n
new_list_holds set AnyPointerType n = zero_list_sound size.Pointer n

-- ---- of a field ----

-- what a pointer has under a type can be handed out, and stands there, also under the field's own set and type
pub can_hand : (set set' : Schemas) (t t' : SchemaType) (x x' : Tree) → set ≡ set' → t ≡ t' → x ≡ x' → CanBeHanded set' t' x' → CanBeHanded set t x
can_hand set set' t t' x x' a b c h =
    subst (λ (z : Schemas). CanBeHanded z t x) (sym a) (subst (λ (u : SchemaType). CanBeHanded set' u x) (sym b) (subst (CanBeHanded set' t') (sym c) h))

pub handed_out : (new : Bool) (set set' : Schemas) (t t' : SchemaType) (x x' : Tree) (v : BuiltValue) → set ≡ set' → t ≡ t' → x ≡ x' → HandsOut new set t x v → HandsOut new set' t' x' v
handed_out new set set' t t' x x' v a b c h =
    subst (λ (z : Schemas). HandsOut new z t' x' v) a (subst (λ (u : SchemaType). HandsOut new set u x' v) b (subst (λ (y : Tree). HandsOut new set t y v) c h))

-- ---- by the kind of a field, and by its name ----

pub hands_group : (f : Field) (g : StructHandle) (s : StructTree) → IsGroupAt f (built_schema g) → built_struct g ≡ s → HandsField f s (built.Struct g)
hands_group f g s at e = subst (λ (q : Bool). part_handed q (is_pointer (typed_of f).type) (field_set f) (typed_of f) s (built.Struct g)) (sym at.is_group) (at.set, at.number, e)

pub hands_pointed : (f : Field) (s : StructTree) (v : BuiltValue) → IsSlot f → IsPointerField f → HandsOut false (field_set f) (typed_of f).type (filled_in f s) v → HandsField f s v
hands_pointed f s v slot pointer h =
    subst (λ (q : Bool). part_handed q (is_pointer (typed_of f).type) (field_set f) (typed_of f) s v) (sym slot)
    (subst (λ (q : Bool). part_handed false q (field_set f) (typed_of f) s v) (sym pointer) h)

pub hands_number : (f : Field) (s : StructTree) (v : BuiltValue) → IsSlot f → is_pointer (typed_of f).type ≡ false → HandsNumber (field_set f) (typed_of f) s v → HandsField f s v
hands_number f s v slot pointer h =
    subst (λ (q : Bool). part_handed q (is_pointer (typed_of f).type) (field_set f) (typed_of f) s v) (sym slot)
    (subst (λ (q : Bool). part_handed false q (field_set f) (typed_of f) s v) (sym pointer) h)

pub same_handed : (s : StructSchema) (o : Option ℕ) (f g : Field) → IsFound s o (Some f) → IsFound s o (Some g) → (x : StructTree) (v : BuiltValue) → HandsField f x v → HandsField g x v
same_handed s o f g a b x v h =
    moved (λ (z : StructSchema) (i : ℕ). part_handed (is_group_field (struct_field z i).field.kind) (is_pointer (struct_field z i).type) (set_of z) (struct_field z i) x v) s o f g a b h

pub same_due : (s : StructSchema) (o : Option ℕ) (f g : Field) → IsFound s o (Some f) → IsFound s o (Some g) → (x : StructTree) (e : Error) → IsPartRefusal f x e → IsPartRefusal g x e
same_due s o f g a b x e h = moved (λ (z : StructSchema) (i : ℕ). IsRefusalAt (set_of z) (struct_field z i) x e) s o f g a b h

-- ---- what stands there is read as the field's type ----

pub group_within : (f : Field) (g : StructSchema) (s : StructTree) → IsGroupAt f g → IsPartWithin f s
group_within f g s at slot pointer = absurd (true≢false (sym at.is_group ∙ slot))

pub pointed_within : (f : Field) (s : StructTree) → due_in f s ≡ None → IsPartWithin f s
pointed_within f s e slot pointer = e

pub number_within : (f : Field) (s : StructTree) → is_pointer (typed_of f).type ≡ false → IsPartWithin f s
number_within f s e slot pointer = absurd (true≢false (sym pointer ∙ e))

pub same_within : (s : StructSchema) (o : Option ℕ) (f g : Field) → IsFound s o (Some f) → IsFound s o (Some g) → (x : StructTree) → IsPartWithin f x → IsPartWithin g x
same_within s o f g a b x h = moved (λ (z : StructSchema) (i : ℕ). IsWithinAt (set_of z) (struct_field z i) x) s o f g a b h

pub same_rests : (s : StructSchema) (o : Option ℕ) (f g : Field) → IsFound s o (Some f) → IsFound s o (Some g) → (x : StructTree) → RestsIn f x → RestsIn g x
same_rests s o f g a b x h =
    moved (λ (z : StructSchema) (i : ℕ). IsAtRest (set_of z) (default_of (struct_field z i).field) (struct_field z i).type (nth_tree x.pointers (offset_of (struct_field z i).field.kind))) s o f g a b h
