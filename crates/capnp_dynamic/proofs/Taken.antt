-- A part of another kind than a struct, or a list, is of a field or element of another kind.
use Rattle.std.proofs.Common.{ℕ, ◌≡◌, ◌⊎◌, refl, Bool, true, false, not, ◌&&◌, ◌||◌, Some, Result, Ok, Err, IfErr, IsOk, ap, inr, sym, ◌∙◌}
use Rattle.std.proofs.lemmas.Bool.{true≢false}
use Rattle.capnp_device.specs.declared.error.Error.{Error}
use Rattle.capnp_device.specs.declared.error.ErrorKind.TheVariants.{TypeMismatch}
use Rattle.capnp_wire.specs.Place.{struct_tree}
use Rattle.capnp_wire.specs.Reading.{element_pointer, element_struct}
use Rattle.capnp_wire.specs.Tree.{StructTree, Tree}
use Rattle.capnp_schema.specs.FieldLists.{typed_of}
use Rattle.capnp_schema.specs.Schema.{Schemas, TypedField}
use Rattle.capnp_schema.specs.Types.{SchemaType, StructType, ListType, is_pointer, struct_brand}
use Rattle.capnp_schema.specs.declared.schema.fields.Field.{Field}
use Rattle.capnp_records.specs.Step.{is_group_field}
use Rattle.capnp_slots.specs.Fields.{field_set}
use Rattle.capnp_slots.specs.Fills.{element_filled}
use Rattle.capnp_dynamic.specs.Built.{built_element, built_elements, built_reading, built_set}
use Rattle.capnp_dynamic.specs.Handed.{HandsElement, HandsField, HandsGroup, HandsOut, element_handed, field_filled, part_handed}
use Rattle.capnp_dynamic.specs.Taken.{hands_list, hands_struct, is_list_type, is_struct_type}
use Rattle.capnp_dynamic.specs.Steps.Taken.{IsNoList, IsNoStruct}
use Rattle.capnp_dynamic.specs.declared.dynamic_list.build.Builder.{Builder as ListHandle}
use Rattle.capnp_dynamic.specs.declared.dynamic_value.build.Builder.{Builder as BuiltValue}
use Rattle.capnp_dynamic.specs.declared.dynamic_value.build.Builder.TheVariants as built

module _ {A : Type 0} (N : Type 0) (q : Bool) (other : N → q ≡ false) where
  -- a value of another kind is a mismatch
  pub mismatched : (As : Error → Type 0) (Within : Type 0) (r : Result A Error) → Within → IfErr r (λ e. (e.kind ≡ TypeMismatch) × N) →
      IfErr r (λ e. As e ⊎ ((e.kind ≡ TypeMismatch) × (q ≡ false) × Within))
  mismatched As Within (Ok a) within h = tt
  mismatched As Within (Err e) within h = inr (h.0, other h.1, within)

  -- and one of the kind isn't
  pub is_taken : (r : Result A Error) → IfErr r (λ e. (e.kind ≡ TypeMismatch) × N) → q ≡ true → IsOk r
  is_taken (Ok a) h e = refl
  is_taken (Err x) h e = absurd (true≢false (sym e ∙ other h.1))

-- ---- fields ----

number_no_struct : (t : SchemaType) → is_pointer t ≡ false → is_struct_type t ≡ false
number_no_struct (StructType b g) e = e
number_no_struct t e = refl

number_no_list : (t : SchemaType) → is_pointer t ≡ false → is_list_type t ≡ false
number_no_list (ListType t) e = e
number_no_list t e = refl

struct_no_list : (t : SchemaType) (b : ℕ) → struct_brand t ≡ Some b → is_list_type t ≡ false
struct_no_list (ListType t) b e = absurd cc
struct_no_list t b e = refl

no_struct_out : (new : Bool) (set : Schemas) (t : SchemaType) (x : Tree) (v : BuiltValue) → HandsOut new set t x v → IsNoStruct v → is_struct_type t ≡ false
no_struct_out new set t x (built.Text b) h n = sym (ap is_struct_type h.0)
no_struct_out new set t x (built.«Data» bytes) h n = sym (ap is_struct_type h.0)
no_struct_out new set t x (built.Struct s) h n = absurd n
no_struct_out new set t x (built.List l) h n = sym (ap is_struct_type h.0)
no_struct_out new set t x (built.AnyPointer p) h n = sym (ap is_struct_type h.0)
no_struct_out new set t x v h n = absurd h

no_list_out : (new : Bool) (set : Schemas) (t : SchemaType) (x : Tree) (v : BuiltValue) → HandsOut new set t x v → IsNoList v → is_list_type t ≡ false
no_list_out new set t x (built.Text b) h n = sym (ap is_list_type h.0)
no_list_out new set t x (built.«Data» bytes) h n = sym (ap is_list_type h.0)
no_list_out new set t x (built.Struct s) h n = struct_no_list t _ h.0
no_list_out new set t x (built.List l) h n = absurd n
no_list_out new set t x (built.AnyPointer p) h n = sym (ap is_list_type h.0)
no_list_out new set t x v h n = absurd h

group_is_struct : (set : Schemas) (f : TypedField) (s : StructTree) (v : BuiltValue) → HandsGroup set f s v → IsNoStruct v → ⊥
group_is_struct set f s (built.Struct g) h n = n
group_is_struct set f s v h n = h

module _ (set : Schemas) (f : TypedField) (s : StructTree) (v : BuiltValue) where
  part_no_struct : (q p : Bool) → is_pointer f.type ≡ p → part_handed q p set f s v → IsNoStruct v → (q || is_struct_type f.type) ≡ false
  part_no_struct true p e h n = absurd (group_is_struct set f s v h n)
  part_no_struct false true e h n = no_struct_out false set f.type (field_filled set f s) v h n
  part_no_struct false false e h n = number_no_struct f.type e

  part_no_list : (q p : Bool) → is_pointer f.type ≡ p → part_handed q p set f s v → IsNoList v → (not q && is_list_type f.type) ≡ false
  part_no_list true p e h n = refl
  part_no_list false true e h n = no_list_out false set f.type (field_filled set f s) v h n
  part_no_list false false e h n = number_no_list f.type e

pub no_struct : (f : Field) (s : StructTree) (v : BuiltValue) → HandsField f s v → IsNoStruct v → hands_struct (typed_of f) ≡ false
no_struct f s v h n = part_no_struct (field_set f) (typed_of f) s v (is_group_field (typed_of f).field.kind) (is_pointer (typed_of f).type) refl h n

pub no_list : (f : Field) (s : StructTree) (v : BuiltValue) → HandsField f s v → IsNoList v → hands_list (typed_of f) ≡ false
no_list f s v h n = part_no_list (field_set f) (typed_of f) s v (is_group_field (typed_of f).field.kind) (is_pointer (typed_of f).type) refl h n

-- ---- elements ----

element_no_struct : (set : Schemas) (t : SchemaType) (x y : Tree) (j : ℕ) (v : BuiltValue) → element_handed set t x y j v → IsNoStruct v → is_struct_type t ≡ false
element_no_struct set (StructType b g) x y j v h n = no_struct_out false set (StructType b g) (struct_tree (element_struct x j)) v h n
element_no_struct set t x y j v h n = refl

element_no_list : (set : Schemas) (t : SchemaType) (x y : Tree) (j : ℕ) (v : BuiltValue) → element_handed set t x y j v → IsNoList v → is_list_type t ≡ false
element_no_list set (ListType e) x y j v h n = no_list_out false set (ListType e) (element_filled set (ListType e) (element_pointer x j 1)) v h n
element_no_list set t x y j v h n = refl

pub no_struct_there : (l : ListHandle) (j : ℕ) (v : BuiltValue) → HandsElement l j v → IsNoStruct v → is_struct_type (built_element l) ≡ false
no_struct_there l j v h n = element_no_struct (built_set l) (built_element l) (built_elements l) (built_reading l) j v h n

pub no_list_there : (l : ListHandle) (j : ℕ) (v : BuiltValue) → HandsElement l j v → IsNoList v → is_list_type (built_element l) ≡ false
no_list_there l j v h n = element_no_list (built_set l) (built_element l) (built_elements l) (built_reading l) j v h n
