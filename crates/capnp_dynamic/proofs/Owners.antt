-- What a part says of the struct that it was handed out of, by the kind of the field, and by its name.
use Rattle.std.proofs.Common.{ℕ, ◌≡◌, refl, Bool, true, false, Option, Some, Result, Ok, Err, IfOk, ap, sym, subst}
use Rattle.std.proofs.lemmas.Bool.{true≢false}
use Rattle.std.specs.Borrow.{MutBor}
use Rattle.capnp_device.specs.declared.error.Error.{Error}
use Rattle.capnp_wire.specs.Edits.{with_pointer_tree}
use Rattle.capnp_wire.specs.Elements.{with_pointer_element}
use Rattle.capnp_wire.specs.Reading.{element_pointer}
use Rattle.capnp_wire.specs.Tree.{nth_tree}
use Rattle.capnp_arena.specs.Built.{ChangesIn, built_at}
use Rattle.capnp_arena.specs.declared.arena.Arena.{Arena}
use Rattle.capnp_arena.specs.declared.arena.Place.{Place}
use Rattle.capnp_base.specs.declared.introspect.RawBrandedStructSchema.{RawBrandedStructSchema}
use Rattle.capnp_base.specs.declared.introspect.TypeVariant.{TypeVariant}
use Rattle.capnp_base.specs.declared.introspect.TypeVariant.TheVariants as variant
use Rattle.capnp_schema.specs.FieldLists.{IsFound, typed_of}
use Rattle.capnp_schema.specs.Schema.{default_of}
use Rattle.capnp_schema.specs.StructHandles.{number_of, set_of, struct_field}
use Rattle.capnp_schema.specs.Types.{SchemaType, StructType, is_pointer, seen_variant}
use Rattle.capnp_schema.specs.declared.schema.fields.Field.{Field}
use Rattle.capnp_schema.specs.declared.schema.structs.StructSchema.{StructSchema}
use Rattle.capnp_records.specs.Step.{is_group_field}
use Rattle.capnp_records.specs.Writes.Contents.{init_tree, initn_tree}
use Rattle.capnp_records.specs.Writes.Slots.{At}
use Rattle.capnp_records.specs.Writes.TreeEnds.{offset_of, slot_written}
use Rattle.capnp_slots.specs.Fields.{IsPointerField, IsSlot, pointer_index, slot_with}
use Rattle.capnp_slots.specs.Fills.{element_filled, filled_in, filled_tree, is_behind}
use Rattle.capnp_slots.specs.Groups.{IsGroupAt}
use Rattle.capnp_slots.specs.Inits.{init_content}
use Rattle.capnp_dynamic.specs.Built.{built_element, built_elements, built_schema, built_set, list_behind, place_of, struct_behind, word_of}
use Rattle.capnp_dynamic.specs.Owners.{IsElementGot, IsElementOf, IsGotOf, IsPartOf, IsSameStruct, IsSizedOf, IsStartedOf, IsStartedStruct, IsStructOf, by_kind}
use Rattle.capnp_dynamic.specs.Taken.{is_struct_type}
use Rattle.capnp_dynamic.specs.declared.dynamic_list.build.Builder.{Builder as ListHandle}
use Rattle.capnp_dynamic.specs.declared.dynamic_struct.build.Builder.{Builder as StructHandle}
use Rattle.capnp_dynamic.specs.declared.dynamic_value.build.Builder.{Builder as BuiltValue}
use Rattle.capnp_dynamic.specs.declared.dynamic_value.build.Builder.TheVariants as built_value
use Rattle.capnp_dynamic.proofs.Builders.{moved}

of_group : (group pointer : Bool) (G P : Type 0) → group ≡ true → G → by_kind group pointer G P
of_group group pointer G P e h = subst (λ (q : Bool). by_kind q pointer G P) (sym e) h

of_pointer : (group pointer : Bool) (G P : Type 0) → group ≡ false → pointer ≡ true → P → by_kind group pointer G P
of_pointer group pointer G P slot e h = subst (λ (q : Bool). by_kind q pointer G P) (sym slot) (subst (λ (q : Bool). by_kind false q G P) (sym e) h)

of_number : (group pointer : Bool) (G P : Type 0) → group ≡ false → pointer ≡ false → by_kind group pointer G P
of_number group pointer G P slot e = subst (λ (q : Bool). by_kind q pointer G P) (sym slot) (subst (λ (q : Bool). by_kind false q G P) (sym e) tt)

module _ (owner : MutBor Arena) (p : Place) (f : Field) where
  pub got_group : (g : StructHandle) → IsGroupAt f (built_schema g) → struct_behind g ≡ owner → place_of g ≡ p → IsGotOf owner p f (built_value.Struct g)
  got_group g at behind place = of_group (is_group_field (typed_of f).field.kind) (is_pointer (typed_of f).type) _ _ at.is_group (behind, place)

  pub got_pointed : (v : BuiltValue) → IsSlot f → IsPointerField f →
      IsPartOf owner p (pointer_index f) (with_pointer_tree (built_at owner.now p) (pointer_index f) (filled_in f (built_at owner.now p))) v → IsGotOf owner p f v
  got_pointed v slot pointer h = of_pointer (is_group_field (typed_of f).field.kind) (is_pointer (typed_of f).type) _ _ slot pointer h

  pub got_number : (v : BuiltValue) → IsSlot f → is_pointer (typed_of f).type ≡ false → IsGotOf owner p f v
  got_number v slot number = of_number (is_group_field (typed_of f).field.kind) (is_pointer (typed_of f).type) _ _ slot number

  pub started_group : (g : StructHandle) → IsGroupAt f (built_schema g) → (struct_behind g).ghost_name ≡ owner.ghost_name → place_of g ≡ p → ChangesIn p owner.now (struct_behind g).now →
      IsStartedOf owner p f (built_value.Struct g)
  started_group g at same place changes = of_group (is_group_field (typed_of f).field.kind) (is_pointer (typed_of f).type) _ _ at.is_group (same, place, changes)

  pub started_pointer : (v : BuiltValue) → IsSlot f → IsPointerField f → IsPartOf owner p (pointer_index f) (slot_with f (init_content f) (built_at owner.now p)) v → IsStartedOf owner p f v
  started_pointer v slot pointer h = of_pointer (is_group_field (typed_of f).field.kind) (is_pointer (typed_of f).type) _ _ slot pointer h

  pub started_slot : (r : Result BuiltValue Error) → IsSlot f → IfOk r (λ _. IsPointerField f) → IfOk r (IsPartOf owner p (pointer_index f) (slot_with f (init_content f) (built_at owner.now p))) →
      IfOk r (IsStartedOf owner p f)
  started_slot (Ok v) slot pointer h = started_pointer v slot pointer h
  started_slot (Err e) slot pointer h = tt

-- ---- fields of one name ----

module _ (s : StructSchema) (o : Option ℕ) (f g : Field) (a : IsFound s o (Some f)) (b : IsFound s o (Some g)) (owner : MutBor Arena) (p : Place) (v : BuiltValue) where
  pub same_got : IsGotOf owner p f v → IsGotOf owner p g v
  same_got h =
      moved
      (λ (z : StructSchema) (i : ℕ). let o : ℕ = offset_of (struct_field z i).field.kind in
      by_kind (is_group_field (struct_field z i).field.kind) (is_pointer (struct_field z i).type) (IsSameStruct owner p v)
      (IsPartOf owner p o
      (with_pointer_tree (built_at owner.now p) o (filled_tree (set_of z) (default_of (struct_field z i).field) (struct_field z i).type (nth_tree (built_at owner.now p).pointers o))) v))
      s o f g a b h

  pub same_started : IsStartedOf owner p f v → IsStartedOf owner p g v
  same_started h =
      moved
      (λ (z : StructSchema) (i : ℕ). by_kind (is_group_field (struct_field z i).field.kind) (is_pointer (struct_field z i).type) (IsStartedStruct owner p v)
      (IsPartOf owner p (offset_of (struct_field z i).field.kind) (slot_written (set_of z) (number_of z) (struct_field z i) (At (init_tree (set_of z) (struct_field z i).type)) (built_at owner.now p)) v))
      s o f g a b h

  pub same_sized : (n : ℕ) → IsSizedOf owner p f n v → IsSizedOf owner p g n v
  same_sized n h =
      moved
      (λ (z : StructSchema) (i : ℕ). IsPartOf owner p (offset_of (struct_field z i).field.kind)
      (slot_written (set_of z) (number_of z) (struct_field z i) (At (initn_tree (set_of z) (struct_field z i).type n)) (built_at owner.now p)) v)
      s o f g a b h

-- ---- elements ----

no_struct_number : (w : TypeVariant) → ((s : RawBrandedStructSchema) → w ≡ variant.Struct s → ⊥) → is_struct_type (seen_variant w) ≡ false
no_struct_number (variant.Struct s) n = absurd (n s refl)
no_struct_number w n = refl

no_struct_behind : (t : SchemaType) → is_behind t ≡ true → is_struct_type t ≡ false
no_struct_behind (StructType b g) h = absurd (true≢false (sym h))
no_struct_behind t h = refl

module _ (l : ListHandle) (j : ℕ) (v : BuiltValue) where
  pub struct_got : (b g : ℕ) → StructType b g ≡ built_element l → IsStructOf (list_behind l) (word_of l) j v → IsElementGot l j v
  struct_got b g e h = of_group (is_struct_type (built_element l)) (is_behind (built_element l)) _ _ (sym (ap is_struct_type e)) h

  pub pointer_got : is_behind (built_element l) ≡ true →
      IsElementOf (list_behind l) (word_of l) j (with_pointer_element j (element_filled (built_set l) (built_element l) (element_pointer (built_elements l) j 1)) (built_elements l)) v → IsElementGot l j v
  pointer_got behind h = of_pointer (is_struct_type (built_element l)) (is_behind (built_element l)) _ _ (no_struct_behind (built_element l) behind) behind h

  pub number_got : (w : TypeVariant) → seen_variant w ≡ built_element l → ((s : RawBrandedStructSchema) → w ≡ variant.Struct s → ⊥) → is_behind (seen_variant w) ≡ false → IsElementGot l j v
  number_got w same n h =
      of_number (is_struct_type (built_element l)) (is_behind (built_element l)) _ _
      (subst (λ (t : SchemaType). is_struct_type t ≡ false) same (no_struct_number w n)) (subst (λ (t : SchemaType). is_behind t ≡ false) same h)
