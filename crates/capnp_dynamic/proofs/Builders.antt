-- What a write keeps of a struct that is built, and fields of one name.
use Rattle.std.proofs.Common.{ℕ, suc, ◌*◌, ◌≤◌, ◌≡◌, refl, Bool, true, false, length, Option, Some, None, ap, sym, subst, ◌∙◌}
use Rattle.capnp_wire.specs.Tree.{StructTree}
use Rattle.capnp_schema.specs.FieldLists.{IsFound, index_of, field_schema as field_schema, typed_of}
use Rattle.capnp_schema.specs.Footprint.{Spot}
use Rattle.capnp_schema.specs.Schema.{Schemas, default_of}
use Rattle.capnp_schema.specs.StructHandles.{number_of, set_of, struct_field, struct_node}
use Rattle.capnp_schema.specs.declared.schema.fields.Field.{Field}
use Rattle.capnp_schema.specs.declared.schema.structs.StructSchema.{StructSchema}
use Rattle.capnp_records.specs.Step.{is_group_field}
use Rattle.capnp_records.specs.Writes.Overlay.{cleared_content, field_spots, switched_struct}
use Rattle.capnp_records.specs.Writes.Slots.{Fits}
use Rattle.capnp_schema.specs.Plan.{brand_size}
use Rattle.capnp_records.specs.Writes.TreeEnds.{group_cleared, slot_written}
use Rattle.capnp_slots.specs.Fields.{IsRoomFor, Keeps, field_brand}
use Rattle.capnp_slots.specs.FieldWrites.{IsFieldSet, KindIsSet, SlotIsSet, cleared_field_kind, field_cleared}
use Rattle.capnp_slots.specs.GroupSets.{IsGroupSet, given_to_group}
use Rattle.capnp_slots.specs.Primitives.{given_content, given_to}
use Rattle.capnp_slots.specs.Sources.{IsSet, IsSetRefusal, IsTaken}
use Rattle.capnp_slots.specs.Standing.{IsUnder}
use Rattle.capnp_device.specs.declared.error.ErrorKind.{ErrorKind}
use Rattle.capnp_records.specs.Call.{Source}
use Rattle.capnp_records.specs.Given.{Given, Gives, Copies, CopiesGroup, Fails, given_group, given_slot}
use Rattle.capnp_records.specs.Writes.TreeCopy.{TreeCopiesWithin}
use Rattle.capnp_dynamic_readers.specs.Reads.{BelongsTo}

-- a struct of a schema is room for the schema's fields
pub room_for : (f : Field) (schema : StructSchema) (s : StructTree) → BelongsTo f schema → IsUnder schema s → IsRoomFor f s
room_for f schema s belongs under =
    subst (λ (z : Schemas). Fits z (field_brand f) s) (sym belongs.set) (subst (λ b. Fits (set_of schema) b s) (sym belongs.number) under)

-- what a write keeps, the schema keeps
pub under_kept : (schema : StructSchema) (inside : Spot → Bool) (s s' : StructTree) → IsUnder schema s → Keeps inside s s' → IsUnder schema s'
under_kept schema inside s s' under kept = (
  subst (λ n. 8 * (brand_size (set_of schema) (number_of schema)).data_words ≤ n) (sym kept.writes.data_size) under.0,
  subst (λ n. (brand_size (set_of schema) (number_of schema)).pointers ≤ n) (sym kept.writes.pointer_count) under.1,
)

-- ---- fields of one name ----

-- what is said of a field by its schema and its index alone is said of each of that name
pub same_field : {A : Type 0} (what : StructSchema → ℕ → A) (s : StructSchema) (o : Option ℕ) (f g : Field) → IsFound s o (Some f) → IsFound s o (Some g) →
    what (field_schema f) (index_of f) ≡ what (field_schema g) (index_of g)
same_field what s None f g a b = absurd a
same_field what s (Some i) f g a b =
    ap (λ (z : StructSchema). what z (index_of f)) (a.schema ∙ sym b.schema) ∙ ap (what (field_schema g)) (a.index ∙ sym b.index)

pub moved : (what : StructSchema → ℕ → Type 0) (s : StructSchema) (o : Option ℕ) (f g : Field) → IsFound s o (Some f) → IsFound s o (Some g) →
    what (field_schema f) (index_of f) → what (field_schema g) (index_of g)
moved what s None f g a b h = absurd a
moved what s (Some i) f g a b h = subst (λ (z : StructSchema). what z (index_of g)) (a.schema ∙ sym b.schema) (subst (what (field_schema f)) (a.index ∙ sym b.index) h)

-- no field is of a name that none has
pub not_named : (s : StructSchema) (o : Option ℕ) (f : Field) → o ≡ None → IsFound s o (Some f) → ⊥
not_named s None f e a = a
not_named s (Some i) f e a = cc

abbrev cleared_at : Bool → StructSchema → ℕ → StructTree → StructTree
cleared_at true s i x = group_cleared (set_of s) (number_of s) (struct_field s i) x
cleared_at false s i x = slot_written (set_of s) (number_of s) (struct_field s i) (cleared_content (struct_field s i).type) x

cleared_is : (q : Bool) (f : Field) (x : StructTree) → cleared_field_kind q f x ≡ cleared_at q (field_schema f) (index_of f) x
cleared_is true f x = refl
cleared_is false f x = refl

pub same_cleared : (s : StructSchema) (o : Option ℕ) (f g : Field) → IsFound s o (Some f) → IsFound s o (Some g) → (x : StructTree) → field_cleared f x ≡ field_cleared g x
same_cleared s o f g a b x =
    cleared_is (is_group_field (typed_of f).field.kind) f x
    ∙ (same_field (λ (z : StructSchema) i. cleared_at (is_group_field (struct_field z i).field.kind) z i x) s o f g a b
    ∙ sym (cleared_is (is_group_field (typed_of g).field.kind) g x))

-- a set of one of them is a set of each
pub same_set : (s : StructSchema) (o : Option ℕ) (f g : Field) → IsFound s o (Some f) → IsFound s o (Some g) → (x : Source) (old new : StructTree) → IsSet f x old new → IsSet g x old new
same_set s o f g a b x old new h = record {
  taken = subst IsTaken (same_field (λ (z : StructSchema) i. given_slot (set_of z) (struct_field z i).type x) s o f g a b) h.taken;
  written = h.written ∙ same_field (λ (z : StructSchema) i. slot_written (set_of z) (number_of z) (struct_field z i)
      (given_content (default_of (struct_field z i).field) (struct_field z i).type x (given_slot (set_of z) (struct_field z i).type x)) old) s o f g a b;
  kept = subst (λ (inside : Spot → Bool). Keeps inside old new) (same_field (λ (z : StructSchema) i. field_spots (set_of z) (number_of z) (struct_field z i)) s o f g a b) h.kept;
}

pub same_given : (s : StructSchema) (o : Option ℕ) (f g : Field) → IsFound s o (Some f) → IsFound s o (Some g) → (x : Source) → given_to f x ≡ given_to g x
same_given s o f g a b x = same_field (λ (z : StructSchema) i. given_slot (set_of z) (struct_field z i).type x) s o f g a b

pub same_refusal : (s : StructSchema) (o : Option ℕ) (f g : Field) → IsFound s o (Some f) → IsFound s o (Some g) → (x : Source) (k : ErrorKind) → IsSetRefusal (given_to f x) k → IsSetRefusal (given_to g x) k
same_refusal s o f g a b x k h = subst (λ (q : Given). IsSetRefusal q k) (same_given s o f g a b x) h

-- a set of one of several fields of one name is a set of each
module _ (s : StructSchema) (o : Option ℕ) (f g : Field) (a : IsFound s o (Some f)) (b : IsFound s o (Some g)) where
  group_moved : (given : Given) (old : StructTree) (refused : Option ErrorKind) (new : StructTree) → IsGroupSet f given old refused new → IsGroupSet g given old refused new
  group_moved (Gives v) old refused new h = absurd h
  group_moved (Copies source past v) old refused new h = absurd h
  group_moved (CopiesGroup l x n) old refused new h =
      moved (λ (z : StructSchema) (i : ℕ). TreeCopiesWithin (suc (length (set_of z).brands)) (set_of z) l x n (switched_struct (struct_node z) (struct_field z i).field old) refused new) s o f g a b h
  group_moved (Fails kind) old refused new h = h

  slot_moved : (x : Source) (old : StructTree) (refused : Option ErrorKind) (new : StructTree) → SlotIsSet f x old refused new → SlotIsSet g x old refused new
  slot_moved x old None new h = same_set s o f g a b x old new h
  slot_moved x old (Some kind) new h = (same_refusal s o f g a b x kind h.0, h.1)

  kind_moved : (q : Bool) (x : Source) (old : StructTree) (refused : Option ErrorKind) (new : StructTree) → KindIsSet q f x old refused new → KindIsSet q g x old refused new
  kind_moved true x old refused new h =
      subst (λ (given : Given). IsGroupSet g given old refused new) (same_field (λ (z : StructSchema) i. given_group (struct_field z i).type x) s o f g a b) (group_moved (given_to_group f x) old refused new h)
  kind_moved false x old refused new h = slot_moved x old refused new h

  pub same_field_set : (x : Source) (old : StructTree) (refused : Option ErrorKind) (new : StructTree) → IsFieldSet f x old refused new → IsFieldSet g x old refused new
  same_field_set x old refused new h =
      subst (λ (q : Bool). KindIsSet q g x old refused new) (same_field (λ (z : StructSchema) i. is_group_field (struct_field z i).field.kind) s o f g a b)
      (kind_moved (is_group_field (typed_of f).field.kind) x old refused new h)

  pub same_slot : is_group_field (typed_of g).field.kind ≡ false → is_group_field (typed_of f).field.kind ≡ false
  same_slot e = same_field (λ (z : StructSchema) i. is_group_field (struct_field z i).field.kind) s o f g a b ∙ e
