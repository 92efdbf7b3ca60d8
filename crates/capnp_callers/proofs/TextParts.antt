-- A part that is no text is of a field of another kind.
use Rattle.std.proofs.Common.{◌≡◌, ◌⊎◌, refl, Bool, true, false, not, ◌&&◌, Some, Result, Ok, Err, IfErr, ap, inr, sym}
use Rattle.capnp_device.specs.declared.error.Error.{Error}
use Rattle.capnp_device.specs.declared.error.ErrorKind.TheVariants.{TypeMismatch}
use Rattle.capnp_wire.specs.Tree.{StructTree, Tree}
use Rattle.capnp_schema.specs.FieldLists.{typed_of}
use Rattle.capnp_schema.specs.Schema.{Schemas}
use Rattle.capnp_schema.specs.Types.{SchemaType, TextType, is_pointer, struct_brand}
use Rattle.capnp_schema.specs.declared.schema.fields.Field.{Field}
use Rattle.capnp_records.specs.Step.{is_group_field}
use Rattle.capnp_slots.specs.Fields.{field_set}
use Rattle.capnp_dynamic.specs.Handed.{HandsField, HandsOut, field_filled, part_handed}
use Rattle.capnp_dynamic.specs.declared.dynamic_value.build.Builder.{Builder as BuiltValue}
use Rattle.capnp_dynamic.specs.declared.dynamic_value.build.Builder.TheVariants as built
use Rattle.capnp_callers.specs.Values.{hands_text, is_text_type}
use Rattle.capnp_callers.specs.Steps.Values.{IsNoText}

-- a value of another kind is a mismatch
pub mismatched : {A : Type 0} (N : Type 0) (q : Bool) → (N → q ≡ false) → (As : Error → Type 0) (Within : Type 0) (r : Result A Error) → Within → IfErr r (λ e. (e.kind ≡ TypeMismatch) × N) →
    IfErr r (λ e. As e ⊎ ((e.kind ≡ TypeMismatch) × (q ≡ false) × Within))
mismatched N q other As Within (Ok a) within h = tt
mismatched N q other As Within (Err e) within h = inr (h.0, other h.1, within)

number_no_text : (t : SchemaType) → is_pointer t ≡ false → is_text_type t ≡ false
number_no_text TextType e = e
number_no_text t e = refl

struct_no_text : (t : SchemaType) {b : _} → struct_brand t ≡ Some b → is_text_type t ≡ false
struct_no_text TextType e = absurd cc
struct_no_text t e = refl

no_text_out : (set : Schemas) (t : SchemaType) (x : Tree) (v : BuiltValue) → HandsOut false set t x v → IsNoText v → is_text_type t ≡ false
no_text_out set t x (built.Text b) h n = absurd n
no_text_out set t x (built.«Data» bytes) h n = sym (ap is_text_type h.0)
no_text_out set t x (built.Struct s) h n = struct_no_text t h.0
no_text_out set t x (built.List l) h n = sym (ap is_text_type h.0)
no_text_out set t x (built.AnyPointer p) h n = sym (ap is_text_type h.0)
no_text_out set t x v h n = absurd h

pub no_text : (f : Field) (s : StructTree) (v : BuiltValue) → HandsField f s v → IsNoText v → hands_text (typed_of f) ≡ false
no_text f s v = go (is_group_field (typed_of f).field.kind) (is_pointer (typed_of f).type) refl
  where
    go : (q p : Bool) → is_pointer (typed_of f).type ≡ p → part_handed q p (field_set f) (typed_of f) s v → IsNoText v → (not q && is_text_type (typed_of f).type) ≡ false
    go true p e h n = refl
    go false true e h n = no_text_out (field_set f) (typed_of f).type (field_filled (field_set f) (typed_of f) s) v h n
    go false false e h n = number_no_text (typed_of f).type e
