-- The place of a refusal in a value that was read is that in the part that it is seen as.
use Rattle.std.proofs.Common.{List, [], ◌∷◌, ◌≡◌, ◌∙◌, Bool, true, false, ap, refl, string_bytes, subst}
use Rattle.capnp_device.specs.declared.error.ErrorKind.{ErrorKind}
use Rattle.capnp_schema.specs.Schema.{Schemas, VoidValue, node_of}
use Rattle.capnp_schema.specs.StructHandles.{number_of, set_of}
use Rattle.capnp_records.specs.Text.{print_levels}
use Rattle.capnp_dynamic_readers.specs.Handles.{schema_of}
use Rattle.capnp_dynamic_readers.specs.Seen.{record_seen, value_seen}
use Rattle.capnp_dynamic_readers.specs.Shown.{set_seen, struct_printed, type_seen}
use Rattle.capnp_dynamic_readers.specs.Typed.{IsOf, struct_type}
use Rattle.capnp_dynamic_readers.specs.declared.dynamic_struct.Reader.{Reader as StructHandle}
use Rattle.capnp_dynamic_readers.specs.declared.dynamic_value.Reader.{Reader as DynamicValue}
use Rattle.capnp_dynamic_readers.specs.declared.dynamic_value.Reader.TheVariants as dynamic
use Rattle.capnp_check.specs.Places.{IsPathTo, IsPlace, NoParts, RefusedAs, TextParts, part_parts, place_words, root_parts}
use Rattle.capnp_check.specs.declared.place.PlaceStep.{PlaceStep}
use Rattle.capnp_check.specs.declared.place.RefusedPlace.{RefusedPlace}
use Rattle.capnp_show_engine.specs.Show.{struct_or_group}
use Rattle.capnp_patch.specs.Gets.{value_part_seen}
use Rattle.capnp_patch.specs.Places.{IsRefusedPart, shown_parts}

-- what has no parts is not refused
no_place : (set : Schemas) (steps : List PlaceStep) (kind : ErrorKind) → IsPathTo set steps NoParts (RefusedAs kind) → ⊥
unfolding IsPathTo
no_place set [] kind h = none h
  where
    none : NoParts ≡ RefusedAs kind → ⊥
    none e = cc
no_place set (s ∷ steps) kind h = h.0

same_place : (set set' : Schemas) (parts parts' : TextParts) (x : RefusedPlace) → set ≡ set' → parts ≡ parts' → IsPathTo set x.path.items parts (RefusedAs x.kind) →
    string_bytes x.words ≡ place_words set parts x.path.items → IsPathTo set' x.path.items parts' (RefusedAs x.kind) × (string_bytes x.words ≡ place_words set' parts' x.path.items)
same_place set set' parts parts' x e f steps words = (
  subst (λ (z : TextParts). IsPathTo set' x.path.items z (RefusedAs x.kind)) f (subst (λ (y : Schemas). IsPathTo y x.path.items parts (RefusedAs x.kind)) e steps),
  words ∙ (ap (λ (y : Schemas). place_words y parts x.path.items) e ∙ ap (λ (z : TextParts). place_words set' z x.path.items) f),
)

pub printed_is : (q : Bool) (h : StructHandle) → struct_printed q h ≡ struct_or_group q (record_seen h)
printed_is true h = refl
printed_is false h = refl

pub part_place : (set : Schemas) (v : DynamicValue) (x : RefusedPlace) → IsOf set (type_seen v) v → IsPlace v x → IsRefusedPart set (value_part_seen v) x
part_place set (dynamic.Struct s) x is h =
    let parts : root_parts (dynamic.Struct s) ≡ shown_parts set (value_part_seen (dynamic.Struct s)) =
    ap (part_parts (set_of (schema_of s)) print_levels VoidValue (struct_type (schema_of s))) (printed_is (node_of (set_of (schema_of s)) (number_of (schema_of s))).is_group s)
    ∙ ap (λ (y : Schemas). part_parts y print_levels VoidValue (struct_type (schema_of s)) (struct_or_group (node_of y (number_of (schema_of s))).is_group (record_seen s))) is.1 in
    let p = same_place (set_seen (dynamic.Struct s)) set (root_parts (dynamic.Struct s)) (shown_parts set (value_part_seen (dynamic.Struct s))) x is.1 parts h.steps h.words in
    record { steps = p.0; words = p.1 }
part_place set (dynamic.List l) x is h =
    let parts : root_parts (dynamic.List l) ≡ shown_parts set (value_part_seen (dynamic.List l)) =
    ap (λ (y : Schemas). part_parts y print_levels VoidValue (type_seen (dynamic.List l)) (value_seen (dynamic.List l))) is.0 in
    let p = same_place (set_seen (dynamic.List l)) set (root_parts (dynamic.List l)) (shown_parts set (value_part_seen (dynamic.List l))) x is.0 parts h.steps h.words in
    record { steps = p.0; words = p.1 }
part_place set dynamic.Void x is h = absurd (no_place (set_seen dynamic.Void) x.path.items x.kind h.steps)
part_place set (dynamic.Bool b) x is h = absurd (no_place (set_seen (dynamic.Bool b)) x.path.items x.kind h.steps)
part_place set (dynamic.Int8 n) x is h = absurd (no_place (set_seen (dynamic.Int8 n)) x.path.items x.kind h.steps)
part_place set (dynamic.Int16 n) x is h = absurd (no_place (set_seen (dynamic.Int16 n)) x.path.items x.kind h.steps)
part_place set (dynamic.Int32 n) x is h = absurd (no_place (set_seen (dynamic.Int32 n)) x.path.items x.kind h.steps)
part_place set (dynamic.Int64 n) x is h = absurd (no_place (set_seen (dynamic.Int64 n)) x.path.items x.kind h.steps)
part_place set (dynamic.UInt8 n) x is h = absurd (no_place (set_seen (dynamic.UInt8 n)) x.path.items x.kind h.steps)
part_place set (dynamic.UInt16 n) x is h = absurd (no_place (set_seen (dynamic.UInt16 n)) x.path.items x.kind h.steps)
part_place set (dynamic.UInt32 n) x is h = absurd (no_place (set_seen (dynamic.UInt32 n)) x.path.items x.kind h.steps)
part_place set (dynamic.UInt64 n) x is h = absurd (no_place (set_seen (dynamic.UInt64 n)) x.path.items x.kind h.steps)
part_place set (dynamic.Enum e) x is h = absurd (no_place (set_seen (dynamic.Enum e)) x.path.items x.kind h.steps)
part_place set (dynamic.Text t) x is h = absurd (no_place (set_seen (dynamic.Text t)) x.path.items x.kind h.steps)
part_place set (dynamic.«Data» bytes) x is h = absurd (no_place (set_seen (dynamic.«Data» bytes)) x.path.items x.kind h.steps)
part_place set (dynamic.AnyPointer r) x is h = absurd (no_place (set_seen (dynamic.AnyPointer r)) x.path.items x.kind h.steps)
