-- The parts that are shown of a value that was read are those of the part that it is seen as.
use Rattle.std.proofs.Common.{ℕ, zero, suc, ◌+◌, ◌*◌, ◌<◌, ◌≤◌, ◌≡◌, ◌∙◌, refl, List, length, ap, arith, subst, sym}
use Rattle.capnp_schema.specs.Enums.{enum_set}
use Rattle.capnp_schema.specs.Schema.{Schemas, VoidValue, node_of}
use Rattle.capnp_schema.specs.StructHandles.{number_of, set_of}
use Rattle.capnp_records.specs.Text.{print_levels}
use Rattle.capnp_dynamic_readers.specs.Handles.{enum_of, schema_of}
use Rattle.capnp_dynamic_readers.specs.Seen.{record_seen, value_seen}
use Rattle.capnp_dynamic_readers.specs.Shown.{no_schemas, set_seen, type_seen}
use Rattle.capnp_dynamic_readers.specs.Typed.{IsOf, struct_type}
use Rattle.capnp_dynamic_readers.specs.declared.dynamic_value.Reader.{Reader as DynamicValue}
use Rattle.capnp_dynamic_readers.specs.declared.dynamic_value.Reader.TheVariants as dynamic
use Rattle.capnp_check.specs.Faults.{AreAllPlaces, ShownPart, ShowsAtMost, ShowsMoreThan, most_steps, parts_from, parts_within, refused_parts, shown_within}
use Rattle.capnp_check.specs.Places.{NoParts, TextParts, part_parts, root_parts}
use Rattle.capnp_check.specs.declared.place.RefusedPlace.{RefusedPlace}
use Rattle.capnp_show_engine.specs.Show.{struct_or_group}
use Rattle.capnp_patch.specs.Gets.{value_part_seen}
use Rattle.capnp_patch.specs.Places.{AreRefusedParts, parts_shown, shown_parts}
use Rattle.capnp_patch.proofs.PlacesSeen.{printed_is}

whole_alike : (set other : Schemas) (n : ℕ) → parts_within set n NoParts ≡ parts_within other n NoParts
unfolding parts_within parts_from
whole_alike set other zero = refl
whole_alike set other (suc n) = refl

fewer_steps : (brands n : ℕ) → 65 * (brands + 4) ≤ n → 65 * (0 + 4) ≤ n
fewer_steps brands n le = omega (arith, le)

-- as many steps are enough, and lead to the same
abbrev AreAlike : Schemas → ℕ → DynamicValue → Type 0
AreAlike set n v = (most_steps (set_seen v) ≤ n) × (shown_within n v ≡ parts_shown set n (value_part_seen v))

leaf_alike : (set : Schemas) (n : ℕ) → most_steps set ≤ n → (most_steps no_schemas ≤ n) × (parts_within no_schemas n NoParts ≡ parts_within set n NoParts)
leaf_alike set n le = (fewer_steps (length set.brands) n le, whole_alike no_schemas set n)

pub parts_alike : (set : Schemas) (v : DynamicValue) (n : ℕ) → IsOf set (type_seen v) v → most_steps set ≤ n → AreAlike set n v
parts_alike set (dynamic.Struct s) n is le = (
  subst (λ (y : Schemas). most_steps y ≤ n) (sym is.1) le,
  ap (λ (z : TextParts). parts_within (set_of (schema_of s)) n z) parts ∙ ap (λ (y : Schemas). parts_within y n (shown_parts set (value_part_seen (dynamic.Struct s)))) is.1,
)
  where
    parts : root_parts (dynamic.Struct s) ≡ shown_parts set (value_part_seen (dynamic.Struct s))
    parts =
        ap (part_parts (set_of (schema_of s)) print_levels VoidValue (struct_type (schema_of s))) (printed_is (node_of (set_of (schema_of s)) (number_of (schema_of s))).is_group s)
        ∙ ap (λ (y : Schemas). part_parts y print_levels VoidValue (struct_type (schema_of s)) (struct_or_group (node_of y (number_of (schema_of s))).is_group (record_seen s))) is.1
parts_alike set (dynamic.List l) n is le = (
  subst (λ (y : Schemas). most_steps y ≤ n) (sym is.0) le,
  ap (λ (y : Schemas). parts_within y n (part_parts y print_levels VoidValue (type_seen (dynamic.List l)) (value_seen (dynamic.List l)))) is.0,
)
parts_alike set (dynamic.Enum e) n is le = (subst (λ (y : Schemas). most_steps y ≤ n) (sym is.1) le, whole_alike (enum_set (enum_of e)) set n)
parts_alike set dynamic.Void n is le = leaf_alike set n le
parts_alike set (dynamic.Bool b) n is le = leaf_alike set n le
parts_alike set (dynamic.Int8 x) n is le = leaf_alike set n le
parts_alike set (dynamic.Int16 x) n is le = leaf_alike set n le
parts_alike set (dynamic.Int32 x) n is le = leaf_alike set n le
parts_alike set (dynamic.Int64 x) n is le = leaf_alike set n le
parts_alike set (dynamic.UInt8 x) n is le = leaf_alike set n le
parts_alike set (dynamic.UInt16 x) n is le = leaf_alike set n le
parts_alike set (dynamic.UInt32 x) n is le = leaf_alike set n le
parts_alike set (dynamic.UInt64 x) n is le = leaf_alike set n le
parts_alike set (dynamic.Text t) n is le = leaf_alike set n le
parts_alike set (dynamic.«Data» bytes) n is le = leaf_alike set n le
parts_alike set (dynamic.AnyPointer r) n is le = leaf_alike set n le

pub all_alike : (set : Schemas) (v : DynamicValue) (places : List RefusedPlace) → IsOf set (type_seen v) v → AreAllPlaces v places → AreRefusedParts set (value_part_seen v) places
all_alike set v places is all = λ n le. (let alike = parts_alike set v n is le in all n alike.0 ∙ ap refused_parts alike.1)

pub more_alike : (set : Schemas) (v : DynamicValue) (limit : ℕ) → IsOf set (type_seen v) v → ShowsMoreThan limit v → (n : ℕ) → most_steps set ≤ n → limit < length (parts_shown set n (value_part_seen v))
more_alike set v limit is more = λ n le. (let alike = parts_alike set v n is le in subst (λ (xs : List ShownPart). limit < length xs) alike.1 (more n alike.0))

pub few_alike : (set : Schemas) (v : DynamicValue) (limit : ℕ) → IsOf set (type_seen v) v → ShowsAtMost limit v → (n : ℕ) → most_steps set ≤ n → length (parts_shown set n (value_part_seen v)) ≤ limit
few_alike set v limit is few = λ n le. (let alike = parts_alike set v n is le in subst (λ (xs : List ShownPart). length xs ≤ limit) alike.1 (few n alike.0))
