-- How many steps can lead on from a value that stands alone.
use Rattle.std.proofs.Common.{ℕ, zero, suc, ◌+◌, ◌*◌, ◌≤◌, ◌≡◌, length, ap, sym, subst, arith, ◌∙◌}
use Rattle.std.proofs.Math.Nat.{suc-mul}
use Rattle.capnp_schema.specs.Laws.{group_height}
use Rattle.capnp_schema.specs.Schema.{Schemas, VoidValue, Value as SchemaValue}
use Rattle.capnp_schema.specs.StructHandles.{number_of}
use Rattle.capnp_schema.specs.Types.{SchemaType}
use Rattle.capnp_records.specs.Default.{read_of}
use Rattle.capnp_records.specs.Record as value
use Rattle.capnp_records.specs.Record.{Value}
use Rattle.capnp_dynamic_readers.specs.Handles.{schema_of}
use Rattle.capnp_dynamic_readers.specs.Shown.{set_seen, type_seen, value_printed}
use Rattle.capnp_dynamic_readers.specs.declared.dynamic_value.Reader.{Reader as DynamicValue}
use Rattle.capnp_check.specs.Faults.{most_steps}
use Rattle.capnp_check.specs.Places.{ElementParts, RecordParts, TextParts, part_parts, root_parts, value_parts}
use Rattle.capnp_check.specs.Steps.PlaceSteps.{level_steps, parts_seen, steps_below}
use Rattle.capnp_check.specs.declared.parts_below.OpenValue.{OpenValue}
use Rattle.capnp_check.specs.declared.parts_below.OpenValue.TheVariants as opened
use Rattle.capnp_check.proofs.OpenValues.{height_most}

-- the levels of the parts
abbrev level_of : TextParts → ℕ
level_of (RecordParts left b r) = left
level_of (ElementParts left t vs) = left
level_of parts = 0

value_level : (n : ℕ) (t : SchemaType) (v : Value) → level_of (value_parts n t v) ≤ n
value_level zero t (value.Struct r) = omega arith
value_level (suc n) t (value.Struct r) = omega arith
value_level zero t (value.Elements vs) = omega arith
value_level (suc n) t (value.Elements vs) = omega arith
value_level n t (value.Fault kind) = omega arith
value_level n t v = omega arith

part_level : (set : Schemas) (n : ℕ) (d : SchemaValue) (t : SchemaType) (v : Value) → level_of (part_parts set n d t v) ≤ n
part_level set n d t (value.Group r) = omega arith
part_level set n d t v = value_level n t (read_of set d t v)

levels_grow : (set : Schemas) (m n : ℕ) → m ≤ n → level_steps set m ≤ level_steps set n
levels_grow set zero n le = omega arith
levels_grow set (suc m) zero le = absurd (omega (arith, le))
levels_grow set (suc m) (suc n) le = (let more = levels_grow set m n (omega (arith, le)) in omega (arith, more))

levels_are : (set : Schemas) (n : ℕ) → level_steps set n ≡ n * (length set.brands + 4)
levels_are set zero = none_times (length set.brands + 4)
  where
    none_times : (m : ℕ) → 0 ≡ 0 * m
    none_times m = omega arith
levels_are set (suc n) = ap (λ (m : ℕ). m + (length set.brands + 4)) (levels_are set n) ∙ sym (suc-mul n (length set.brands + 4))

enough : (at all brands height : ℕ) → at ≤ all → all ≡ 64 * (brands + 4) → height ≤ suc brands → suc (at + height) ≤ 65 * (brands + 4)
enough at all brands height le is high = omega (arith, le, is, high)

few : (set : Schemas) (o : OpenValue) → level_of (parts_seen o) ≤ 64 → steps_below set o ≤ most_steps set
few set opened.Whole le = omega arith
few set (opened.Refused kind) le = omega arith
few set (opened.Struct s left) le = enough (level_steps set left) (level_steps set 64) (length set.brands) (group_height set (number_of (schema_of s))) (levels_grow set left 64 le) (levels_are set 64) (height_most set (number_of (schema_of s)))
few set (opened.List l left) le = (let most = enough (level_steps set left) (level_steps set 64) (length set.brands) 0 (levels_grow set left 64 le) (levels_are set 64) (omega arith) in omega (arith, most))

pub root_few : (v : DynamicValue) (o : OpenValue) → parts_seen o ≡ root_parts v → steps_below (set_seen v) o ≤ most_steps (set_seen v)
root_few v o e = few (set_seen v) o (subst (λ (z : TextParts). level_of z ≤ 64) (sym e) (part_level (set_seen v) 64 VoidValue (type_seen v) (value_printed v)))
