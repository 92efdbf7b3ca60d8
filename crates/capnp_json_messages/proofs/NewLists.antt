-- New lists, by their values.
use Rattle.std.proofs.Common.{ℕ, ◌≡◌, ◌-◌, ◌^◌, ◌<◌, Bool, true, false, ◌||◌, arith, ap, sym, subst, ◌∙◌}
use Rattle.std.specs.Prelude.{nat_lt}
use Rattle.std.proofs.lemmas.Bool.{ltb-false, true≢false}
use Rattle.capnp_wire.specs.Edits.{zero_struct}
use Rattle.capnp_wire.specs.Facts.Indexed.{nth_struct_start}
use Rattle.capnp_wire.specs.Facts.Lengths.{HasAtLeast_zero_struct}
use Rattle.capnp_wire.specs.Facts.Rows.{struct_count_structs_from}
use Rattle.capnp_wire.specs.Tree.{StructTree}
use Rattle.capnp_schema.specs.Plan.{brand_size}
use Rattle.capnp_schema.specs.Schema.{Schemas}
use Rattle.capnp_schema.specs.StructHandles.{number_of, set_of}
use Rattle.capnp_schema.specs.Types.{AnyPointerType, BoolType, DataType, EnumType, IntType, ListType, SchemaType, StructType, TextType, UIntType, VoidType}
use Rattle.capnp_schema.specs.declared.schema.structs.StructSchema.{StructSchema}
use Rattle.capnp_records.specs.Default.{default_record}
use Rattle.capnp_records.specs.Facts.Extension.{reads_zero_struct}
use Rattle.capnp_records.specs.Facts.ListValues.{count_values_from, nth_values_from}
use Rattle.capnp_records.specs.Facts.NewTrees.{initn_value}
use Rattle.capnp_records.specs.Operation.{elements_past, new_element}
use Rattle.capnp_records.specs.Part.{nth_value, value_count}
use Rattle.capnp_records.specs.Reading.{reads}
use Rattle.capnp_records.specs.Record.{Endless, values_from}
use Rattle.capnp_records.specs.Writes.Contents.{new_list}
use Rattle.capnp_records.specs.Writes.Slots.{Fits}
use Rattle.capnp_records.specs.Writes.Stand.{ListSound}
use Rattle.capnp_slots.specs.Standing.{IsUnder}
use Rattle.capnp_json_messages.specs.Put.{IsListOf}
use Rattle.capnp_json_messages.specs.Started.{new_struct}

-- ---- new structs ----

pub new_room : (schema : StructSchema) (s : StructTree) → s ≡ new_struct schema → IsUnder schema s
new_room schema s is = subst (IsUnder schema) (sym is) (HasAtLeast_zero_struct (brand_size (set_of schema) (number_of schema)))

pub new_record : (schema : StructSchema) (s : StructTree) → s ≡ new_struct schema → reads (set_of schema) s (number_of schema) ≡ default_record (set_of schema) Endless (number_of schema)
new_record schema s is = ap (λ (y : StructTree). reads (set_of schema) y (number_of schema)) is ∙ reads_zero_struct (set_of schema) (brand_size (set_of schema) (number_of schema)) (number_of schema)

-- ---- new lists ----

new_sound : (set : Schemas) (e : SchemaType) (n : ℕ) → ListSound set e (new_list set e n)
new_sound set (StructType b g) n = λ i a.
    subst (Fits set b) (sym (nth_struct_start (λ _. zero_struct (brand_size set b)) n i (omega (arith, a, struct_count_structs_from (λ _. zero_struct (brand_size set b)) 0 n)))) (HasAtLeast_zero_struct (brand_size set b))
new_sound set VoidType n = tt
new_sound set BoolType n = tt
new_sound set (IntType k) n = tt
new_sound set (UIntType k) n = tt
new_sound set (EnumType m) n = tt
new_sound set TextType n = tt
new_sound set DataType n = tt
new_sound set (ListType e) n = tt
new_sound set AnyPointerType n = tt

pub new_is_list : (set : Schemas) (e : SchemaType) (n : ℕ) → IsListOf set e (new_list set e n) (values_from (λ _. new_element set e) 0 n)
new_is_list set e n = record { reads_as = initn_value set e n; sound = new_sound set e n }

pub new_count : (set : Schemas) (e : SchemaType) (n : ℕ) → value_count (values_from (λ _. new_element set e) 0 n) ≡ n
new_count set e n = count_values_from (λ _. new_element set e) 0 n

pub new_value : (set : Schemas) (e : SchemaType) (n k : ℕ) → k < n → nth_value (values_from (λ _. new_element set e) 0 n) k ≡ new_element set e
new_value set e n k h = nth_values_from (λ _. new_element set e) 0 n k h

-- a list within the format has less than 2^29 elements
either_false : (x y : Bool) → (x || y) ≡ false → y ≡ false
either_false true y e = absurd (true≢false e)
either_false false y e = e

pub few_within : (set : Schemas) (e : SchemaType) (n : ℕ) → elements_past set e n ≡ false → n < 2 ^ 29
few_within set (StructType b g) n h = let few : nat_lt (2 ^ 29 - 1) n ≡ false = either_false _ _ h in omega (arith, ltb-false (2 ^ 29 - 1) n few)
few_within set VoidType n h = omega (arith, ltb-false (2 ^ 29 - 1) n h)
few_within set BoolType n h = omega (arith, ltb-false (2 ^ 29 - 1) n h)
few_within set (IntType k) n h = omega (arith, ltb-false (2 ^ 29 - 1) n h)
few_within set (UIntType k) n h = omega (arith, ltb-false (2 ^ 29 - 1) n h)
few_within set (EnumType m) n h = omega (arith, ltb-false (2 ^ 29 - 1) n h)
few_within set TextType n h = omega (arith, ltb-false (2 ^ 29 - 1) n h)
few_within set DataType n h = omega (arith, ltb-false (2 ^ 29 - 1) n h)
few_within set (ListType t) n h = omega (arith, ltb-false (2 ^ 29 - 1) n h)
few_within set AnyPointerType n h = omega (arith, ltb-false (2 ^ 29 - 1) n h)
