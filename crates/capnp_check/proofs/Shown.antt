-- A field that a text shows is one that has an item, and its part is the one that its bits and pointer read as.
use Rattle.std.proofs.Common.{ℕ, ◌<◌, ◌≡◌, refl, Bool, true, false, not, ◌&&◌, ◌||◌, ◌==◌, length, arith, ap, sym, ◌∙◌}
use Rattle.std.proofs.lemmas.Bool.Decides.{nat_tests}
use Rattle.capnp_schema.specs.FieldLists.{IsFieldOf, index_of, typed_of}
use Rattle.capnp_schema.specs.Schema.{TypedField, is_member}
use Rattle.capnp_schema.specs.StructHandles.{struct_field, struct_fields}
use Rattle.capnp_schema.specs.declared.schema.fields.Field.{Field}
use Rattle.capnp_schema.specs.declared.schema.structs.StructSchema.{StructSchema}
use Rattle.capnp_records.specs.Facts.PartRead.{nth_plain_parts}
use Rattle.capnp_records.specs.Part.{active_value, is_active, is_inactive, nth_value, part_at}
use Rattle.capnp_records.specs.Reading.{non_union_parts}
use Rattle.capnp_records.specs.Record.{Active, NoUnion, Union, Unknown, Value, Values, is_there}
use Rattle.capnp_dynamic_readers.specs.Handles.{schema_of}
use Rattle.capnp_dynamic_readers.specs.Seen.{record_seen}
use Rattle.capnp_dynamic_readers.specs.Steps.GroupTexts.{is_item, item_by}
use Rattle.capnp_dynamic_readers.specs.Steps.PartsRead.{field_in}
use Rattle.capnp_dynamic_readers.specs.Steps.Shown.{part_seen, union_seen}
use Rattle.capnp_dynamic_readers.specs.declared.dynamic_struct.Reader.{Reader as StructHandle}
use Rattle.capnp_check.specs.ShownFields.{is_shown}
use Rattle.capnp_dynamic_readers.specs.Facts.ItemsShown.{IsActivePart, active_part}

-- ---- as the code asks it ----

abbrev pub is_free : StructHandle → Field → Bool
is_free r f = not (is_inactive (record_seen r) (field_in r f).field (index_of f))

abbrev pub part_there : StructHandle → Field → Bool
part_there r f = is_there (part_at (record_seen r) (field_in r f).field (index_of f))

abbrev pub is_other : StructHandle → Field → Bool
is_other r f = is_member (field_in r f).field && not ((field_in r f).field.discriminant_value == 0)

pub shown_inactive : (n p a : Bool) → n ≡ false → false ≡ (n && (p || a))
shown_inactive n p a e = sym (ap (λ (q : Bool). q && (p || a)) e)

or_true : (p a : Bool) → a ≡ true → (p || a) ≡ true
or_true true a e = refl
or_true false a e = e

or_false : (p a : Bool) → a ≡ false → (p || a) ≡ p
or_false true a e = refl
or_false false a e = e

pub shown_always : (n p a : Bool) → n ≡ true → a ≡ true → true ≡ (n && (p || a))
shown_always n p a e h = sym (ap (λ (q : Bool). q && (p || a)) e ∙ or_true p a h)

pub shown_there : (n p a q : Bool) → a ≡ false → q ≡ (n && p) → q ≡ (n && (p || a))
shown_there n p a q h is = is ∙ sym (ap (λ (z : Bool). n && z) (or_false p a h))

pub always_in : (r : StructHandle) (f : Field) → IsFieldOf (schema_of r) (index_of f) f → (q : Bool) → q ≡ (is_member (typed_of f).field && not ((typed_of f).field.discriminant_value == 0)) →
    (is_member (field_in r f).field && not ((field_in r f).field.discriminant_value == 0)) ≡ q
always_in r f field q e = sym (e ∙ ap (λ (s : StructSchema). is_member (struct_field s (index_of f)).field && not ((struct_field s (index_of f)).field.discriminant_value == 0)) field.schema)

-- ---- as the text has it ----

same_index : (i j : ℕ) → (i == j) ≡ true → j ≡ i
same_index i j e = grind (arith, nat_tests, e)

true_false : false ≡ true → ⊥
true_false e = cc

module _ (h : StructHandle) (i : ℕ) where
  abbrev own : TypedField
  own = struct_field (schema_of h) i

  abbrev others : Values
  others = non_union_parts (part_seen h) (struct_fields (schema_of h))

  abbrev other : Bool
  other = not ((struct_field (schema_of h) i).field.discriminant_value == 0)

  abbrev part_by : Bool → Union → Value
  part_by q u = elim q as (λ _. Value) [ true ↦ active_value u | false ↦ nth_value (non_union_parts (part_seen h) (struct_fields (schema_of h))) i ]

  abbrev shown_by : Bool → Union → Bool
  shown_by q u = not (q && not (is_active u i)) && (is_there (part_by q u) || (q && other))

  abbrev has_by : Bool → Union → Bool
  has_by q u = item_by q (is_active u i) (is_there (part_seen h own) || other) (is_there (part_seen h own))

  member_shown : (u : Union) → IsActivePart h u → shown_by true u ≡ has_by true u
  member_shown NoUnion a = refl
  member_shown (Unknown d) a = refl
  member_shown (Active j v) a = go (i == j) refl
    where
      go : (q : Bool) → (i == j) ≡ q → (not (not q) && (is_there v || other)) ≡ (q && (is_there (part_seen h own) || other))
      go false e = refl
      go true e = ap (λ (b : Bool). b || other) (ap is_there (a j v refl ∙ ap (λ (k : ℕ). part_seen h (struct_field (schema_of h) k)) (same_index i j e)))

  pub shown_item : i < length (struct_fields (schema_of h)) → is_shown (record_seen h) (struct_field (schema_of h) i).field i ≡ is_item h (struct_field (schema_of h) i) i
  shown_item lt = go (is_member own.field) refl
    where
      go : (q : Bool) → is_member (struct_field (schema_of h) i).field ≡ q → shown_by q (union_seen h) ≡ has_by q (union_seen h)
      go true e = member_shown (union_seen h) (active_part h)
      go false e = or_false (is_there (part_by false (union_seen h))) false refl ∙ ap is_there (nth_plain_parts (part_seen h) (struct_fields (schema_of h)) i lt e)

  member_part : (u : Union) → IsActivePart h u → shown_by true u ≡ true → part_by true u ≡ part_seen h own
  member_part NoUnion a e = absurd (true_false e)
  member_part (Unknown d) a e = absurd (true_false e)
  member_part (Active j v) a e = go (i == j) refl e
    where
      go : (q : Bool) → (i == j) ≡ q → (not (not q) && (is_there v || other)) ≡ true → v ≡ part_seen h own
      go false is e = absurd (true_false e)
      go true is e = a j v refl ∙ ap (λ (k : ℕ). part_seen h (struct_field (schema_of h) k)) (same_index i j is)

  pub shown_part : i < length (struct_fields (schema_of h)) → is_shown (record_seen h) (struct_field (schema_of h) i).field i ≡ true → part_at (record_seen h) (struct_field (schema_of h) i).field i ≡ part_seen h (struct_field (schema_of h) i)
  shown_part lt e = go (is_member own.field) refl e
    where
      go : (q : Bool) → is_member (struct_field (schema_of h) i).field ≡ q → shown_by q (union_seen h) ≡ true → part_by q (union_seen h) ≡ part_seen h own
      go true is e = member_part (union_seen h) (active_part h) e
      go false is e = nth_plain_parts (part_seen h) (struct_fields (schema_of h)) i lt is
