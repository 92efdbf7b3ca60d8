-- Which fields of a struct have an item, and which member is active.
use Rattle.std.proofs.Common.{ℕ, ◌<◌, ◌≡◌, ◌==◌, refl, [], Bool, true, false, not, ◌&&◌, cond, length, Some, None, ap, arith, sym, subst, ◌∙◌}
use Rattle.std.proofs.lemmas.Bool.{eq-eqb}
use Rattle.capnp_wire.specs.Standing.{struct_of}
use Rattle.capnp_schema.specs.FieldLists.{IsFieldOf, IsFound, index_of, typed_of}
use Rattle.capnp_schema.specs.Schema.{Field as FieldRecord, TypedField, is_member, node_of}
use Rattle.capnp_schema.specs.StructHandles.{number_of, set_of, struct_field, struct_fields}
use Rattle.capnp_schema.specs.declared.schema.fields.Field.{Field}
use Rattle.capnp_schema.specs.declared.schema.structs.StructSchema.{StructSchema}
use Rattle.capnp_records.specs.Facts.PartRead.{found_active}
use Rattle.capnp_records.specs.Part.{active_value, has_of, is_active, nth_value, which_of}
use Rattle.capnp_records.specs.Reading.{active_among, discriminant, non_union_parts}
use Rattle.capnp_records.specs.Record.{Active, NoUnion, Parts, Union, Unknown, Value, is_there}
use Rattle.capnp_records.specs.Text.{Layout}
use Rattle.capnp_dynamic_readers.specs.Facts.HasWhich.{not_zero}
use Rattle.capnp_dynamic_readers.specs.Handles.{reader_of, schema_of}
use Rattle.capnp_dynamic_readers.specs.Seen.{record_seen}
use Rattle.capnp_dynamic_readers.specs.Steps.PartsRead.{field_in}
use Rattle.capnp_dynamic_readers.specs.Steps.Shown.{part_seen, union_seen}
use Rattle.capnp_dynamic_readers.specs.declared.dynamic_struct.Reader.{Reader as StructHandle}
use Rattle.capnp_json.specs.Json.{form_of, item, item_if, json_within, member_items, part_json}
use Rattle.capnp_json.specs.Steps.Records.{HasNoMemberItem, IsActiveMember, is_item, is_member_item}
use Rattle.capnp_dynamic_readers.specs.Facts.ItemsShown.{discriminant_in, or_false, or_true}
use Rattle.capnp_dynamic_readers.specs.Facts.ItemsInOrder.{member_found, no_active}

-- ---- a field of a struct ----

-- whether a field is a member, by its record
pub member_from : (r : StructHandle) (f : Field) → IsFieldOf (schema_of r) (index_of f) f → (p : FieldRecord) (q : Bool) → p ≡ (typed_of f).field → is_member p ≡ q → is_member (field_in r f).field ≡ q
member_from r f field p q e h = sym (ap is_member (e ∙ ap (λ (s : StructSchema). (struct_field s (index_of f)).field) field.schema)) ∙ h

-- ---- whether a field is there ----

pub member_has : (r : StructHandle) (f : Field) → IsActiveMember r f → has_of (record_seen r) (field_in r f).field (index_of f) ≡ is_there (part_seen r (field_in r f))
member_has r f active =
    ap (λ q. not (q && not (is_active (union_seen r) (index_of f))) && is_there (elim q as (λ _. Value) [ true ↦ active_value (union_seen r) | false ↦ nth_value (non_union_parts (part_seen r) (struct_fields (schema_of r))) (index_of f) ])) active.member
    ∙ (ap (λ (u : Union). not (not (is_active u (index_of f))) && is_there (active_value u)) active.active
    ∙ ap (λ q. not (not q) && is_there (part_seen r (field_in r f))) (eq-eqb (index_of f) (index_of f) refl))

pub item_of_plain : (r : StructHandle) (f : TypedField) (q : Bool) → is_member f.field ≡ false → q ≡ is_there (part_seen r f) → q ≡ is_item r f
item_of_plain r f q plain e = e ∙ sym (ap (λ (b : Bool). cond b false (is_there (part_seen r f))) plain)

pub item_of_member : (r : StructHandle) (f : TypedField) → is_member f.field ≡ true → false ≡ is_item r f
item_of_member r f member = sym (ap (λ (b : Bool). cond b false (is_there (part_seen r f))) member)

-- ---- the active member ----

none_some : {j : ℕ} → None ≡ Some j → ⊥
none_some e = cc

some_none : {j : ℕ} → Some j ≡ None → ⊥
some_none e = cc

-- what is known of the active member
record IsSeen (r : StructHandle) (i : ℕ) (v : Value) : Type 0 where
  pub part : v ≡ part_seen r (struct_field (schema_of r) i)
  pub member : is_member (struct_field (schema_of r) i).field ≡ true

seen_active : (r : StructHandle) (i : ℕ) (v : Value) → union_seen r ≡ Active i v → IsSeen r i v
seen_active r i v e = go ((node_of (set_of (schema_of r)) (number_of (schema_of r))).discriminant_count == 0) refl e
  where
    u : Union
    u = active_among (part_seen r) (struct_fields (schema_of r)) 0 (discriminant (node_of (set_of (schema_of r)) (number_of (schema_of r))) (struct_of (reader_of r)).bytes)

    go : (q : Bool) → ((node_of (set_of (schema_of r)) (number_of (schema_of r))).discriminant_count == 0) ≡ q → (elim q as (λ _. Union) [ true ↦ NoUnion | false ↦ u ]) ≡ Active i v → IsSeen r i v
    go true is e = absurd (no_active e)
    go false is e =
        let found = found_active (part_seen r) (struct_fields (schema_of r)) 0 i (discriminant (node_of (set_of (schema_of r)) (number_of (schema_of r))) (struct_of (reader_of r)).bytes)
        (subst (λ n. is_active u n ≡ true) (omega arith) (ap (λ (w : Union). is_active w i) e ∙ eq-eqb i i refl)) in
        let place = member_found (part_seen r) (struct_fields (schema_of r)) 0 (discriminant (node_of (set_of (schema_of r)) (number_of (schema_of r))) (struct_of (reader_of r)).bytes) i v e in
        let same : place.at ≡ i = (let k = place.index in omega (arith, k)) in
        record {
          part = sym (ap active_value e) ∙ found.part_is;
          member = subst (λ (n : ℕ). is_member (struct_field (schema_of r) n).field ≡ true) same place.member;
        }

-- the member that a struct's read answers
pub active_found : (r : StructHandle) (f : Field) → IsFound (schema_of r) (which_of (record_seen r)) (Some f) → IsActiveMember r f
active_found r f h = go (union_seen r) refl h
  where
    go : (u : Union) → union_seen r ≡ u → IsFound (schema_of r) (which_of (Parts (non_union_parts (part_seen r) (struct_fields (schema_of r))) u)) (Some f) → IsActiveMember r f
    go NoUnion e h = absurd h
    go (Unknown d) e h = absurd h
    go (Active i v) e h =
        let seen = seen_active r i v e in
        record {
          field = record {
            inside = subst (λ (n : ℕ). n < length (struct_fields (schema_of r))) (sym h.index) h.inside;
            schema = h.schema;
            index = refl;
          };
          member = subst (λ (n : ℕ). is_member (struct_field (schema_of r) n).field ≡ true) (sym h.index) seen.member;
          active = e ∙ (ap (Active i) seen.part ∙ ap (λ (n : ℕ). Active n (part_seen r (struct_field (schema_of r) n))) (sym h.index));
        }

-- no member is active
pub nothing_found : (r : StructHandle) → IsFound (schema_of r) (which_of (record_seen r)) None → HasNoMemberItem r
nothing_found r h = λ left at. go left at (union_seen r) h
  where
    go : (left : ℕ) (at : Layout) (u : Union) → IsFound (schema_of r) (which_of (Parts (non_union_parts (part_seen r) (struct_fields (schema_of r))) u)) None →
        member_items (set_of (schema_of r)) (json_within (set_of (schema_of r)) left) at (number_of (schema_of r)) u ≡ []
    go left at NoUnion h = refl
    go left at (Unknown d) h = refl
    go left at (Active i v) h = absurd h

-- the items of the active member
pub member_shown : (r : StructHandle) (f : Field) → IsActiveMember r f → (left : ℕ) (at : Layout) →
    member_items (set_of (schema_of r)) (json_within (set_of (schema_of r)) left) at (number_of (schema_of r)) (union_seen r)
    ≡ item_if (is_member_item r (field_in r f)) (item at (field_in r f) (part_json (set_of (schema_of r)) (json_within (set_of (schema_of r)) left) at (form_of (field_in r f)) (field_in r f).type (part_seen r (field_in r f))))
member_shown r f active left at = ap (λ (u : Union). member_items (set_of (schema_of r)) (json_within (set_of (schema_of r)) left) at (number_of (schema_of r)) u) active.active

pub member_hidden : (r : StructHandle) (f : Field) → IsActiveMember r f → false ≡ is_member_item r (field_in r f) → HasNoMemberItem r
member_hidden r f active none = λ left at.
    member_shown r f active left at
    ∙ ap (λ (q : Bool). item_if q (item at (field_in r f) (part_json (set_of (schema_of r)) (json_within (set_of (schema_of r)) left) at (form_of (field_in r f)) (field_in r f).type (part_seen r (field_in r f))))) (sym none)

-- ---- whether a member is shown ----

module _ (r : StructHandle) (f : Field) (field : IsFieldOf (schema_of r) (index_of f) f) (p : FieldRecord) (is : p ≡ (typed_of f).field) where
  pub shown_of_another : (p.discriminant_value ≡ 0 → ⊥) → true ≡ is_member_item r (field_in r f)
  shown_of_another h = or_true (is_there (part_seen r (field_in r f))) _ (ap not (ap (λ n. n == 0) (sym (discriminant_in r f field p is)) ∙ not_zero p.discriminant_value h))

  pub shown_of_first : (b : Bool) → p.discriminant_value ≡ 0 → b ≡ is_there (part_seen r (field_in r f)) → b ≡ is_member_item r (field_in r f)
  shown_of_first b h e = e ∙ or_false (is_there (part_seen r (field_in r f))) _ (ap not (ap (λ n. n == 0) (sym (discriminant_in r f field p is)) ∙ ap (λ n. n == 0) h))
