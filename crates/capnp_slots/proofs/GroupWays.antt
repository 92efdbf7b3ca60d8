-- A group is cleared place by place, and the groups in it by their own fields: what is left to do of a place, and of the
-- groups above it.
use Rattle.std.proofs.Common.{ℕ, zero, suc, ◌+◌, ◌-◌, ◌<◌, ◌≤◌, ◌≡◌, refl, List, [], ◌∷◌, Bool, true, false, not, nat_lt, cond, drop, length, position, slice_get, Option, Some, None, add-one, arith, ap, sym, subst, ◌∙◌}
use Rattle.std.proofs.lemmas.Bool.{and_parts}
use Rattle.std.proofs.lemmas.Bool.Decides.{nat_tests}
use Rattle.std.proofs.lemmas.Option.{cond_some, same_Some}
use Rattle.std.specs.List.{position_or_len}
use Rattle.capnp_wire.specs.Tree.{StructTree}
use Rattle.capnp_schema.specs.Accepted.{HasOneParent, HaveSameSizes, IsParent}
use Rattle.capnp_schema.specs.Steps.Checking.Parents.{entry_target, group_target}
use Rattle.capnp_schema.specs.Facts.GroupFields.{group_field_found, parent_target, target_parent}
use Rattle.capnp_schema.specs.Facts.Groups.{group_in_set, group_of_field}
use Rattle.capnp_schema.specs.Facts.GroupWalks.{some_steps, step_into, steps_past}
use Rattle.capnp_schema.specs.FieldLists.{IsFieldOf, IsFound, index_of, field_schema, typed_of}
use Rattle.capnp_schema.specs.GroupFields.{group_field_of}
use Rattle.capnp_schema.specs.GroupsDown.{IsGroupFieldOf, place_of_field}
use Rattle.capnp_schema.specs.Steps.GroupWalks.{steps_into, steps_through}
use Rattle.capnp_schema.specs.Query.{is_member_of, member_of, records_of}
use Rattle.capnp_schema.specs.Schema.{FieldKind, Group, Schemas, Slot, TypedField, field_at, fields_of, is_member}
use Rattle.capnp_schema.specs.StructHandles.{number_of, set_of, struct_field, struct_fields}
use Rattle.capnp_schema.specs.Types.{SchemaType, struct_number}
use Rattle.capnp_schema.specs.declared.schema.fields.Field.{Field}
use Rattle.capnp_schema.specs.declared.schema.structs.StructSchema.{StructSchema}
use Rattle.capnp_records.specs.Step.{is_group_field}
use Rattle.capnp_records.specs.Writes.Overlay.{cleared_kind, cleared_member, cleared_non_union}
use Rattle.capnp_records.specs.Writes.Slots.{Fits}
use Rattle.capnp_slots.specs.Fields.{field_brand, field_set, switched_to}
use Rattle.capnp_slots.specs.Steps.GroupClears.{IsSlotCleared, field_cleared_at, cleared_behind, place_behind, unless_member_place}
use Rattle.capnp_slots.specs.Groups.{IsGroupAt, KeepsSize}
use Rattle.capnp_slots.specs.Steps.Groups.{clear_by, cleared_option, cleared_through}
use Rattle.capnp_slots.proofs.GroupClears.{member_is_cleared, cleared_none, entry, fits_kept, records}

-- ---- what is left of a group from a place on ----

unfoldable pub rest : ℕ → Schemas → ℕ → ℕ → StructTree → StructTree
rest n set b zero s = cleared_non_union (clear_by n set b) (fields_of set b) (cleared_member (clear_by n set b) (fields_of set b) s)
rest n set b (suc i) s = cleared_non_union (clear_by n set b) (drop i (fields_of set b)) s

rest_whole : (n : ℕ) (set : Schemas) (b : ℕ) (s : StructTree) → rest n set b 0 s ≡ cleared_through (suc n) set b s
unfolding rest cleared_through
rest_whole n set b s = refl

module _ (clear : TypedField → StructTree → StructTree) where
  plain_at : (fs : List TypedField) (i : ℕ) (s : StructTree) (q : Bool) → i < length fs → is_member (entry fs i).field ≡ q →
      cleared_non_union clear (drop i fs) s ≡ cleared_non_union clear (drop (suc i) fs) (elim q as (λ _. StructTree) [ true ↦ s | false ↦ clear (entry fs i) s ])
  plain_at [] i s q lt e = absurd (omega arith)
  plain_at (f ∷ fs) zero s q lt e = ap (λ (t : Bool). cleared_non_union clear fs (elim t as (λ _. StructTree) [ true ↦ s | false ↦ clear f s ])) e
  plain_at (f ∷ fs) (suc i) s q lt e = plain_at fs i s q (omega arith) e

  plain_past : (fs : List TypedField) (i : ℕ) (s : StructTree) → length fs ≤ i → cleared_non_union clear (drop i fs) s ≡ s
  plain_past [] zero s le = refl
  plain_past [] (suc i) s le = refl
  plain_past (f ∷ fs) zero s le = absurd (omega arith)
  plain_past (f ∷ fs) (suc i) s le = plain_past fs i s (omega arith)

-- a non-union field, by what is cleared at its place
plain_place : (q : Bool) (j i : ℕ) → unless_member_place q j ≡ Some i → (q ≡ false) × (j ≡ i)
plain_place true j i e = cc
plain_place false j i e = (refl, same_Some j i e)

no_plain : (q : Bool) (j : ℕ) → unless_member_place q j ≡ None → q ≡ true
no_plain true j e = refl
no_plain false j e = cc

-- nothing is cleared at a place
rest_nothing : (n : ℕ) (set : Schemas) (b p : ℕ) (s : StructTree) → field_cleared_at set b p ≡ None → p ≤ length (fields_of set b) → rest n set b p s ≡ rest n set b (suc p) s
unfolding rest field_cleared_at
rest_nothing n set b zero s none le =
    ap (cleared_non_union (clear_by n set b) (fields_of set b))
    (member_is_cleared (clear_by n set b) (fields_of set b) s ∙ ap (λ (o : Option ℕ). cleared_option (λ i. clear_by n set b (entry (fields_of set b) i)) o s) none)
rest_nothing n set b (suc i) s none le = plain_at (clear_by n set b) (fields_of set b) i s true (omega arith) (no_plain (is_member (field_at set b i).field) i none)

-- a field is
rest_field : (n : ℕ) (set : Schemas) (b p i : ℕ) (s : StructTree) → field_cleared_at set b p ≡ Some i → p ≤ length (fields_of set b) → rest n set b p s ≡ rest n set b (suc p) (clear_by n set b (field_at set b i) s)
unfolding rest field_cleared_at
rest_field n set b zero i s some le =
    ap (cleared_non_union (clear_by n set b) (fields_of set b))
    (member_is_cleared (clear_by n set b) (fields_of set b) s ∙ ap (λ (o : Option ℕ). cleared_option (λ i. clear_by n set b (entry (fields_of set b) i)) o s) some)
rest_field n set b (suc j) i s some le =
    let plain = plain_place (is_member (field_at set b j).field) j i some in
    plain_at (clear_by n set b) (fields_of set b) j s false (omega arith) plain.0
    ∙ ap (λ (k : ℕ). cleared_non_union (clear_by n set b) (drop (suc j) (fields_of set b)) (clear_by n set b (field_at set b k) s)) plain.1

-- and past the last nothing is left
rest_past : (n : ℕ) (set : Schemas) (b p : ℕ) (s : StructTree) → length (fields_of set b) < p → rest n set b p s ≡ s
unfolding rest
rest_past n set b zero s past = absurd (omega arith)
rest_past n set b (suc i) s past = plain_past (clear_by n set b) (fields_of set b) i s (omega arith)

-- ---- the place behind a field ----

member_found : (fs : List TypedField) → position_or_len (is_member_of 0) (records fs) < length (records fs) → is_member (entry fs (position_or_len (is_member_of 0) (records fs))).field ≡ true
member_found [] lt = absurd (omega arith)
member_found (f ∷ fs) lt = go (is_member_of 0 f.field) refl lt (member_found fs)
  where
    k : ℕ
    k = position_or_len (is_member_of 0) (records fs)

    go : (q : Bool) → is_member_of 0 f.field ≡ q → cond (not q) (1 + k) 0 < suc (length (records fs)) → (k < length (records fs) → is_member (entry fs k).field ≡ true) → is_member (entry (f ∷ fs) (cond (not q) (1 + k) 0)).field ≡ true
    go true e lt later = (and_parts _ _ e).0
    go false e lt later = let next : 1 + k ≡ suc k = omega arith in ap (λ j. is_member (entry (f ∷ fs) j).field) next ∙ later (omega arith)

member_at : (fs : List TypedField) (i : ℕ) → position (is_member_of 0) (records fs) ≡ Some i → is_member (entry fs i).field ≡ true
member_at fs i e =
    let k : ℕ = position_or_len (is_member_of 0) (records fs) in
    let found = cond_some (nat_lt k (length (records fs))) k i e in
    let test = found.0 in
    subst (λ (j : ℕ). is_member (entry fs j).field ≡ true) found.1 (member_found fs (grind (arith, nat_tests, test)))

pub behind_is : (set : Schemas) (b p i : ℕ) → field_cleared_at set b p ≡ Some i → cleared_behind set b i ≡ suc p
unfolding field_cleared_at cleared_behind
behind_is set b zero i some = ap (λ (q : Bool). place_behind q i) (member_at (fields_of set b) i some)
behind_is set b (suc j) i some =
    let plain = plain_place (is_member (field_at set b j).field) j i some in
    ap (λ (k : ℕ). place_behind (is_member (field_at set b k).field) k) (sym plain.1) ∙ ap (λ (q : Bool). place_behind q j) plain.0

-- ---- what is cleared at a place, by the field there ----

pub behind_by : (set : Schemas) (b i : ℕ) (q : Bool) → is_member (field_at set b i).field ≡ q → cleared_behind set b i ≡ place_behind q i
unfolding cleared_behind
behind_by set b i q e = ap (λ (r : Bool). place_behind r i) e

at_zero : (s : StructSchema) (o : Option Field) → IsFound s (member_of (records_of (set_of s) (number_of s)) 0) o → IsFound s (field_cleared_at (set_of s) (number_of s) 0) o
unfolding field_cleared_at
at_zero s o found = found

pub at_first : (s : StructSchema) (p : ℕ) (o : Option Field) → p ≡ 0 → IsFound s (member_of (records_of (set_of s) (number_of s)) 0) o → IsFound s (field_cleared_at (set_of s) (number_of s) p) o
at_first s p o e found = subst (λ (k : ℕ). IsFound s (field_cleared_at (set_of s) (number_of s) k) o) (sym e) (at_zero s o found)

at_next : (set : Schemas) (b i : ℕ) (q : Bool) → is_member (field_at set b i).field ≡ q → field_cleared_at set b (suc i) ≡ unless_member_place q i
unfolding field_cleared_at
at_next set b i q e = ap (λ (r : Bool). unless_member_place r i) e

at_place : (set : Schemas) (b p : ℕ) (q : Bool) → (p ≡ 0 → ⊥) → is_member (field_at set b (p - 1)).field ≡ q → field_cleared_at set b p ≡ unless_member_place q (p - 1)
at_place set b zero q some e = absurd (some refl)
at_place set b (suc i) q some e =
    let less : suc i - 1 ≡ i = omega arith in
    at_next set b i q (ap (λ (k : ℕ). is_member (field_at set b k).field) (sym less) ∙ e) ∙ ap (unless_member_place q) (sym less)

-- a field of a struct is a member or non-union, by its record
member_of_field : (s : StructSchema) (p : ℕ) (f : Field) (q : Bool) → IsFieldOf s p f → is_member (typed_of f).field ≡ q → is_member (field_at (set_of s) (number_of s) p).field ≡ q
member_of_field s p f q is e = sym (ap (λ (z : StructSchema). is_member (struct_field z (index_of f)).field) is.schema ∙ ap (λ (k : ℕ). is_member (struct_field s k).field) is.index) ∙ e

pub at_member : (s : StructSchema) (p : ℕ) (f : Field) → (p ≡ 0 → ⊥) → IsFieldOf s (p - 1) f → is_member (typed_of f).field ≡ true → IsFound s (field_cleared_at (set_of s) (number_of s) p) None
at_member s p f some is e = subst (λ (o : Option ℕ). IsFound s o None) (sym (at_place (set_of s) (number_of s) p true some (member_of_field s (p - 1) f true is e))) tt

pub at_plain : (s : StructSchema) (p : ℕ) (f : Field) → (p ≡ 0 → ⊥) → IsFieldOf s (p - 1) f → is_member (typed_of f).field ≡ false → IsFound s (field_cleared_at (set_of s) (number_of s) p) (Some f)
at_plain s p f some is e = subst (λ (o : Option ℕ). IsFound s o (Some f)) (sym (at_place (set_of s) (number_of s) p false some (member_of_field s (p - 1) f false is e))) is

-- ---- the way up ----

abbrev pub above_of : Schemas → (ℕ → List (ℕ × ℕ)) → Option (ℕ × ℕ) → List (ℕ × ℕ)
above_of set above None = []
above_of set above (Some (b, i)) = (b, cleared_behind set b i) ∷ above b

-- the groups above one that was come to through so many, each with the place behind the field that was gone into
unfoldable pub way : Schemas → (depth : ℕ) → ℕ → List (ℕ × ℕ)
way set zero b = []
way set (suc depth) b = above_of set (way set depth) (group_field_of set b)

way_none : (set : Schemas) (b : ℕ) → way set 0 b ≡ []
unfolding way
way_none set b = refl

pub way_start : (set : Schemas) (depth b : ℕ) → depth ≡ 0 → way set depth b ≡ []
way_start set depth b e = ap (λ (d : ℕ). way set d b) e ∙ way_none set b

way_next : (set : Schemas) (depth b : ℕ) → way set (suc depth) b ≡ above_of set (way set depth) (group_field_of set b)
unfolding way
way_next set depth b = refl

pub way_group : (set : Schemas) (depth g b i : ℕ) → group_field_of set g ≡ Some (b, i) → way set (suc depth) g ≡ (b, cleared_behind set b i) ∷ way set depth b
way_group set depth g b i is = way_next set depth g ∙ ap (above_of set (way set depth)) is

pub way_outside : (set : Schemas) (depth g : ℕ) → group_field_of set g ≡ None → way set depth g ≡ []
way_outside set zero g is = way_start set 0 g refl
way_outside set (suc depth) g is = way_next set depth g ∙ ap (above_of set (way set depth)) is

-- ---- all that is left ----

unfoldable pub finish : ℕ → Schemas → List (ℕ × ℕ) → StructTree → StructTree
finish n set [] s = s
finish n set ((b, p) ∷ frames) s = finish (suc n) set frames (rest n set b p s)

finish_end : (n : ℕ) (set : Schemas) (s : StructTree) → finish n set [] s ≡ s
unfolding finish
finish_end n set s = refl

finish_frame : (n : ℕ) (set : Schemas) (b p : ℕ) (frames : List (ℕ × ℕ)) (s : StructTree) → finish n set ((b, p) ∷ frames) s ≡ finish (suc n) set frames (rest n set b p s)
unfolding finish
finish_frame n set b p frames s = refl

-- what is left of a clear that stands at a place of a group
abbrev pub left_of : ℕ → StructSchema → (depth place : ℕ) → StructTree → StructTree
left_of n at depth p s = finish n (set_of at) ((number_of at, p) ∷ way (set_of at) depth (number_of at)) s

module _ (n : ℕ) (set : Schemas) (b p : ℕ) (frames : List (ℕ × ℕ)) where
  go_on : (q : ℕ) (s y : StructTree) → rest n set b p s ≡ rest n set b q y → finish n set ((b, p) ∷ frames) s ≡ finish n set ((b, q) ∷ frames) y
  go_on q s y e = finish_frame n set b p frames s ∙ (ap (finish (suc n) set frames) e ∙ sym (finish_frame n set b q frames y))

  leave_it : (s : StructTree) → length (fields_of set b) < p → finish n set ((b, p) ∷ frames) s ≡ finish (suc n) set frames s
  leave_it s past = finish_frame n set b p frames s ∙ ap (finish (suc n) set frames) (rest_past n set b p s past)

-- ---- handles ----

pub found_at : (s : StructSchema) (o : Option ℕ) (f : Field) → IsFound s o (Some f) → (o ≡ Some (index_of f)) × (field_schema f ≡ s)
found_at s None f is = absurd is
found_at s (Some i) f is = (ap (λ (k : ℕ). Some k) (sym is.index), is.schema)

pub found_none : (s : StructSchema) (o : Option ℕ) → IsFound s o None → o ≡ None
found_none s None is = refl
found_none s (Some i) is = absurd is

-- a field that is cleared at a place
record Due (at : StructSchema) (p : ℕ) (f : Field) : Type 0 where
  pub set : field_set f ≡ set_of at
  pub brand : field_brand f ≡ number_of at
  pub index : field_cleared_at (set_of at) (number_of at) p ≡ Some (index_of f)
  pub field : typed_of f ≡ struct_field at (index_of f)

due : (at : StructSchema) (p : ℕ) (f : Field) → IsFound at (field_cleared_at (set_of at) (number_of at) p) (Some f) → Due at p f
due at p f found =
    let is = found_at at (field_cleared_at (set_of at) (number_of at) p) f found in
    record { set = ap set_of is.1; brand = ap number_of is.1; index = is.0; field = ap (λ (z : StructSchema). struct_field z (index_of f)) is.1 }

-- the clear of the field is that of the group's field
due_clear : (n : ℕ) (at : StructSchema) (p : ℕ) (f : Field) → Due at p f → (s : StructTree) → clear_by n (field_set f) (field_brand f) (typed_of f) s ≡ clear_by n (set_of at) (number_of at) (struct_field at (index_of f)) s
due_clear n at p f d s =
    ap (λ (z : Schemas). clear_by n z (field_brand f) (typed_of f) s) d.set
    ∙ (ap (λ (b : ℕ). clear_by n (set_of at) b (typed_of f) s) d.brand
    ∙ ap (λ (t : TypedField). clear_by n (set_of at) (number_of at) t s) d.field)

-- a group's clear is that of its fields, after the switch to it
group_clear : (k : FieldKind) (t : SchemaType) → is_group_field k ≡ true → (group : ℕ → StructTree → StructTree) (s : StructTree) → cleared_kind group k t s ≡ group (struct_number t) s
group_clear (Slot offset d) t e group s = cc
group_clear (Group node) t e group s = refl

field_clear : (n : ℕ) (f : Field) (g : StructSchema) → IsGroupAt f g → (s m : StructTree) → m ≡ switched_to f s → clear_by n (field_set f) (field_brand f) (typed_of f) s ≡ cleared_through n (set_of g) (number_of g) m
field_clear n f g is s m e =
    group_clear (typed_of f).field.kind (typed_of f).type is.is_group (cleared_through n (field_set f)) (switched_to f s)
    ∙ (ap (λ (k : ℕ). cleared_through n (field_set f) k (switched_to f s)) (sym is.number)
    ∙ (ap (λ (z : Schemas). cleared_through n z (number_of g) (switched_to f s)) (sym is.set)
    ∙ ap (cleared_through n (set_of g) (number_of g)) (sym e)))

-- ---- the steps of the clear ----

pub positive : (n : ℕ) → (n ≡ 0 → ⊥) → 0 < n
positive zero some = absurd (some refl)
positive (suc n) some = omega arith

pub starts : (groups left : ℕ) (at : StructSchema) (s : StructTree) → (groups ≡ 0 → ⊥) → left ≡ groups - 1 → left_of left at 0 0 s ≡ cleared_through groups (set_of at) (number_of at) s
starts groups left at s some e =
    let more = positive groups some in
    let next : suc left ≡ groups = omega arith in
    ap (λ (frames : List (ℕ × ℕ)). finish left (set_of at) ((number_of at, 0) ∷ frames) s) (way_start (set_of at) 0 (number_of at) refl)
    ∙ (finish_frame left (set_of at) (number_of at) 0 [] s
    ∙ (finish_end (suc left) (set_of at) (rest left (set_of at) (number_of at) 0 s)
    ∙ (rest_whole left (set_of at) (number_of at) s
    ∙ ap (λ (k : ℕ). cleared_through k (set_of at) (number_of at) s) next)))

pub past_nothing : (n : ℕ) (at : StructSchema) (depth p : ℕ) (s : StructTree) → IsFound at (field_cleared_at (set_of at) (number_of at) p) None → p ≤ length (struct_fields at) → left_of n at depth p s ≡ left_of n at depth (p + 1) s
past_nothing n at depth p s none le = go_on n (set_of at) (number_of at) p (way (set_of at) depth (number_of at)) (p + 1) s s
    (rest_nothing n (set_of at) (number_of at) p s (found_none at (field_cleared_at (set_of at) (number_of at) p) none) le ∙ ap (λ (k : ℕ). rest n (set_of at) (number_of at) k s) (sym (add-one p)))

past_field : (n : ℕ) (at : StructSchema) (depth p : ℕ) (f : Field) (s y : StructTree) → Due at p f → p ≤ length (struct_fields at) → y ≡ clear_by n (field_set f) (field_brand f) (typed_of f) s → left_of n at depth p s ≡ left_of n at depth (p + 1) y
past_field n at depth p f s y d le e = go_on n (set_of at) (number_of at) p (way (set_of at) depth (number_of at)) (p + 1) s y
    (rest_field n (set_of at) (number_of at) p (index_of f) s d.index le
    ∙ (ap (λ (k : ℕ). rest n (set_of at) (number_of at) k (clear_by n (set_of at) (number_of at) (struct_field at (index_of f)) s)) (sym (add-one p))
    ∙ ap (rest n (set_of at) (number_of at) (p + 1)) (sym (e ∙ due_clear n at p f d s))))

pub past_slot : (n : ℕ) (at : StructSchema) (depth p : ℕ) (f : Field) (s y : StructTree) → IsFound at (field_cleared_at (set_of at) (number_of at) p) (Some f) → p ≤ length (struct_fields at) → IsSlotCleared f s y → left_of n at depth p s ≡ left_of n at depth (p + 1) y
past_slot n at depth p f s y found le is = past_field n at depth p f s y (due at p f found) le (is.cleared n)

-- no group is gone into
pub past_group : (n : ℕ) (at : StructSchema) (depth p : ℕ) (f : Field) (g : StructSchema) (s y : StructTree) → IsFound at (field_cleared_at (set_of at) (number_of at) p) (Some f) → p ≤ length (struct_fields at) → IsGroupAt f g → y ≡ switched_to f s → n ≡ 0 → left_of n at depth p s ≡ left_of n at depth (p + 1) y
past_group n at depth p f g s y found le is e none = past_field n at depth p f s y (due at p f found) le
    (cleared_none n (set_of g) (number_of g) y none ∙ sym (field_clear n f g is s y e))

-- the group of a due field is that field's, and the way from it leads back behind the field
back_in : (at : StructSchema) (p : ℕ) (f : Field) (g : StructSchema) → Due at p f → IsGroupAt f g → group_field_of (set_of at) (number_of g) ≡ Some (number_of at, index_of f)
back_in at p f g d is = ap (λ (z : Schemas). group_field_of z (number_of g)) (sym d.set) ∙ (is.back ∙ ap (λ (c : ℕ). Some (c, index_of f)) d.brand)

way_in : (at : StructSchema) (depth p : ℕ) (f : Field) (g : StructSchema) → Due at p f → IsGroupAt f g → way (set_of at) (suc depth) (number_of g) ≡ (number_of at, suc p) ∷ way (set_of at) depth (number_of at)
way_in at depth p f g d is = way_group (set_of at) depth (number_of g) (number_of at) (index_of f) (back_in at p f g d is)
    ∙ ap (λ (q : ℕ). (number_of at, q) ∷ way (set_of at) depth (number_of at)) (behind_is (set_of at) (number_of at) p (index_of f) d.index)

-- a group is
into_group : (n : ℕ) (at : StructSchema) (depth p : ℕ) (f : Field) (g : StructSchema) (s y : StructTree) → IsFound at (field_cleared_at (set_of at) (number_of at) p) (Some f) → p ≤ length (struct_fields at) → IsGroupAt f g → y ≡ switched_to f s → left_of (suc n) at depth p s ≡ left_of n g (suc depth) 0 y
into_group n at depth p f g s y found le is e = outer ∙ inner
  where
    d : Due at p f
    d = due at p f found

    set : Schemas
    set = set_of at

    b : ℕ
    b = number_of at

    here : set_of g ≡ set_of at
    here = is.set ∙ d.set

    frames : way set (suc depth) (number_of g) ≡ (b, suc p) ∷ way set depth b
    frames = way_in at depth p f g d is

    cleared : clear_by (suc n) set b (struct_field at (index_of f)) s ≡ cleared_through (suc n) set (number_of g) y
    cleared = sym (due_clear (suc n) at p f d s) ∙ (field_clear (suc n) f g is s y e ∙ ap (λ (z : Schemas). cleared_through (suc n) z (number_of g) y) here)

    outer : left_of (suc n) at depth p s ≡ finish (suc n) set ((b, suc p) ∷ way set depth b) (cleared_through (suc n) set (number_of g) y)
    outer = go_on (suc n) set b p (way set depth b) (suc p) s (cleared_through (suc n) set (number_of g) y)
        (rest_field (suc n) set b p (index_of f) s d.index le ∙ ap (rest (suc n) set b (suc p)) cleared)

    in_set : (z : Schemas) → finish n z ((number_of g, 0) ∷ way z (suc depth) (number_of g)) y ≡ finish (suc n) z (way z (suc depth) (number_of g)) (cleared_through (suc n) z (number_of g) y)
    in_set z = finish_frame n z (number_of g) 0 (way z (suc depth) (number_of g)) y ∙ ap (finish (suc n) z (way z (suc depth) (number_of g))) (rest_whole n z (number_of g) y)

    inner : finish (suc n) set ((b, suc p) ∷ way set depth b) (cleared_through (suc n) set (number_of g) y) ≡ left_of n g (suc depth) 0 y
    inner = ap (λ (w : List (ℕ × ℕ)). finish (suc n) set w (cleared_through (suc n) set (number_of g) y)) (sym frames)
        ∙ (sym (in_set set) ∙ ap (λ (z : Schemas). finish n z ((number_of g, 0) ∷ way z (suc depth) (number_of g)) y) (sym here))

-- a group is left by its field
out_of_group : (n : ℕ) (g : StructSchema) (depth p : ℕ) (f : Field) (s : StructTree) → length (struct_fields g) < p → IsGroupFieldOf g f → Some (place_of_field f) ≡ group_field_of (set_of g) (number_of g) →
    left_of n g (suc depth) p s ≡ left_of (suc n) (field_schema f) depth (cleared_behind (field_set f) (field_brand f) (index_of f)) s
out_of_group n g depth p f s past is place =
    leave_it n (set_of g) (number_of g) p (way (set_of g) (suc depth) (number_of g)) s past
    ∙ (ap (λ (w : List (ℕ × ℕ)). finish (suc n) (set_of g) w s) (way_group (set_of g) depth (number_of g) (field_brand f) (index_of f) (sym place))
    ∙ ap (λ (z : Schemas). finish (suc n) z ((field_brand f, cleared_behind z (field_brand f) (index_of f)) ∷ way z depth (field_brand f)) s) (sym is.set))

-- and the whole ends
pub ends : (n : ℕ) (at : StructSchema) (depth p : ℕ) (s : StructTree) → length (struct_fields at) < p → depth ≡ 0 → left_of n at depth p s ≡ s
ends n at depth p s past e =
    leave_it n (set_of at) (number_of at) p (way (set_of at) depth (number_of at)) s past
    ∙ (ap (λ (w : List (ℕ × ℕ)). finish (suc n) (set_of at) w s) (way_start (set_of at) depth (number_of at) e) ∙ finish_end (suc n) (set_of at) s)

pub ends_outside : (n : ℕ) (at : StructSchema) (depth p : ℕ) (s : StructTree) → length (struct_fields at) < p → group_field_of (set_of at) (number_of at) ≡ None → left_of n at depth p s ≡ s
ends_outside n at depth p s past none =
    leave_it n (set_of at) (number_of at) p (way (set_of at) depth (number_of at)) s past
    ∙ (ap (λ (w : List (ℕ × ℕ)). finish (suc n) (set_of at) w s) (way_outside (set_of at) depth (number_of at) none) ∙ finish_end (suc n) (set_of at) s)

-- ---- room ----

-- a struct that has a group's sections has those of the struct that the group is in
room_above : (g : StructSchema) (f : Field) (s : StructTree) → IsGroupFieldOf g f → Fits (set_of g) (number_of g) s → Fits (field_set f) (field_brand f) s
room_above g f s is room = (omega (arith, sizes.0, here.0), omega (arith, sizes.1, here.1))
  where
    set : Schemas
    set = field_set f

    parent : IsParent set (number_of g) (field_brand f) (index_of f)
    parent = record { brand = is.stands.number; field = f.inside; names = is.names }

    one : HasOneParent set (number_of g)
    one = (is.stands.accepted.rule8 (number_of g) (group_in_set set is.stands.accepted (field_brand f) (index_of f) (number_of g) parent.brand parent.field parent.names)
        (group_of_field set is.stands.accepted (field_brand f) (index_of f) (number_of g) parent.brand parent.field parent.names)).0

    sizes : HaveSameSizes set (number_of g) (field_brand f)
    sizes = subst (HaveSameSizes set (number_of g)) (sym (one.only (field_brand f) (index_of f) parent).0) one.sizes

    here : Fits set (number_of g) s
    here = subst (λ (z : Schemas). Fits z (number_of g) s) (sym is.set) room

-- ---- how many steps are left ----

unfoldable pub group_steps : ℕ → Schemas → ℕ → ℕ
group_steps zero set b = 0
group_steps (suc n) set b = steps_through (group_steps n set) (fields_of set b) + steps_through (group_steps n set) (fields_of set b)

unfoldable pub place_steps : ℕ → Schemas → ℕ → ℕ → ℕ
place_steps n set b zero = steps_through (group_steps n set) (fields_of set b) + steps_through (group_steps n set) (fields_of set b)
place_steps n set b (suc i) = steps_through (group_steps n set) (drop i (fields_of set b))

unfoldable pub all_steps : ℕ → Schemas → List (ℕ × ℕ) → ℕ
all_steps n set [] = 0
all_steps n set ((b, p) ∷ frames) = place_steps n set b p + all_steps (suc n) set frames

abbrev pub steps_of : ℕ → StructSchema → (depth place : ℕ) → ℕ
steps_of n at depth p = all_steps n (set_of at) ((number_of at, p) ∷ way (set_of at) depth (number_of at))

pub steps_frame : (n : ℕ) (set : Schemas) (b p : ℕ) (frames : List (ℕ × ℕ)) → all_steps n set ((b, p) ∷ frames) ≡ place_steps n set b p + all_steps (suc n) set frames
unfolding all_steps
steps_frame n set b p frames = refl

steps_are_some : (n : ℕ) (set : Schemas) (b p : ℕ) → 0 < place_steps n set b p
unfolding place_steps
steps_are_some n set b zero = omega (arith, some_steps (group_steps n set) (fields_of set b))
steps_are_some n set b (suc i) = some_steps (group_steps n set) (drop i (fields_of set b))

-- past a place less is left
less_past : (n : ℕ) (set : Schemas) (b p : ℕ) → p ≤ length (fields_of set b) → place_steps n set b (suc p) < place_steps n set b p
unfolding place_steps
less_past n set b zero le = omega (arith, some_steps (group_steps n set) (fields_of set b))
less_past n set b (suc i) le = omega (arith, steps_past (group_steps n set) (fields_of set b) i (omega arith), step_into (group_steps n set) (group_target set b i))

-- no field has more than all
pub one_of_all : (group : ℕ → ℕ) (fs : List TypedField) (i : ℕ) → i < length fs → steps_into group (entry_target (slice_get fs i)) < steps_through group fs
one_of_all group [] i lt = absurd (omega arith)
one_of_all group (f ∷ fs) zero lt = omega (arith, some_steps group fs)
one_of_all group (f ∷ fs) (suc i) lt = omega (arith, one_of_all group fs i (omega arith))

pub group_steps_next : (n : ℕ) (set : Schemas) (g : ℕ) → place_steps n set g 0 ≡ group_steps (suc n) set g
unfolding group_steps place_steps
group_steps_next n set g = refl

-- into a group less is left
pub less_into : (n : ℕ) (set : Schemas) (b p i g : ℕ) → field_cleared_at set b p ≡ Some i → p ≤ length (fields_of set b) → IsParent set g b i → place_steps n set g 0 + place_steps (suc n) set b (suc p) < place_steps (suc n) set b p
unfolding place_steps field_cleared_at
less_into n set b zero i g at le is =
    let into : steps_into (group_steps (suc n) set) (group_target set b i) ≡ suc (suc (group_steps (suc n) set g)) = ap (steps_into (group_steps (suc n) set)) (parent_target set g b i is) in
    omega (arith, group_steps_next n set g, into, one_of_all (group_steps (suc n) set) (fields_of set b) i is.field)
less_into n set b (suc j) i g at le is =
    let plain = plain_place (is_member (field_at set b j).field) j i at in
    let same = plain.1 in
    let into : steps_into (group_steps (suc n) set) (group_target set b j) ≡ suc (suc (group_steps (suc n) set g)) = ap (λ (k : ℕ). steps_into (group_steps (suc n) set) (group_target set b k)) same ∙ ap (steps_into (group_steps (suc n) set)) (parent_target set g b i is) in
    omega (arith, group_steps_next n set g, into, steps_past (group_steps (suc n) set) (fields_of set b) j (omega arith))

pub less_on : (n : ℕ) (at : StructSchema) (depth p : ℕ) → p ≤ length (struct_fields at) → steps_of n at depth (p + 1) < steps_of n at depth p
less_on n at depth p le =
    let new = steps_frame n (set_of at) (number_of at) (p + 1) (way (set_of at) depth (number_of at)) in
    let old = steps_frame n (set_of at) (number_of at) p (way (set_of at) depth (number_of at)) in
    let next = ap (place_steps n (set_of at) (number_of at)) (add-one p) in
    omega (arith, new, old, next, less_past n (set_of at) (number_of at) p le)

less_in : (n : ℕ) (at : StructSchema) (depth p : ℕ) (f : Field) (g : StructSchema) → IsFound at (field_cleared_at (set_of at) (number_of at) p) (Some f) → p ≤ length (struct_fields at) → IsGroupAt f g → steps_of n g (suc depth) 0 < steps_of (suc n) at depth p
less_in n at depth p f g found le is = subst (λ (z : Schemas). all_steps n z ((number_of g, 0) ∷ way z (suc depth) (number_of g)) < steps_of (suc n) at depth p) (sym here) in_set
  where
    d : Due at p f
    d = due at p f found

    set : Schemas
    set = set_of at

    b : ℕ
    b = number_of at

    here : set_of g ≡ set_of at
    here = is.set ∙ d.set

    named : group_field_of set (number_of g) ≡ Some (b, index_of f)
    named = back_in at p f g d is

    frames : way set (suc depth) (number_of g) ≡ (b, suc p) ∷ way set depth b
    frames = way_in at depth p f g d is

    parent : IsParent set (number_of g) b (index_of f)
    parent = target_parent set (number_of g) b (index_of f) (group_field_found set (number_of g) b (index_of f) named).1

    in_set : all_steps n set ((number_of g, 0) ∷ way set (suc depth) (number_of g)) < all_steps (suc n) set ((b, p) ∷ way set depth b)
    in_set =
        let new = steps_frame n set (number_of g) 0 (way set (suc depth) (number_of g)) in
        let above = ap (all_steps (suc n) set) frames in
        let outer = steps_frame (suc n) set b (suc p) (way set depth b) in
        let old = steps_frame (suc n) set b p (way set depth b) in
        omega (arith, new, above, outer, old, less_into n set b p (index_of f) (number_of g) d.index le parent)

less_out : (n : ℕ) (g : StructSchema) (depth p : ℕ) (f : Field) → IsGroupFieldOf g f → Some (place_of_field f) ≡ group_field_of (set_of g) (number_of g) →
    steps_of (suc n) (field_schema f) depth (cleared_behind (field_set f) (field_brand f) (index_of f)) < steps_of n g (suc depth) p
less_out n g depth p f is place =
    let old = steps_frame n (set_of g) (number_of g) p (way (set_of g) (suc depth) (number_of g)) in
    let above = ap (all_steps (suc n) (set_of g)) (way_group (set_of g) depth (number_of g) (field_brand f) (index_of f) (sym place)) in
    let here = ap (λ (z : Schemas). all_steps (suc n) z ((field_brand f, cleared_behind z (field_brand f) (index_of f)) ∷ way z depth (field_brand f))) is.set in
    omega (arith, old, above, here, steps_are_some n (set_of g) (number_of g) p)

-- ---- in the words of the loop ----

pub goes_in : (left : ℕ) (at : StructSchema) (depth p : ℕ) (f : Field) (g : StructSchema) (s y : StructTree) → (left ≡ 0 → ⊥) → IsFound at (field_cleared_at (set_of at) (number_of at) p) (Some f) → p ≤ length (struct_fields at) → IsGroupAt f g → y ≡ switched_to f s →
    left_of left at depth p s ≡ left_of (left - 1) g (depth + 1) 0 y
goes_in zero at depth p f g s y some found le is e = absurd (some refl)
goes_in (suc n) at depth p f g s y some found le is e =
    let less : suc n - 1 ≡ n = omega arith in
    into_group n at depth p f g s y found le is e ∙ (ap (λ (d : ℕ). left_of n g d 0 y) (sym (add-one depth)) ∙ ap (λ (k : ℕ). left_of k g (depth + 1) 0 y) (sym less))

pub fewer_in : (left : ℕ) (at : StructSchema) (depth p : ℕ) (f : Field) (g : StructSchema) → (left ≡ 0 → ⊥) → IsFound at (field_cleared_at (set_of at) (number_of at) p) (Some f) → p ≤ length (struct_fields at) → IsGroupAt f g →
    steps_of (left - 1) g (depth + 1) 0 < steps_of left at depth p
fewer_in zero at depth p f g some found le is = absurd (some refl)
fewer_in (suc n) at depth p f g some found le is =
    let less : suc n - 1 ≡ n = omega arith in
    let here = ap (λ (d : ℕ). steps_of n g d 0) (add-one depth) in
    let there = ap (λ (k : ℕ). steps_of k g (depth + 1) 0) less in
    omega (arith, here, there, less_in n at depth p f g found le is)

goes_out : (left : ℕ) (g : StructSchema) (depth p : ℕ) (f : Field) (s : StructTree) → (depth ≡ 0 → ⊥) → length (struct_fields g) < p → IsGroupFieldOf g f → Some (place_of_field f) ≡ group_field_of (set_of g) (number_of g) →
    left_of left g depth p s ≡ left_of (left + 1) (field_schema f) (depth - 1) (cleared_behind (field_set f) (field_brand f) (index_of f)) s
goes_out left g zero p f s some past is place = absurd (some refl)
goes_out left g (suc d) p f s some past is place =
    let less : suc d - 1 ≡ d = omega arith in
    out_of_group left g d p f s past is place
    ∙ (ap (λ (k : ℕ). left_of k (field_schema f) d (cleared_behind (field_set f) (field_brand f) (index_of f)) s) (sym (add-one left))
    ∙ ap (λ (k : ℕ). left_of (left + 1) (field_schema f) k (cleared_behind (field_set f) (field_brand f) (index_of f)) s) (sym less))

fewer_out : (left : ℕ) (g : StructSchema) (depth p : ℕ) (f : Field) → (depth ≡ 0 → ⊥) → IsGroupFieldOf g f → Some (place_of_field f) ≡ group_field_of (set_of g) (number_of g) →
    steps_of (left + 1) (field_schema f) (depth - 1) (cleared_behind (field_set f) (field_brand f) (index_of f)) < steps_of left g depth p
fewer_out left g zero p f some is place = absurd (some refl)
fewer_out left g (suc d) p f some is place =
    let less : suc d - 1 ≡ d = omega arith in
    let here = ap (λ (k : ℕ). steps_of k (field_schema f) (suc d - 1) (cleared_behind (field_set f) (field_brand f) (index_of f))) (add-one left) in
    let there = ap (λ (k : ℕ). steps_of (suc left) (field_schema f) k (cleared_behind (field_set f) (field_brand f) (index_of f))) less in
    omega (arith, here, there, less_out left g d p f is place)

-- the field's struct and the place behind it by other names
pub goes_above : (left : ℕ) (g : StructSchema) (depth p : ℕ) (f : Field) (s : StructTree) (a : StructSchema) (q : ℕ) → a ≡ field_schema f → q ≡ cleared_behind (field_set f) (field_brand f) (index_of f) →
    (depth ≡ 0 → ⊥) → length (struct_fields g) < p → IsGroupFieldOf g f → Some (place_of_field f) ≡ group_field_of (set_of g) (number_of g) → left_of left g depth p s ≡ left_of (left + 1) a (depth - 1) q s
goes_above left g depth p f s a q same behind some past is place =
    goes_out left g depth p f s some past is place
    ∙ (ap (λ (k : ℕ). left_of (left + 1) (field_schema f) (depth - 1) k s) (sym behind) ∙ ap (λ (z : StructSchema). left_of (left + 1) z (depth - 1) q s) (sym same))

pub fewer_above : (left : ℕ) (g : StructSchema) (depth p : ℕ) (f : Field) (a : StructSchema) (q : ℕ) → a ≡ field_schema f → q ≡ cleared_behind (field_set f) (field_brand f) (index_of f) →
    (depth ≡ 0 → ⊥) → IsGroupFieldOf g f → Some (place_of_field f) ≡ group_field_of (set_of g) (number_of g) → steps_of (left + 1) a (depth - 1) q < steps_of left g depth p
fewer_above left g depth p f a q same behind some is place =
    subst (λ (z : StructSchema). steps_of (left + 1) z (depth - 1) q < steps_of left g depth p) (sym same)
    (subst (λ (k : ℕ). steps_of (left + 1) (field_schema f) (depth - 1) k < steps_of left g depth p) (sym behind) (fewer_out left g depth p f some is place))

pub fits_above : (g : StructSchema) (f : Field) (s : StructTree) (a : StructSchema) → a ≡ field_schema f → IsGroupFieldOf g f → Fits (set_of g) (number_of g) s → Fits (set_of a) (number_of a) s
fits_above g f s a same is room = subst (λ (z : StructSchema). Fits (set_of z) (number_of z) s) (sym same) (room_above g f s is room)

-- a group has the sections of the struct, which are kept
pub group_fits : (at : StructSchema) (p : ℕ) (f : Field) (g : StructSchema) (s y : StructTree) → IsFound at (field_cleared_at (set_of at) (number_of at) p) (Some f) → IsGroupAt f g → KeepsSize s y → Fits (set_of at) (number_of at) s → Fits (set_of g) (number_of g) y
group_fits at p f g s y found is kept room =
    let same = (found_at at (field_cleared_at (set_of at) (number_of at) p) f found).1 in
    fits_kept (set_of g) (number_of g) s y kept (is.room s (subst (λ (z : StructSchema). Fits (set_of z) (number_of z) s) (sym same) room))
