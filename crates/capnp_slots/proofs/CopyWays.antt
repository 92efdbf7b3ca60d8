-- A group is copied place by place, and the groups in it by their own fields: what is left to copy from a place on, and of
-- the groups above it.
use Rattle.std.specs.Prelude.{ℕ, zero, suc, ◌+◌, ◌-◌, ◌<◌, ◌≤◌, ◌≡◌, ⊤, refl, List, [], ◌∷◌, ◌++◌, Bool, true, false, not, ◌&&◌, ◌==◌, cond, drop, length, Option, Some, None, Ok, Err}
use Rattle.std.proofs.Common.{add-one, arith, ap, sym, subst, ◌∙◌}
use Rattle.std.proofs.lemmas.Bool.{and_parts}
use Rattle.std.proofs.lemmas.Option.{cond_some, same_Some}
use Rattle.capnp_device.specs.declared.error.Error.{Error}
use Rattle.capnp_device.specs.declared.error.ErrorKind.{ErrorKind}
use Rattle.capnp_wire.specs.Tree.{StructTree}
use Rattle.capnp_schema.specs.Accepted.{IsParent}
use Rattle.capnp_schema.specs.Steps.Checking.Parents.{group_target}
use Rattle.capnp_schema.specs.Facts.GroupFields.{group_field_found, parent_target, target_parent}
use Rattle.capnp_schema.specs.FieldLists.{IsFound, index_of, field_schema, typed_of}
use Rattle.capnp_schema.specs.GroupFields.{group_field_of}
use Rattle.capnp_schema.specs.GroupsDown.{IsGroupFieldOf, place_of_field}
use Rattle.capnp_schema.specs.Steps.GroupWalks.{steps_into}
use Rattle.capnp_schema.specs.Laws.{group_height}
use Rattle.capnp_schema.specs.Query.{indices_from, is_non_union, keep_index}
use Rattle.capnp_schema.specs.Schema.{Schemas, TypedField, field_at, fields_of, is_member, node_of}
use Rattle.capnp_schema.specs.StructHandles.{number_of, set_of, struct_fields}
use Rattle.capnp_schema.specs.declared.schema.fields.Field.{Field}
use Rattle.capnp_schema.specs.declared.schema.structs.StructSchema.{StructSchema}
use Rattle.capnp_records.specs.Part.{which_of}
use Rattle.capnp_records.specs.Reading.{active_among, discriminant, part_of, non_union_parts, values_of}
use Rattle.capnp_records.specs.Record.{Active, Levels, NoUnion, Parts, Union, Value, Values}
use Rattle.capnp_records.specs.Writes.Overlay.{cleared_group}
use Rattle.capnp_records.specs.Writes.Slots.{Fits}
use Rattle.capnp_records.specs.Writes.TreeCopy.{TreeCopiesWithin}
use Rattle.capnp_slots.specs.Copied.{IsCopied, copy_content, copy_given}
use Rattle.capnp_slots.specs.Fields.{IsRoomFor, IsSlot, field_brand, field_set, switched_to}
use Rattle.capnp_slots.specs.Steps.GroupClears.{field_cleared_at, cleared_behind, place_behind, unless_member_place}
use Rattle.capnp_slots.specs.Steps.GroupSets.{CopiesIndices, CopiesThrough, active_in, copied_at, if_passes, is_index_there, is_part_there, kept_indices, member_indices, non_union_in}
use Rattle.capnp_slots.specs.Groups.{IsGroupAt, KeepsSize}
use Rattle.capnp_slots.specs.Sources.{IsSetRefusal}
use Rattle.capnp_slots.proofs.GroupClears.{entry, fits_kept, records}
use Rattle.capnp_slots.proofs.GroupCopies.{fields_cut, fields_next, group_copied, none_copied, slot_copied, whole}
use Rattle.capnp_slots.proofs.GroupWays.{all_steps, behind_is, fewer_above, found_at, found_none, group_steps_next, group_steps, less_into, one_of_all, place_steps, steps_frame, steps_of, way, way_group, way_outside, way_start}

-- ---- the fields that are copied from a place on ----

unfoldable pub left_indices : Schemas → Levels → StructTree → ℕ → (place : ℕ) → List ℕ
left_indices set l x b zero = member_indices (active_in set l x b) ++ non_union_in set l x b
left_indices set l x b (suc i) = kept_indices (is_index_there set l x b) (indices_from i is_non_union (records (drop i (fields_of set b))))

plain_from : (fs : List TypedField) (i k : ℕ) (q : Bool) → i < length fs → is_member (entry fs i).field ≡ q →
    indices_from k is_non_union (records (drop i fs)) ≡ keep_index (not q) k (indices_from (suc k) is_non_union (records (drop (suc i) fs)))
plain_from [] i k q lt e = absurd (omega arith)
plain_from (f ∷ fs) zero k q lt e = ap (λ (r : Bool). keep_index (not r) k (indices_from (suc k) is_non_union (records fs))) e
plain_from (f ∷ fs) (suc i) k q lt e = plain_from fs i k q (omega arith) e

plain_past : (fs : List TypedField) (i k : ℕ) → length fs ≤ i → indices_from k is_non_union (records (drop i fs)) ≡ []
plain_past [] zero k le = refl
plain_past [] (suc i) k le = refl
plain_past (f ∷ fs) zero k le = absurd (omega arith)
plain_past (f ∷ fs) (suc i) k le = plain_past fs i k (omega arith)

module _ (there : ℕ → Bool) where
  passes_some : (o : Option ℕ) (i : ℕ) → if_passes there o ≡ Some i → o ≡ Some i
  passes_some None i e = cc
  passes_some (Some j) i e = ap (λ (k : ℕ). Some k) (cond_some (there j) j i e).1

  nothing_kept : (q t : Bool) (k : ℕ) (js : List ℕ) → there k ≡ t → if_passes there (unless_member_place q k) ≡ None → kept_indices there (keep_index (not q) k js) ≡ kept_indices there js
  nothing_kept true t k js h e = refl
  nothing_kept false false k js h e = ap (λ (r : Bool). keep_index r k (kept_indices there js)) h
  nothing_kept false true k js h e = absurd (let none : Some k ≡ None = sym (ap (λ (r : Bool). cond r (Some k) None) h) ∙ e in cc)

  one_kept : (q : Bool) (k i : ℕ) (js : List ℕ) → if_passes there (unless_member_place q k) ≡ Some i → kept_indices there (keep_index (not q) k js) ≡ i ∷ kept_indices there js
  one_kept true k i js e = cc
  one_kept false k i js e =
      let found = cond_some (there k) k i e in
      ap (λ (r : Bool). keep_index r k (kept_indices there js)) found.0 ∙ ap (λ (j : ℕ). j ∷ kept_indices there js) found.1

module _ (set : Schemas) (l : Levels) (x : StructTree) (b : ℕ) where
  -- nothing is copied at a place
  left_nothing : (p : ℕ) → copied_at set l x b p ≡ None → p ≤ length (fields_of set b) → left_indices set l x b p ≡ left_indices set l x b (suc p)
  unfolding left_indices copied_at field_cleared_at
  left_nothing zero none le = ap (λ (o : Option ℕ). member_indices o ++ non_union_in set l x b) none
  left_nothing (suc i) none le =
      ap (kept_indices (is_index_there set l x b)) (plain_from (fields_of set b) i i (is_member (field_at set b i).field) (omega arith) refl)
      ∙ nothing_kept (is_index_there set l x b) (is_member (field_at set b i).field) (is_index_there set l x b i) i (indices_from (suc i) is_non_union (records (drop (suc i) (fields_of set b)))) refl none

  -- a field is
  left_field : (p i : ℕ) → copied_at set l x b p ≡ Some i → p ≤ length (fields_of set b) → left_indices set l x b p ≡ i ∷ left_indices set l x b (suc p)
  unfolding left_indices copied_at field_cleared_at
  left_field zero i some le = ap (λ (o : Option ℕ). member_indices o ++ non_union_in set l x b) some
  left_field (suc j) i some le =
      ap (kept_indices (is_index_there set l x b)) (plain_from (fields_of set b) j j (is_member (field_at set b j).field) (omega arith) refl)
      ∙ one_kept (is_index_there set l x b) (is_member (field_at set b j).field) j i (indices_from (suc j) is_non_union (records (drop (suc j) (fields_of set b)))) some

  -- and past the last none is
  left_past : (p : ℕ) → length (fields_of set b) < p → left_indices set l x b p ≡ []
  unfolding left_indices
  left_past zero past = absurd (omega arith)
  left_past (suc i) past = ap (kept_indices (is_index_there set l x b)) (plain_past (fields_of set b) i i (omega arith))

-- ---- the place behind a field ----

-- the index of an active member
record Among (fs : List TypedField) (k i : ℕ) : Type 0 where
  pub index : ℕ
  pub counted : i ≡ k + index
  pub member : is_member (entry fs index).field ≡ true

among : (part : TypedField → Value) (vs : Values) (fs : List TypedField) (k d i : ℕ) → which_of (Parts vs (active_among part fs k d)) ≡ Some i → Among fs k i
among part vs [] k d i e = absurd (let none : None ≡ Some i = e in cc)
among part vs (f ∷ fs) k d i e = go (λ h. among part vs fs (suc k) d i h) (is_member f.field && (f.field.discriminant_value == d)) refl e
  where
    go : (which_of (Parts vs (active_among part fs (suc k) d)) ≡ Some i → Among fs (suc k) i) → (q : Bool) → (is_member f.field && (f.field.discriminant_value == d)) ≡ q →
        which_of (Parts vs (elim q as (λ _. Union) [ true ↦ Active k (part f) | false ↦ active_among part fs (suc k) d ])) ≡ Some i → Among (f ∷ fs) k i
    go more true is h = let same = same_Some k i h in record { index = 0; counted = omega (arith, same); member = (and_parts _ _ is).0 }
    go more false is h =
        let later = more h in
        let counted = later.counted in
        record { index = suc later.index; counted = omega (arith, counted); member = later.member }

active_member : (set : Schemas) (l : Levels) (x : StructTree) (b i : ℕ) → active_in set l x b ≡ Some i → is_member (field_at set b i).field ≡ true
unfolding active_in
active_member set l x b i e = go ((node_of set b).discriminant_count == 0) e
  where
    go : (q : Bool) → which_of (Parts (non_union_parts (part_of set l x.bytes (values_of set x.pointers)) (fields_of set b)) (elim q as (λ _. Union) [ true ↦ NoUnion | false ↦ active_among (part_of set l x.bytes (values_of set x.pointers)) (fields_of set b) 0 (discriminant (node_of set b) x.bytes) ])) ≡ Some i →
        is_member (field_at set b i).field ≡ true
    go true h = absurd (let none : None ≡ Some i = h in cc)
    go false h =
        let found = among (part_of set l x.bytes (values_of set x.pointers)) (non_union_parts (part_of set l x.bytes (values_of set x.pointers)) (fields_of set b)) (fields_of set b) 0 (discriminant (node_of set b) x.bytes) i h in
        let counted = found.counted in
        let same : found.index ≡ i = omega (arith, counted) in
        subst (λ (k : ℕ). is_member (field_at set b k).field ≡ true) same found.member

behind_copied : (set : Schemas) (l : Levels) (x : StructTree) (b p i : ℕ) → copied_at set l x b p ≡ Some i → cleared_behind set b i ≡ suc p
unfolding copied_at cleared_behind
behind_copied set l x b zero i some = ap (λ (q : Bool). place_behind q i) (active_member set l x b i some)
behind_copied set l x b (suc j) i some = behind_is set b (suc j) i (passes_some (is_index_there set l x b) (field_cleared_at set b (suc j)) i some)

-- ---- what a copy leads to ----

-- what holds of a refusal, or none, and of the struct after
abbrev pub Ending : Type 1
Ending = Option ErrorKind → StructTree → Type 0

-- after what was not refused the rest is copied, and a refusal ends it
abbrev pub Continues : Ending → (StructTree → Option ErrorKind → StructTree → Type 0) → Ending
Continues After Rest None s = (o : Option ErrorKind) (s' : StructTree) → Rest s o s' → After o s'
Continues After Rest (Some kind) s = After (Some kind) s

-- where the copy of a group inside these others, each at a place, has ended, the whole ends once their rest is copied
unfoldable pub Leads : Ending → ℕ → Schemas → Levels → StructTree → List (ℕ × ℕ) → Ending
Leads Outcome n set l x [] = Outcome
Leads Outcome n set l x ((b, p) ∷ frames) = Continues (Leads Outcome (suc n) set l x frames) (CopiesIndices n set l x b (left_indices set l x b p))

-- what is left of a copy that stands at a place of a group
abbrev pub Stands : Ending → ℕ → Levels → StructTree → StructSchema → (depth place : ℕ) → StructTree → Type 0
Stands Outcome n l x at depth p s = Leads Outcome n (set_of at) l x ((number_of at, p) ∷ way (set_of at) depth (number_of at)) None s

module _ (Outcome : Ending) (l : Levels) (x : StructTree) where
  leads_end : (n : ℕ) (set : Schemas) (o : Option ErrorKind) (s : StructTree) → Leads Outcome n set l x [] o s → Outcome o s
  unfolding Leads
  leads_end n set o s h = h

  leads_start : (n : ℕ) (set : Schemas) (o : Option ErrorKind) (s : StructTree) → Outcome o s → Leads Outcome n set l x [] o s
  unfolding Leads
  leads_start n set o s h = h

  leads_cut : (n : ℕ) (set : Schemas) (frames : List (ℕ × ℕ)) (kind : ErrorKind) (s : StructTree) → Leads Outcome n set l x frames (Some kind) s → Outcome (Some kind) s
  unfolding Leads
  leads_cut n set [] kind s h = h
  leads_cut n set ((b, p) ∷ frames) kind s h = leads_cut (suc n) set frames kind s h

  module _ (n : ℕ) (set : Schemas) (b p : ℕ) (frames : List (ℕ × ℕ)) where
    go_into : (s : StructTree) → Leads Outcome n set l x ((b, p) ∷ frames) None s →
        (o : Option ErrorKind) (s' : StructTree) → CopiesIndices n set l x b (left_indices set l x b p) s o s' → Leads Outcome (suc n) set l x frames o s'
    unfolding Leads
    go_into s h = h

    come_to : (s : StructTree) → ((o : Option ErrorKind) (s' : StructTree) → CopiesIndices n set l x b (left_indices set l x b p) s o s' → Leads Outcome (suc n) set l x frames o s') →
        Leads Outcome n set l x ((b, p) ∷ frames) None s
    unfolding Leads
    come_to s h = h

    come_cut : (kind : ErrorKind) (s : StructTree) → Leads Outcome (suc n) set l x frames (Some kind) s → Leads Outcome n set l x ((b, p) ∷ frames) (Some kind) s
    unfolding Leads
    come_cut kind s h = h

    go_on : (q : ℕ) (s y : StructTree) → ((o : Option ErrorKind) (s' : StructTree) → CopiesIndices n set l x b (left_indices set l x b q) y o s' → CopiesIndices n set l x b (left_indices set l x b p) s o s') →
        Leads Outcome n set l x ((b, p) ∷ frames) None s → Leads Outcome n set l x ((b, q) ∷ frames) None y
    unfolding Leads
    go_on q s y step h o s' left = h o s' (step o s' left)

-- ---- one field more ----

module _ (n : ℕ) (set : Schemas) (l : Levels) (x : StructTree) (b : ℕ) where
  next_copied : (i : ℕ) (is : List ℕ) (s m s' : StructTree) (o : Option ErrorKind) → CopiesIndices n set l x b (i ∷ []) s None m → CopiesIndices n set l x b is m o s' → CopiesIndices n set l x b (i ∷ is) s o s'
  unfolding CopiesIndices
  next_copied i is s m s' o first rest = fields_next (TreeCopiesWithin n set l x) set l x b i is s m s' o first rest

  cut_copied : (i : ℕ) (is : List ℕ) (s s' : StructTree) (kind : ErrorKind) → CopiesIndices n set l x b (i ∷ []) s (Some kind) s' → CopiesIndices n set l x b (i ∷ is) s (Some kind) s'
  unfolding CopiesIndices
  cut_copied i is s s' kind first = fields_cut (TreeCopiesWithin n set l x) set l x b i is s s' kind first

  -- all fields of a group that was cleared
  all_copied : (s m s' : StructTree) (o : Option ErrorKind) → m ≡ cleared_group set b s → CopiesIndices n set l x b (left_indices set l x b 0) m o s' → CopiesThrough (suc n) set l x b s o s'
  unfolding CopiesIndices CopiesThrough left_indices active_in
  all_copied s m s' o cleared h = whole n set l x b s m s' o cleared h

  nothing_left : (p : ℕ) (s : StructTree) → length (fields_of set b) < p → CopiesIndices n set l x b (left_indices set l x b p) s None s
  nothing_left p s past = subst (λ (js : List ℕ). CopiesIndices n set l x b js s None s) (sym (left_past set l x b p past)) (none_copied n set l x b s)

  -- behind a field that was copied
  field_next : (p i : ℕ) (s m s' : StructTree) (o : Option ErrorKind) → copied_at set l x b p ≡ Some i → p ≤ length (fields_of set b) → CopiesIndices n set l x b (i ∷ []) s None m →
      CopiesIndices n set l x b (left_indices set l x b (suc p)) m o s' → CopiesIndices n set l x b (left_indices set l x b p) s o s'
  field_next p i s m s' o at le first rest =
      subst (λ (js : List ℕ). CopiesIndices n set l x b js s o s') (sym (left_field set l x b p i at le)) (next_copied i (left_indices set l x b (suc p)) s m s' o first rest)

  field_cut : (p i : ℕ) (s s' : StructTree) (kind : ErrorKind) → copied_at set l x b p ≡ Some i → p ≤ length (fields_of set b) → CopiesIndices n set l x b (i ∷ []) s (Some kind) s' →
      CopiesIndices n set l x b (left_indices set l x b p) s (Some kind) s'
  field_cut p i s s' kind at le first =
      subst (λ (js : List ℕ). CopiesIndices n set l x b js s (Some kind) s') (sym (left_field set l x b p i at le)) (cut_copied i (left_indices set l x b (suc p)) s s' kind first)

pub slot_taken : (n : ℕ) (f : Field) (l : Levels) (x s s' : StructTree) → IsSlot f → IsCopied f (copy_given f l x) (copy_content f x) s s' → CopiesIndices n (field_set f) l x (field_brand f) (index_of f ∷ []) s None s'
slot_taken n f l x s s' slot copied = slot_copied n f l x s s' (Ok tt) slot copied tt tt

pub slot_refused : (n : ℕ) (f : Field) (l : Levels) (x s s' : StructTree) (e : Error) → IsSlot f → s' ≡ s → IsSetRefusal (copy_given f l x) e.kind → CopiesIndices n (field_set f) l x (field_brand f) (index_of f ∷ []) s (Some e.kind) s'
slot_refused n f l x s s' e slot same cause = slot_copied n f l x s s' (Err e) slot tt same cause

-- ---- handles ----

-- a field that is copied at a place
record Due (l : Levels) (x : StructTree) (at : StructSchema) (p : ℕ) (f : Field) : Type 0 where
  pub set : field_set f ≡ set_of at
  pub brand : field_brand f ≡ number_of at
  pub index : copied_at (set_of at) l x (number_of at) p ≡ Some (index_of f)

due : (l : Levels) (x : StructTree) (at : StructSchema) (p : ℕ) (f : Field) → IsFound at (copied_at (set_of at) l x (number_of at) p) (Some f) → Due l x at p f
due l x at p f found =
    let is = found_at at (copied_at (set_of at) l x (number_of at) p) f found in
    record { set = ap set_of is.1; brand = ap number_of is.1; index = is.0 }

due_copied : (n : ℕ) (l : Levels) (x : StructTree) (at : StructSchema) (p : ℕ) (f : Field) (s y : StructTree) (o : Option ErrorKind) → Due l x at p f → CopiesIndices n (field_set f) l x (field_brand f) (index_of f ∷ []) s o y →
    CopiesIndices n (set_of at) l x (number_of at) (index_of f ∷ []) s o y
due_copied n l x at p f s y o d h =
    subst (λ (b : ℕ). CopiesIndices n (set_of at) l x b (index_of f ∷ []) s o y) d.brand
    (subst (λ (z : Schemas). CopiesIndices n z l x (field_brand f) (index_of f ∷ []) s o y) d.set h)

-- the way from the group of a due field leads back behind the field
back_in : (l : Levels) (x : StructTree) (at : StructSchema) (p : ℕ) (f : Field) (g : StructSchema) → Due l x at p f → IsGroupAt f g → group_field_of (set_of at) (number_of g) ≡ Some (number_of at, index_of f)
back_in l x at p f g d is = ap (λ (z : Schemas). group_field_of z (number_of g)) (sym d.set) ∙ (is.back ∙ ap (λ (c : ℕ). Some (c, index_of f)) d.brand)

way_in : (l : Levels) (x : StructTree) (at : StructSchema) (depth p : ℕ) (f : Field) (g : StructSchema) → Due l x at p f → IsGroupAt f g → way (set_of at) (suc depth) (number_of g) ≡ (number_of at, suc p) ∷ way (set_of at) depth (number_of at)
way_in l x at depth p f g d is = way_group (set_of at) depth (number_of g) (number_of at) (index_of f) (back_in l x at p f g d is)
    ∙ ap (λ (q : ℕ). (number_of at, q) ∷ way (set_of at) depth (number_of at)) (behind_copied (set_of at) l x (number_of at) p (index_of f) d.index)

-- ---- the steps of the copy ----

module _ (Outcome : Ending) (l : Levels) (x : StructTree) where
  from_start : (n : ℕ) (at : StructSchema) (depth : ℕ) (m : StructTree) → depth ≡ 0 → ((o : Option ErrorKind) (s' : StructTree) → CopiesIndices n (set_of at) l x (number_of at) (left_indices (set_of at) l x (number_of at) 0) m o s' → Outcome o s') →
      Stands Outcome n l x at depth 0 m
  from_start n at depth m e h =
      come_to Outcome l x n (set_of at) (number_of at) 0 (way (set_of at) depth (number_of at)) m
      (λ o s' left. subst (λ (frames : List (ℕ × ℕ)). Leads Outcome (suc n) (set_of at) l x frames o s') (sym (way_start (set_of at) depth (number_of at) e)) (leads_start Outcome l x (suc n) (set_of at) o s' (h o s' left)))

  pub past_nothing : (n : ℕ) (at : StructSchema) (depth p : ℕ) (s : StructTree) → IsFound at (copied_at (set_of at) l x (number_of at) p) None → p ≤ length (struct_fields at) → Stands Outcome n l x at depth p s → Stands Outcome n l x at depth (p + 1) s
  past_nothing n at depth p s none le =
      go_on Outcome l x n (set_of at) (number_of at) p (way (set_of at) depth (number_of at)) (p + 1) s s
      (λ o s' left. subst (λ (js : List ℕ). CopiesIndices n (set_of at) l x (number_of at) js s o s') (sym same) left)
    where
      same : left_indices (set_of at) l x (number_of at) p ≡ left_indices (set_of at) l x (number_of at) (p + 1)
      same = left_nothing (set_of at) l x (number_of at) p (found_none at (copied_at (set_of at) l x (number_of at) p) none) le
          ∙ ap (left_indices (set_of at) l x (number_of at)) (sym (add-one p))

  pub past_slot : (n : ℕ) (at : StructSchema) (depth p : ℕ) (f : Field) (s y : StructTree) → IsFound at (copied_at (set_of at) l x (number_of at) p) (Some f) → p ≤ length (struct_fields at) →
      CopiesIndices n (field_set f) l x (field_brand f) (index_of f ∷ []) s None y → Stands Outcome n l x at depth p s → Stands Outcome n l x at depth (p + 1) y
  past_slot n at depth p f s y found le copied =
      go_on Outcome l x n (set_of at) (number_of at) p (way (set_of at) depth (number_of at)) (p + 1) s y
      (λ o s' left. field_next n (set_of at) l x (number_of at) p (index_of f) s y s' o d.index le (due_copied n l x at p f s y None d copied)
      (subst (λ (q : ℕ). CopiesIndices n (set_of at) l x (number_of at) (left_indices (set_of at) l x (number_of at) q) y o s') (add-one p) left))
    where
      d : Due l x at p f
      d = due l x at p f found

  pub cut_slot : (n : ℕ) (at : StructSchema) (depth p : ℕ) (f : Field) (s y : StructTree) (kind : ErrorKind) → IsFound at (copied_at (set_of at) l x (number_of at) p) (Some f) → p ≤ length (struct_fields at) →
      CopiesIndices n (field_set f) l x (field_brand f) (index_of f ∷ []) s (Some kind) y → Stands Outcome n l x at depth p s → Outcome (Some kind) y
  cut_slot n at depth p f s y kind found le copied h =
      leads_cut Outcome l x (suc n) (set_of at) (way (set_of at) depth (number_of at)) kind y
      (go_into Outcome l x n (set_of at) (number_of at) p (way (set_of at) depth (number_of at)) s h (Some kind) y
      (field_cut n (set_of at) l x (number_of at) p (index_of f) s y kind d.index le (due_copied n l x at p f s y (Some kind) d copied)))
    where
      d : Due l x at p f
      d = due l x at p f found

  -- a group is gone into
  into_group : (n : ℕ) (at : StructSchema) (depth p : ℕ) (f : Field) (g : StructSchema) (s y : StructTree) → IsFound at (copied_at (set_of at) l x (number_of at) p) (Some f) → p ≤ length (struct_fields at) → IsGroupAt f g →
      y ≡ cleared_group (set_of g) (number_of g) (switched_to f s) → Stands Outcome (suc n) l x at depth p s → Stands Outcome n l x g (suc depth) 0 y
  into_group n at depth p f g s y found le is cleared h =
      subst (λ (z : Schemas). Leads Outcome n z l x ((number_of g, 0) ∷ way z (suc depth) (number_of g)) None y) (sym here)
      (come_to Outcome l x n (set_of at) (number_of g) 0 (way (set_of at) (suc depth) (number_of g)) y
      (λ o s' left. subst (λ (frames : List (ℕ × ℕ)). Leads Outcome (suc n) (set_of at) l x frames o s') (sym (way_in l x at depth p f g d is)) (ended o s' (whole_group o s' left))))
    where
      d : Due l x at p f
      d = due l x at p f found

      here : set_of g ≡ set_of at
      here = is.set ∙ d.set

      -- the group's copy is that of the field
      whole_group : (o : Option ErrorKind) (s' : StructTree) → CopiesIndices n (set_of at) l x (number_of g) (left_indices (set_of at) l x (number_of g) 0) y o s' →
          CopiesIndices (suc n) (set_of at) l x (number_of at) (index_of f ∷ []) s o s'
      whole_group o s' left =
          due_copied (suc n) l x at p f s s' o d
          (group_copied (suc n) f g l x s (switched_to f s) s' o is refl
          (all_copied n (set_of g) l x (number_of g) (switched_to f s) y s' o cleared
          (subst (λ (z : Schemas). CopiesIndices n z l x (number_of g) (left_indices z l x (number_of g) 0) y o s') (sym here) left)))

      ended : (o : Option ErrorKind) (s' : StructTree) → CopiesIndices (suc n) (set_of at) l x (number_of at) (index_of f ∷ []) s o s' →
          Leads Outcome (suc n) (set_of at) l x ((number_of at, suc p) ∷ way (set_of at) depth (number_of at)) o s'
      ended None s' copied =
          go_on Outcome l x (suc n) (set_of at) (number_of at) p (way (set_of at) depth (number_of at)) (suc p) s s'
          (λ o t left. field_next (suc n) (set_of at) l x (number_of at) p (index_of f) s s' t o d.index le copied left) h
      ended (Some kind) s' copied =
          come_cut Outcome l x (suc n) (set_of at) (number_of at) (suc p) (way (set_of at) depth (number_of at)) kind s'
          (go_into Outcome l x (suc n) (set_of at) (number_of at) p (way (set_of at) depth (number_of at)) s h (Some kind) s'
          (field_cut (suc n) (set_of at) l x (number_of at) p (index_of f) s s' kind d.index le copied))

  -- a group's copy ends
  past_last : (n : ℕ) (g : StructSchema) (depth p : ℕ) (s : StructTree) → length (struct_fields g) < p → Stands Outcome n l x g depth p s → Leads Outcome (suc n) (set_of g) l x (way (set_of g) depth (number_of g)) None s
  past_last n g depth p s past h =
      go_into Outcome l x n (set_of g) (number_of g) p (way (set_of g) depth (number_of g)) s h None s (nothing_left n (set_of g) l x (number_of g) p s past)

  -- it is left by its field
  out_of_group : (n : ℕ) (g : StructSchema) (depth p : ℕ) (f : Field) (s : StructTree) → length (struct_fields g) < p → IsGroupFieldOf g f → Some (place_of_field f) ≡ group_field_of (set_of g) (number_of g) →
      Stands Outcome n l x g (suc depth) p s → Stands Outcome (suc n) l x (field_schema f) depth (cleared_behind (field_set f) (field_brand f) (index_of f)) s
  out_of_group n g depth p f s past is place h =
      subst (λ (z : Schemas). Leads Outcome (suc n) z l x ((field_brand f, cleared_behind z (field_brand f) (index_of f)) ∷ way z depth (field_brand f)) None s) (sym is.set)
      (subst (λ (frames : List (ℕ × ℕ)). Leads Outcome (suc n) (set_of g) l x frames None s) (way_group (set_of g) depth (number_of g) (field_brand f) (index_of f) (sym place))
      (past_last n g (suc depth) p s past h))

  ends_by : (n : ℕ) (at : StructSchema) (depth p : ℕ) (s : StructTree) → length (struct_fields at) < p → way (set_of at) depth (number_of at) ≡ [] → Stands Outcome n l x at depth p s → Outcome None s
  ends_by n at depth p s past none h =
      leads_end Outcome l x (suc n) (set_of at) None s (subst (λ (frames : List (ℕ × ℕ)). Leads Outcome (suc n) (set_of at) l x frames None s) none (past_last n at depth p s past h))

-- ---- heights ----

-- the groups above are no higher than the groups that are left to go into
unfoldable pub AreLow : ℕ → Schemas → List (ℕ × ℕ) → Type 0
AreLow n set [] = ⊤
AreLow n set ((b, p) ∷ frames) = (group_height set b ≤ n) × AreLow (suc n) set frames

abbrev pub IsLow : ℕ → StructSchema → (depth place : ℕ) → Type 0
IsLow n at depth p = AreLow n (set_of at) ((number_of at, p) ∷ way (set_of at) depth (number_of at))

low_first : (n : ℕ) (set : Schemas) (b p : ℕ) (frames : List (ℕ × ℕ)) → AreLow n set ((b, p) ∷ frames) → group_height set b ≤ n
unfolding AreLow
low_first n set b p frames h = h.0

low_above : (n : ℕ) (set : Schemas) (b p : ℕ) (frames : List (ℕ × ℕ)) → AreLow n set ((b, p) ∷ frames) → AreLow (suc n) set frames
unfolding AreLow
low_above n set b p frames h = h.1

low_with : (n : ℕ) (set : Schemas) (b p : ℕ) (frames : List (ℕ × ℕ)) → group_height set b ≤ n → AreLow (suc n) set frames → AreLow n set ((b, p) ∷ frames)
unfolding AreLow
low_with n set b p frames first above = (first, above)

low_none : (n : ℕ) (set : Schemas) → AreLow n set []
unfolding AreLow
low_none n set = tt

low_start : (n : ℕ) (at : StructSchema) (depth : ℕ) → depth ≡ 0 → group_height (set_of at) (number_of at) ≤ n → IsLow n at depth 0
low_start n at depth e first = low_with n (set_of at) (number_of at) 0 (way (set_of at) depth (number_of at)) first
    (subst (λ (frames : List (ℕ × ℕ)). AreLow (suc n) (set_of at) frames) (sym (way_start (set_of at) depth (number_of at) e)) (low_none (suc n) (set_of at)))

pub low_next : (n : ℕ) (at : StructSchema) (depth p q : ℕ) → IsLow n at depth p → IsLow n at depth q
low_next n at depth p q h =
    low_with n (set_of at) (number_of at) q (way (set_of at) depth (number_of at)) (low_first n (set_of at) (number_of at) p (way (set_of at) depth (number_of at)) h) (low_above n (set_of at) (number_of at) p (way (set_of at) depth (number_of at)) h)

module _ (l : Levels) (x : StructTree) (at : StructSchema) (p : ℕ) (f : Field) (g : StructSchema) (d : Due l x at p f) (is : IsGroupAt f g) where
  lower_in : group_height (set_of at) (number_of g) < group_height (set_of at) (number_of at)
  lower_in = subst (λ (b : ℕ). group_height (set_of at) (number_of g) < group_height (set_of at) b) d.brand
      (subst (λ (z : Schemas). group_height z (number_of g) < group_height z (field_brand f)) d.set
      (subst (λ (z : Schemas). group_height z (number_of g) < group_height (field_set f) (field_brand f)) is.set is.lower))

  some_left : (n depth : ℕ) → IsLow n at depth p → 0 < n
  some_left n depth h = omega (arith, lower_in, low_first n (set_of at) (number_of at) p (way (set_of at) depth (number_of at)) h)

  low_into : (n depth : ℕ) → IsLow (suc n) at depth p → IsLow n g (suc depth) 0
  low_into n depth h =
      subst (λ (z : Schemas). AreLow n z ((number_of g, 0) ∷ way z (suc depth) (number_of g))) (sym (is.set ∙ d.set))
      (low_with n (set_of at) (number_of g) 0 (way (set_of at) (suc depth) (number_of g))
      (omega (arith, lower_in, low_first (suc n) (set_of at) (number_of at) p (way (set_of at) depth (number_of at)) h))
      (subst (λ (frames : List (ℕ × ℕ)). AreLow (suc n) (set_of at) frames) (sym (way_in l x at depth p f g d is))
      (low_with (suc n) (set_of at) (number_of at) (suc p) (way (set_of at) depth (number_of at))
      (low_first (suc n) (set_of at) (number_of at) p (way (set_of at) depth (number_of at)) h) (low_above (suc n) (set_of at) (number_of at) p (way (set_of at) depth (number_of at)) h))))

low_out : (n : ℕ) (g : StructSchema) (depth p : ℕ) (f : Field) → IsGroupFieldOf g f → Some (place_of_field f) ≡ group_field_of (set_of g) (number_of g) →
    IsLow n g (suc depth) p → IsLow (suc n) (field_schema f) depth (cleared_behind (field_set f) (field_brand f) (index_of f))
low_out n g depth p f is place h =
    subst (λ (z : Schemas). AreLow (suc n) z ((field_brand f, cleared_behind z (field_brand f) (index_of f)) ∷ way z depth (field_brand f))) (sym is.set)
    (subst (λ (frames : List (ℕ × ℕ)). AreLow (suc n) (set_of g) frames) (way_group (set_of g) depth (number_of g) (field_brand f) (index_of f) (sym place))
    (low_above n (set_of g) (number_of g) p (way (set_of g) (suc depth) (number_of g)) h))

-- ---- how many steps are left ----

less_into_copied : (n : ℕ) (set : Schemas) (l : Levels) (x : StructTree) (b p i g : ℕ) → copied_at set l x b p ≡ Some i → p ≤ length (fields_of set b) → IsParent set g b i →
    place_steps n set g 0 + place_steps (suc n) set b (suc p) < place_steps (suc n) set b p
unfolding place_steps copied_at
less_into_copied n set l x b zero i g at le is =
    let into : steps_into (group_steps (suc n) set) (group_target set b i) ≡ suc (suc (group_steps (suc n) set g)) = ap (steps_into (group_steps (suc n) set)) (parent_target set g b i is) in
    omega (arith, group_steps_next n set g, into, one_of_all (group_steps (suc n) set) (fields_of set b) i is.field)
less_into_copied n set l x b (suc j) i g at le is = less_into n set b (suc j) i g (passes_some (is_index_there set l x b) (field_cleared_at set b (suc j)) i at) le is

less_in : (n : ℕ) (l : Levels) (x : StructTree) (at : StructSchema) (depth p : ℕ) (f : Field) (g : StructSchema) → Due l x at p f → p ≤ length (struct_fields at) → IsGroupAt f g → steps_of n g (suc depth) 0 < steps_of (suc n) at depth p
less_in n l x at depth p f g d le is = subst (λ (z : Schemas). all_steps n z ((number_of g, 0) ∷ way z (suc depth) (number_of g)) < steps_of (suc n) at depth p) (sym (is.set ∙ d.set)) in_set
  where
    parent : IsParent (set_of at) (number_of g) (number_of at) (index_of f)
    parent = target_parent (set_of at) (number_of g) (number_of at) (index_of f) (group_field_found (set_of at) (number_of g) (number_of at) (index_of f) (back_in l x at p f g d is)).1

    in_set : all_steps n (set_of at) ((number_of g, 0) ∷ way (set_of at) (suc depth) (number_of g)) < all_steps (suc n) (set_of at) ((number_of at, p) ∷ way (set_of at) depth (number_of at))
    in_set =
        let new = steps_frame n (set_of at) (number_of g) 0 (way (set_of at) (suc depth) (number_of g)) in
        let above = ap (all_steps (suc n) (set_of at)) (way_in l x at depth p f g d is) in
        let outer = steps_frame (suc n) (set_of at) (number_of at) (suc p) (way (set_of at) depth (number_of at)) in
        let old = steps_frame (suc n) (set_of at) (number_of at) p (way (set_of at) depth (number_of at)) in
        omega (arith, new, above, outer, old, less_into_copied n (set_of at) l x (number_of at) p (index_of f) (number_of g) d.index le parent)

-- ---- in the words of the loop ----

-- how many groups were gone into, by how many are left
abbrev pub depth_at : (groups left : ℕ) → ℕ
depth_at groups left = groups - suc left

abbrev pub StandsAt : (groups : ℕ) → Ending → (left : ℕ) → Levels → StructTree → StructSchema → (place : ℕ) → StructTree → Type 0
StandsAt groups Outcome left l x at p s = Stands Outcome left l x at (depth_at groups left) p s

abbrev pub IsLowAt : (groups left : ℕ) → StructSchema → (place : ℕ) → Type 0
IsLowAt groups left at p = IsLow left at (depth_at groups left) p

abbrev pub steps_at : (groups left : ℕ) → StructSchema → (place : ℕ) → ℕ
steps_at groups left at p = steps_of left at (depth_at groups left) p

-- the copy of a group, from the struct as it stood
abbrev pub Through : ℕ → StructSchema → Levels → StructTree → StructTree → Ending
Through groups schema l x s o s' = CopiesThrough groups (set_of schema) l x (number_of schema) s o s'

pub starts : (groups left : ℕ) (l : Levels) (x : StructTree) (at : StructSchema) (s m : StructTree) → 0 < groups → left ≡ groups - 1 → m ≡ cleared_group (set_of at) (number_of at) s → StandsAt groups (Through groups at l x s) left l x at 0 m
starts zero left l x at s m some e cleared = absurd (omega arith)
starts (suc n) left l x at s m some e cleared =
    let same : left ≡ n = omega arith in
    let none : depth_at (suc n) left ≡ 0 = omega arith in
    from_start (Through (suc n) at l x s) l x left at (depth_at (suc n) left) m none
    (λ o s' rest. all_copied n (set_of at) l x (number_of at) s m s' o cleared (subst (λ (k : ℕ). CopiesIndices k (set_of at) l x (number_of at) (left_indices (set_of at) l x (number_of at) 0) m o s') same rest))

pub low_starts : (groups left : ℕ) (at : StructSchema) → left ≡ groups - 1 → group_height (set_of at) (number_of at) < groups → IsLowAt groups left at 0
low_starts groups left at e low =
    let none : depth_at groups left ≡ 0 = omega arith in
    low_start left at (depth_at groups left) none (omega arith)

module _ (groups left : ℕ) (l : Levels) (x : StructTree) (at : StructSchema) (p : ℕ) (f : Field) (found : IsFound at (copied_at (set_of at) l x (number_of at) p) (Some f)) where
  pub left_some : (g : StructSchema) → IsGroupAt f g → IsLowAt groups left at p → 0 < left
  left_some g is low = some_left l x at p f g (due l x at p f found) is left (depth_at groups left) low

  pub room_at : (s : StructTree) → Fits (set_of at) (number_of at) s → IsRoomFor f s
  room_at s room =
      let d = due l x at p f found in
      subst (λ (b : ℕ). Fits (field_set f) b s) (sym d.brand) (subst (λ (z : Schemas). Fits z (number_of at) s) (sym d.set) room)

  pub group_fits : (g : StructSchema) (s y : StructTree) → IsGroupAt f g → KeepsSize s y → Fits (set_of at) (number_of at) s → Fits (set_of g) (number_of g) y
  group_fits g s y is kept room = fits_kept (set_of g) (number_of g) s y kept (is.room s (room_at s room))

module _ (groups : ℕ) (l : Levels) (x : StructTree) (at : StructSchema) (p : ℕ) (f : Field) (g : StructSchema) (found : IsFound at (copied_at (set_of at) l x (number_of at) p) (Some f)) (le : p ≤ length (struct_fields at)) (is : IsGroupAt f g) where
  pub goes_in : (Outcome : Ending) (left : ℕ) (s y : StructTree) → left < groups → IsLowAt groups left at p → y ≡ cleared_group (set_of g) (number_of g) (switched_to f s) → StandsAt groups Outcome left l x at p s → StandsAt groups Outcome (left - 1) l x g 0 y
  goes_in Outcome zero s y few low cleared h = absurd (let some = left_some groups 0 l x at p f found g is low in omega arith)
  goes_in Outcome (suc n) s y few low cleared h =
      let less : suc n - 1 ≡ n = omega arith in
      let deeper : suc (depth_at groups (suc n)) ≡ depth_at groups n = omega arith in
      subst (λ (k : ℕ). StandsAt groups Outcome k l x g 0 y) (sym less)
      (subst (λ (d : ℕ). Stands Outcome n l x g d 0 y) deeper (into_group Outcome l x n at (depth_at groups (suc n)) p f g s y found le is cleared h))

  pub low_in : (left : ℕ) → left < groups → IsLowAt groups left at p → IsLowAt groups (left - 1) g 0
  low_in zero few low = absurd (let some = left_some groups 0 l x at p f found g is low in omega arith)
  low_in (suc n) few low =
      let less : suc n - 1 ≡ n = omega arith in
      let deeper : suc (depth_at groups (suc n)) ≡ depth_at groups n = omega arith in
      subst (λ (k : ℕ). IsLowAt groups k g 0) (sym less)
      (subst (λ (d : ℕ). IsLow n g d 0) deeper (low_into l x at p f g (due l x at p f found) is n (depth_at groups (suc n)) low))

  pub fewer_in : (left : ℕ) → left < groups → IsLowAt groups left at p → steps_at groups (left - 1) g 0 < steps_at groups left at p
  fewer_in zero few low = absurd (let some = left_some groups 0 l x at p f found g is low in omega arith)
  fewer_in (suc n) few low =
      let less : suc n - 1 ≡ n = omega arith in
      let deeper : suc (depth_at groups (suc n)) ≡ depth_at groups n = omega arith in
      subst (λ (k : ℕ). steps_at groups k g 0 < steps_at groups (suc n) at p) (sym less)
      (subst (λ (d : ℕ). steps_of n g d 0 < steps_at groups (suc n) at p) deeper (less_in n l x at (depth_at groups (suc n)) p f g (due l x at p f found) le is))

pub below_top : (groups left : ℕ) → left < groups → (left + 1 ≡ groups → ⊥) → left + 1 < groups
below_top zero left few inside = absurd (omega arith)
below_top (suc zero) zero few inside = absurd (inside (omega arith))
below_top (suc (suc n)) zero few inside = omega arith
below_top (suc n) (suc left) few inside = omega (arith, below_top n left (omega arith) (λ e. inside (omega (arith, e))))

-- the field's struct and the place behind it by other names
module _ (groups left : ℕ) (g : StructSchema) (p : ℕ) (f : Field) (a : StructSchema) (q : ℕ) (same : a ≡ field_schema f) (behind : q ≡ cleared_behind (field_set f) (field_brand f) (index_of f)) (few : left < groups) (inside : left + 1 ≡ groups → ⊥)
    (is : IsGroupFieldOf g f) (place : Some (place_of_field f) ≡ group_field_of (set_of g) (number_of g)) where
  deeper : depth_at groups left ≡ suc (depth_at groups (left + 1))
  deeper = omega (arith, below_top groups left few inside)

  named : (P : StructSchema → ℕ → Type 0) → P (field_schema f) (cleared_behind (field_set f) (field_brand f) (index_of f)) → P a q
  named P h = subst (λ (z : StructSchema). P z q) (sym same) (subst (λ (k : ℕ). P (field_schema f) k) (sym behind) h)

  pub goes_above : (Outcome : Ending) (l : Levels) (x s : StructTree) → length (struct_fields g) < p → StandsAt groups Outcome left l x g p s → StandsAt groups Outcome (left + 1) l x a q s
  goes_above Outcome l x s past h = named (λ (z : StructSchema) (k : ℕ). StandsAt groups Outcome (left + 1) l x z k s)
      (subst (λ (n : ℕ). Stands Outcome n l x (field_schema f) (depth_at groups (left + 1)) (cleared_behind (field_set f) (field_brand f) (index_of f)) s) (sym (add-one left))
      (out_of_group Outcome l x left g (depth_at groups (left + 1)) p f s past is place (subst (λ (d : ℕ). Stands Outcome left l x g d p s) deeper h)))

  pub low_at_above : IsLowAt groups left g p → IsLowAt groups (left + 1) a q
  low_at_above h = named (λ (z : StructSchema) (k : ℕ). IsLowAt groups (left + 1) z k)
      (subst (λ (n : ℕ). IsLow n (field_schema f) (depth_at groups (left + 1)) (cleared_behind (field_set f) (field_brand f) (index_of f))) (sym (add-one left))
      (low_out left g (depth_at groups (left + 1)) p f is place (subst (λ (d : ℕ). IsLow left g d p) deeper h)))

  pub fewer_at_above : steps_at groups (left + 1) a q < steps_at groups left g p
  fewer_at_above =
      let less : depth_at groups left - 1 ≡ depth_at groups (left + 1) = omega (arith, deeper) in
      let some : depth_at groups left ≡ 0 → ⊥ = λ e. omega (arith, e, deeper) in
      subst (λ (d : ℕ). steps_of (left + 1) a d q < steps_at groups left g p) less (fewer_above left g (depth_at groups left) p f a q same behind some is place)

pub ends : (groups left : ℕ) (Outcome : Ending) (l : Levels) (x : StructTree) (at : StructSchema) (p : ℕ) (s : StructTree) → length (struct_fields at) < p → left + 1 ≡ groups → StandsAt groups Outcome left l x at p s → Outcome None s
ends groups left Outcome l x at p s past top h =
    let none : depth_at groups left ≡ 0 = omega (arith, top) in
    ends_by Outcome l x left at (depth_at groups left) p s past (way_start (set_of at) (depth_at groups left) (number_of at) none) h

pub ends_outside : (groups left : ℕ) (Outcome : Ending) (l : Levels) (x : StructTree) (at : StructSchema) (p : ℕ) (s : StructTree) → length (struct_fields at) < p → group_field_of (set_of at) (number_of at) ≡ None → StandsAt groups Outcome left l x at p s → Outcome None s
ends_outside groups left Outcome l x at p s past none h =
    ends_by Outcome l x left at (depth_at groups left) p s past (way_outside (set_of at) (depth_at groups left) (number_of at) none) h

-- ---- what is copied at a place, by the field there ----

module _ (s : StructSchema) (l : Levels) (x : StructTree) where
  at_first : (o : Option Field) → IsFound s (active_in (set_of s) l x (number_of s)) o → IsFound s (copied_at (set_of s) l x (number_of s) 0) o
  unfolding copied_at
  at_first o found = found

  pub copied_first : (p : ℕ) (o : Option Field) → p ≡ 0 → IsFound s (active_in (set_of s) l x (number_of s)) o → IsFound s (copied_at (set_of s) l x (number_of s) p) o
  copied_first p o e found = subst (λ (k : ℕ). IsFound s (copied_at (set_of s) l x (number_of s) k) o) (sym e) (at_first o found)

  at_later : (p : ℕ) → (p ≡ 0 → ⊥) → copied_at (set_of s) l x (number_of s) p ≡ if_passes (is_index_there (set_of s) l x (number_of s)) (field_cleared_at (set_of s) (number_of s) p)
  unfolding copied_at
  at_later zero some = absurd (some refl)
  at_later (suc i) some = refl

  passing : (o : Option ℕ) (f : Field) (q : Bool) → IsFound s o (Some f) → is_part_there (field_set f) l x (typed_of f) ≡ q →
      IsFound s (if_passes (is_index_there (set_of s) l x (number_of s)) o) (elim q as (λ _. Option Field) [ true ↦ Some f | false ↦ None ])
  passing None f q found e = absurd found
  passing (Some i) f q found e = go q here
    where
      named : is_index_there (set_of s) l x (number_of s) (index_of f) ≡ q
      named = subst (λ (z : StructSchema). is_index_there (set_of z) l x (number_of z) (index_of f) ≡ q) found.schema e

      here : is_index_there (set_of s) l x (number_of s) i ≡ q
      here = ap (is_index_there (set_of s) l x (number_of s)) (sym found.index) ∙ named

      go : (q : Bool) → is_index_there (set_of s) l x (number_of s) i ≡ q → IsFound s (cond (is_index_there (set_of s) l x (number_of s) i) (Some i) None) (elim q as (λ _. Option Field) [ true ↦ Some f | false ↦ None ])
      go true h = subst (λ (r : Bool). IsFound s (cond r (Some i) None) (Some f)) (sym h) found
      go false h = subst (λ (r : Bool). IsFound s (cond r (Some i) None) None) (sym h) tt

  pub copied_none : (p : ℕ) → (p ≡ 0 → ⊥) → IsFound s (field_cleared_at (set_of s) (number_of s) p) None → IsFound s (copied_at (set_of s) l x (number_of s) p) None
  copied_none p some found =
      let none = at_later p some ∙ ap (if_passes (is_index_there (set_of s) l x (number_of s))) (found_none s (field_cleared_at (set_of s) (number_of s) p) found) in
      subst (λ (o : Option ℕ). IsFound s o None) (sym none) tt

  pub copied_there : (p : ℕ) (f : Field) → (p ≡ 0 → ⊥) → IsFound s (field_cleared_at (set_of s) (number_of s) p) (Some f) → is_part_there (field_set f) l x (typed_of f) ≡ true → IsFound s (copied_at (set_of s) l x (number_of s) p) (Some f)
  copied_there p f some found e = subst (λ (o : Option ℕ). IsFound s o (Some f)) (sym (at_later p some)) (passing (field_cleared_at (set_of s) (number_of s) p) f true found e)

  pub copied_missing : (p : ℕ) (f : Field) → (p ≡ 0 → ⊥) → IsFound s (field_cleared_at (set_of s) (number_of s) p) (Some f) → is_part_there (field_set f) l x (typed_of f) ≡ false → IsFound s (copied_at (set_of s) l x (number_of s) p) None
  copied_missing p f some found e = subst (λ (o : Option ℕ). IsFound s o None) (sym (at_later p some)) (passing (field_cleared_at (set_of s) (number_of s) p) f false found e)
