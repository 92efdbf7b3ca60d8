-- A slot or a group is copied, and fields one after another.
use Rattle.std.specs.Prelude.{ℕ, suc, ◌+◌, ◌≡◌, ◌≢◌, ⊤, refl, List, [], ◌∷◌, ◌++◌, Bool, true, false, not, ◌&&◌, cond, length, Option, Some, None, Result, Ok, Err, OnOk, OnErr, IfErr}
use Rattle.std.proofs.Common.{arith, inl, inr, ap, sym, subst, ◌∙◌}
use Rattle.std.proofs.lemmas.Bool.{eq-eqb, true≢false}
use Rattle.capnp_device.specs.declared.error.Error.{Error}
use Rattle.capnp_device.specs.declared.error.ErrorKind.{ErrorKind}
use Rattle.capnp_device.specs.declared.error.ErrorKind.TheVariants.{OutOfMemory, TypeMismatch}
use Rattle.capnp_wire.specs.Tree.{StructTree, Tree, nth_tree}
use Rattle.capnp_schema.specs.FieldLists.{IsFound, index_of, field_schema, typed_of}
use Rattle.capnp_schema.specs.Query.{indices_from, is_non_union, keep_index}
use Rattle.capnp_schema.specs.Ranges.{HasRanges}
use Rattle.capnp_schema.specs.Schema.{FieldKind, Group, Schemas, Slot, TypedField, field_at, fields_of, is_member, kind_default, node_of, Value as SchemaValue}
use Rattle.capnp_schema.specs.StructHandles.{IsStruct, number_of, set_of}
use Rattle.capnp_schema.specs.Types.{AnyPointerType, SchemaType, is_pointer, struct_number, seen_variant}
use Rattle.capnp_base.specs.declared.introspect.TypeVariant.{TypeVariant}
use Rattle.capnp_schema.specs.Plan.{plan_place}
use Rattle.capnp_schema.specs.declared.schema.fields.Field.{Field}
use Rattle.capnp_schema.specs.declared.schema.structs.StructSchema.{StructSchema}
use Rattle.capnp_records.specs.Call.{StructSource}
use Rattle.capnp_records.specs.Given.{Copies, CopiesGroup, Fails, Given, Gives, copy_refusal}
use Rattle.capnp_records.specs.GroupCopy.{active_first, non_union_there, pointer_copy, read_copy, slot_copy}
use Rattle.capnp_records.specs.Laws.{GroupCopyStaysInside}
use Rattle.capnp_records.specs.Part.{nth_value, which_of}
use Rattle.capnp_records.specs.Reading.{part_of, non_union_parts, union_of, values_of}
use Rattle.capnp_records.specs.Record as value
use Rattle.capnp_records.specs.Record.{Active, Levels, NoUnion, Parts, Union, Unknown, Value, Values, is_there}
use Rattle.capnp_records.specs.Step.{is_group_field}
use Rattle.capnp_records.specs.Writes.Overlay.{cleared_group, switched_struct, with_slot}
use Rattle.capnp_records.specs.Writes.TreeCopy.{CopiesTreeOr, TreeCopiesFields, TreeCopiesPart, TreeCopiesSlot, TreeCopiesWithin, TreeCopying, copied_content}
use Rattle.capnp_records.specs.Writes.TreeEnds.{offset_of}
use Rattle.capnp_dynamic_readers.specs.Facts.HasWhich.{part_there}
use Rattle.capnp_dynamic_readers.specs.Planned.{IsActiveMember, place_there}
use Rattle.capnp_slots.specs.Copied.{IsCopied, copy_content, copy_given, refusal_of}
use Rattle.capnp_slots.specs.Fields.{IsRoomFor, IsSlot, Keeps, field_brand, field_set, names_of, switched_to}
use Rattle.capnp_slots.specs.GroupSets.{IsGroupSet, given_to_group}
use Rattle.capnp_slots.specs.Steps.GroupSets.{CopiesIndices, CopiesThrough, active_in, is_part_there, kept_indices, member_indices, non_union_in}
use Rattle.capnp_slots.specs.Groups.{IsGroupAt, KeepsSize}
use Rattle.capnp_slots.specs.Steps.Groups.{cleared_through}
use Rattle.capnp_slots.specs.Sources.{IsSetRefusal, IsTaken, copy_due}
use Rattle.capnp_slots.proofs.GroupClears.{cleared_whole, entry, records}

-- ---- a slot ----

abbrev NotPast : Given → Type 0
NotPast (Gives v) = ⊤
NotPast (Copies x past v) = past ≡ false
NotPast (CopiesGroup l x b) = ⊤
NotPast (Fails kind) = ⊤

read_inside : (o : Option ErrorKind) (x : Tree) (v : Value) → NotPast (read_copy o (Copies x false v))
read_inside None x v = refl
read_inside (Some kind) x v = tt

pointer_inside : (set : Schemas) (l : Levels) (x : Tree) (d : SchemaValue) (t : SchemaType) → NotPast (pointer_copy set l x d t)
pointer_inside set l x d AnyPointerType = tt
pointer_inside set l x d t = read_inside _ x _

slot_inside : (set : Schemas) (l : Levels) (x : StructTree) (offset : ℕ) (d : SchemaValue) (t : SchemaType) → NotPast (slot_copy set l x offset d t)
slot_inside set l x offset d t = go (is_pointer t) _ _ (pointer_inside set l (nth_tree x.pointers offset) d t) tt
  where
    go : (q : Bool) (g h : Given) → NotPast g → NotPast h → NotPast (elim q as (λ _. Given) [ true ↦ g | false ↦ h ])
    go true g h a b = a
    go false g h a b = b

some_same : {j k : ErrorKind} → Some j ≡ Some k → k ≡ j
some_same e = cc

memory_or : (k : ErrorKind) (o : Option ErrorKind) (P : Type 0) (Q : ErrorKind → Type 0) → (k ≢ OutOfMemory → copy_due o false ≡ Some k) → Q k → CopiesTreeOr o P Q
memory_or OutOfMemory None P Q h q = inr q
memory_or OutOfMemory (Some j) P Q h q = inr q
memory_or k None P Q h q = absurd (let e = h (λ e. cc) in cc)
memory_or k (Some j) P Q h q = inl (subst Q (some_same (h (λ e. cc))) q)

taken_or : (o : Option ErrorKind) (P : Type 0) (Q : ErrorKind → Type 0) → o ≡ None → P → CopiesTreeOr o P Q
taken_or None P Q e p = inl p
taken_or (Some k) P Q e p = absurd cc

slot_answer : (g : Given) → NotPast g → (P : Type 0) (Q : ErrorKind → Type 0) (r : Result ⊤ Error) → OnOk r (IsTaken g × P) → IfErr r (λ e. IsSetRefusal g e.kind × Q e.kind) → TreeCopiesSlot g P Q
slot_answer (Gives v) n P Q (Ok a) h k = h.1
slot_answer (Gives v) n P Q (Err e) h k = absurd k.0
slot_answer (Copies x past v) n P Q (Ok a) h k = taken_or (copy_refusal x) P Q h.0.0 h.1
slot_answer (Copies x past v) n P Q (Err e) h k = memory_or e.kind (copy_refusal x) P Q (λ other. subst (λ q. copy_due (copy_refusal x) q ≡ Some e.kind) n (k.0 other)) k.1
slot_answer (CopiesGroup l x b) n P Q (Ok a) h k = absurd h.0
slot_answer (CopiesGroup l x b) n P Q (Err e) h k = absurd k.0
slot_answer (Fails kind) n P Q (Ok a) h k = absurd h.0
slot_answer (Fails kind) n P Q (Err e) h k = subst Q k.0 k.1

-- what a copy answers, and what it leaves
abbrev Ended : Result ⊤ Error → StructTree → StructTree → Type 0
Ended r s' y = (refusal_of r ≡ None) × (s' ≡ y)

abbrev Cut : Result ⊤ Error → StructTree → ErrorKind → StructTree → Type 0
Cut r s' kind y = (refusal_of r ≡ Some kind) × (s' ≡ y)

by_kind : (copy : TreeCopying) (set : Schemas) (l : Levels) (x : StructTree) (b : ℕ) (f : TypedField) (k : FieldKind) (s s' : StructTree) (r : Result ⊤ Error) → is_group_field k ≡ false →
    OnOk r (IsTaken (slot_copy set l x (offset_of k) (kind_default k) f.type)) → OnOk r (s' ≡ with_slot set b f (offset_of k) (copied_content x (offset_of k) (kind_default k) f.type) s) →
    OnErr r (s' ≡ s) → IfErr r (λ e. IsSetRefusal (slot_copy set l x (offset_of k) (kind_default k) f.type) e.kind) →
    TreeCopiesPart copy set l x b f k s (Ended r s') (λ kind. Cut r s' kind s) (Cut r s')
by_kind copy set l x b f (Slot o d) s s' (Ok a) slot taken written same cause = slot_answer (slot_copy set l x o d f.type) (slot_inside set l x o d f.type) _ _ (Ok a) (taken, (refl, written)) tt
by_kind copy set l x b f (Slot o d) s s' (Err e) slot taken written same cause = slot_answer (slot_copy set l x o d f.type) (slot_inside set l x o d f.type) _ _ (Err e) tt (cause, (refl, same))
by_kind copy set l x b f (Group n) s s' r slot taken written same cause = absurd (true≢false slot)

copied_taken : (f : Field) (g : Given) (x s s' : StructTree) (r : Result ⊤ Error) → OnOk r (IsCopied f g (copy_content f x) s s') → OnOk r (IsTaken g)
copied_taken f g x s s' (Ok a) h = h.taken
copied_taken f g x s s' (Err e) h = tt

copied_written : (f : Field) (g : Given) (x s s' : StructTree) (r : Result ⊤ Error) → OnOk r (IsCopied f g (copy_content f x) s s') →
    OnOk r (s' ≡ with_slot (field_set f) (field_brand f) (typed_of f) (offset_of (typed_of f).field.kind) (copy_content f x) s)
copied_written f g x s s' (Ok a) h = h.written
copied_written f g x s s' (Err e) h = tt

pub slot_copied : (groups : ℕ) (f : Field) (l : Levels) (x s s' : StructTree) (r : Result ⊤ Error) → IsSlot f → OnOk r (IsCopied f (copy_given f l x) (copy_content f x) s s') → OnErr r (s' ≡ s) →
    IfErr r (λ e. IsSetRefusal (copy_given f l x) e.kind) → CopiesIndices groups (field_set f) l x (field_brand f) (index_of f ∷ []) s (refusal_of r) s'
unfolding CopiesIndices
slot_copied groups f l x s s' r slot copied same cause =
    by_kind (TreeCopiesWithin groups (field_set f) l x) (field_set f) l x (field_brand f) (typed_of f) (typed_of f).field.kind s s' r slot
    (copied_taken f (copy_given f l x) x s s' r copied) (copied_written f (copy_given f l x) x s s' r copied) same cause

-- ---- a group ----

by_group : (copy : TreeCopying) (set : Schemas) (l : Levels) (x : StructTree) (b : ℕ) (f : TypedField) (k : FieldKind) (s s' : StructTree) (o : Option ErrorKind) → is_group_field k ≡ true →
    copy (struct_number f.type) (switched_struct (node_of set b) f.field s) o s' →
    TreeCopiesPart copy set l x b f k s (λ y. (o ≡ None) × (s' ≡ y)) (λ kind. (o ≡ Some kind) × (s' ≡ s)) (λ kind y. (o ≡ Some kind) × (s' ≡ y))
by_group copy set l x b f (Slot offset d) s s' o group h = absurd (true≢false (sym group))
by_group copy set l x b f (Group n) s s' None group h = inl (s', h, (refl, refl))
by_group copy set l x b f (Group n) s s' (Some kind) group h = inr (kind, s', h, (refl, refl))

pub group_copied : (groups : ℕ) (f : Field) (g : StructSchema) (l : Levels) (x s m s' : StructTree) (o : Option ErrorKind) → IsGroupAt f g → m ≡ switched_to f s →
    CopiesThrough groups (set_of g) l x (number_of g) m o s' → CopiesIndices groups (field_set f) l x (field_brand f) (index_of f ∷ []) s o s'
unfolding CopiesIndices CopiesThrough
group_copied groups f g l x s m s' o is switch h =
    by_group (TreeCopiesWithin groups (field_set f) l x) (field_set f) l x (field_brand f) (typed_of f) (typed_of f).field.kind s s' o is.is_group
    (subst (λ (y : StructTree). TreeCopiesWithin groups (field_set f) l x (struct_number (typed_of f).type) y o s') switch
    (subst (λ b. TreeCopiesWithin groups (field_set f) l x b m o s') is.number (subst (λ z. TreeCopiesWithin groups z l x (number_of g) m o s') is.set h)))

-- ---- one field after another ----

pub none_copied : (groups : ℕ) (set : Schemas) (l : Levels) (x : StructTree) (b : ℕ) (s : StructTree) → CopiesIndices groups set l x b [] s None s
unfolding CopiesIndices
none_copied groups set l x b s = (refl, refl)

tree_map : (o : Option ErrorKind) (P P' : Type 0) (Q Q' : ErrorKind → Type 0) → (P → P') → ((k : ErrorKind) → Q k → Q' k) → CopiesTreeOr o P Q → CopiesTreeOr o P' Q'
tree_map None P P' Q Q' p q (inl h) = inl (p h)
tree_map None P P' Q Q' p q (inr h) = inr (q OutOfMemory h)
tree_map (Some k) P P' Q Q' p q (inl h) = inl (q k h)
tree_map (Some k) P P' Q Q' p q (inr h) = inr (q OutOfMemory h)

slot_map : (g : Given) (P P' : Type 0) (Q Q' : ErrorKind → Type 0) → (P → P') → ((k : ErrorKind) → Q k → Q' k) → TreeCopiesSlot g P Q → TreeCopiesSlot g P' Q'
slot_map (Gives v) P P' Q Q' p q h = p h
slot_map (Copies x past v) P P' Q Q' p q h = tree_map (copy_refusal x) P P' Q Q' p q h
slot_map (CopiesGroup l x b) P P' Q Q' p q h = h
slot_map (Fails k) P P' Q Q' p q h = q k h

module _ (copy : TreeCopying) (set : Schemas) (l : Levels) (x : StructTree) (b : ℕ) where
  part_map : (f : TypedField) (k : FieldKind) (s : StructTree) (P P' : StructTree → Type 0) (Q Q' : ErrorKind → Type 0) (R : ErrorKind → StructTree → Type 0) (R' : ErrorKind → StructTree → Type 0) →
      ((y : StructTree) → P y → P' y) → ((n : ErrorKind) → Q n → Q' n) → ((n : ErrorKind) (y : StructTree) → R n y → R' n y) → TreeCopiesPart copy set l x b f k s P Q R → TreeCopiesPart copy set l x b f k s P' Q' R'
  part_map f (Slot offset d) s P P' Q Q' R R' p q r h = slot_map (slot_copy set l x offset d f.type) _ _ Q Q' (p _) q h
  part_map f (Group n) s P P' Q Q' R R' p q r (inl (y, copied, rest)) = inl (y, copied, p y rest)
  part_map f (Group n) s P P' Q Q' R R' p q r (inr (kind, y, copied, rest)) = inr (kind, y, copied, r kind y rest)

  pub fields_next : (i : ℕ) (is : List ℕ) (s m s' : StructTree) (o : Option ErrorKind) → TreeCopiesFields copy set l x b (i ∷ []) s None m → TreeCopiesFields copy set l x b is m o s' → TreeCopiesFields copy set l x b (i ∷ is) s o s'
  fields_next i is s m s' o first rest =
      part_map (field_at set b i) (field_at set b i).field.kind s _ _ _ _ _ _
      (λ y h. subst (λ (z : StructTree). TreeCopiesFields copy set l x b is z o s') h.1 rest) (λ n h. absurd (none_some n h.0)) (λ n y h. absurd (none_some n h.0)) first
    where
      none_some : (n : ErrorKind) → None ≡ Some n → ⊥
      none_some n e = cc

  pub fields_cut : (i : ℕ) (is : List ℕ) (s s' : StructTree) (kind : ErrorKind) → TreeCopiesFields copy set l x b (i ∷ []) s (Some kind) s' → TreeCopiesFields copy set l x b (i ∷ is) s (Some kind) s'
  fields_cut i is s s' kind first =
      part_map (field_at set b i) (field_at set b i).field.kind s _ _ _ _ _ _ (λ y h. absurd (some_none h.0)) (λ n h. h) (λ n y h. h) first
    where
      some_none : Some kind ≡ None → ⊥
      some_none e = cc

-- ---- the fields of the source ----

plain_kept : (part : TypedField → Value) (fs : List TypedField) (vs : Values) (first : ℕ) (at : ℕ → TypedField) → ((j : ℕ) → at (first + j) ≡ entry fs j) → ((j : ℕ) → nth_value vs (first + j) ≡ nth_value (non_union_parts part fs) j) →
    non_union_there fs vs first ≡ kept_indices (λ i. is_there (part (at i))) (indices_from first is_non_union (records fs))
plain_kept part [] vs first at names there = refl
plain_kept part (f ∷ fs) vs first at names there = go (plain_kept part fs vs (suc first) at (λ j. ap at (shift j) ∙ names (suc j)) (λ j. ap (nth_value vs) (shift j) ∙ there (suc j))) (is_member f.field) (ap (nth_value vs) here ∙ there 0)
  where
    shift : (j : ℕ) → suc first + j ≡ first + suc j
    shift j = omega arith

    here : first ≡ first + 0
    here = omega arith

    rest : List ℕ
    rest = indices_from (suc first) is_non_union (records fs)

    is : at first ≡ f
    is = ap at here ∙ names 0

    keep : (q : Bool) (is js : List ℕ) → is ≡ js → cond q (first ∷ is) is ≡ keep_index q first js
    keep true is js e = ap (λ ks. first ∷ ks) e
    keep false is js e = e

    go : non_union_there fs vs (suc first) ≡ kept_indices (λ i. is_there (part (at i))) rest → (q : Bool) → nth_value vs first ≡ (elim q as (λ _. Value) [ true ↦ value.Elsewhere | false ↦ part f ]) →
        cond (not q && is_there (nth_value vs first)) (first ∷ non_union_there fs vs (suc first)) (non_union_there fs vs (suc first)) ≡ kept_indices (λ i. is_there (part (at i))) (keep_index (not q) first rest)
    go each true e = each
    go each false e = ap (λ v. cond (is_there v) (first ∷ non_union_there fs vs (suc first)) (non_union_there fs vs (suc first))) e
        ∙ (ap (λ (g : TypedField). cond (is_there (part g)) (first ∷ non_union_there fs vs (suc first)) (non_union_there fs vs (suc first))) (sym is) ∙ keep (is_there (part (at first))) _ _ each)

active_split : (vs : Values) (u : Union) (rest : List ℕ) → active_first u rest ≡ member_indices (which_of (Parts vs u)) ++ rest
active_split vs NoUnion rest = refl
active_split vs (Active i v) rest = refl
active_split vs (Unknown n) rest = refl

module _ (n : ℕ) (set : Schemas) (l : Levels) (x : StructTree) (b : ℕ) where
  abbrev part : TypedField → Value
  part = part_of set l x.bytes (values_of set x.pointers)

  abbrev union : Union
  union = union_of part (node_of set b) (fields_of set b) x.bytes

  pub whole : (s m s' : StructTree) (o : Option ErrorKind) → m ≡ cleared_group set b s →
      TreeCopiesFields (TreeCopiesWithin n set l x) set l x b (member_indices (which_of (Parts (non_union_parts part (fields_of set b)) union)) ++ non_union_in set l x b) m o s' → TreeCopiesWithin (suc n) set l x b s o s'
  unfolding is_part_there
  whole s m s' o cleared h =
      let plain = plain_kept part (fields_of set b) (non_union_parts part (fields_of set b)) 0 (field_at set b)
      (λ j. let z : 0 + j ≡ j = omega arith in ap (field_at set b) z) (λ j. let z : 0 + j ≡ j = omega arith in ap (nth_value (non_union_parts part (fields_of set b))) z) in
      subst (λ (y : StructTree). TreeCopiesFields (TreeCopiesWithin n set l x) set l x b (active_first union (non_union_there (fields_of set b) (non_union_parts part (fields_of set b)) 0)) y o s') cleared
      (subst (λ is. TreeCopiesFields (TreeCopiesWithin n set l x) set l x b is m o s')
      (sym (active_split (non_union_parts part (fields_of set b)) union (non_union_there (fields_of set b) (non_union_parts part (fields_of set b)) 0) ∙ ap (λ is. member_indices (which_of (Parts (non_union_parts part (fields_of set b)) union)) ++ is) plain)) h)

-- ---- what the source has ----

pub active_is : (s : StructSchema) (l : Levels) (x : StructTree) (member : Option Field) → IsActiveMember s x member → IsFound s (active_in (set_of s) l x (number_of s)) member
unfolding active_in
active_is s l x member is = is l

pub there_is : (set : Schemas) (l : Levels) (x : StructTree) (b i : ℕ) (v : TypeVariant) → seen_variant v ≡ (field_at set b i).type →
    is_part_there set l x (field_at set b i) ≡ place_there x (plan_place (field_at set b i).field.kind (field_at set b i).type)
unfolding is_part_there
there_is set l x b i v e = part_there set l x b i v e

-- ---- handles ----

pub cleared_counted : (schema : StructSchema) (n : ℕ) (s m : StructTree) → n ≡ length (set_of schema).brands → m ≡ cleared_through n (set_of schema) (number_of schema) s → m ≡ cleared_group (set_of schema) (number_of schema) s
cleared_counted schema n s m count e = e ∙ (ap (λ k. cleared_through k (set_of schema) (number_of schema) s) count ∙ cleared_whole (set_of schema) (number_of schema) s)

-- ---- a field's group ----

pub copied_whole : (f : Field) (g : StructSchema) (n : ℕ) (l : Levels) (x s m s' : StructTree) (o : Option ErrorKind) → IsGroupAt f g → n ≡ length (field_set f).brands → m ≡ switched_to f s →
    CopiesThrough (n + 1) (set_of g) l x (number_of g) m o s' → CopiesThrough (suc (length (field_set f).brands)) (field_set f) l x (number_of g) (switched_to f s) o s'
copied_whole f g n l x s m s' o is count switch h =
    let more : n + 1 ≡ suc (length (field_set f).brands) = omega (arith, count) in
    subst (λ k. CopiesThrough k (field_set f) l x (number_of g) (switched_to f s) o s') more
    (subst (λ (y : StructTree). CopiesThrough (n + 1) (field_set f) l x (number_of g) y o s') switch (subst (λ z. CopiesThrough (n + 1) z l x (number_of g) m o s') is.set h))

pub copied_kept : (f : Field) (g : StructSchema) (l : Levels) (x s m s' : StructTree) (o : Option ErrorKind) → IsStruct (field_schema f) → HasRanges (field_set f) → GroupCopyStaysInside → IsGroupAt f g → IsRoomFor f s →
    CopiesThrough (suc (length (field_set f).brands)) (field_set f) l x (number_of g) (switched_to f s) o s' → KeepsSize s m → KeepsSize m s' → Keeps (names_of f) s s'
unfolding CopiesThrough
copied_kept f g l x s m s' o is ranges stays at room copied first then = record {
  writes = stays (field_set f) (field_brand f) (index_of f) (number_of g) (suc (length (field_set f).brands)) (record { accepted = is.accepted; ranges = ranges; brand = is.number; index = f.inside }) at.names l x s room o s' copied;
  formed = λ h. then.formed (first.formed h);
}

pub set_copied : (f : Field) (g : StructSchema) (l : Levels) (x : StructTree) (from : ℕ) (s s' : StructTree) (o : Option ErrorKind) → IsGroupAt f g → from ≡ number_of g →
    CopiesThrough (suc (length (field_set f).brands)) (field_set f) l x (number_of g) (switched_to f s) o s' → IsGroupSet f (given_to_group f (StructSource l x from)) s o s'
unfolding CopiesThrough
set_copied f g l x from s s' o at same h =
    let own : from ≡ struct_number (typed_of f).type = same ∙ at.number in
    subst (λ q. IsGroupSet f (cond q (CopiesGroup l x from) (Fails TypeMismatch)) s o s') (sym (eq-eqb from (struct_number (typed_of f).type) own))
    (subst (λ n. TreeCopiesWithin (suc (length (field_set f).brands)) (field_set f) l x n (switched_to f s) o s') (sym same) h)
