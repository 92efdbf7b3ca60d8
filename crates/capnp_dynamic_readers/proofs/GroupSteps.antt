-- The steps of a print among the fields of a struct and of the groups in it: what is to come, and that less is left to do.
use Rattle.std.proofs.Common.{ℕ, suc, ◌+◌, ◌-◌, ◌^◌, ◌<◌, ◌≤◌, ◌≡◌, ◌==◌, refl, List, [], ◌∷◌, ◌++◌, Bool, true, false, not, ◌&&◌, codes, length, Option, Some, None, Ok, Err, Result, IfOk, MatchOption, ap, append-nil, arith, sym, subst, ◌∙◌}
use Rattle.std.proofs.lemmas.Bool.Decides.{nat_tests}
use Rattle.capnp_wire.specs.declared.struct_reader.StructReader.{StructReader}
use Rattle.capnp_schema.specs.Accepted.{IsAccepted}
use Rattle.capnp_schema.specs.Facts.GroupFields.{group_field_found, target_parent}
use Rattle.capnp_schema.specs.Facts.GroupWalks.{steps_advance, steps_enter, steps_leave}
use Rattle.capnp_schema.specs.FieldLists.{IsFieldOf, index_of, field_schema as field_schema, typed_of}
use Rattle.capnp_schema.specs.GroupFields.{group_field_of}
use Rattle.capnp_schema.specs.GroupsDown.{IsGroupSchemaIn, place_of_field}
use Rattle.capnp_schema.specs.GroupWalks.{above, frames, walk_brand, walk_depth, walk_index, walk_schema, walk_set}
use Rattle.capnp_schema.specs.Steps.GroupWalks.{steps_left}
use Rattle.capnp_schema.specs.Schema.{Field as FieldRecord, Schemas, TypedField, is_member, kind_target}
use Rattle.capnp_schema.specs.StructHandles.{number_of, set_of, struct_field, struct_fields}
use Rattle.capnp_schema.specs.declared.schema.fields.Field.{Field}
use Rattle.capnp_schema.specs.declared.schema.structs.StructSchema.{StructSchema}
use Rattle.capnp_records.specs.Part.{is_active, is_inactive, which_of}
use Rattle.capnp_records.specs.Reading.{non_union_parts}
use Rattle.capnp_records.specs.Record.{Active, NoUnion, Parts, Union, Unknown, Values, is_there}
use Rattle.capnp_records.specs.Text.{Layout, Out, after, bracketed_text, deeper, item, item_if, said_text}
use Rattle.capnp_dynamic_readers.specs.Steps.GroupTexts.{IsNamePut, closing, has_fields, is_item, item_by, name_text, shallower}
use Rattle.capnp_dynamic_readers.specs.Steps.WalkSteps.{IsBracketClosed, IsGroupOpened, IsOutside, IsPast, IsStart, IsPrintStep, onward, onward_of, steps_onward}
use Rattle.capnp_dynamic_readers.specs.Steps.Styled.{IsTexts, items_in, own_in, record_in}
use Rattle.capnp_dynamic_readers.specs.Styles.{Texts}
use Rattle.capnp_dynamic_readers.specs.Handles.{reader_of, schema_of}
use Rattle.capnp_dynamic_readers.specs.Steps.PartsRead.{field_in}
use Rattle.capnp_dynamic_readers.specs.Pieces.{Taken}
use Rattle.capnp_dynamic_readers.specs.Steps.Pieces.{IsPut, IsStopped, Leads}
use Rattle.capnp_dynamic_readers.specs.Seen.{record_seen}
use Rattle.capnp_dynamic_readers.specs.Steps.Shown.{is_member_shown, part_seen, union_seen}
use Rattle.capnp_dynamic_readers.specs.declared.dynamic_struct.Reader.{Reader as StructHandle}
use Rattle.capnp_dynamic_readers.specs.declared.walk.groups.Standing.{Standing}
use Rattle.capnp_dynamic_readers.specs.declared.walk.output.Stop.{Stop}
use Rattle.capnp_dynamic_readers.proofs.GroupsShown.{closes, closes_not, group_in, item_named, item_unnamed, onward_end, skips}
use Rattle.capnp_dynamic_readers.specs.Facts.PartsShown.{target_in}
use Rattle.capnp_dynamic_readers.proofs.Steps.{opening_stopped, struct_none, struct_some}
use Rattle.capnp_dynamic_readers.proofs.Streams.{first_stopped, same, same_put, then}

-- ---- whether a field has an item ----

-- whether a field is a member, by its record
pub member_from : (r : StructHandle) (f : Field) → IsFieldOf (schema_of r) (index_of f) f → (p : FieldRecord) (q : Bool) → p ≡ (typed_of f).field → is_member p ≡ q → is_member (field_in r f).field ≡ q
member_from r f field p q e h = sym (ap is_member (e ∙ ap (λ (s : StructSchema). (struct_field s (index_of f)).field) field.schema)) ∙ h

pub item_of_plain : (r : StructHandle) (f : TypedField) (i : ℕ) (q : Bool) → is_member f.field ≡ false → q ≡ is_there (part_seen r f) → q ≡ is_item r f i
item_of_plain r f i q plain e = e ∙ sym (ap (λ (b : Bool). item_by b (is_active (union_seen r) i) (is_member_shown r f) (is_there (part_seen r f))) plain)

item_of_member : (r : StructHandle) (f : TypedField) (i : ℕ) (a : Bool) → is_member f.field ≡ true → is_active (union_seen r) i ≡ a → is_item r f i ≡ (a && is_member_shown r f)
item_of_member r f i a member e =
    ap (λ (b : Bool). item_by b (is_active (union_seen r) i) (is_member_shown r f) (is_there (part_seen r f))) member
    ∙ ap (λ (b : Bool). b && is_member_shown r f) e

pub item_of_inactive : (r : StructHandle) (f : TypedField) (i : ℕ) → is_member f.field ≡ true → is_active (union_seen r) i ≡ false → false ≡ is_item r f i
item_of_inactive r f i member e = sym (item_of_member r f i false member e)

pub item_of_active : (r : StructHandle) (f : TypedField) (i : ℕ) (q : Bool) → is_member f.field ≡ true → is_active (union_seen r) i ≡ true → q ≡ is_member_shown r f → q ≡ is_item r f i
item_of_active r f i q member e is = is ∙ sym (item_of_member r f i true member e)

not_not : (a : Bool) → not (not a) ≡ a
not_not true = refl
not_not false = refl

-- a member that may be read is the active one
pub active_member : (r : StructHandle) (f : TypedField) (i : ℕ) (q : Bool) → is_member f.field ≡ true → q ≡ not (is_inactive (record_seen r) f.field i) → is_active (union_seen r) i ≡ q
active_member r f i q member e = sym (e ∙ (ap (λ (b : Bool). not (b && not (is_active (union_seen r) i))) member ∙ not_not (is_active (union_seen r) i)))

same_index : (i j : ℕ) → (i == j) ≡ true → j ≡ i
same_index i j e = grind (arith, nat_tests, e)

false_true : false ≡ true → ⊥
false_true e = cc

pub active_which : (r : StructHandle) (i : ℕ) → is_active (union_seen r) i ≡ true → which_of (record_seen r) ≡ Some i
active_which r i e = go (non_union_parts (part_seen r) (struct_fields (schema_of r))) (union_seen r) e
  where
    go : (vs : Values) (u : Union) → is_active u i ≡ true → which_of (Parts vs u) ≡ Some i
    go vs NoUnion e = absurd (false_true e)
    go vs (Unknown d) e = absurd (false_true e)
    go vs (Active j v) e = ap Some (same_index i j e)

-- ---- whether there are fields ----

no_fields : (fs : List TypedField) → false ≡ has_fields fs → length fs ≡ 0
no_fields [] e = refl
no_fields (f ∷ fs) e = absurd (false_true e)

some_fields : (fs : List TypedField) → true ≡ has_fields fs → 0 < length fs
some_fields [] e = absurd (false_true (sym e))
some_fields (f ∷ fs) e = omega arith

-- ---- where a print stands ----

-- the items there from a field on
abbrev items_at : Texts → ℕ → StructReader → Standing → ℕ → List Out
items_at x left r now i = x.items left (walk_set now.walk) r now.at (walk_brand now.walk) i

-- the text that is to come past the field there
abbrev pub onward_past : Texts → ℕ → StructReader → Standing → (first : Bool) → Out
onward_past x left r now first = onward x left (walk_set now.walk) r now.at first ((walk_brand now.walk, walk_index now.walk + 1) ∷ above now.walk)

-- a handle of the struct or group there, and of the field
pub record IsAt (r : StructReader) (now : Standing) (h : StructHandle) (f : Field) : Type 0 where
  pub reader : reader_of h ≡ r
  pub schema : schema_of h ≡ walk_schema now.walk
  pub field : IsFieldOf (walk_schema now.walk) (walk_index now.walk) f

pub field_here : (r : StructReader) (now : Standing) (h : StructHandle) (f : Field) → IsAt r now h f → IsFieldOf (schema_of h) (index_of f) f
field_here r now h f here = record {
  inside = subst (λ (i : ℕ). i < length (struct_fields (schema_of h))) (sym here.field.index) (subst (λ (z : StructSchema). walk_index now.walk < length (struct_fields z)) (sym here.schema) here.field.inside);
  schema = here.field.schema ∙ sym here.schema;
  index = refl;
}

pub is_at : (r : StructReader) (now : Standing) (h : StructHandle) (f : Field) (s : StructSchema) → reader_of h ≡ r → schema_of h ≡ s → s ≡ walk_schema now.walk → IsFieldOf (walk_schema now.walk) (walk_index now.walk) f → IsAt r now h f
is_at r now h f s er eh es field = record { reader = er; schema = eh ∙ es; field = field }

-- ---- through a result ----

pub if_ok_map : {T E : Type 0} {P Q : T → Type 0} (result : Result T E) → ((y : T) → P y → Q y) → IfOk result P → IfOk result Q
if_ok_map (Ok x) f h = f x h
if_ok_map (Err e) f h = tt {0}

-- ---- past a field ----

pub past_onward : (x : Texts) (left : ℕ) (r : StructReader) (now next : Standing) (q : Bool) → IsPast now q next → onward_past x left r now q ≡ onward_of x left r next
past_onward x left r now next q past =
    ap (λ (z : StructSchema). onward x left (set_of z) r now.at q ((walk_brand now.walk, walk_index now.walk + 1) ∷ above now.walk)) (sym past.schema)
    ∙ (ap (λ (l : Layout). onward x left (walk_set next.walk) r l q ((walk_brand now.walk, walk_index now.walk + 1) ∷ above now.walk)) (sym past.at)
    ∙ (ap (λ (b : Bool). onward x left (walk_set next.walk) r next.at b ((walk_brand now.walk, walk_index now.walk + 1) ∷ above now.walk)) (sym past.first)
    ∙ ap (λ (fs : List (ℕ × ℕ)). onward x left (walk_set next.walk) r next.at next.first fs) (sym past.frames)))

past_small : (now next : Standing) (q : Bool) → IsPast now q next → walk_depth now.walk < 2 ^ 64 → walk_depth next.walk < 2 ^ 64
past_small now next q past small = omega (arith, past.depth, small)

past_fewer : (now next : Standing) (q : Bool) → walk_index now.walk < length (struct_fields (walk_schema now.walk)) → IsPast now q next → steps_onward next < steps_onward now
past_fewer now next q lt past =
    subst (λ (n : ℕ). n < steps_onward now) (sym same_steps)
    (steps_advance (walk_set now.walk) (2 ^ 64 - 1 - walk_depth now.walk) (walk_brand now.walk) (walk_index now.walk) (above now.walk) lt)
  where
    same_steps : steps_onward next ≡ steps_left (walk_set now.walk) (2 ^ 64 - 1 - walk_depth now.walk) ((walk_brand now.walk, walk_index now.walk + 1) ∷ above now.walk)
    same_steps =
        ap (λ (fs : List (ℕ × ℕ)). steps_left (walk_set next.walk) (2 ^ 64 - 1 - walk_depth next.walk) fs) past.frames
        ∙ (ap (λ (d : ℕ). steps_left (walk_set next.walk) (2 ^ 64 - 1 - d) ((walk_brand now.walk, walk_index now.walk + 1) ∷ above now.walk)) past.depth
        ∙ ap (λ (z : StructSchema). steps_left (set_of z) (2 ^ 64 - 1 - walk_depth now.walk) ((walk_brand now.walk, walk_index now.walk + 1) ∷ above now.walk)) past.schema)

-- into a group
opened_onward : (x : Texts) (left : ℕ) (r : StructReader) (now next : Standing) (g : StructSchema) → set_of g ≡ walk_set now.walk → IsGroupOpened now g next →
    onward x left (walk_set now.walk) r (deeper now.at) true ((number_of g, 0) ∷ (walk_brand now.walk, walk_index now.walk + 1) ∷ above now.walk) ≡ onward_of x left r next
opened_onward x left r now next g e opened =
    ap (λ (z : Schemas). onward x left z r (deeper now.at) true ((number_of g, 0) ∷ (walk_brand now.walk, walk_index now.walk + 1) ∷ above now.walk)) (sym (ap set_of opened.schema ∙ e))
    ∙ (ap (λ (l : Layout). onward x left (walk_set next.walk) r l true ((number_of g, 0) ∷ (walk_brand now.walk, walk_index now.walk + 1) ∷ above now.walk)) (sym opened.at)
    ∙ (ap (λ (b : Bool). onward x left (walk_set next.walk) r next.at b ((number_of g, 0) ∷ (walk_brand now.walk, walk_index now.walk + 1) ∷ above now.walk)) (sym opened.first)
    ∙ ap (λ (fs : List (ℕ × ℕ)). onward x left (walk_set next.walk) r next.at next.first fs) (sym opened.frames)))

opened_fewer : (now next : Standing) (g : StructSchema) → set_of g ≡ walk_set now.walk → group_field_of (walk_set now.walk) (number_of g) ≡ Some (walk_brand now.walk, walk_index now.walk) → IsGroupOpened now g next →
    steps_onward next < steps_onward now
opened_fewer now next g e back opened = omega (arith, same_steps, more_groups, enter)
  where
    more_groups : steps_onward now ≡ steps_left (walk_set now.walk) (suc (2 ^ 64 - 1 - walk_depth next.walk)) (frames now.walk)
    more_groups = ap (λ (n : ℕ). steps_left (walk_set now.walk) n (frames now.walk)) (omega (arith, opened.depth, opened.small))

    same_steps : steps_onward next ≡ steps_left (walk_set now.walk) (2 ^ 64 - 1 - walk_depth next.walk) ((number_of g, 0) ∷ (walk_brand now.walk, walk_index now.walk + 1) ∷ above now.walk)
    same_steps =
        ap (λ (fs : List (ℕ × ℕ)). steps_left (walk_set next.walk) (2 ^ 64 - 1 - walk_depth next.walk) fs) opened.frames
        ∙ ap (λ (z : Schemas). steps_left z (2 ^ 64 - 1 - walk_depth next.walk) ((number_of g, 0) ∷ (walk_brand now.walk, walk_index now.walk + 1) ∷ above now.walk)) (ap set_of opened.schema ∙ e)

    enter : steps_left (walk_set now.walk) (2 ^ 64 - 1 - walk_depth next.walk) ((number_of g, 0) ∷ (walk_brand now.walk, walk_index now.walk + 1) ∷ above now.walk)
        < steps_left (walk_set now.walk) (suc (2 ^ 64 - 1 - walk_depth next.walk)) (frames now.walk)
    enter =
        steps_enter (walk_set now.walk) (2 ^ 64 - 1 - walk_depth next.walk) (walk_brand now.walk) (walk_index now.walk) (number_of g) (above now.walk)
        (target_parent (walk_set now.walk) (number_of g) (walk_brand now.walk) (walk_index now.walk) (group_field_found (walk_set now.walk) (number_of g) (walk_brand now.walk) (walk_index now.walk) back).1)

module _ (x : Texts) {under : TypedField → Texts} (law : IsTexts x under) (left : ℕ) (r : StructReader) (now : Standing) (h : StructHandle) (f : Field) (here : IsAt r now h f) where
  items_come_next : items_at x left r now (walk_index now.walk) ≡ own_in x left now.at h (walk_index now.walk) ++ items_at x left r now (walk_index now.walk + 1)
  items_come_next =
      subst (λ (z : StructReader). x.items left (walk_set now.walk) z now.at (walk_brand now.walk) (walk_index now.walk) ≡ own_in x left now.at h (walk_index now.walk) ++ x.items left (walk_set now.walk) z now.at (walk_brand now.walk) (walk_index now.walk + 1)) here.reader
      (subst (λ (z : StructSchema). x.items left (set_of z) (reader_of h) now.at (number_of z) (walk_index now.walk) ≡ own_in x left now.at h (walk_index now.walk) ++ x.items left (set_of z) (reader_of h) now.at (number_of z) (walk_index now.walk + 1)) here.schema
      (law.items_next left now.at h (walk_index now.walk) (subst (λ (z : StructSchema). walk_index now.walk < length (struct_fields z)) (sym here.schema) here.field.inside)))

  items_by : (q : Bool) → q ≡ is_item h (field_in h f) (index_of f) → items_at x left r now (walk_index now.walk) ≡ item_if q (item (field_in h f) (x.field left now.at h (field_in h f))) ++ items_at x left r now (walk_index now.walk + 1)
  items_by q e =
      items_come_next
      ∙ (ap (λ (i : ℕ). own_in x left now.at h i ++ items_at x left r now (walk_index now.walk + 1)) (sym here.field.index)
      ∙ ap (λ (b : Bool). item_if b (item (field_in h f) (x.field left now.at h (field_in h f))) ++ items_at x left r now (walk_index now.walk + 1)) (sym e))

  same_typed : typed_of f ≡ field_in h f
  same_typed = ap (λ (s : StructSchema). struct_field s (index_of f)) (here.field.schema ∙ sym here.schema)

  -- the field has no item
  pub step_over : (old : Taken) (next : Standing) → false ≡ is_item h (field_in h f) (index_of f) → IsPast now now.first next → IsPrintStep x left r now old old next
  step_over old next none past = record {
    text = λ z k.
        skips x left (walk_set now.walk) r now.at now.first (walk_brand now.walk) (walk_index now.walk) (above now.walk) old (items_by false none) z
        (same old (past_onward x left r now next now.first past) z k);
    fewer = past_fewer now next now.first here.field.inside past;
    small = past_small now next now.first past;
  }

  -- its name was not put
  pub not_named : (p : Taken) (stop : Stop) → true ≡ is_item h (field_in h f) (index_of f) → IsStopped p (said_text (name_text now.at now.first (typed_of f))) stop → IsStopped p (onward_of x left r now) stop
  not_named p stop there stopped =
      item_unnamed x left (walk_set now.walk) r now.at now.first (walk_brand now.walk) (walk_index now.walk) (above now.walk) (field_in h f) (x.field left now.at h (field_in h f)) p stop
      (items_by true there) (subst (λ (t : TypedField). IsStopped p (said_text (name_text now.at now.first t)) stop) same_typed stopped)

  -- its name was put, and its text is to come
  module _ (p0 p1 : Taken) (there : true ≡ is_item h (field_in h f) (index_of f)) (name : IsNamePut now.at now.first (typed_of f) p0 p1) where
    named : Leads p0 (onward_of x left r now) p1 (after (x.field left now.at h (field_in h f)) (onward_past x left r now false))
    named =
        item_named x left (walk_set now.walk) r now.at now.first (walk_brand now.walk) (walk_index now.walk) (above now.walk) (field_in h f) (x.field left now.at h (field_in h f)) p0 p1
        (items_by true there) (subst (λ (t : TypedField). IsNamePut now.at now.first t p0 p1) same_typed name)

    pub step_past : (p2 : Taken) (next : Standing) → IsPut p1 (x.field left now.at h (field_in h f)) p2 → IsPast now false next → IsPrintStep x left r now p0 p2 next
    step_past p2 next put past = record {
      text = λ z k.
          named z
          (then p1 p2 (x.field left now.at h (field_in h f)) (onward_past x left r now false) put z
          (same p2 (past_onward x left r now next false past) z k));
      fewer = past_fewer now next false here.field.inside past;
      small = past_small now next false past;
    }

    pub stopped_there : (stop : Stop) → IsStopped p1 (x.field left now.at h (field_in h f)) stop → IsStopped p0 (onward_of x left r now) stop
    stopped_there stop stopped = named (Err stop) (first_stopped p1 (x.field left now.at h (field_in h f)) (onward_past x left r now false) stop stopped)

    -- the field is a group
    module _ (g : StructSchema) (target : Some (number_of g) ≡ kind_target (typed_of f).field.kind (typed_of f).type) (inside : IsGroupSchemaIn (field_schema f) g) where
      in_set : set_of g ≡ set_of (schema_of h)
      in_set = inside.set ∙ ap set_of (here.field.schema ∙ sym here.schema)

      shown_group : x.field left now.at h (field_in h f) ≡ record_in x left now.at (record { reader = reader_of h; schema = g })
      shown_group =
          law.field_group h f (field_here r now h f here) (subst IsAccepted in_set inside.stands.accepted) g
          (target_in h f (field_here r now h f here) (Some (number_of g)) target) in_set left now.at

      pub step_empty : (p2 : Taken) (next : Standing) → false ≡ has_fields (struct_fields g) → IsPut p1 (said_text (codes "()")) p2 → IsPast now false next → IsPrintStep x left r now p0 p2 next
      step_empty p2 next none put past =
          step_past p2 next
          (same_put p1 p2 (x.field left now.at h (field_in h f)) (said_text (codes "()")) (shown_group ∙ struct_none x left now.at (record { reader = reader_of h; schema = g }) (no_fields (struct_fields g) none)) put) past

      -- its brackets were not put
      pub empty_stopped : (stop : Stop) → false ≡ has_fields (struct_fields g) → IsStopped p1 (said_text (codes "()")) stop → IsStopped p0 (onward_of x left r now) stop
      empty_stopped stop none stopped =
          stopped_there stop
          (same p1 (shown_group ∙ struct_none x left now.at (record { reader = reader_of h; schema = g }) (no_fields (struct_fields g) none)) (Err stop) stopped)

      pub bracket_stopped : (stop : Stop) → true ≡ has_fields (struct_fields g) → IsStopped p1 (said_text (codes "(")) stop → IsStopped p0 (onward_of x left r now) stop
      bracket_stopped stop some stopped =
          stopped_there stop
          (same p1 (shown_group ∙ struct_some x left now.at (record { reader = reader_of h; schema = g }) (some_fields (struct_fields g) some)) (Err stop)
          (opening_stopped p1 (codes "(") (codes ")") now.at (items_in x left (deeper now.at) (record { reader = reader_of h; schema = g }) 0) stop stopped))

      -- its set and its field are those of the walk
      pub group_set : set_of g ≡ walk_set now.walk
      group_set = inside.set ∙ ap set_of here.field.schema

      pub group_field : group_field_of (set_of (field_schema f)) (number_of g) ≡ Some (place_of_field f) → group_field_of (walk_set now.walk) (number_of g) ≡ Some (walk_brand now.walk, walk_index now.walk)
      group_field back =
          ap (λ (z : Schemas). group_field_of z (number_of g)) (sym (ap set_of here.field.schema))
          ∙ (back
          ∙ (ap (λ (b : ℕ). Some (b, index_of f)) (ap number_of here.field.schema)
          ∙ ap (λ (i : ℕ). Some (walk_brand now.walk, i)) here.field.index))

      group_items : items_in x left (deeper now.at) (record { reader = reader_of h; schema = g }) 0 ≡ x.items left (walk_set now.walk) r (deeper now.at) (number_of g) 0
      group_items =
          ap (λ (z : Schemas). x.items left z (reader_of h) (deeper now.at) (number_of g) 0) group_set
          ∙ ap (λ (w : StructReader). x.items left (walk_set now.walk) w (deeper now.at) (number_of g) 0) here.reader

      pub step_in : (p2 : Taken) → true ≡ has_fields (struct_fields g) → group_field_of (set_of (field_schema f)) (number_of g) ≡ Some (place_of_field f) → IsPut p1 (said_text (codes "(")) p2 → (next : Standing) → IsGroupOpened now g next →
          IsPrintStep x left r now p0 p2 next
      step_in p2 some back put next opened = record {
        text = λ z k.
            named z
            (same p1 text_in z
            (then p1 p2 (said_text (codes "(")) (onward x left (walk_set now.walk) r (deeper now.at) true ((number_of g, 0) ∷ (walk_brand now.walk, walk_index now.walk + 1) ∷ above now.walk)) put z
            (same p2 (opened_onward x left r now next g group_set opened) z k)));
        fewer = opened_fewer now next g group_set (group_field back) opened;
        small = λ s. omega (arith, opened.depth, opened.small);
      }
        where
          text_in : after (x.field left now.at h (field_in h f)) (onward_past x left r now false)
              ≡ after (said_text (codes "(")) (onward x left (walk_set now.walk) r (deeper now.at) true ((number_of g, 0) ∷ (walk_brand now.walk, walk_index now.walk + 1) ∷ above now.walk))
          text_in =
              ap (λ (o : Out). after o (onward_past x left r now false)) (shown_group ∙ struct_some x left now.at (record { reader = reader_of h; schema = g }) (some_fields (struct_fields g) some))
              ∙ group_in x left (walk_set now.walk) r now.at (number_of g) ((walk_brand now.walk, walk_index now.walk + 1) ∷ above now.walk) (items_in x left (deeper now.at) (record { reader = reader_of h; schema = g }) 0) group_items

-- ---- the whole struct ----

-- its bracket was put
pub begins : (x : Texts) (left : ℕ) (at : Layout) (h : StructHandle) (r : StructReader) (s : StructSchema) (now : Standing) (p0 p1 : Taken) → r ≡ reader_of h → s ≡ schema_of h → true ≡ has_fields (struct_fields (schema_of h)) → IsPut p0 (said_text (codes "(")) p1 → IsStart s at now →
    Leads p0 (record_in x left at h) p1 (onward_of x left r now)
begins x left at h r s now p0 p1 er es some put start = λ z k.
    same p0 (struct_some x left at h (some_fields (struct_fields (schema_of h)) some) ∙ (sym (after_none (bracketed_text (codes "(") (codes ")") at (items_in x left (deeper at) h 0))) ∙ text_in)) z
    (then p0 p1 (said_text (codes "(")) (onward x left (set_of (schema_of h)) (reader_of h) (deeper at) true ((number_of (schema_of h), 0) ∷ [])) put z
    (same p1 onward_start z k))
  where
    after_none : (o : Out) → after o (said_text []) ≡ o
    after_none (Err k) = refl
    after_none (Ok a) = ap Ok (append-nil a)

    text_in : after (bracketed_text (codes "(") (codes ")") at (items_in x left (deeper at) h 0)) (said_text [])
        ≡ after (said_text (codes "(")) (onward x left (set_of (schema_of h)) (reader_of h) (deeper at) true ((number_of (schema_of h), 0) ∷ []))
    text_in =
        ap (after (bracketed_text (codes "(") (codes ")") at (items_in x left (deeper at) h 0))) (sym (onward_end x left (set_of (schema_of h)) (reader_of h) at false))
        ∙ group_in x left (set_of (schema_of h)) (reader_of h) at (number_of (schema_of h)) [] (items_in x left (deeper at) h 0) refl

    onward_start : onward x left (set_of (schema_of h)) (reader_of h) (deeper at) true ((number_of (schema_of h), 0) ∷ []) ≡ onward_of x left r now
    onward_start =
        ap (λ (w : StructReader). onward x left (set_of (schema_of h)) w (deeper at) true ((number_of (schema_of h), 0) ∷ [])) (sym er)
        ∙ (ap (λ (z : StructSchema). onward x left (set_of z) r (deeper at) true ((number_of z, 0) ∷ [])) (sym es)
        ∙ (ap (λ (z : StructSchema). onward x left (set_of z) r (deeper at) true ((number_of s, 0) ∷ [])) (sym start.schema)
        ∙ (ap (λ (l : Layout). onward x left (walk_set now.walk) r l true ((number_of s, 0) ∷ [])) (sym start.layout)
        ∙ (ap (λ (b : Bool). onward x left (walk_set now.walk) r now.at b ((number_of s, 0) ∷ [])) (sym start.first)
        ∙ ap (λ (fs : List (ℕ × ℕ)). onward x left (walk_set now.walk) r now.at now.first fs) (sym start.frames)))))

-- its bracket was not put
pub not_begun : (x : Texts) (left : ℕ) (at : Layout) (h : StructHandle) (p : Taken) (stop : Stop) → true ≡ has_fields (struct_fields (schema_of h)) → IsStopped p (said_text (codes "(")) stop → IsStopped p (record_in x left at h) stop
not_begun x left at h p stop some stopped =
    same p (struct_some x left at h (some_fields (struct_fields (schema_of h)) some)) (Err stop) (opening_stopped p (codes "(") (codes ")") at (items_in x left (deeper at) h 0) stop stopped)

pub no_record : (x : Texts) (left : ℕ) (at : Layout) (h : StructHandle) → false ≡ has_fields (struct_fields (schema_of h)) → record_in x left at h ≡ said_text (codes "()")
no_record x left at h none = struct_none x left at h (no_fields (struct_fields (schema_of h)) none)

-- ---- out of a group ----

module _ (x : Texts) {under : TypedField → Texts} (law : IsTexts x under) (left : ℕ) (r : StructReader) (now : Standing) (old new : Taken) (done : length (struct_fields (walk_schema now.walk)) ≤ walk_index now.walk) (put : IsPut old (said_text (closing now.at)) new) where
  bracket_put : Leads old (onward_of x left r now) new (onward x left (walk_set now.walk) r (shallower now.at) false (above now.walk))
  bracket_put =
      closes x left (walk_set now.walk) r now.at now.first (walk_brand now.walk) (walk_index now.walk) (above now.walk) old new
      (law.items_end left now.at (record { reader = r; schema = walk_schema now.walk }) (walk_index now.walk) done) put

  pub leads_out : (next : Standing) → IsOutside now next → Leads old (onward_of x left r now) new (onward_of x left r next)
  leads_out next outside = λ z k. bracket_put z (same new onward_out z k)
    where
      onward_out : onward x left (walk_set now.walk) r (shallower now.at) false (above now.walk) ≡ onward_of x left r next
      onward_out =
          ap (λ (z : Schemas). onward x left z r (shallower now.at) false (above now.walk)) (sym outside.set)
          ∙ (ap (λ (l : Layout). onward x left (walk_set next.walk) r l false (above now.walk)) (sym outside.at)
          ∙ (ap (λ (b : Bool). onward x left (walk_set next.walk) r next.at b (above now.walk)) (sym outside.first)
          ∙ ap (λ (fs : List (ℕ × ℕ)). onward x left (walk_set next.walk) r next.at next.first fs) (sym outside.frames)))

  -- and out of the whole
  pub leads_end : above now.walk ≡ [] → Leads old (onward_of x left r now) new (said_text [])
  leads_end none = λ z k.
      bracket_put z
      (same new (ap (λ (fs : List (ℕ × ℕ)). onward x left (walk_set now.walk) r (shallower now.at) false fs) none ∙ onward_end x left (walk_set now.walk) r (shallower now.at) false) z k)

-- the closing bracket was not put
pub not_closed : (x : Texts) {under : TypedField → Texts} (law : IsTexts x under) (left : ℕ) (r : StructReader) (now : Standing) (old : Taken) (stop : Stop) → length (struct_fields (walk_schema now.walk)) ≤ walk_index now.walk → IsStopped old (said_text (closing now.at)) stop →
    IsStopped old (onward_of x left r now) stop
not_closed x law left r now old stop done stopped =
    closes_not x left (walk_set now.walk) r now.at now.first (walk_brand now.walk) (walk_index now.walk) (above now.walk) old stop
    (law.items_end left now.at (record { reader = r; schema = walk_schema now.walk }) (walk_index now.walk) done) stopped

pub start_small : (s : StructSchema) (at : Layout) (now : Standing) → IsStart s at now → walk_depth now.walk < 2 ^ 64
start_small s at now start = omega (arith, start.depth)

pub out_small : (now next : Standing) → walk_depth now.walk < 2 ^ 64 → IsOutside now next → walk_depth next.walk < 2 ^ 64
out_small now next small outside = omega (arith, small, outside.depth)

-- where a closing bracket was put, a print stands outside or is done
pub outside_of : (now next : Standing) (old new : Taken) (o : Option Standing) → o ≡ Some next → IsBracketClosed now old new o → IsOutside now next
outside_of now next old new o e closed = subst (λ (z : Option Standing). MatchOption z (above now.walk ≡ []) (IsOutside now)) e closed.1

pub done_of : (now : Standing) (old new : Taken) (o : Option Standing) → o ≡ None → IsBracketClosed now old new o → above now.walk ≡ []
done_of now old new o e closed = subst (λ (z : Option Standing). MatchOption z (above now.walk ≡ []) (IsOutside now)) e closed.1

pub fewer_out : (now next : Standing) → walk_depth now.walk < 2 ^ 64 → IsOutside now next → steps_onward next < steps_onward now
fewer_out now next small outside = omega (arith, same_steps, leave)
  where
    same_steps : steps_onward next ≡ steps_left (walk_set now.walk) (suc (2 ^ 64 - 1 - walk_depth now.walk)) (above now.walk)
    same_steps =
        ap (λ (fs : List (ℕ × ℕ)). steps_left (walk_set next.walk) (2 ^ 64 - 1 - walk_depth next.walk) fs) outside.frames
        ∙ (ap (λ (z : Schemas). steps_left z (2 ^ 64 - 1 - walk_depth next.walk) (above now.walk)) outside.set
        ∙ ap (λ (n : ℕ). steps_left (walk_set now.walk) n (above now.walk)) (omega (arith, small, outside.depth)))

    leave : steps_left (walk_set now.walk) (suc (2 ^ 64 - 1 - walk_depth now.walk)) (above now.walk) < steps_onward now
    leave = steps_leave (walk_set now.walk) (2 ^ 64 - 1 - walk_depth now.walk) (walk_brand now.walk) (walk_index now.walk) (above now.walk)
