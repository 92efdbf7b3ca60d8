-- The steps of a write of a struct: past a field, to the active member, and out.
use Rattle.std.proofs.Common.{ℕ, suc, ◌+◌, ◌-◌, ◌^◌, ◌<◌, ◌≤◌, ◌≡◌, refl, List, [], ◌∷◌, Bool, true, false, cond, codes, length, Option, Some, None, Ok, Err, IfOk, Result, ap, arith, sym, subst, ◌∙◌}
use Rattle.std.proofs.lemmas.Bool.{true≢false}
use Rattle.capnp_wire.specs.declared.struct_reader.StructReader.{StructReader}
use Rattle.capnp_schema.specs.FieldLists.{IsFieldOf, index_of, field_schema as field_schema, typed_of}
use Rattle.capnp_schema.specs.Facts.GroupWalks.{step_into}
use Rattle.capnp_schema.specs.Schema.{Schemas, TypedField, is_member, kind_target}
use Rattle.capnp_schema.specs.Steps.GroupWalks.{steps_into}
use Rattle.capnp_schema.specs.StructHandles.{number_of, set_of, struct_field, struct_fields}
use Rattle.capnp_schema.specs.declared.schema.fields.Field.{Field}
use Rattle.capnp_schema.specs.declared.schema.structs.StructSchema.{StructSchema}
use Rattle.capnp_records.specs.Record.{is_there}
use Rattle.capnp_records.specs.Text.{Layout, deeper}
use Rattle.capnp_dynamic_readers.specs.Handles.{reader_of, schema_of}
use Rattle.capnp_dynamic_readers.specs.Steps.GroupTexts.{read_part_at, union_at}
use Rattle.capnp_dynamic_readers.specs.Steps.PartsRead.{field_in}
use Rattle.capnp_dynamic_readers.specs.Steps.Shown.{part_seen}
use Rattle.capnp_dynamic_readers.specs.declared.dynamic_struct.Reader.{Reader as StructHandle}
use Rattle.capnp_json.specs.Json.{item, item_if, json_within, member_items}
use Rattle.capnp_json.specs.Pieces.{Out, after, items_left, said, separator, shallower}
use Rattle.capnp_json.specs.Steps.Puts.{IsPut, IsStopped, Leads}
use Rattle.capnp_json.specs.Steps.Records.{HasNoMemberItem, IsBehind, IsClosed, IsItemPut, IsLeft, IsMemberItem, IsNext, IsStart, IsStep, brand_steps, closing, groups_left, is_item, is_last, item_onward, items_onward, onward, onward_of, outward, part_shown, steps_left, steps_outward, walk_onward, walk_steps}
use Rattle.capnp_json.specs.Steps.Shown.{field_shown, record_shown}
use Rattle.capnp_json.specs.Steps.Walks.{above, is_done, walk_brand, walk_depth, walk_index, walk_schema, walk_set}
use Rattle.capnp_json.specs.declared.error.JsonError.{JsonError}
use Rattle.capnp_json.specs.declared.output.Output.{Output}
use Rattle.capnp_json.specs.declared.standing.Standing.{Standing}
use Rattle.capnp_json.specs.declared.walk.Walk.{Walk}
use Rattle.capnp_json.proofs.ItemSteps.{item_moved, there_moved}
use Rattle.capnp_json.proofs.ItemsJson.{member_shown}
use Rattle.capnp_json.proofs.Puts.{same, stop_first, then}
use Rattle.capnp_json.proofs.RecordSteps.{IsWalk, after_none, item_first, items_end, items_next, last_is, onward_is, outward_end, outward_frame, step_over, steps_are, steps_done, steps_frame, steps_member, steps_past}

-- where a walk stands by its own parts
own_walk : (w : Walk) (q : Bool) → is_done w ≡ q → IsWalk w q (walk_schema w) (walk_index w) (walk_depth w) (above w)
own_walk w q done = record { done = done; schema = refl; index = refl; depth = refl; above = refl }

-- past a field, and behind all
pub advanced : (w next : Walk) → is_done w ≡ false → walk_schema next ≡ walk_schema w → walk_index next ≡ walk_index w + 1 → walk_depth next ≡ walk_depth w → is_done next ≡ is_done w → above next ≡ above w →
    IsWalk next false (walk_schema w) (walk_index w + 1) (walk_depth w) (above w)
advanced w next done schema index depth same outer = record { done = same ∙ done; schema = schema; index = index; depth = depth; above = outer }

pub finished : (w next : Walk) → walk_schema next ≡ walk_schema w → walk_depth next ≡ walk_depth w → is_done next ≡ true → above next ≡ above w → IsWalk next true (walk_schema w) (walk_index next) (walk_depth w) (above w)
finished w next schema depth done outer = record { done = done; schema = schema; index = refl; depth = depth; above = outer }

-- through a result
pub if_ok_map : {T E : Type 0} {P Q : T → Type 0} (result : Result T E) → ((x : T) → P x → Q x) → IfOk result P → IfOk result Q
if_ok_map (Ok x) f h = f x h
if_ok_map (Err e) f h = tt {0}

-- ---- an item ----

module _ (left : ℕ) (r : StructReader) (now : Standing) (behind : Walk) (f : Field) (more : Bool) (j k : ℕ) (done : is_done now.walk ≡ false)
    (is : IsWalk behind more (walk_schema now.walk) j (walk_depth now.walk) (above now.walk)) (same_field : typed_of f ≡ struct_field (walk_schema now.walk) k)
    (items : items_onward false left (walk_set now.walk) r now.at (walk_brand now.walk) (walk_index now.walk)
    ≡ item now.at (struct_field (walk_schema now.walk) k) (part_shown left (walk_set now.walk) r now.at (struct_field (walk_schema now.walk) k)) ∷ items_onward more left (walk_set now.walk) r now.at (walk_brand now.walk) j) where
  onward_item : onward_of left r now ≡ item_onward left r now behind f
  onward_item =
      onward_is now.walk false (walk_schema now.walk) (walk_index now.walk) (walk_depth now.walk) (above now.walk) (own_walk now.walk false done) left r now.at now.first
      ∙ (item_first left (walk_set now.walk) r now.at (walk_brand now.walk) false more now.first (walk_index now.walk) j (above now.walk) (item now.at (struct_field (walk_schema now.walk) k) (part_shown left (walk_set now.walk) r now.at (struct_field (walk_schema now.walk) k))) items
      ∙ (ap (λ (o : Out). after (after (said (separator now.at now.first)) (item now.at (struct_field (walk_schema now.walk) k) (part_shown left (walk_set now.walk) r now.at (struct_field (walk_schema now.walk) k)))) o)
      (sym (onward_is behind more (walk_schema now.walk) j (walk_depth now.walk) (above now.walk) is left r now.at false))
      ∙ (ap (λ (t : TypedField). after (after (said (separator now.at now.first)) (item now.at t (part_shown left (walk_set now.walk) r now.at t))) (walk_onward left r behind now.at false)) (sym same_field)
      ∙ ap (λ (z : StructSchema). after (after (said (separator now.at now.first)) (item now.at (typed_of f) (part_shown left (set_of z) r now.at (typed_of f)))) (walk_onward left r behind now.at false)) (sym is.schema))))

  pub item_refused : (old : Output) (why : JsonError) → IsStopped old (item_onward left r now behind f) why → IsStopped old (onward_of left r now) why
  item_refused old why h = subst (λ (o : Out). IsStopped old o why) (sym onward_item) h

  pub item_step : (old new : Output) (next : Standing) →
      steps_into (brand_steps (groups_left now.walk) (walk_set now.walk)) (kind_target (struct_field (walk_schema now.walk) k).field.kind (struct_field (walk_schema now.walk) k).type) + steps_left more (walk_set now.walk) (groups_left now.walk) (walk_brand now.walk) j (above now.walk) ≤ steps_left false (walk_set now.walk) (groups_left now.walk) (walk_brand now.walk) (walk_index now.walk) (above now.walk) →
      IsItemPut left r now behind f old new next → IsStep left r now old new next
  item_step old new next fits put = record {
    json = λ z g. same old onward_item z (put.json z g);
    fewer =
        let fewer = put.fewer in
        let before = steps_are now.walk false (walk_schema now.walk) (walk_index now.walk) (walk_depth now.walk) (above now.walk) (own_walk now.walk false done) in
        let beyond = steps_are behind more (walk_schema now.walk) j (walk_depth now.walk) (above now.walk) is in
        omega (arith, fewer, before, beyond, into, fits);
    small =
        let e = is.depth in
        let small = put.small in
        λ g. small (subst (λ (n : ℕ). n < 2 ^ 64) (sym e) g);
  }
    where
      into : steps_into (brand_steps (groups_left behind) (walk_set behind)) (kind_target (typed_of f).field.kind (typed_of f).type)
          ≡ steps_into (brand_steps (groups_left now.walk) (walk_set now.walk)) (kind_target (struct_field (walk_schema now.walk) k).field.kind (struct_field (walk_schema now.walk) k).type)
      into =
          ap (λ (t : TypedField). steps_into (brand_steps (groups_left behind) (walk_set behind)) (kind_target t.field.kind t.type)) same_field
          ∙ (ap (λ (z : StructSchema). steps_into (brand_steps (groups_left behind) (set_of z)) (kind_target (struct_field (walk_schema now.walk) k).field.kind (struct_field (walk_schema now.walk) k).type)) is.schema
          ∙ ap (λ (n : ℕ). steps_into (brand_steps (2 ^ 64 - 1 - n) (walk_set now.walk)) (kind_target (struct_field (walk_schema now.walk) k).field.kind (struct_field (walk_schema now.walk) k).type)) is.depth)

-- ---- a field ----

-- a field that has an item is no member and there
both_of : (q there : Bool) → true ≡ cond q false there → (q ≡ false) × (true ≡ there)
both_of true there e = absurd (true≢false e)
both_of false there e = (refl, e)

module _ (left : ℕ) (r : StructReader) (now : Standing) (behind : Walk) (f : Field) (h : StructHandle) (done : is_done now.walk ≡ false) (field : IsFieldOf (walk_schema now.walk) (walk_index now.walk) f)
    (is : IsWalk behind false (walk_schema now.walk) (walk_index now.walk + 1) (walk_depth now.walk) (above now.walk)) (er : reader_of h ≡ r) (es : schema_of h ≡ walk_schema now.walk) where
  same_field : typed_of f ≡ struct_field (walk_schema now.walk) (walk_index now.walk)
  same_field = ap (λ (s : StructSchema). struct_field s (index_of f)) field.schema ∙ ap (struct_field (walk_schema now.walk)) field.index

  item_here : is_item h (field_in h f) ≡ cond (is_member (struct_field (walk_schema now.walk) (walk_index now.walk)).field) false (is_there (read_part_at (walk_set now.walk) r (struct_field (walk_schema now.walk) (walk_index now.walk))))
  item_here =
      item_moved h r (walk_schema now.walk) f er es field.schema
      ∙ ap (λ (t : TypedField). cond (is_member t.field) false (is_there (read_part_at (walk_set now.walk) r t))) same_field

  pub field_over : (next : Standing) (old : Output) → next.walk ≡ behind → next.first ≡ now.first → next.at ≡ now.at → false ≡ is_item h (field_in h f) → IsStep left r now old old next
  field_over next old walk first at none =
      step_over left r now next old false false (walk_schema now.walk) (walk_index now.walk) (walk_index now.walk + 1) (walk_depth now.walk) (above now.walk)
      (own_walk now.walk false done)
      (subst (λ (w : Walk). IsWalk w false (walk_schema now.walk) (walk_index now.walk + 1) (walk_depth now.walk) (above now.walk)) (sym walk) is) first at
      (items_next left (walk_set now.walk) r now.at (walk_brand now.walk) (walk_index now.walk) field.inside false (none ∙ item_here))
      (let e = steps_past (walk_set now.walk) (groups_left now.walk) (walk_brand now.walk) (walk_index now.walk) (above now.walk) field.inside in
      let one = step_into (brand_steps (groups_left now.walk) (walk_set now.walk)) (kind_target (struct_field (walk_schema now.walk) (walk_index now.walk)).field.kind (struct_field (walk_schema now.walk) (walk_index now.walk)).type) in
      omega (arith, e, one))

  module _ (some : true ≡ is_item h (field_in h f)) where
    known : (is_member (typed_of f).field ≡ false) × (true ≡ is_there (read_part_at (walk_set now.walk) r (typed_of f)))
    known = both_of (is_member (typed_of f).field) (is_there (read_part_at (walk_set now.walk) r (typed_of f))) (some ∙ item_moved h r (walk_schema now.walk) f er es field.schema)

    pub field_behind : IsBehind f behind
    field_behind = record {
      field = record {
        inside = subst (λ (n : ℕ). n < length (struct_fields (walk_schema behind))) (sym field.index) (subst (λ (z : StructSchema). walk_index now.walk < length (struct_fields z)) (sym is.schema) field.inside);
        schema = field.schema ∙ sym is.schema;
        index = refl;
      };
      done = is.done ∙ sym known.0;
      index = λ d. is.index ∙ ap (λ (n : ℕ). n + 1) (sym field.index);
    }

    pub field_there : true ≡ is_there (read_part_at (walk_set behind) r (typed_of f))
    field_there = known.1 ∙ ap (λ (z : StructSchema). is_there (read_part_at (set_of z) r (typed_of f))) (sym is.schema)

    own_item : items_onward false left (walk_set now.walk) r now.at (walk_brand now.walk) (walk_index now.walk)
        ≡ item now.at (struct_field (walk_schema now.walk) (walk_index now.walk)) (part_shown left (walk_set now.walk) r now.at (struct_field (walk_schema now.walk) (walk_index now.walk))) ∷ items_onward false left (walk_set now.walk) r now.at (walk_brand now.walk) (walk_index now.walk + 1)
    own_item = items_next left (walk_set now.walk) r now.at (walk_brand now.walk) (walk_index now.walk) field.inside true (some ∙ item_here)

    pub field_step : (old new : Output) (next : Standing) → IsItemPut left r now behind f old new next → IsStep left r now old new next
    field_step old new next put =
        item_step left r now behind f false (walk_index now.walk + 1) (walk_index now.walk) done is same_field own_item old new next
        (let e = steps_past (walk_set now.walk) (groups_left now.walk) (walk_brand now.walk) (walk_index now.walk) (above now.walk) field.inside in omega (arith, e)) put

    pub field_refused : (old : Output) (why : JsonError) → IsStopped old (item_onward left r now behind f) why → IsStopped old (onward_of left r now) why
    field_refused old why = item_refused left r now behind f false (walk_index now.walk + 1) (walk_index now.walk) done is same_field own_item old why

-- ---- the active member ----

module _ (left : ℕ) (r : StructReader) (now : Standing) (behind : Walk) (h : StructHandle) (done : is_done now.walk ≡ false) (end : length (struct_fields (walk_schema now.walk)) ≤ walk_index now.walk)
    (is : IsWalk behind true (walk_schema now.walk) (walk_index behind) (walk_depth now.walk) (above now.walk)) (er : reader_of h ≡ r) (es : schema_of h ≡ walk_schema now.walk) where
  -- the items that are left are the member's
  member_left : items_onward false left (walk_set now.walk) r now.at (walk_brand now.walk) (walk_index now.walk) ≡ member_items (set_of (schema_of h)) (json_within (set_of (schema_of h)) left) now.at (number_of (schema_of h)) (union_at (set_of (schema_of h)) (reader_of h) (number_of (schema_of h)))
  member_left =
      items_end left (walk_set now.walk) r now.at (walk_brand now.walk) (walk_index now.walk) end
      ∙ (ap (λ (z : StructSchema). member_items (set_of z) (json_within (set_of z) left) now.at (number_of z) (union_at (set_of z) r (number_of z))) (sym es)
      ∙ ap (λ (x : StructReader). member_items (set_of (schema_of h)) (json_within (set_of (schema_of h)) left) now.at (number_of (schema_of h)) (union_at (set_of (schema_of h)) x (number_of (schema_of h)))) (sym er))

  pub member_over : (next : Standing) (old : Output) → next.walk ≡ behind → next.first ≡ now.first → next.at ≡ now.at → HasNoMemberItem h → IsStep left r now old old next
  member_over next old walk first at none =
      step_over left r now next old false true (walk_schema now.walk) (walk_index now.walk) (walk_index behind) (walk_depth now.walk) (above now.walk)
      (own_walk now.walk false done)
      (subst (λ (w : Walk). IsWalk w true (walk_schema now.walk) (walk_index behind) (walk_depth now.walk) (above now.walk)) (sym walk) is) first at
      (member_left ∙ none left now.at)
      (steps_done (walk_set now.walk) (groups_left now.walk) (walk_brand now.walk) (walk_index now.walk) (walk_index behind) (above now.walk))

  module _ (f : Field) (shown : IsMemberItem h f) where
    of : field_schema f ≡ walk_schema now.walk
    of = shown.active.field.schema ∙ es

    member_field : typed_of f ≡ struct_field (walk_schema now.walk) (index_of f)
    member_field = ap (λ (s : StructSchema). struct_field s (index_of f)) of

    member_inside : index_of f < length (struct_fields (walk_schema now.walk))
    member_inside = subst (λ (z : StructSchema). index_of f < length (struct_fields z)) es shown.active.field.inside

    pub member_behind : IsBehind f behind
    member_behind = record {
      field = record {
        inside = subst (λ (z : StructSchema). index_of f < length (struct_fields z)) (sym is.schema) member_inside;
        schema = of ∙ sym is.schema;
        index = refl;
      };
      done = is.done ∙ (sym shown.active.member ∙ ap (λ (z : StructSchema). is_member (struct_field z (index_of f)).field) (es ∙ sym of));
      index = λ d. absurd (true≢false (sym is.done ∙ d));
    }

    pub member_there : (q : Bool) → q ≡ is_there (part_seen h (field_in h f)) → q ≡ is_there (read_part_at (walk_set behind) r (typed_of f))
    member_there q e = e ∙ (there_moved h r (walk_schema now.walk) f er es of ∙ ap (λ (z : StructSchema). is_there (read_part_at (set_of z) r (typed_of f))) (sym is.schema))

    member_item : items_onward false left (walk_set now.walk) r now.at (walk_brand now.walk) (walk_index now.walk)
        ≡ item now.at (struct_field (walk_schema now.walk) (index_of f)) (part_shown left (walk_set now.walk) r now.at (struct_field (walk_schema now.walk) (index_of f))) ∷ []
    member_item =
        member_left
        ∙ (member_shown h f shown.active left now.at
        ∙ (ap (λ (q : Bool). item_if q (item now.at (field_in h f) (field_shown left now.at h (field_in h f)))) shown.shown
        ∙ (ap (λ (x : StructReader). item now.at (struct_field (schema_of h) (index_of f)) (part_shown left (set_of (schema_of h)) x now.at (struct_field (schema_of h) (index_of f))) ∷ []) er
        ∙ ap (λ (z : StructSchema). item now.at (struct_field z (index_of f)) (part_shown left (set_of z) r now.at (struct_field z (index_of f))) ∷ []) es)))

    pub member_step : (old new : Output) (next : Standing) → IsItemPut left r now behind f old new next → IsStep left r now old new next
    member_step old new next put =
        item_step left r now behind f true (walk_index behind) (index_of f) done is member_field member_item old new next
        (let e = steps_member (walk_set now.walk) (groups_left now.walk) (walk_brand now.walk) (walk_index now.walk) (index_of f) (walk_index behind) (above now.walk) member_inside in omega (arith, e)) put

    pub member_refused : (old : Output) (why : JsonError) → IsStopped old (item_onward left r now behind f) why → IsStopped old (onward_of left r now) why
    member_refused old why = item_refused left r now behind f true (walk_index behind) (index_of f) done is member_field member_item old why

-- ---- out ----

module _ (left : ℕ) (r : StructReader) (now : Standing) (done : is_done now.walk ≡ true) where
  -- the closing bracket is all that is left there
  bracket_left : onward_of left r now ≡ after (said (closing now)) (outward left (walk_set now.walk) r (shallower now.at) (above now.walk))
  bracket_left = onward_is now.walk true (walk_schema now.walk) (walk_index now.walk) (walk_depth now.walk) (above now.walk) (own_walk now.walk true done) left r now.at now.first

  pub close_stopped : (old : Output) (why : JsonError) → IsStopped old (said (closing now)) why → IsStopped old (onward_of left r now) why
  close_stopped old why h = same old bracket_left (Err why) (stop_first old (said (closing now)) (outward left (walk_set now.walk) r (shallower now.at) (above now.walk)) why h)

  -- out of the whole
  all_closed : (old new : Output) → IsPut old (said (closing now)) new → above now.walk ≡ [] → IsPut old (onward_of left r now) new
  all_closed old new put none =
      subst (λ (o : Out). IsPut old o new)
      (sym (bracket_left
      ∙ (ap (λ (fs : List (ℕ × ℕ)). after (said (closing now)) (outward left (walk_set now.walk) r (shallower now.at) fs)) none
      ∙ (ap (after (said (closing now))) (outward_end left (walk_set now.walk) r (shallower now.at)) ∙ after_none (said (closing now)))))) put

  -- out of a group
  group_closed : (old new : Output) (next : Standing) → walk_depth now.walk < 2 ^ 64 → IsPut old (said (closing now)) new → IsLeft now next → IsStep left r now old new next
  group_closed old new next small put out = record {
    json = λ z g. same old bracket_left z (then old new (said (closing now)) (outward left (walk_set now.walk) r (shallower now.at) (above now.walk)) put z (same new onward_out z g));
    fewer =
        let before = steps_are now.walk true (walk_schema now.walk) (walk_index now.walk) (walk_depth now.walk) (above now.walk) (own_walk now.walk true done) in
        omega (arith, before, steps_out);
    small =
        let e = out.walk.depth in
        λ g. omega (arith, g, e);
  }
    where
      last_done : is_last (walk_set next.walk) (walk_brand next.walk) (walk_index next.walk) ≡ is_done next.walk
      last_done =
          ap (is_last (walk_set next.walk) (walk_brand next.walk)) out.walk.index
          ∙ (last_is (walk_set next.walk) (walk_brand next.walk) out.walk.field ∙ sym out.walk.done)

      onward_out : outward left (walk_set now.walk) r (shallower now.at) (above now.walk) ≡ onward_of left r next
      onward_out =
          ap (λ (z : Schemas). outward left z r (shallower now.at) (above now.walk)) (sym out.walk.set)
          ∙ (ap (outward left (walk_set next.walk) r (shallower now.at)) (sym out.walk.frames)
          ∙ (outward_frame left (walk_set next.walk) r (shallower now.at) (walk_brand next.walk) (walk_index next.walk) (above next.walk)
          ∙ (ap (λ (q : Bool). onward q left (walk_set next.walk) r (shallower now.at) false (walk_brand next.walk) (walk_index next.walk) (above next.walk)) last_done
          ∙ (ap (λ (l : Layout). walk_onward left r next.walk l false) (sym out.at)
          ∙ ap (λ (q : Bool). walk_onward left r next.walk next.at q) (sym out.first)))))

      steps_out : steps_outward (walk_set now.walk) (suc (groups_left now.walk)) (above now.walk) ≡ walk_steps next.walk
      steps_out =
          ap (λ (z : Schemas). steps_outward z (suc (groups_left now.walk)) (above now.walk)) (sym out.walk.set)
          ∙ (ap (steps_outward (walk_set next.walk) (suc (groups_left now.walk))) (sym out.walk.frames)
          ∙ (steps_frame (walk_set next.walk) (suc (groups_left now.walk)) (walk_brand next.walk) (walk_index next.walk) (above next.walk)
          ∙ (ap (λ (q : Bool). steps_left q (walk_set next.walk) (suc (groups_left now.walk)) (walk_brand next.walk) (walk_index next.walk) (above next.walk)) last_done
          ∙ ap (λ (n : ℕ). steps_left (is_done next.walk) (walk_set next.walk) n (walk_brand next.walk) (walk_index next.walk) (above next.walk)) groups_are)))
        where
          groups_are : suc (groups_left now.walk) ≡ groups_left next.walk
          groups_are = let e = out.walk.depth in omega (arith, e, small)

  pub closed_next : (old new : Output) (o : Option Standing) → walk_depth now.walk < 2 ^ 64 → IsClosed now old new o → IsNext left r now old new o
  closed_next old new None small closed = all_closed old new closed.0 closed.1
  closed_next old new (Some next) small closed = group_closed old new next small closed.0 closed.1

-- ---- the whole ----

-- its bracket was put
pub begins : (left : ℕ) (at : Layout) (h : StructHandle) (r : StructReader) (s : StructSchema) (now : Standing) (p0 p1 : Output) → r ≡ reader_of h → s ≡ schema_of h → IsPut p0 (said (codes "{")) p1 → IsStart s at now →
    Leads p0 (record_shown left at h) p1 (onward_of left r now)
begins left at h r s now p0 p1 er es put start = λ z k.
    then p0 p1 (said (codes "{")) (items_left (codes "}") (deeper at) true (items_onward false left (set_of (schema_of h)) (reader_of h) (deeper at) (number_of (schema_of h)) 0)) put z
    (same p1 onward_start z k)
  where
    start_walk : IsWalk now.walk false s 0 0 []
    start_walk = record { done = start.done; schema = start.schema; index = start.index; depth = start.depth; above = start.above }

    onward_start : items_left (codes "}") (deeper at) true (items_onward false left (set_of (schema_of h)) (reader_of h) (deeper at) (number_of (schema_of h)) 0) ≡ onward_of left r now
    onward_start =
        sym (after_none (items_left (codes "}") (deeper at) true (items_onward false left (set_of (schema_of h)) (reader_of h) (deeper at) (number_of (schema_of h)) 0)))
        ∙ (ap (after (items_left (codes "}") (deeper at) true (items_onward false left (set_of (schema_of h)) (reader_of h) (deeper at) (number_of (schema_of h)) 0))) (sym (outward_end left (set_of (schema_of h)) (reader_of h) (shallower (deeper at))))
        ∙ (ap (λ (x : StructReader). onward false left (set_of (schema_of h)) x (deeper at) true (number_of (schema_of h)) 0 []) (sym er)
        ∙ (ap (λ (z : StructSchema). onward false left (set_of z) r (deeper at) true (number_of z) 0 []) (sym es)
        ∙ (sym (onward_is now.walk false s 0 0 [] start_walk left r (deeper at) true)
        ∙ (ap (λ (q : Bool). walk_onward left r now.walk (deeper at) q) (sym start.first)
        ∙ ap (λ (l : Layout). walk_onward left r now.walk l now.first) (sym start.layout))))))

pub begin_stopped : (left : ℕ) (at : Layout) (h : StructHandle) (old : Output) (why : JsonError) → IsStopped old (said (codes "{")) why → IsStopped old (record_shown left at h) why
begin_stopped left at h old why stopped = stop_first old (said (codes "{")) (items_left (codes "}") (deeper at) true (items_onward false left (set_of (schema_of h)) (reader_of h) (deeper at) (number_of (schema_of h)) 0)) why stopped

pub start_small : (s : StructSchema) (at : Layout) (now : Standing) → IsStart s at now → walk_depth now.walk < 2 ^ 64
start_small s at now start = omega (arith, start.depth)

-- all was put
pub all_put : (left : ℕ) (r : StructReader) (now : Standing) (old mid new : Output) (whole : Out) (result : Result (Option Standing) JsonError) → Leads old whole mid (onward_of left r now) → result ≡ Ok None →
    IfOk result (IsNext left r now mid new) → IsPut old whole new
all_put left r now old mid new whole result leads none next = leads (Ok new) (subst (λ (z : Result (Option Standing) JsonError). IfOk z (IsNext left r now mid new)) none next)
