-- The item of a field, behind which a walk stands, and the group in it.
use Rattle.std.proofs.Common.{ℕ, suc, ◌+◌, ◌-◌, ◌^◌, ◌<◌, ◌≡◌, refl, ◌∷◌, Bool, true, false, cond, codes, length, Some, None, Err, ap, arith, sym, subst, ◌∙◌}
use Rattle.std.specs.Option.{unwrap_or}
use Rattle.capnp_wire.specs.Standing.{struct_levels, struct_of}
use Rattle.capnp_wire.specs.declared.struct_reader.StructReader.{StructReader}
use Rattle.capnp_schema.specs.Accepted.{IsAccepted, IsGroupOf}
use Rattle.capnp_schema.specs.Facts.Fields.{brand_there}
use Rattle.capnp_schema.specs.Facts.GroupWalks.{step_into}
use Rattle.capnp_schema.specs.FieldLists.{IsFieldOf, index_of, field_schema as field_schema, typed_of}
use Rattle.capnp_schema.specs.GroupFields.{group_field_of}
use Rattle.capnp_schema.specs.GroupsDown.{IsGroupSchemaIn, place_of_field}
use Rattle.capnp_schema.specs.Schema.{FieldKind, Group, Schemas, Slot, TypedField, field_at, fields_of, is_member, kind_target}
use Rattle.capnp_schema.specs.StructHandles.{number_of, set_of, struct_field, struct_fields}
use Rattle.capnp_schema.specs.Steps.GroupWalks.{steps_into}
use Rattle.capnp_schema.specs.Types.{SchemaType, struct_number}
use Rattle.capnp_schema.specs.declared.schema.fields.Field.{Field}
use Rattle.capnp_schema.specs.declared.schema.structs.StructSchema.{StructSchema}
use Rattle.capnp_records.specs.Facts.Groups.{part_of_group}
use Rattle.capnp_records.specs.Reading.{record_of, values_of}
use Rattle.capnp_records.specs.Record.{Left, is_there}
use Rattle.capnp_records.specs.Text.{Layout, deeper}
use Rattle.capnp_dynamic_readers.specs.Handles.{reader_of, schema_of}
use Rattle.capnp_dynamic_readers.specs.Steps.GroupTexts.{read_part_at}
use Rattle.capnp_dynamic_readers.specs.Steps.PartsRead.{field_in}
use Rattle.capnp_dynamic_readers.specs.Steps.Shown.{part_seen}
use Rattle.capnp_dynamic_readers.specs.declared.dynamic_struct.Reader.{Reader as StructHandle}
use Rattle.capnp_json.specs.Json.{form_of, json_within, part_json, record_json}
use Rattle.capnp_json.specs.Pieces.{Out, after, items_left, said, shallower}
use Rattle.capnp_json.specs.Steps.Puts.{IsPut, IsStopped, Leads}
use Rattle.capnp_json.specs.Steps.Records.{IsBehind, IsGroupOpened, IsItemPut, brand_steps, frame_steps, groups_left, is_item, is_last, item_onward, items_onward, named, onward, onward_of, outward, part_shown, steps_left, steps_outward, walk_onward, walk_steps}
use Rattle.capnp_json.specs.Steps.Shown.{field_shown}
use Rattle.capnp_json.specs.Steps.Walks.{above, is_done, walk_brand, walk_depth, walk_index, walk_schema, walk_set}
use Rattle.capnp_json.specs.declared.error.JsonError.{JsonError}
use Rattle.capnp_json.specs.declared.output.Output.{Output}
use Rattle.capnp_json.specs.declared.standing.Standing.{Standing}
use Rattle.capnp_json.specs.declared.walk.Walk.{Walk}
use Rattle.capnp_json.proofs.ByteSteps.{after_assoc}
use Rattle.capnp_json.proofs.Puts.{same, stop_first, then}
use Rattle.capnp_json.proofs.RecordSteps.{IsWalk, last_is, named_item, onward_is, outward_frame, steps_are, steps_brand, steps_frame}

-- ---- handles ----

-- what is said of a handle of a struct, of its reader and its schema
moved : {A : Type 0} (E : StructReader → StructSchema → StructSchema → A) (h : StructHandle) (r : StructReader) (s t : StructSchema) → reader_of h ≡ r → schema_of h ≡ s → t ≡ s → E (reader_of h) (schema_of h) (schema_of h) ≡ E r s t
moved E h r s t er es et = ap (λ (x : StructReader). E x (schema_of h) (schema_of h)) er ∙ (ap (λ (z : StructSchema). E r z z) es ∙ ap (λ (z : StructSchema). E r s z) (sym et))

module _ (h : StructHandle) (r : StructReader) (s : StructSchema) (f : Field) (er : reader_of h ≡ r) (es : schema_of h ≡ s) (of : field_schema f ≡ s) where
  pub item_moved : is_item h (field_in h f) ≡ cond (is_member (typed_of f).field) false (is_there (read_part_at (set_of s) r (typed_of f)))
  item_moved = moved (λ (x : StructReader) (z t : StructSchema). cond (is_member (struct_field t (index_of f)).field) false (is_there (read_part_at (set_of z) x (struct_field t (index_of f))))) h r s (field_schema f) er es of

  pub there_moved : is_there (part_seen h (field_in h f)) ≡ is_there (read_part_at (set_of s) r (typed_of f))
  there_moved = moved (λ (x : StructReader) (z t : StructSchema). is_there (read_part_at (set_of z) x (struct_field t (index_of f)))) h r s (field_schema f) er es of

  pub shown_moved : (left : ℕ) (at : Layout) → field_shown left at h (field_in h f) ≡ part_shown left (set_of s) r at (typed_of f)
  shown_moved left at = moved (λ (x : StructReader) (z t : StructSchema). part_shown left (set_of z) x at (struct_field t (index_of f))) h r s (field_schema f) er es of

  pub field_moved : (i : ℕ) → IsFieldOf s i f → IsFieldOf (schema_of h) (index_of f) f
  field_moved i field = record {
    inside = subst (λ (n : ℕ). n < length (struct_fields (schema_of h))) (sym field.index) (subst (λ (z : StructSchema). i < length (struct_fields z)) (sym es) field.inside);
    schema = of ∙ sym es;
    index = refl;
  }

-- ---- groups ----

group_named : (k : FieldKind) (t : SchemaType) (g : ℕ) → kind_target k t ≡ Some g → IsGroupOf k t g
group_named (Slot o d) t g e = cc
group_named (Group m) t g e = e

group_number : (k : FieldKind) (t : SchemaType) (g : ℕ) → kind_target k t ≡ Some g → struct_number t ≡ g
group_number (Slot o d) t g e = cc
group_number (Group m) t g e = ap (λ o. unwrap_or o 0) e

-- the JSON of a group's field is that of its record
group_json : (set : Schemas) → IsAccepted set → (left : ℕ) (r : StructReader) (at : Layout) (b i g : ℕ) → i < length (fields_of set b) → kind_target (field_at set b i).field.kind (field_at set b i).type ≡ Some g →
    part_shown left set r at (field_at set b i) ≡ record_json set (json_within set left) at g (record_of set (Left (struct_levels r)) (struct_of r).bytes (values_of set (struct_of r).pointers) g)
group_json set accepted left r at b i g lt is =
    ap (part_json set (json_within set left) at (form_of (field_at set b i)) (field_at set b i).type)
    (part_of_group set accepted (Left (struct_levels r)) (struct_of r).bytes (values_of set (struct_of r).pointers) b i g (brand_there set b i lt) lt (group_named (field_at set b i).field.kind (field_at set b i).type g is))
    ∙ ap (λ n. record_json set (json_within set left) at n (record_of set (Left (struct_levels r)) (struct_of r).bytes (values_of set (struct_of r).pointers) g)) (group_number (field_at set b i).field.kind (field_at set b i).type g is)

shallow_deep : (at : Layout) → shallower (deeper at) ≡ at
shallow_deep None = refl
shallow_deep (Some n) = ap Some (omega arith)

-- ---- an item ----

module _ (left : ℕ) (r : StructReader) (now : Standing) (behind : Walk) (f : Field) (old p1 : Output) (stands : IsBehind f behind) where
  -- what stands under the field, and what is to come behind it
  abbrev part : Out
  part = part_shown left (walk_set behind) r now.at (typed_of f)

  abbrev rest : Out
  rest = walk_onward left r behind now.at false

  abbrev name : Out
  name = named now.at now.first (typed_of f)

  by_name : item_onward left r now behind f ≡ after name (after part rest)
  by_name = ap (λ (o : Out). after o rest) (named_item now.at now.first (typed_of f) part) ∙ after_assoc name part rest

  pub name_stopped : (why : JsonError) → IsStopped old (named now.at now.first (typed_of f)) why → IsStopped old (item_onward left r now behind f) why
  name_stopped why h = same old by_name (Err why) (stop_first old name (after part rest) why h)

  module _ (put : IsPut old (named now.at now.first (typed_of f)) p1) where
    name_leads : Leads old (item_onward left r now behind f) p1 (after part rest)
    name_leads = λ z k. same old by_name z (then old p1 name (after part rest) put z k)

    module _ (h : StructHandle) (er : reader_of h ≡ r) (es : schema_of h ≡ walk_schema behind) where
      part_is : field_shown left now.at h (field_in h f) ≡ part
      part_is = shown_moved h r (walk_schema behind) f er es stands.field.schema left now.at

      pub part_stopped : (why : JsonError) → IsStopped p1 (field_shown left now.at h (field_in h f)) why → IsStopped old (item_onward left r now behind f) why
      part_stopped why k = name_leads (Err why) (stop_first p1 part rest why (subst (λ (o : Out). IsStopped p1 o why) part_is k))

      pub slot_put : (p2 : Output) (next : Standing) → next.walk ≡ behind → next.first ≡ false → next.at ≡ now.at → IsPut p1 (field_shown left now.at h (field_in h f)) p2 → IsItemPut left r now behind f old p2 next
      slot_put p2 next walk first at k = record {
        json = λ z g. name_leads z
            (then p1 p2 part rest (subst (λ (o : Out). IsPut p1 o p2) part_is k) z
            (same p2
            (ap (λ (w : Walk). walk_onward left r w now.at false) (sym walk)
            ∙ (ap (λ (q : Bool). walk_onward left r next.walk now.at q) (sym first)
            ∙ ap (λ (l : Layout). walk_onward left r next.walk l next.first) (sym at))) z g));
        fewer =
            let one = step_into (brand_steps (groups_left behind) (walk_set behind)) (kind_target (typed_of f).field.kind (typed_of f).type) in
            let e = ap walk_steps walk in
            omega (arith, one, e);
        small = λ g. subst (λ (w : Walk). walk_depth w < 2 ^ 64) (sym walk) g;
      }

    -- ---- the field is a group ----

    module _ (g : StructSchema) (target : Some (number_of g) ≡ kind_target (typed_of f).field.kind (typed_of f).type) (inside : IsGroupSchemaIn (field_schema f) g) where
      pub group_set : set_of g ≡ walk_set behind
      group_set = inside.set ∙ ap set_of stands.field.schema

      pub group_back : group_field_of (set_of (field_schema f)) (number_of g) ≡ Some (place_of_field f) → group_field_of (walk_set behind) (number_of g) ≡ Some (walk_brand behind, index_of f)
      group_back back =
          ap (λ (z : StructSchema). group_field_of (set_of z) (number_of g)) (sym stands.field.schema)
          ∙ (back ∙ ap (λ (z : StructSchema). Some (number_of z, index_of f)) stands.field.schema)

      typed_is : typed_of f ≡ struct_field (walk_schema behind) (index_of f)
      typed_is = ap (λ (z : StructSchema). struct_field z (index_of f)) stands.field.schema

      last_done : is_last (walk_set behind) (walk_brand behind) (index_of f + 1) ≡ is_done behind
      last_done = last_is (walk_set behind) (walk_brand behind) (index_of f) ∙ (ap (λ (t : TypedField). is_member t.field) (sym typed_is) ∙ sym stands.done)

      rest_frame : walk_onward left r behind now.at false ≡ outward left (walk_set behind) r now.at ((walk_brand behind, index_of f + 1) ∷ above behind)
      rest_frame =
          go (is_done behind) stands.index
          ∙ (ap (λ (q : Bool). onward q left (walk_set behind) r now.at false (walk_brand behind) (index_of f + 1) (above behind)) (sym last_done)
          ∙ sym (outward_frame left (walk_set behind) r now.at (walk_brand behind) (index_of f + 1) (above behind)))
        where
          go : (q : Bool) → (q ≡ false → walk_index behind ≡ index_of f + 1) →
              onward q left (walk_set behind) r now.at false (walk_brand behind) (walk_index behind) (above behind) ≡ onward q left (walk_set behind) r now.at false (walk_brand behind) (index_of f + 1) (above behind)
          go true e = refl
          go false e = ap (λ (n : ℕ). onward false left (walk_set behind) r now.at false (walk_brand behind) n (above behind)) (e refl)

      steps_behind : walk_steps behind ≡ steps_outward (walk_set behind) (groups_left behind) ((walk_brand behind, index_of f + 1) ∷ above behind)
      steps_behind =
          go (is_done behind) stands.index
          ∙ (ap (λ (q : Bool). steps_left q (walk_set behind) (groups_left behind) (walk_brand behind) (index_of f + 1) (above behind)) (sym last_done)
          ∙ sym (steps_frame (walk_set behind) (groups_left behind) (walk_brand behind) (index_of f + 1) (above behind)))
        where
          go : (q : Bool) → (q ≡ false → walk_index behind ≡ index_of f + 1) →
              steps_left q (walk_set behind) (groups_left behind) (walk_brand behind) (walk_index behind) (above behind) ≡ steps_left q (walk_set behind) (groups_left behind) (walk_brand behind) (index_of f + 1) (above behind)
          go true e = refl
          go false e = ap (λ (n : ℕ). steps_left false (walk_set behind) (groups_left behind) (walk_brand behind) n (above behind)) (e refl)

      -- a group is written as the same struct under the group's schema
      part_group : part_shown left (walk_set behind) r now.at (typed_of f)
          ≡ after (said (codes "{")) (items_left (codes "}") (deeper now.at) true (items_onward false left (walk_set behind) r (deeper now.at) (number_of g) 0))
      part_group =
          ap (part_shown left (walk_set behind) r now.at) typed_is
          ∙ group_json (walk_set behind) (subst IsAccepted group_set inside.stands.accepted) left r now.at (walk_brand behind) (index_of f) (number_of g) stands.field.inside
          (sym (target ∙ ap (λ (t : TypedField). kind_target t.field.kind t.type) typed_is))

      pub bracket_stopped : (why : JsonError) → IsStopped p1 (said (codes "{")) why → IsStopped old (item_onward left r now behind f) why
      bracket_stopped why k =
          name_leads (Err why)
          (stop_first p1 part rest why
          (subst (λ (o : Out). IsStopped p1 o why) (sym part_group) (stop_first p1 (said (codes "{")) (items_left (codes "}") (deeper now.at) true (items_onward false left (walk_set behind) r (deeper now.at) (number_of g) 0)) why k)))

      module _ (next : Standing) (opened : IsGroupOpened now.at behind f g next) where
        next_walk : IsWalk next.walk false g 0 (walk_depth behind + 1) ((walk_brand behind, index_of f + 1) ∷ above behind)
        next_walk = record { done = opened.done; schema = opened.schema; index = opened.index; depth = opened.depth; above = opened.above }

        next_onward : onward false left (walk_set behind) r (deeper now.at) true (number_of g) 0 ((walk_brand behind, index_of f + 1) ∷ above behind) ≡ onward_of left r next
        next_onward =
            ap (λ (z : Schemas). onward false left z r (deeper now.at) true (number_of g) 0 ((walk_brand behind, index_of f + 1) ∷ above behind)) (sym group_set)
            ∙ (sym (onward_is next.walk false g 0 (walk_depth behind + 1) ((walk_brand behind, index_of f + 1) ∷ above behind) next_walk left r (deeper now.at) true)
            ∙ (ap (λ (q : Bool). walk_onward left r next.walk (deeper now.at) q) (sym opened.first)
            ∙ ap (λ (l : Layout). walk_onward left r next.walk l next.first) (sym opened.layout)))

        text_in : after part rest ≡ after (said (codes "{")) (onward false left (walk_set behind) r (deeper now.at) true (number_of g) 0 ((walk_brand behind, index_of f + 1) ∷ above behind))
        text_in =
            ap (λ (o : Out). after o rest) part_group
            ∙ (after_assoc (said (codes "{")) (items_left (codes "}") (deeper now.at) true (items_onward false left (walk_set behind) r (deeper now.at) (number_of g) 0)) rest
            ∙ ap (λ (o : Out). after (said (codes "{")) (after (items_left (codes "}") (deeper now.at) true (items_onward false left (walk_set behind) r (deeper now.at) (number_of g) 0)) o))
            (rest_frame ∙ ap (λ (l : Layout). outward left (walk_set behind) r l ((walk_brand behind, index_of f + 1) ∷ above behind)) (sym (shallow_deep now.at))))

        pub group_put : (p2 : Output) → IsPut p1 (said (codes "{")) p2 → IsItemPut left r now behind f old p2 next
        group_put p2 k = record {
          json = λ z i. name_leads z (same p1 text_in z (then p1 p2 (said (codes "{")) (onward false left (walk_set behind) r (deeper now.at) true (number_of g) 0 ((walk_brand behind, index_of f + 1) ∷ above behind)) k z (same p2 next_onward z i)));
          fewer = omega (arith, next_steps, in_set, own, more, steps_behind, into);
          small =
              let e = opened.depth in
              let s = opened.small in
              λ i. omega (arith, e, s);
        }
          where
            next_steps : walk_steps next.walk ≡ steps_left false (set_of g) (2 ^ 64 - 1 - (walk_depth behind + 1)) (number_of g) 0 ((walk_brand behind, index_of f + 1) ∷ above behind)
            next_steps = steps_are next.walk false g 0 (walk_depth behind + 1) ((walk_brand behind, index_of f + 1) ∷ above behind) next_walk

            in_set : steps_left false (set_of g) (2 ^ 64 - 1 - (walk_depth behind + 1)) (number_of g) 0 ((walk_brand behind, index_of f + 1) ∷ above behind)
                ≡ frame_steps false (brand_steps (2 ^ 64 - 1 - (walk_depth behind + 1)) (walk_set behind)) (fields_of (walk_set behind) (number_of g)) 0 + steps_outward (walk_set behind) (suc (2 ^ 64 - 1 - (walk_depth behind + 1))) ((walk_brand behind, index_of f + 1) ∷ above behind)
            in_set = ap (λ (z : Schemas). steps_left false z (2 ^ 64 - 1 - (walk_depth behind + 1)) (number_of g) 0 ((walk_brand behind, index_of f + 1) ∷ above behind)) group_set

            groups_are : suc (2 ^ 64 - 1 - (walk_depth behind + 1)) ≡ groups_left behind
            groups_are = let s = opened.small in omega (arith, s)

            own : frame_steps false (brand_steps (2 ^ 64 - 1 - (walk_depth behind + 1)) (walk_set behind)) (fields_of (walk_set behind) (number_of g)) 0 ≡ brand_steps (groups_left behind) (walk_set behind) (number_of g)
            own = sym (steps_brand (walk_set behind) (2 ^ 64 - 1 - (walk_depth behind + 1)) (number_of g)) ∙ ap (λ (n : ℕ). brand_steps n (walk_set behind) (number_of g)) groups_are

            more : steps_outward (walk_set behind) (suc (2 ^ 64 - 1 - (walk_depth behind + 1))) ((walk_brand behind, index_of f + 1) ∷ above behind) ≡ steps_outward (walk_set behind) (groups_left behind) ((walk_brand behind, index_of f + 1) ∷ above behind)
            more = ap (λ (n : ℕ). steps_outward (walk_set behind) n ((walk_brand behind, index_of f + 1) ∷ above behind)) groups_are

            into : steps_into (brand_steps (groups_left behind) (walk_set behind)) (kind_target (typed_of f).field.kind (typed_of f).type) ≡ suc (suc (brand_steps (groups_left behind) (walk_set behind) (number_of g)))
            into = ap (steps_into (brand_steps (groups_left behind) (walk_set behind))) (sym target)
