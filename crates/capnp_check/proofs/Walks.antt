-- The steps of a check among the fields of a struct and of the groups in it: what is to come, and that less is left to do.
use Rattle.std.proofs.Common.{ℕ, suc, ◌+◌, ◌-◌, ◌^◌, ◌<◌, ◌≤◌, ◌≡◌, refl, List, [], ◌∷◌, ◌++◌, Bool, true, length, Option, Some, None, ap, arith, sym, subst, ◌∙◌}
use Rattle.capnp_device.specs.declared.error.ErrorKind.{ErrorKind}
use Rattle.capnp_wire.specs.declared.struct_reader.StructReader.{StructReader}
use Rattle.capnp_schema.specs.Accepted.{IsAccepted}
use Rattle.capnp_schema.specs.Facts.Fields.{brand_there}
use Rattle.capnp_schema.specs.Facts.Groups.{heights_fall}
use Rattle.capnp_schema.specs.Facts.GroupFields.{group_field_found, target_parent}
use Rattle.capnp_schema.specs.Facts.GroupWalks.{steps_advance, steps_enter, steps_leave}
use Rattle.capnp_schema.specs.FieldLists.{IsFieldOf, index_of, field_schema as field_schema, typed_of}
use Rattle.capnp_schema.specs.GroupFields.{group_field_of}
use Rattle.capnp_schema.specs.GroupsDown.{IsGroupSchemaIn, place_of_field}
use Rattle.capnp_schema.specs.GroupWalks.{above, frames, walk_brand, walk_depth, walk_index, walk_schema, walk_set}
use Rattle.capnp_schema.specs.Laws.{group_height}
use Rattle.capnp_schema.specs.Steps.GroupWalks.{steps_left}
use Rattle.capnp_schema.specs.Schema.{Schemas, kind_target}
use Rattle.capnp_schema.specs.StructHandles.{number_of, set_of, struct_fields}
use Rattle.capnp_schema.specs.declared.schema.fields.Field.{Field}
use Rattle.capnp_schema.specs.declared.schema.group_walk.GroupWalk.{GroupWalk}
use Rattle.capnp_schema.specs.declared.schema.structs.StructSchema.{StructSchema}
use Rattle.capnp_records.specs.Text.{Out, item_if}
use Rattle.capnp_dynamic_readers.specs.Handles.{reader_of, schema_of}
use Rattle.capnp_dynamic_readers.specs.Steps.GroupTexts.{is_item, items_from}
use Rattle.capnp_dynamic_readers.specs.Steps.PartsRead.{field_in}
use Rattle.capnp_dynamic_readers.specs.Steps.Shown.{field_item, field_shown, record_shown}
use Rattle.capnp_dynamic_readers.specs.declared.dynamic_struct.Reader.{Reader as StructHandle}
use Rattle.capnp_check.specs.Refusals.{text_refusal}
use Rattle.capnp_check.specs.Steps.Walks.{CameDown, IsCheckStep, IsWalkInside, first_refusal, walk_onward, walk_onward_of, or_later, walk_steps_onward}
use Rattle.capnp_dynamic_readers.specs.Facts.ItemsInOrder.{from_end, from_next, own_items}
use Rattle.capnp_dynamic_readers.specs.Facts.PartsShown.{part_group, target_in}
use Rattle.capnp_check.proofs.Refused.{first_append, item_refusal, or_assoc, or_none, own_refusal, record_refusal}

-- ---- where a check stands ----

-- a handle of the struct or group there, and of the field
pub record IsAt (r : StructReader) (walk : GroupWalk) (h : StructHandle) (f : Field) : Type 0 where
  pub reader : reader_of h ≡ r
  pub schema : schema_of h ≡ walk_schema walk
  pub field : IsFieldOf (walk_schema walk) (walk_index walk) f

pub field_here : (r : StructReader) (walk : GroupWalk) (h : StructHandle) (f : Field) → IsAt r walk h f → IsFieldOf (schema_of h) (index_of f) f
field_here r walk h f here = record {
  inside = subst (λ (i : ℕ). i < length (struct_fields (schema_of h))) (sym here.field.index) (subst (λ (z : StructSchema). walk_index walk < length (struct_fields z)) (sym here.schema) here.field.inside);
  schema = here.field.schema ∙ sym here.schema;
  index = refl;
}

pub is_at : (r : StructReader) (walk : GroupWalk) (h : StructHandle) (f : Field) (s : StructSchema) → reader_of h ≡ r → schema_of h ≡ s → s ≡ walk_schema walk → IsFieldOf (walk_schema walk) (walk_index walk) f → IsAt r walk h f
is_at r walk h f s er eh es field = record { reader = er; schema = eh ∙ es; field = field }

-- what is to come past the field there
abbrev past_frames : GroupWalk → List (ℕ × ℕ)
past_frames walk = (walk_brand walk, walk_index walk + 1) ∷ above walk

abbrev pub onward_past : ℕ → StructReader → GroupWalk → Option ErrorKind
onward_past left r walk = walk_onward left (walk_set walk) r ((walk_brand walk, walk_index walk + 1) ∷ above walk)

frames_rest : {x y : ℕ × ℕ} {xs ys : List (ℕ × ℕ)} → x ∷ xs ≡ y ∷ ys → xs ≡ ys
frames_rest e = cc

-- ---- a walk past a field ----

module _ (walk next : GroupWalk) (schema : walk_schema next ≡ walk_schema walk) (depth : walk_depth next ≡ walk_depth walk) (is : frames next ≡ (walk_brand walk, walk_index walk + 1) ∷ above walk) where
  pub past_onward : (left : ℕ) (r : StructReader) → onward_past left r walk ≡ walk_onward_of left r next
  past_onward left r =
      ap (λ (z : StructSchema). walk_onward left (set_of z) r ((walk_brand walk, walk_index walk + 1) ∷ above walk)) (sym schema)
      ∙ ap (λ (fs : List (ℕ × ℕ)). walk_onward left (walk_set next) r fs) (sym is)

  pub past_fewer : walk_index walk < length (struct_fields (walk_schema walk)) → walk_steps_onward next < walk_steps_onward walk
  past_fewer lt =
      subst (λ (n : ℕ). n < walk_steps_onward walk) (sym same_steps)
      (steps_advance (walk_set walk) (2 ^ 64 - 1 - walk_depth walk) (walk_brand walk) (walk_index walk) (above walk) lt)
    where
      same_steps : walk_steps_onward next ≡ steps_left (walk_set walk) (2 ^ 64 - 1 - walk_depth walk) ((walk_brand walk, walk_index walk + 1) ∷ above walk)
      same_steps =
          ap (λ (fs : List (ℕ × ℕ)). steps_left (walk_set next) (2 ^ 64 - 1 - walk_depth next) fs) is
          ∙ (ap (λ (d : ℕ). steps_left (walk_set next) (2 ^ 64 - 1 - d) ((walk_brand walk, walk_index walk + 1) ∷ above walk)) depth
          ∙ ap (λ (z : StructSchema). steps_left (set_of z) (2 ^ 64 - 1 - walk_depth walk) ((walk_brand walk, walk_index walk + 1) ∷ above walk)) schema)

  pub past_inside : IsWalkInside walk → IsWalkInside next
  past_inside inside =
      subst (λ (fs : List (ℕ × ℕ)). CameDown (walk_set next) fs (walk_brand next) (walk_depth next)) (sym (frames_rest is))
      (subst (λ (d : ℕ). CameDown (walk_set next) (above walk) (walk_brand next) d) (sym depth)
      (subst (λ (z : StructSchema). CameDown (set_of z) (above walk) (number_of z) (walk_depth walk)) (sym schema) inside))

-- ---- the field there ----

module _ (left : ℕ) (r : StructReader) (walk : GroupWalk) (h : StructHandle) (f : Field) (here : IsAt r walk h f) where
  abbrev items_at : ℕ → List Out
  items_at i = items_from left (walk_set walk) r None (walk_brand walk) i

  items_next : items_at (walk_index walk) ≡ own_items left None h (walk_index walk) ++ items_at (walk_index walk + 1)
  items_next =
      subst (λ (z : StructReader). items_from left (walk_set walk) z None (walk_brand walk) (walk_index walk) ≡ own_items left None h (walk_index walk) ++ items_from left (walk_set walk) z None (walk_brand walk) (walk_index walk + 1)) here.reader
      (subst (λ (z : StructSchema). items_from left (set_of z) (reader_of h) None (number_of z) (walk_index walk) ≡ own_items left None h (walk_index walk) ++ items_from left (set_of z) (reader_of h) None (number_of z) (walk_index walk + 1)) here.schema
      (from_next left None h (walk_index walk) (subst (λ (z : StructSchema). walk_index walk < length (struct_fields z)) (sym here.schema) here.field.inside)))

  -- its refusal, where it is shown, and then what is to come past it
  pub own_first : (q : Bool) → q ≡ is_item h (field_in h f) (index_of f) → walk_onward_of left r walk ≡ or_later (own_refusal q (text_refusal (field_shown left None h (field_in h f)))) (onward_past left r walk)
  own_first q e =
      ap (λ (xs : List Out). or_later (first_refusal xs) (walk_onward left (walk_set walk) r (above walk))) items_by
      ∙ (ap (λ (o : Option ErrorKind). or_later o (walk_onward left (walk_set walk) r (above walk))) (first_append (item_if q (field_item left None h (field_in h f))) (items_at (walk_index walk + 1)))
      ∙ (or_assoc (first_refusal (item_if q (field_item left None h (field_in h f)))) (first_refusal (items_at (walk_index walk + 1))) (walk_onward left (walk_set walk) r (above walk))
      ∙ ap (λ (o : Option ErrorKind). or_later o (onward_past left r walk)) (item_refusal q (field_in h f) (field_shown left None h (field_in h f)))))
    where
      items_by : items_at (walk_index walk) ≡ item_if q (field_item left None h (field_in h f)) ++ items_at (walk_index walk + 1)
      items_by =
          items_next
          ∙ (ap (λ (i : ℕ). own_items left None h i ++ items_at (walk_index walk + 1)) (sym here.field.index)
          ∙ ap (λ (b : Bool). item_if b (field_item left None h (field_in h f)) ++ items_at (walk_index walk + 1)) (sym e))

  -- it isn't shown, or has a text
  pub step_past : (q : Bool) → q ≡ is_item h (field_in h f) (index_of f) → own_refusal q (text_refusal (field_shown left None h (field_in h f))) ≡ None → IsWalkInside walk →
      (next : GroupWalk) → walk_schema next ≡ walk_schema walk → walk_depth next ≡ walk_depth walk → frames next ≡ (walk_brand walk, walk_index walk + 1) ∷ above walk → IsCheckStep left r walk next
  step_past q e said inside next schema depth is = record {
    same = own_first q e ∙ (ap (λ (o : Option ErrorKind). or_later o (onward_past left r walk)) said ∙ past_onward walk next schema depth is left r);
    fewer_steps = past_fewer walk next schema depth is here.field.inside;
    inside = past_inside walk next schema depth is inside;
    small = λ h. omega (arith, h, depth);
  }

  -- it is refused
  pub refused_there : (kind : ErrorKind) → true ≡ is_item h (field_in h f) (index_of f) → Some kind ≡ text_refusal (field_shown left None h (field_in h f)) → walk_onward_of left r walk ≡ Some kind
  refused_there kind shown refused = own_first true shown ∙ ap (λ (o : Option ErrorKind). or_later o (onward_past left r walk)) (sym refused)

  -- it is a group
  module _ (g : StructSchema) (target : Some (number_of g) ≡ kind_target (typed_of f).field.kind (typed_of f).type) (down : IsGroupSchemaIn (field_schema f) g)
      (back : group_field_of (set_of (field_schema f)) (number_of g) ≡ Some (place_of_field f)) where
    in_set : set_of g ≡ set_of (schema_of h)
    in_set = down.set ∙ ap set_of (here.field.schema ∙ sym here.schema)

    shown_group : field_shown left None h (field_in h f) ≡ record_shown left None (record { reader = reader_of h; schema = g })
    shown_group =
        part_group h f (field_here r walk h f here) (subst IsAccepted in_set down.stands.accepted) g
        (target_in h f (field_here r walk h f here) (Some (number_of g)) target) in_set left None

    pub group_set : set_of g ≡ walk_set walk
    group_set = down.set ∙ ap set_of here.field.schema

    pub group_field : group_field_of (walk_set walk) (number_of g) ≡ Some (walk_brand walk, walk_index walk)
    group_field =
        ap (λ (z : Schemas). group_field_of z (number_of g)) (sym (ap set_of here.field.schema))
        ∙ (back
        ∙ (ap (λ (b : ℕ). Some (b, index_of f)) (ap number_of here.field.schema)
        ∙ ap (λ (i : ℕ). Some (walk_brand walk, i)) here.field.index))

    -- of lesser height, and the brands can be counted
    lower : group_height (walk_set walk) (number_of g) < group_height (walk_set walk) (walk_brand walk)
    lower = subst (λ (z : StructSchema). group_height (set_of z) (number_of g) < group_height (set_of z) (number_of z)) here.field.schema down.leads.down.lower

    height_here : group_height (walk_set walk) (walk_brand walk) ≤ length (walk_set walk).brands
    height_here = (heights_fall (walk_set walk) (subst IsAccepted group_set down.stands.accepted) (walk_brand walk) (brand_there (walk_set walk) (walk_brand walk) (walk_index walk) here.field.inside)).0

    pub room : (s : StructSchema) → s ≡ walk_schema walk → length (set_of s).brands < 2 ^ 64 → IsWalkInside walk → walk_depth walk + 1 < 2 ^ 64
    room s e counted inside =
        let small : length (walk_set walk).brands < 2 ^ 64 = subst (λ (z : StructSchema). length (set_of z).brands < 2 ^ 64) e counted in
        omega (arith, bound (walk_set walk) (above walk) (walk_brand walk) (walk_depth walk) inside height_here, lower, small)
      where
        bound : (set : Schemas) (fs : List (ℕ × ℕ)) (b d : ℕ) → CameDown set fs b d → group_height set b ≤ length set.brands → d + group_height set b ≤ length set.brands
        bound set [] b d h le = omega (arith, h, le)
        bound set ((outer, i) ∷ rest) b d (further, is, less, small, h) le =
            let above_it = bound set rest outer further h (omega (arith, small)) in
            omega (arith, above_it, is, less)

    pub step_in : IsWalkInside walk → true ≡ is_item h (field_in h f) (index_of f) → walk_depth walk + 1 < 2 ^ 64 →
        (next : GroupWalk) → walk_schema next ≡ g → walk_depth next ≡ walk_depth walk + 1 → frames next ≡ (number_of g, 0) ∷ (walk_brand walk, walk_index walk + 1) ∷ above walk → IsCheckStep left r walk next
    step_in inside shown small next schema depth is = record {
      same = own_first true shown ∙ (ap (λ (o : Option ErrorKind). or_later o (onward_past left r walk)) group_refusal ∙ entered);
      fewer_steps = omega (arith, same_steps, more_groups, enter);
      inside =
          subst (λ (fs : List (ℕ × ℕ)). CameDown (walk_set next) fs (walk_brand next) (walk_depth next)) (sym (frames_rest is))
          (subst (λ (d : ℕ). CameDown (walk_set next) ((walk_brand walk, walk_index walk + 1) ∷ above walk) (walk_brand next) d) (sym depth)
          (subst (λ (b : ℕ). CameDown (walk_set next) ((walk_brand walk, walk_index walk + 1) ∷ above walk) b (walk_depth walk + 1)) (sym (ap number_of schema))
          (subst (λ (z : Schemas). CameDown z ((walk_brand walk, walk_index walk + 1) ∷ above walk) (number_of g) (walk_depth walk + 1)) (sym (ap set_of schema ∙ group_set))
          (walk_depth walk, omega arith, lower, omega (arith, height_here), inside))));
      small = λ h. omega (arith, small, depth);
    }
      where
        group_refusal : text_refusal (field_shown left None h (field_in h f)) ≡ first_refusal (items_from left (walk_set walk) r None (number_of g) 0)
        group_refusal =
            ap text_refusal shown_group
            ∙ (record_refusal left (record { reader = reader_of h; schema = g })
            ∙ (ap (λ (z : Schemas). first_refusal (items_from left z (reader_of h) None (number_of g) 0)) group_set
            ∙ ap (λ (x : StructReader). first_refusal (items_from left (walk_set walk) x None (number_of g) 0)) here.reader))

        entered : or_later (first_refusal (items_from left (walk_set walk) r None (number_of g) 0)) (onward_past left r walk) ≡ walk_onward_of left r next
        entered =
            ap (λ (z : Schemas). walk_onward left z r ((number_of g, 0) ∷ (walk_brand walk, walk_index walk + 1) ∷ above walk)) (sym (ap set_of schema ∙ group_set))
            ∙ ap (λ (fs : List (ℕ × ℕ)). walk_onward left (walk_set next) r fs) (sym is)

        more_groups : walk_steps_onward walk ≡ steps_left (walk_set walk) (suc (2 ^ 64 - 1 - walk_depth next)) (frames walk)
        more_groups = ap (λ (n : ℕ). steps_left (walk_set walk) n (frames walk)) (omega (arith, depth, small))

        same_steps : walk_steps_onward next ≡ steps_left (walk_set walk) (2 ^ 64 - 1 - walk_depth next) ((number_of g, 0) ∷ (walk_brand walk, walk_index walk + 1) ∷ above walk)
        same_steps =
            ap (λ (fs : List (ℕ × ℕ)). steps_left (walk_set next) (2 ^ 64 - 1 - walk_depth next) fs) is
            ∙ ap (λ (z : Schemas). steps_left z (2 ^ 64 - 1 - walk_depth next) ((number_of g, 0) ∷ (walk_brand walk, walk_index walk + 1) ∷ above walk)) (ap set_of schema ∙ group_set)

        enter : steps_left (walk_set walk) (2 ^ 64 - 1 - walk_depth next) ((number_of g, 0) ∷ (walk_brand walk, walk_index walk + 1) ∷ above walk)
            < steps_left (walk_set walk) (suc (2 ^ 64 - 1 - walk_depth next)) (frames walk)
        enter =
            steps_enter (walk_set walk) (2 ^ 64 - 1 - walk_depth next) (walk_brand walk) (walk_index walk) (number_of g) (above walk)
            (target_parent (walk_set walk) (number_of g) (walk_brand walk) (walk_index walk) (group_field_found (walk_set walk) (number_of g) (walk_brand walk) (walk_index walk) group_field).1)

-- ---- the whole struct ----

-- at its first field all is to come
pub starts : (left : ℕ) (h : StructHandle) (r : StructReader) (s : StructSchema) (walk : GroupWalk) → r ≡ reader_of h → s ≡ schema_of h → walk_schema walk ≡ s → frames walk ≡ (number_of s, 0) ∷ [] →
    text_refusal (record_shown left None h) ≡ walk_onward_of left r walk
starts left h r s walk er es schema is =
    record_refusal left h
    ∙ (sym (or_none (first_refusal (items_from left (set_of (schema_of h)) (reader_of h) None (number_of (schema_of h)) 0)))
    ∙ (ap (λ (x : StructReader). walk_onward left (set_of (schema_of h)) x ((number_of (schema_of h), 0) ∷ [])) (sym er)
    ∙ (ap (λ (z : StructSchema). walk_onward left (set_of z) r ((number_of z, 0) ∷ [])) (sym es)
    ∙ (ap (λ (z : StructSchema). walk_onward left (set_of z) r ((number_of s, 0) ∷ [])) (sym schema)
    ∙ ap (λ (fs : List (ℕ × ℕ)). walk_onward left (walk_set walk) r fs) (sym is)))))

pub start_inside : (s : StructSchema) (walk : GroupWalk) → walk_depth walk ≡ 0 → frames walk ≡ (number_of s, 0) ∷ [] → IsWalkInside walk
start_inside s walk depth is = subst (λ (fs : List (ℕ × ℕ)). CameDown (walk_set walk) fs (walk_brand walk) (walk_depth walk)) (sym (frames_rest is)) depth

-- past the last field
module _ (left : ℕ) (r : StructReader) (walk : GroupWalk) (done : length (struct_fields (walk_schema walk)) ≤ walk_index walk) where
  ends : walk_onward_of left r walk ≡ walk_onward left (walk_set walk) r (above walk)
  ends = ap (λ (xs : List Out). or_later (first_refusal xs) (walk_onward left (walk_set walk) r (above walk))) (from_end left None (record { reader = r; schema = walk_schema walk }) (walk_index walk) done)

  pub said_whole : above walk ≡ [] → walk_onward_of left r walk ≡ None
  said_whole none = ends ∙ ap (λ (fs : List (ℕ × ℕ)). walk_onward left (walk_set walk) r fs) none

  module _ (outer : GroupWalk) (same : walk_set outer ≡ walk_set walk) (is : frames outer ≡ above walk) (depth : walk_depth outer + 1 ≡ walk_depth walk) where
    pub goes_out : walk_onward_of left r walk ≡ walk_onward_of left r outer
    goes_out = ends ∙ (ap (λ (z : Schemas). walk_onward left z r (above walk)) (sym same) ∙ ap (λ (fs : List (ℕ × ℕ)). walk_onward left (walk_set outer) r fs) (sym is))

    pub out_inside : IsWalkInside walk → IsWalkInside outer
    out_inside inside = go (subst (λ (fs : List (ℕ × ℕ)). CameDown (walk_set walk) fs (walk_brand walk) (walk_depth walk)) (sym is) inside)
      where
        go : CameDown (walk_set walk) (frames outer) (walk_brand walk) (walk_depth walk) → IsWalkInside outer
        go (further, e, less, small, h) =
            subst (λ (d : ℕ). CameDown (walk_set outer) (above outer) (walk_brand outer) d) (omega (arith, e, depth))
            (subst (λ (z : Schemas). CameDown z (above outer) (walk_brand outer) further) (sym same) h)

    pub fewer_out : walk_depth walk < 2 ^ 64 → walk_steps_onward outer < walk_steps_onward walk
    fewer_out small = omega (arith, same_steps, leave)
      where
        same_steps : walk_steps_onward outer ≡ steps_left (walk_set walk) (suc (2 ^ 64 - 1 - walk_depth walk)) (above walk)
        same_steps =
            ap (λ (fs : List (ℕ × ℕ)). steps_left (walk_set outer) (2 ^ 64 - 1 - walk_depth outer) fs) is
            ∙ (ap (λ (z : Schemas). steps_left z (2 ^ 64 - 1 - walk_depth outer) (above walk)) same
            ∙ ap (λ (n : ℕ). steps_left (walk_set walk) n (above walk)) (omega (arith, small, depth)))

        leave : steps_left (walk_set walk) (suc (2 ^ 64 - 1 - walk_depth walk)) (above walk) < walk_steps_onward walk
        leave = steps_leave (walk_set walk) (2 ^ 64 - 1 - walk_depth walk) (walk_brand walk) (walk_index walk) (above walk)
