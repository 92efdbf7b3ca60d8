-- The steps of a write among the fields of a struct and of the groups in it: what is to come, and that less is left to do.
use Rattle.std.proofs.Common.{ℕ, zero, suc, ◌+◌, ◌-◌, ◌^◌, ◌<◌, ◌≤◌, ◌≡◌, refl, List, [], ◌∷◌, ◌++◌, Bool, true, false, not, ◌&&◌, codes, cond, drop, length, slice_get, Ok, Err, ap, append-nil, append_assoc, arith, sym, ◌∙◌}
use Rattle.std.specs.Option.{unwrap_or}
use Rattle.capnp_wire.specs.declared.struct_reader.StructReader.{StructReader}
use Rattle.capnp_schema.specs.Facts.GroupWalks.{some_steps}
use Rattle.capnp_schema.specs.Schema.{Schemas, TypedField, field_at, fields_of, is_member, kind_target, no_field}
use Rattle.capnp_schema.specs.Steps.GroupWalks.{steps_into, steps_through}
use Rattle.capnp_schema.specs.StructHandles.{number_of, set_of}
use Rattle.capnp_schema.specs.declared.schema.structs.StructSchema.{StructSchema}
use Rattle.capnp_records.specs.Reading.{non_union_parts}
use Rattle.capnp_records.specs.Record.{Value, is_there}
use Rattle.capnp_records.specs.Record as value
use Rattle.capnp_records.specs.Text.{Layout}
use Rattle.capnp_dynamic_readers.specs.Steps.GroupTexts.{read_part_at, union_at}
use Rattle.capnp_json_fields.specs.Names.{field_name}
use Rattle.capnp_json.specs.Json.{Inner, form_of, item, item_if, json_within, member_items, part_json, plain_items}
use Rattle.capnp_json.specs.Leaves.{text_json}
use Rattle.capnp_json.specs.Pieces.{Out, after, colon, items_left, said, separator, shallower}
use Rattle.capnp_json.specs.Steps.Records.{IsStep, brand_steps, frame_steps, groups_left, is_last, items_onward, named, onward, outward, part_shown, steps_left, steps_outward, walk_onward, walk_steps}
use Rattle.capnp_json.specs.Steps.Walks.{above, is_done, walk_brand, walk_depth, walk_index, walk_schema, walk_set}
use Rattle.capnp_json.specs.declared.output.Output.{Output}
use Rattle.capnp_json.specs.declared.standing.Standing.{Standing}
use Rattle.capnp_json.specs.declared.walk.Walk.{Walk}
use Rattle.capnp_json.proofs.ByteSteps.{after_assoc}
use Rattle.capnp_json.proofs.Puts.{same}

-- ---- from field to field ----

drop_next : (fs : List TypedField) (i : ℕ) → i < length fs → drop i fs ≡ unwrap_or (slice_get fs i) no_field ∷ drop (i + 1) fs
drop_next [] i h = absurd (omega (arith, h))
drop_next (f ∷ fs) zero h = refl
drop_next (f ∷ fs) (suc i) h =
    let e : suc i + 1 ≡ suc (i + 1) = omega arith in
    drop_next fs i (omega (arith, h)) ∙ ap (λ n. unwrap_or (slice_get fs i) no_field ∷ drop n (f ∷ fs)) (sym e)

drop_end : (fs : List TypedField) (i : ℕ) → length fs ≤ i → drop i fs ≡ []
drop_end [] zero h = refl
drop_end [] (suc i) h = refl
drop_end (f ∷ fs) zero h = absurd (omega (arith, h))
drop_end (f ∷ fs) (suc i) h = drop_end fs i (omega (arith, h))

plain_next : (set : Schemas) (inner : Inner) (at : Layout) (part : TypedField → Value) (f : TypedField) (fs : List TypedField) →
    plain_items set inner at (f ∷ fs) (non_union_parts part (f ∷ fs))
    ≡ item_if (cond (is_member f.field) false (is_there (part f))) (item at f (part_json set inner at (form_of f) f.type (part f))) ++ plain_items set inner at fs (non_union_parts part fs)
plain_next set inner at part f fs = go (is_member f.field)
  where
    go : (q : Bool) →
        item_if (not q && is_there (elim q as (λ _. Value) [ true ↦ value.Elsewhere | false ↦ part f ])) (item at f (part_json set inner at (form_of f) f.type (elim q as (λ _. Value) [ true ↦ value.Elsewhere | false ↦ part f ]))) ++ plain_items set inner at fs (non_union_parts part fs)
        ≡ item_if (cond q false (is_there (part f))) (item at f (part_json set inner at (form_of f) f.type (part f))) ++ plain_items set inner at fs (non_union_parts part fs)
    go true = refl
    go false = refl

module _ (left : ℕ) (set : Schemas) (r : StructReader) (at : Layout) (b : ℕ) where
  -- the item of a non-union field, where it has one
  abbrev pub own_items : Bool → TypedField → List Out
  own_items q f = item_if q (item at f (part_shown left set r at f))

  pub items_next : (i : ℕ) → i < length (fields_of set b) → (q : Bool) → q ≡ cond (is_member (field_at set b i).field) false (is_there (read_part_at set r (field_at set b i))) →
      items_onward false left set r at b i ≡ own_items q (field_at set b i) ++ items_onward false left set r at b (i + 1)
  items_next i lt q is =
      ap (λ (fs : List TypedField). plain_items set (json_within set left) at fs (non_union_parts (read_part_at set r) fs) ++ member_items set (json_within set left) at b (union_at set r b)) (drop_next (fields_of set b) i lt)
      ∙ (ap (λ (xs : List Out). xs ++ member_items set (json_within set left) at b (union_at set r b)) (plain_next set (json_within set left) at (read_part_at set r) (field_at set b i) (drop (i + 1) (fields_of set b)))
      ∙ (append_assoc (own_items (cond (is_member (field_at set b i).field) false (is_there (read_part_at set r (field_at set b i)))) (field_at set b i)) (plain_items set (json_within set left) at (drop (i + 1) (fields_of set b)) (non_union_parts (read_part_at set r) (drop (i + 1) (fields_of set b)))) (member_items set (json_within set left) at b (union_at set r b))
      ∙ ap (λ (p : Bool). own_items p (field_at set b i) ++ items_onward false left set r at b (i + 1)) (sym is)))

  pub items_end : (i : ℕ) → length (fields_of set b) ≤ i → items_onward false left set r at b i ≡ member_items set (json_within set left) at b (union_at set r b)
  items_end i le = ap (λ (fs : List TypedField). plain_items set (json_within set left) at fs (non_union_parts (read_part_at set r) fs) ++ member_items set (json_within set left) at b (union_at set r b)) (drop_end (fields_of set b) i le)

  -- an item, and what is behind it
  pub item_first : (done next : Bool) (first : Bool) (i j : ℕ) (rest : List (ℕ × ℕ)) (x : Out) → items_onward done left set r at b i ≡ x ∷ items_onward next left set r at b j →
      onward done left set r at first b i rest ≡ after (after (said (separator at first)) x) (onward next left set r at false b j rest)
  item_first done next first i j rest x e =
      ap (λ (xs : List Out). after (items_left (codes "}") at first xs) (outward left set r (shallower at) rest)) e
      ∙ (ap (λ (o : Out). after o (outward left set r (shallower at) rest)) (sym (after_assoc (said (separator at first)) x (items_left (codes "}") at false (items_onward next left set r at b j))))
      ∙ after_assoc (after (said (separator at first)) x) (items_left (codes "}") at false (items_onward next left set r at b j)) (outward left set r (shallower at) rest))

pub after_none : (o : Out) → after o (said []) ≡ o
after_none (Err why) = refl
after_none (Ok a) = ap Ok (append-nil a)

pub named_item : (at : Layout) (first : Bool) (f : TypedField) (json : Out) → after (said (separator at first)) (item at f json) ≡ after (named at first f) json
named_item at first f json =
    ap (after (said (separator at first))) (sym (after_assoc (text_json (field_name f.field)) (said (colon at)) json))
    ∙ sym (after_assoc (said (separator at first)) (after (text_json (field_name f.field)) (said (colon at))) json)

-- ---- frames ----

pub outward_end : (left : ℕ) (set : Schemas) (r : StructReader) (at : Layout) → outward left set r at [] ≡ said []
unfolding outward
outward_end left set r at = refl

pub outward_frame : (left : ℕ) (set : Schemas) (r : StructReader) (at : Layout) (b i : ℕ) (rest : List (ℕ × ℕ)) → outward left set r at ((b, i) ∷ rest) ≡ onward (is_last set b i) left set r at false b i rest
unfolding outward
outward_frame left set r at b i rest = refl

pub steps_frame : (set : Schemas) (groups b i : ℕ) (rest : List (ℕ × ℕ)) → steps_outward set groups ((b, i) ∷ rest) ≡ steps_left (is_last set b i) set groups b i rest
unfolding steps_outward
steps_frame set groups b i rest = refl

pub steps_brand : (set : Schemas) (groups b : ℕ) → brand_steps (suc groups) set b ≡ frame_steps false (brand_steps groups set) (fields_of set b) 0
unfolding brand_steps
steps_brand set groups b = refl

pub last_is : (set : Schemas) (b i : ℕ) → is_last set b (i + 1) ≡ is_member (field_at set b i).field
last_is set b i =
    let e : i + 1 - 1 ≡ i = omega arith in
    ap (λ (n : ℕ). is_member (field_at set b n).field) e

-- ---- where a walk stands ----

-- these are its parts
pub record IsWalk (w : Walk) (q : Bool) (s : StructSchema) (i d : ℕ) (rest : List (ℕ × ℕ)) : Type 0 where
  pub done : is_done w ≡ q
  pub schema : walk_schema w ≡ s
  pub index : walk_index w ≡ i
  pub depth : walk_depth w ≡ d
  pub above : above w ≡ rest

module _ (w : Walk) (done : Bool) (s : StructSchema) (i d : ℕ) (rest : List (ℕ × ℕ)) (is : IsWalk w done s i d rest) where
  pub onward_is : (left : ℕ) (r : StructReader) (at : Layout) (first : Bool) → walk_onward left r w at first ≡ onward done left (set_of s) r at first (number_of s) i rest
  onward_is left r at first =
      ap (λ (q : Bool). onward q left (walk_set w) r at first (walk_brand w) (walk_index w) (above w)) is.done
      ∙ (ap (λ (z : StructSchema). onward done left (set_of z) r at first (number_of z) (walk_index w) (above w)) is.schema
      ∙ (ap (λ (n : ℕ). onward done left (set_of s) r at first (number_of s) n (above w)) is.index
      ∙ ap (λ (fs : List (ℕ × ℕ)). onward done left (set_of s) r at first (number_of s) i fs) is.above))

  pub steps_are : walk_steps w ≡ steps_left done (set_of s) (2 ^ 64 - 1 - d) (number_of s) i rest
  steps_are =
      ap (λ (q : Bool). steps_left q (walk_set w) (groups_left w) (walk_brand w) (walk_index w) (above w)) is.done
      ∙ (ap (λ (z : StructSchema). steps_left done (set_of z) (groups_left w) (number_of z) (walk_index w) (above w)) is.schema
      ∙ (ap (λ (n : ℕ). steps_left done (set_of s) (groups_left w) (number_of s) n (above w)) is.index
      ∙ (ap (λ (n : ℕ). steps_left done (set_of s) (2 ^ 64 - 1 - n) (number_of s) i (above w)) is.depth
      ∙ ap (λ (fs : List (ℕ × ℕ)). steps_left done (set_of s) (2 ^ 64 - 1 - d) (number_of s) i fs) is.above)))

-- ---- steps ----

steps_next : (group : ℕ → ℕ) (fs : List TypedField) (i : ℕ) → i < length fs →
    steps_through group (drop i fs) ≡ steps_into group (kind_target (unwrap_or (slice_get fs i) no_field).field.kind (unwrap_or (slice_get fs i) no_field).type) + steps_through group (drop (i + 1) fs)
steps_next group fs i lt = ap (steps_through group) (drop_next fs i lt)

-- past a field
pub steps_past : (set : Schemas) (groups b i : ℕ) (rest : List (ℕ × ℕ)) → i < length (fields_of set b) →
    steps_left false set groups b i rest ≡ steps_into (brand_steps groups set) (kind_target (field_at set b i).field.kind (field_at set b i).type) + steps_left false set groups b (i + 1) rest
steps_past set groups b i rest lt =
    let past = steps_next (brand_steps groups set) (fields_of set b) i lt in
    omega (arith, past)

-- the steps into one of the fields are among those through all
steps_among : (group : ℕ → ℕ) (fs : List TypedField) (i : ℕ) → i < length fs →
    steps_into group (kind_target (unwrap_or (slice_get fs i) no_field).field.kind (unwrap_or (slice_get fs i) no_field).type) < steps_through group fs
steps_among group [] i lt = absurd (omega (arith, lt))
steps_among group (f ∷ fs) zero lt =
    let some = some_steps group fs in
    omega (arith, some)
steps_among group (f ∷ fs) (suc i) lt =
    let among = steps_among group fs i (omega (arith, lt)) in
    omega (arith, among)

-- from the end to behind a member
pub steps_member : (set : Schemas) (groups b i j n : ℕ) (rest : List (ℕ × ℕ)) → j < length (fields_of set b) →
    steps_into (brand_steps groups set) (kind_target (field_at set b j).field.kind (field_at set b j).type) + steps_left true set groups b n rest < steps_left false set groups b i rest
steps_member set groups b i j n rest lt =
    let among = steps_among (brand_steps groups set) (fields_of set b) j lt in
    let some = some_steps (brand_steps groups set) (drop i (fields_of set b)) in
    omega (arith, among, some)

-- from the end to behind all
pub steps_done : (set : Schemas) (groups b i n : ℕ) (rest : List (ℕ × ℕ)) → steps_left true set groups b n rest < steps_left false set groups b i rest
steps_done set groups b i n rest =
    let one = some_steps (brand_steps groups set) (fields_of set b) in
    let two = some_steps (brand_steps groups set) (drop i (fields_of set b)) in
    omega (arith, one, two)

-- ---- steps of a write ----

-- a step that puts nothing
pub step_over : (left : ℕ) (r : StructReader) (now next : Standing) (old : Output) (done more : Bool) (s : StructSchema) (i j d : ℕ) (rest : List (ℕ × ℕ)) →
    IsWalk now.walk done s i d rest → IsWalk next.walk more s j d rest → next.first ≡ now.first → next.at ≡ now.at →
    items_onward done left (set_of s) r now.at (number_of s) i ≡ items_onward more left (set_of s) r now.at (number_of s) j →
    steps_left more (set_of s) (2 ^ 64 - 1 - d) (number_of s) j rest < steps_left done (set_of s) (2 ^ 64 - 1 - d) (number_of s) i rest → IsStep left r now old old next
step_over left r now next old done more s i j d rest is are first at items fewer = record {
  json = same old
      (onward_is now.walk done s i d rest is left r now.at now.first
      ∙ (ap (λ (xs : List Out). after (items_left (codes "}") now.at now.first xs) (outward left (set_of s) r (shallower now.at) rest)) items
      ∙ (sym (onward_is next.walk more s j d rest are left r now.at now.first)
      ∙ (ap (λ (q : Bool). walk_onward left r next.walk now.at q) (sym first)
      ∙ ap (λ (l : Layout). walk_onward left r next.walk l next.first) (sym at)))));
  fewer =
      let before = steps_are now.walk done s i d rest is in
      let behind = steps_are next.walk more s j d rest are in
      omega (arith, before, behind, fewer);
  small =
      let e = is.depth in
      let k = are.depth in
      λ h. omega (arith, h, e, k);
}
