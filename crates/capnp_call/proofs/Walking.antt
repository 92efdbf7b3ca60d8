-- The walk of a path from a struct, a step after another.
use Rattle.std.proofs.Common.{ℕ, zero, suc, ◌≡◌, refl, List, [], ◌∷◌, false, Some, None, Ok, Err, ap, sym, subst, ◌∙◌}
use Rattle.std.proofs.lemmas.Bool.{true≢false}
use Rattle.capnp_device.specs.declared.error.Error.{Error}
use Rattle.capnp_device.specs.declared.error.ErrorKind.{ErrorKind}
use Rattle.capnp_wire.specs.Edits.{struct_in, with_pointer_tree, with_tree}
use Rattle.capnp_wire.specs.Place.{struct_tree}
use Rattle.capnp_wire.specs.Tree.{MoreTrees, NoTrees, StructTree, Tree, Trees, nth_tree}
use Rattle.capnp_schema.specs.Accepted.{IsGroupOf}
use Rattle.capnp_schema.specs.FieldLists.{index_of, typed_of}
use Rattle.capnp_schema.specs.Schema.{FieldKind, Group, Schemas, Slot, kind_default}
use Rattle.capnp_schema.specs.StructHandles.{generic_of, number_of, set_of}
use Rattle.capnp_schema.specs.Types.{ListType, SchemaType, StructType, seen_type}
use Rattle.capnp_schema.specs.declared.schema.fields.Field.{Field}
use Rattle.capnp_schema.specs.declared.schema.structs.StructSchema.{StructSchema}
use Rattle.capnp_base.specs.declared.introspect.«Type».{«Type» as TypeHandle}
use Rattle.capnp_records.specs.Call.{PathStep, Refused}
use Rattle.capnp_records.specs.Call as record_call
use Rattle.capnp_records.specs.Reading.{reads}
use Rattle.capnp_records.specs.Record as value
use Rattle.capnp_records.specs.Record.{Record, Value}
use Rattle.capnp_records.specs.Step.{Found, in_record, is_group_field, passed_target, walked_result}
use Rattle.capnp_records.specs.Writes.Stand.{OnGroup, OnList, OnStruct, entered_kind, left_kind, step_index}
use Rattle.capnp_records.specs.Writes.TreeEnds.{offset_of}
use Rattle.capnp_records.specs.Writes.TreeRun.{TreeEnd, TreePasses, TreeWalks}
use Rattle.capnp_slots.specs.Fields.{field_brand, field_set, pointer_index}
use Rattle.capnp_slots.specs.Fills.{filled_in, filled_tree}
use Rattle.capnp_slots.specs.Groups.{IsGroupAt}
use Rattle.capnp_call.proofs.Entered.{stops}
use Rattle.capnp_call.specs.Ends.{AsGroup, AsStruct, StructEnds, Whole, stand_of, whole_of}
use Rattle.capnp_call.specs.Steps.Lists.{ListWalks}
use Rattle.capnp_call.specs.Seen.{op_seen, path_seen, reply_seen, step_seen}
use Rattle.capnp_call.specs.Walks.{EndsAt, StepGoes, StepStops, StructWalks}
use Rattle.capnp_call.specs.Steps.Walks.{FieldWalks}
use Rattle.capnp_call.specs.Ways.{IsListSlot, IsNamedBy, IsStructSlot, found_target, target_in, way_target}
use Rattle.capnp_call.specs.declared.calls.Ending.{Ending}
use Rattle.capnp_call.specs.declared.calls.Reply.{Reply}
use Rattle.capnp_call.specs.declared.calls.Reply.TheVariants as reply
use Rattle.capnp_call.specs.declared.calls.Step.{Step}

-- ---- the path ----

-- it ends
pub walks_end : (set : Schemas) (b : ℕ) (path : List Step) (end : Ending) (s : StructTree) (r : Reply) (s' : StructTree) → path ≡ [] →
    StructEnds set b (step_seen end.call.now.last) (op_seen end.call.now.op) s (reply_seen r) s' → StructWalks set b path end s r s'
unfolding StructWalks
walks_end set b path end s r s' is ends = subst (λ (p : List Step). StructWalks set b p end s r s') (sym is) ends

-- no field of that name
pub step_missing : (schema : StructSchema) (step : Step) (rest : List Step) (end : Ending) (s : StructTree) (e : Error) →
    ((whole : Record → Value) (r : Record) → found_target whole r (Err e) ≡ in_record (set_of schema) whole r (number_of schema) (step_seen step)) →
    StructWalks (set_of schema) (number_of schema) (step ∷ rest) end s (reply.Refused e.kind) s
unfolding StructWalks
step_missing schema step rest end s e found w g = go w
  where
    set : Schemas
    set = set_of schema

    b : ℕ
    b = number_of schema

    further : TreeEnd
    further = TreeWalks set (EndsAt set end) (path_seen rest)

    go : (w : Whole) → TreeWalks set (EndsAt set end) (path_seen (step ∷ rest)) (StructType b g) (stand_of w s) (Refused e.kind) (stand_of w s)
    go AsStruct = subst (λ (x : Found). TreePasses set further (StructType b g) (OnStruct s) (step_seen step) (walked_result x) (Refused e.kind) (OnStruct s)) (found value.Struct (reads set s b)) (refl, refl)
    go AsGroup = subst (λ (x : Found). TreePasses set further (StructType b g) (OnGroup s) (step_seen step) (walked_result x) (Refused e.kind) (OnGroup s)) (found value.Group (reads set s b)) (refl, refl)

-- a field that a step names
names_field : (f : Field) (step : Step) (rest : List Step) (end : Ending) (s : StructTree) (r : Reply) (s' : StructTree) → step_index (field_set f) (field_brand f) (step_seen step) ≡ index_of f →
    ((whole : Record → Value) → Ok (target_in whole f s) ≡ in_record (field_set f) whole (reads (field_set f) s (field_brand f)) (field_brand f) (step_seen step)) →
    FieldWalks f rest end s r s' → StructWalks (field_set f) (field_brand f) (step ∷ rest) end s r s'
unfolding StructWalks FieldWalks
names_field f step rest end s r s' index found walks w g = go w (found (whole_of w)) (walks w g (step_seen step) index)
  where
    set : Schemas
    set = field_set f

    b : ℕ
    b = field_brand f

    further : TreeEnd
    further = TreeWalks set (EndsAt set end) (path_seen rest)

    go : (w : Whole) → Ok (target_in (whole_of w) f s) ≡ in_record set (whole_of w) (reads set s b) b (step_seen step) →
        TreePasses set further (StructType b g) (stand_of w s) (step_seen step) (passed_target (target_in (whole_of w) f s)) (reply_seen r) (stand_of w s') →
        TreeWalks set (EndsAt set end) (path_seen (step ∷ rest)) (StructType b g) (stand_of w s) (reply_seen r) (stand_of w s')
    go AsStruct e h = subst (λ (x : Found). TreePasses set further (StructType b g) (OnStruct s) (step_seen step) (walked_result x) (reply_seen r) (OnStruct s')) e h
    go AsGroup e h = subst (λ (x : Found). TreePasses set further (StructType b g) (OnGroup s) (step_seen step) (walked_result x) (reply_seen r) (OnGroup s')) e h

pub step_found : (schema : StructSchema) (f : Field) (step : Step) (rest : List Step) (end : Ending) (s : StructTree) (r : Reply) (s' : StructTree) → IsNamedBy schema step f →
    ((whole : Record → Value) (y : Record) → found_target whole y (Ok f) ≡ in_record (set_of schema) whole y (number_of schema) (step_seen step)) →
    FieldWalks f rest end s r s' → StructWalks (set_of schema) (number_of schema) (step ∷ rest) end s r s'
step_found schema f step rest end s r s' named found walks =
    subst (λ (z : StructSchema). StructWalks (set_of z) (number_of z) (step ∷ rest) end s r s') named.field.schema
    (names_field f step rest end s r s'
    (subst (λ (z : StructSchema). step_index (set_of z) (number_of z) (step_seen step) ≡ index_of f) (sym named.field.schema) named.index)
    (λ whole. subst (λ (z : StructSchema). Ok (target_in whole f s) ≡ in_record (set_of z) whole (reads (field_set f) s (field_brand f)) (number_of z) (step_seen step)) (sym named.field.schema) (found whole (reads (field_set f) s (field_brand f))))
    walks)

-- ---- a field ----

module _ (f : Field) (rest : List Step) (end : Ending) (s : StructTree) where
  -- a test fails
  pub field_stops : (e : Error) → ((whole : Record → Value) → way_target (target_in whole f s) (Err e) ≡ passed_target (target_in whole f s)) → FieldWalks f rest end s (reply.Refused e.kind) s
  unfolding FieldWalks
  field_stops e test = stops f (TreeWalks (field_set f) (EndsAt (field_set f) end) (path_seen rest)) s (Refused e.kind) s e.kind test refl refl

  -- what stands there is refused
  pub field_refused : (kind : ErrorKind) (s' : StructTree) → s' ≡ s → StepStops f s kind → FieldWalks f rest end s (reply.Refused kind) s'
  unfolding FieldWalks
  field_refused kind s' same h = subst (λ (y : StructTree). FieldWalks f rest end s (reply.Refused kind) y) (sym same) (h (path_seen rest) (step_seen end.call.now.last) (op_seen end.call.now.op))

  -- a group goes on in the same struct
  group_inner : (set : Schemas) (k : FieldKind) (t : SchemaType) (b : ℕ) (at : TreeEnd) (path : List PathStep) (r : record_call.Reply) (s' : StructTree) → IsGroupOf k t b →
      ((w : Whole) (g : ℕ) → TreeWalks set at path (StructType b g) (stand_of w s) r (stand_of w s')) →
      TreeWalks set at path t (entered_kind set k t s) r (OnGroup s') × (left_kind k t s (OnGroup s') ≡ s')
  group_inner set (Slot offset d) t b at path r s' names walks = absurd names
  group_inner set (Group node) (StructType c y) b at path r s' names walks = (subst (λ n. TreeWalks set at path (StructType n y) (OnGroup s) r (OnGroup s')) (sym (same names)) (walks AsGroup y), refl)
    where
      same : {m n : ℕ} → Some m ≡ Some n → m ≡ n
      same e = cc
  group_inner set (Group node) t b at path r s' names walks = absurd (none names)
    where
      none : {n : ℕ} → None ≡ Some n → ⊥
      none e = cc

  pub field_group : (group : StructSchema) (r : Reply) (s' : StructTree) → IsGroupAt f group → StepGoes f s → StructWalks (set_of group) (number_of group) rest end s r s' → FieldWalks f rest end s r s'
  unfolding StructWalks FieldWalks
  field_group group r s' leads goes walks =
      let inner = group_inner (field_set f) (typed_of f).field.kind (typed_of f).type (number_of group) (EndsAt (field_set f) end) (path_seen rest) (reply_seen r) s' leads.names
      (subst (λ (set : Schemas). (w : Whole) (g : ℕ) → TreeWalks set (EndsAt set end) (path_seen rest) (StructType (number_of group) g) (stand_of w s) (reply_seen r) (stand_of w s')) leads.set walks) in
      subst (λ (y : StructTree). FieldWalks f rest end s r y) inner.1 (goes (path_seen rest) (step_seen end.call.now.last) (op_seen end.call.now.op) (reply_seen r) (OnGroup s') inner.0)

  -- a struct behind a slot goes on in what was filled
  struct_inner : (set : Schemas) (k : FieldKind) (t : SchemaType) (b g : ℕ) (at : TreeEnd) (path : List PathStep) (r : record_call.Reply) (y : StructTree) → is_group_field k ≡ false → StructType b g ≡ t →
      ((w : Whole) (g : ℕ) → TreeWalks set at path (StructType b g) (stand_of w (struct_in (filled_tree set (kind_default k) t (nth_tree s.pointers (offset_of k))))) r (stand_of w y)) →
      TreeWalks set at path t (entered_kind set k t s) r (OnStruct y) × (left_kind k t s (OnStruct y) ≡ with_pointer_tree s (offset_of k) (struct_tree y))
  struct_inner set (Slot offset d) t b g at path r y slot is walks = (
    subst (λ (u : SchemaType). TreeWalks set at path u (entered_kind set (Slot offset d) u s) r (OnStruct y)) is
        (subst (λ (u : SchemaType). (w : Whole) (g : ℕ) → TreeWalks set at path (StructType b g) (stand_of w (struct_in (filled_tree set d u (nth_tree s.pointers offset)))) r (stand_of w y)) (sym is) walks AsStruct g),
    refl,
  )
  struct_inner set (Group node) t b g at path r y slot is walks = absurd (true≢false slot)

  pub field_struct : (schema : StructSchema) (r : Reply) (y : StructTree) → IsStructSlot f schema → StepGoes f s → StructWalks (set_of schema) (number_of schema) rest end (struct_in (filled_in f s)) r y →
      FieldWalks f rest end s r (with_pointer_tree s (pointer_index f) (struct_tree y))
  unfolding StructWalks FieldWalks
  field_struct schema r y leads goes walks =
      let inner = struct_inner (field_set f) (typed_of f).field.kind (typed_of f).type (number_of schema) (generic_of schema) (EndsAt (field_set f) end) (path_seen rest) (reply_seen r) y leads.slot leads.type_is
      (subst (λ (set : Schemas). (w : Whole) (g : ℕ) → TreeWalks set (EndsAt set end) (path_seen rest) (StructType (number_of schema) g) (stand_of w (struct_in (filled_in f s))) (reply_seen r) (stand_of w y)) leads.set walks) in
      subst (λ (z : StructTree). FieldWalks f rest end s r z) inner.1 (goes (path_seen rest) (step_seen end.call.now.last) (op_seen end.call.now.op) (reply_seen r) (OnStruct y) inner.0)

  -- and so does a list
  list_inner : (set : Schemas) (k : FieldKind) (t e : SchemaType) (at : TreeEnd) (path : List PathStep) (r : record_call.Reply) (y : Tree) → is_group_field k ≡ false → ListType e ≡ t →
      TreeWalks set at path (ListType e) (OnList (filled_tree set (kind_default k) t (nth_tree s.pointers (offset_of k)))) r (OnList y) →
      TreeWalks set at path t (entered_kind set k t s) r (OnList y) × (left_kind k t s (OnList y) ≡ with_pointer_tree s (offset_of k) y)
  list_inner set (Slot offset d) t e at path r y slot is walks = (
    subst (λ (u : SchemaType). TreeWalks set at path u (entered_kind set (Slot offset d) u s) r (OnList y)) is
        (subst (λ (u : SchemaType). TreeWalks set at path (ListType e) (OnList (filled_tree set d u (nth_tree s.pointers offset))) r (OnList y)) (sym is) walks),
    refl,
  )
  list_inner set (Group node) t e at path r y slot is walks = absurd (true≢false slot)

  pub field_list : (element : TypeHandle) (r : Reply) (y : Tree) → IsListSlot f element → StepGoes f s → ListWalks (field_set f) (seen_type element) rest end (filled_in f s) r y →
      FieldWalks f rest end s r (with_pointer_tree s (pointer_index f) y)
  unfolding ListWalks FieldWalks
  field_list element r y leads goes walks =
      let inner = list_inner (field_set f) (typed_of f).field.kind (typed_of f).type (seen_type element) (EndsAt (field_set f) end) (path_seen rest) (reply_seen r) y leads.slot leads.type_is walks in
      subst (λ (z : StructTree). FieldWalks f rest end s r z) inner.1 (goes (path_seen rest) (step_seen end.call.now.last) (op_seen end.call.now.op) (reply_seen r) (OnList y) inner.0)

-- ---- what is left in the owner ----

with_tree_twice : (ts : Trees) (i : ℕ) (t u : Tree) → with_tree (with_tree ts i t) i u ≡ with_tree ts i u
with_tree_twice NoTrees i t u = refl
with_tree_twice (MoreTrees x ts) zero t u = refl
with_tree_twice (MoreTrees x ts) (suc i) t u = ap (MoreTrees x) (with_tree_twice ts i t u)

-- another tree at a pointer that was filled
pub pointer_again : (s m s' : StructTree) (i : ℕ) (filled t : Tree) → m ≡ with_pointer_tree s i filled → s' ≡ with_pointer_tree m i t → s' ≡ with_pointer_tree s i t
pointer_again s m s' i filled t h e =
    e ∙ (ap (λ (y : StructTree). with_pointer_tree y i t) h ∙ ap (λ (ts : Trees). record { bytes = s.bytes; pointers = ts }) (with_tree_twice s.pointers i filled t))
