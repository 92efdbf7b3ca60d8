-- What is found at the end of a path.
use Rattle.std.proofs.Common.{ℕ, ◌≡◌, ◌≢◌, refl, List, [], ◌∷◌, ◌++◌, false, Result, Ok, Err, IfOk, ap, inl, inr, map, subst, sym, ◌∙◌}
use Rattle.std.proofs.lemmas.List.{map-append}
use Rattle.capnp_device.specs.declared.error.Error.{Error}
use Rattle.capnp_device.specs.declared.error.ErrorKind.{ErrorKind}
use Rattle.capnp_device.specs.declared.error.ErrorKind.TheVariants.{OutOfMemory, TooDeep, TypeMismatch}
use Rattle.capnp_wire.specs.Depth.{AreBelow, IsShallow, memory_depth, message_levels}
use Rattle.capnp_wire.specs.Standing.{list_levels, list_of, struct_levels, struct_of}
use Rattle.capnp_wire.specs.Tree.{StructTree, Tree}
use Rattle.capnp_arena.specs.Same.{IsStructCutOf}
use Rattle.capnp_schema.specs.Schema.{Schemas}
use Rattle.capnp_schema.specs.StructHandles.{IsStruct, number_of, set_of}
use Rattle.capnp_schema.specs.Types.{ListType, SchemaType}
use Rattle.capnp_schema.specs.declared.schema.structs.StructSchema.{StructSchema}
use Rattle.capnp_records.specs.Call.{Op, PathStep, Refused, Reply, Set}
use Rattle.capnp_records.specs.Facts.ListValues.{below_of}
use Rattle.capnp_records.specs.Reading.{elements_value, struct_record}
use Rattle.capnp_records.specs.Record as value
use Rattle.capnp_records.specs.Record.{Left}
use Rattle.capnp_records.specs.Writes.TreeEnds.{TreeStep}
use Rattle.capnp_slots.specs.SetValues.{source_of}
use Rattle.capnp_edits.specs.Changes.{Edit, IsChangeRefusal}
use Rattle.capnp_dynamic_readers.specs.Handles.{element_of, list_reader_of, reader_of, schema_of}
use Rattle.capnp_dynamic_readers.specs.Shown.{type_seen}
use Rattle.capnp_dynamic_readers.specs.Typed.{IsOf, struct_type}
use Rattle.capnp_dynamic_readers.specs.declared.dynamic_list.Reader.{Reader as ListHandle}
use Rattle.capnp_dynamic_readers.specs.declared.dynamic_struct.Reader.{Reader as StructHandle}
use Rattle.capnp_dynamic_readers.specs.declared.dynamic_value.Reader.{Reader as DynamicValue}
use Rattle.capnp_dynamic_readers.specs.declared.dynamic_value.Reader.TheVariants as dynamic
use Rattle.capnp_patch.specs.Gets.{Part, Reached, path_read, seen_read, value_part_seen}
use Rattle.capnp_edit_calls.specs.EditsMade.{Edits, IsEditRefusal, call_along, no_list, not_changed, not_read, set_list, too_deep, with_first}
use Rattle.capnp_edit_calls.specs.PathReads.{IsSeenAt, is_list_type, struct_part}
use Rattle.capnp_edit_calls.specs.Steps.Lists.{IsFoundAt, IsMadeAt, IsNotFound}

-- ---- the root ----

abbrev part_under : StructHandle → StructSchema → ℕ → Part
part_under r z n = record { type = struct_type z; value = value.Struct (struct_record (set_of z) (Left n) (struct_of (reader_of r)) (number_of z)) }

-- a reader of a struct under a schema, with all levels left
pub record StandsAt (r : StructHandle) (schema : StructSchema) (s : StructTree) : Type 0 where
  pub schema_is : schema_of r ≡ schema
  pub levels : struct_levels (reader_of r) ≡ message_levels
  pub cut : IsStructCutOf (struct_of (reader_of r)) s
  pub whole : AreBelow memory_depth s.pointers → struct_of (reader_of r) ≡ s

pub root_part : (r : StructHandle) (schema : StructSchema) (s : StructTree) → StandsAt r schema s → value_part_seen (dynamic.Struct r) ≡ struct_part schema (struct_of (reader_of r))
root_part r schema s on = ap (λ z. part_under r z (struct_levels (reader_of r))) on.schema_is ∙ ap (part_under r schema) on.levels

pub root_is_of : (r : StructHandle) (schema : StructSchema) → schema_of r ≡ schema → IsStruct schema → IsOf (set_of schema) (type_seen (dynamic.Struct r)) (dynamic.Struct r)
root_is_of r schema same stands = (subst IsStruct (sym same) stands, ap set_of same, refl)

-- ---- a list ----

abbrev list_under : ListHandle → Schemas → Reached
list_under l z = Ok (record { type = ListType (element_of l); value = elements_value z (list_of (list_reader_of l)) (below_of z (list_of (list_reader_of l))) (Left (list_levels (list_reader_of l))) (element_of l) })

module _ (schema : StructSchema) (s : StructTree) (r : StructHandle) (path : List PathStep) (on : StandsAt r schema s) where
  abbrev Reads : Result DynamicValue Error → Type 0
  Reads x = seen_read x ≡ path_read (set_of schema) path (Ok (value_part_seen (dynamic.Struct r)))

  pub seen_at : (x : Result DynamicValue Error) → Reads x → IsSeenAt schema s path (seen_read x)
  seen_at x h = record {
    seen = struct_of (reader_of r);
    cut = on.cut;
    whole = on.whole;
    read = ap (λ p. path_read (set_of schema) path (Ok p)) (sym (root_part r schema s on)) ∙ sym h;
  }

  pub list_found : (l : ListHandle) → Reads (Ok (dynamic.List l)) → IsOf (set_of schema) (type_seen (dynamic.List l)) (dynamic.List l) → IsFoundAt schema s path l
  list_found l h of =
      let at = seen_at (Ok (dynamic.List l)) h in
      record {
        levels = list_levels (list_reader_of l);
        entries = of.2;
        seen = record { seen = at.seen; cut = at.cut; whole = at.whole; read = at.read ∙ ap (list_under l) of.0 };
      }

  pub found_in : (v : DynamicValue) → Reads (Ok v) → IsOf (set_of schema) (type_seen v) v → (result : Result ListHandle Error) → IfOk result (λ l. v ≡ dynamic.List l) → IfOk result (IsFoundAt schema s path)
  found_in v h of (Ok l) is = list_found l (subst (λ x. Reads (Ok x)) is h) (subst (λ x. IsOf (set_of schema) (type_seen x) x) is of)
  found_in v h of (Err e) is = tt

  pub other_found : (v : DynamicValue) → Reads (Ok v) → (kind : ErrorKind) → (kind ≡ TypeMismatch) × (is_list_type (type_seen v) ≡ false) → IsNotFound schema s path kind
  other_found v h kind is = inr (is.0, record { part = value_part_seen v; seen = seen_at (Ok v) h; other = is.1 })

  pub not_found : (e : Error) → Reads (Err e) → IsNotFound schema s path e.kind
  not_found e h = inl (seen_at (Err e) h)

-- what is no list has another type
pub other_type : (v : DynamicValue) → ((l : ListHandle) → v ≡ dynamic.List l → ⊥) → is_list_type (type_seen v) ≡ false
other_type dynamic.Void h = refl
other_type (dynamic.Bool b) h = refl
other_type (dynamic.Int8 x) h = refl
other_type (dynamic.Int16 x) h = refl
other_type (dynamic.Int32 x) h = refl
other_type (dynamic.Int64 x) h = refl
other_type (dynamic.UInt8 x) h = refl
other_type (dynamic.UInt16 x) h = refl
other_type (dynamic.UInt32 x) h = refl
other_type (dynamic.UInt64 x) h = refl
other_type (dynamic.Enum e) h = refl
other_type (dynamic.Text x) h = refl
other_type (dynamic.«Data» x) h = refl
other_type (dynamic.Struct s) h = refl
other_type (dynamic.List l) h = absurd (h l refl)
other_type (dynamic.AnyPointer p) h = refl

-- ---- what is made of it ----

pub unfound : (schema : StructSchema) (s : StructTree) (path : List PathStep) (edit : Edit) (kind : ErrorKind) → IsNotFound schema s path kind → IsEditRefusal schema s path edit kind
unfound schema s path edit kind (inl h) = not_read kind h
unfound schema s path edit kind (inr h) = subst (IsEditRefusal schema s path edit) (sym h.0) (no_list h.1.part h.1.seen h.1.other)

-- ---- the call ----

pub last_along : (path : List PathStep) (last : PathStep) (op : Op) → call_along (path ++ last ∷ []) op ≡ record { path = path; last = last; op = op }
last_along [] last op = refl
last_along (s ∷ []) last op = refl
last_along (s ∷ t ∷ ss) last op = ap (with_first s) (last_along (t ∷ ss) last op)

pub seen_along : {S : Type 0} (seen : S → PathStep) (op : Op) (steps path : List S) (last : S) → steps ≡ path ++ last ∷ [] → record { path = map seen path; last = seen last; op = op } ≡ call_along (map seen steps) op
seen_along {S} seen op steps path last e =
    sym (ap (λ (xs : List S). call_along (map seen xs) op) e ∙ (ap (λ (xs : List PathStep). call_along xs op) (map-append seen path (last ∷ [])) ∙ last_along (map seen path) (seen last) op))

-- ---- an edit ----

pub stopped : (schema : StructSchema) (old new : StructTree) (path : List PathStep) (edit : Edit) (reply : Reply) (before after : List ℕ) (kind : ErrorKind) → reply ≡ Refused kind → (kind ≢ OutOfMemory → IsEditRefusal schema old path edit kind) → after ≡ before →
    Edits schema old path edit reply new before after
stopped schema old new path edit reply before after kind refused cause same = inl (record { kind = kind; refused = refused; cause = cause }, same)

pub deep : (schema : StructSchema) (s : StructTree) (path : List PathStep) (edit : Edit) (e : SchemaType) (u : Tree) (kind : ErrorKind) → IsMadeAt schema s path edit e u → kind ≡ TooDeep → (IsShallow u → ⊥) → IsEditRefusal schema s path edit kind
deep schema s path edit e u kind made is far = subst (IsEditRefusal schema s path edit) (sym is) (too_deep e made.list u made.there made.is_changed far)

-- the list that was made is set by its handle
pub edited : (schema : StructSchema) (old new : StructTree) (path : List PathStep) (edit : Edit) (reply : Reply) (before after : List ℕ) (e : SchemaType) (u : Tree) (l : ListHandle) → IsMadeAt schema old path edit e u →
    list_of (list_reader_of l) ≡ u → element_of l ≡ e →
    TreeStep (set_of schema) (number_of schema) old (call_along path (Set (source_of (dynamic.List l)))) reply new →
    Edits schema old path edit reply new before after
edited schema old new path edit reply before after e u l made is element step = inr (record {
  element = e;
  list = made.list;
  changed = u;
  there = made.there;
  is_changed = made.is_changed;
  levels = list_levels (list_reader_of l);
  set = subst (λ (t : Tree). TreeStep (set_of schema) (number_of schema) old (set_list path (list_levels (list_reader_of l)) e t) reply new) is
      (subst (λ (x : SchemaType). TreeStep (set_of schema) (number_of schema) old (set_list path (list_levels (list_reader_of l)) x (list_of (list_reader_of l))) reply new) element step);
})

-- why it is not changed
pub unchanged_refusal : (schema : StructSchema) (s : StructTree) (path : List PathStep) (edit : Edit) (kind : ErrorKind) (set : Schemas) (e : SchemaType) (t : Tree) (l : ListHandle) → set ≡ set_of schema → e ≡ element_of l → t ≡ list_of (list_reader_of l) →
    IsFoundAt schema s path l → IsChangeRefusal set e t edit kind → IsEditRefusal schema s path edit kind
unchanged_refusal schema s path edit kind set e t l sets types lists found h =
    not_changed (element_of l) (list_of (list_reader_of l)) kind found
    (subst (λ z. IsChangeRefusal z (element_of l) (list_of (list_reader_of l)) edit kind) sets
    (subst (λ z. IsChangeRefusal set z (list_of (list_reader_of l)) edit kind) types
    (subst (λ z. IsChangeRefusal set e z edit kind) lists h)))
