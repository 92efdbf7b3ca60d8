-- Steps of a walk, put together: what the rest of a call does in the part that a step enters, the call does to the whole.
use Rattle.std.proofs.Common.{ℕ, ◌≡◌, ◌<◌, refl, List, [], ◌∷◌, true, false, None, Result, Ok, Err, ap, arith, drop, get_or, inl, length, sym, subst, ◌+◌, ◌≤◌, ◌∙◌}
use Rattle.std.proofs.lemmas.Bool.{true≢false}
use Rattle.std.proofs.lemmas.List.{at_drop_all, drop_more}
use Rattle.capnp_device.specs.declared.error.Error.{Error}
use Rattle.capnp_device.specs.declared.error.ErrorKind.{ErrorKind}
use Rattle.capnp_wire.specs.Edits.{struct_in, with_pointer_tree}
use Rattle.capnp_wire.specs.Elements.{HasPointer, HasStruct, with_pointer_element, with_struct_element}
use Rattle.capnp_wire.specs.Place.{struct_tree}
use Rattle.capnp_wire.specs.Reading.{element_pointer, element_struct, is_list, is_null_tree, list_length}
use Rattle.capnp_wire.specs.Tree as tree_of
use Rattle.capnp_wire.specs.Tree.{StructTree, Tree}
use Rattle.capnp_wire.specs.Words.{first_fault}
use Rattle.capnp_arena.specs.Built.{LeavesIn, built_at, place_words}
use Rattle.capnp_arena.specs.Facts.Laws.{IsInStruct, in_struct, struct_planted}
use Rattle.capnp_arena.specs.Facts.Places.{at_then, then, unchanged}
use Rattle.capnp_arena.specs.Forest.{Changes, Forest, PartChanges, Planted, tree}
use Rattle.capnp_arena.specs.Leaves.{Leaves}
use Rattle.capnp_arena.specs.Segment.{segment}
use Rattle.capnp_arena.specs.Shape.{StructIn, shape_at}
use Rattle.capnp_arena.specs.declared.arena.Arena.{Arena}
use Rattle.capnp_arena.specs.declared.arena.Place.{Place}
use Rattle.capnp_schema.specs.Accepted.{NamesEntries}
use Rattle.capnp_schema.specs.Schema.{Schemas, VoidValue}
use Rattle.capnp_schema.specs.StructHandles.{IsStruct, generic_of, number_of, set_of}
use Rattle.capnp_schema.specs.Types.{ListType, SchemaType, StructType, seen_type}
use Rattle.capnp_schema.specs.declared.schema.fields.Field.{Field}
use Rattle.capnp_schema.specs.declared.schema.structs.StructSchema.{StructSchema}
use Rattle.capnp_records.specs.Record.{Record, Value}
use Rattle.capnp_records.specs.Step.{in_record}
use Rattle.capnp_records.specs.Writes.Fill.{entered_list}
use Rattle.capnp_slots.specs.Fields.{IsRoomFor, field_set, pointer_index}
use Rattle.capnp_slots.specs.Fills.{fill_due, filled_in}
use Rattle.capnp_slots.specs.Groups.{IsGroupAt}
use Rattle.capnp_slots.specs.Standing.{IsUnder}
use Rattle.capnp_call.proofs.ListWalks.{element_in_list, element_in_struct, element_there, fits_at, nothing_steps}
use Rattle.capnp_call.proofs.Parts.{here_is, struct_here}
use Rattle.capnp_call.proofs.Walking.{field_group, field_list, field_struct, pointer_again, step_found}
use Rattle.capnp_call.specs.Steps.Hops.{ElementGoes, FieldGoes, HopGoes, Going, IsAt, IsAtList, HopLeads, LeadsOn, ListGoes, StructGoes, first_step, placed_struct}
use Rattle.capnp_call.specs.Lists.{IsListStand}
use Rattle.capnp_call.specs.Steps.Lists.{ElementWalks, ListWalks, refusal_at_nothing}
use Rattle.capnp_call.specs.Seen.{step_seen}
use Rattle.capnp_call.specs.Walks.{StepGoes, StructWalks}
use Rattle.capnp_call.specs.Steps.Walks.{FieldWalks}
use Rattle.capnp_call.specs.Ways.{IsListSlot, IsNamedBy, IsStructSlot, found_target}
use Rattle.capnp_call.specs.declared.calls.Ending.{Ending}
use Rattle.capnp_call.specs.declared.calls.Reply.{Reply}
use Rattle.capnp_call.specs.declared.calls.Reply.TheVariants as reply
use Rattle.capnp_call.specs.declared.calls.Step.{Step}
use Rattle.capnp_call.specs.declared.calls.Step.TheVariants as step
use Rattle.capnp_call.specs.declared.hop.At.{At}
use Rattle.capnp_call.specs.declared.hop.At.TheVariants as at
use Rattle.capnp_base.specs.declared.introspect.«Type».{«Type» as TypeHandle}

-- ---- one hop in another ----

pub leads_more : (place_words whole : Going) (r : Result At Error) (bytes : List ℕ) →
    ((rest : List Step) (end : Ending) (k : Reply) (later : List ℕ) → place_words rest end k later → whole rest end k later) → HopLeads place_words r bytes → HopLeads whole r bytes
leads_more place_words whole (Ok now) bytes more h = record { stands = h.stands; onward = λ rest end k later g. more rest end k later (h.onward rest end k later g) }
leads_more place_words whole (Err e) bytes more h = λ rest end. more rest end (reply.Refused e.kind) bytes (h rest end)

-- ---- where nothing has changed ----

pub unchanged_at : (w : ℕ) (bytes new : List ℕ) → new ≡ bytes → Changes w bytes new
unchanged_at w bytes new same = subst (Changes w bytes) (sym same) (record { longer = omega arith; stays = λ k l o p. refl; grows = λ k o. inl o })

pub struct_refused : (p : Place) (schema : StructSchema) (path : List Step) (end : Ending) (bytes : List ℕ) (r : Reply) → Planted bytes (place_words p) →
    StructWalks (set_of schema) (number_of schema) path end (placed_struct bytes p) r (placed_struct bytes p) → StructGoes p schema bytes path end r bytes
struct_refused p schema path end bytes r planted walks = record { walks = walks; planted = planted; changes = unchanged bytes bytes (place_words p) refl }

pub field_refused_at : (p : Place) (f : Field) (rest : List Step) (end : Ending) (bytes new : List ℕ) (r : Reply) → new ≡ bytes → Planted bytes (place_words p) →
    FieldWalks f rest end (placed_struct bytes p) r (placed_struct bytes p) → FieldGoes p f bytes rest end r new
field_refused_at p f rest end bytes new r same planted walks =
    subst (FieldGoes p f bytes rest end r) (sym same) (record { walks = walks; planted = planted; changes = unchanged bytes bytes (place_words p) refl })

pub list_refused : (w : ℕ) (set : Schemas) (e : SchemaType) (path : List Step) (end : Ending) (bytes : List ℕ) (kind k : ErrorKind) → Forest bytes w → kind ≡ k →
    ListWalks set e path end (tree bytes w) (reply.Refused k) (tree bytes w) → ListGoes w set e bytes path end (reply.Refused kind) bytes
list_refused w set e path end bytes kind k forest is walks =
    record { walks = subst (λ (z : ErrorKind). ListWalks set e path end (tree bytes w) (reply.Refused z) (tree bytes w)) (sym is) walks; forest = forest; changes = unchanged_at w bytes bytes refl }

pub element_refused : (w : ℕ) (set : Schemas) (e : SchemaType) (i : ℕ) (rest : List Step) (end : Ending) (bytes : List ℕ) (kind k : ErrorKind) → Forest bytes w → kind ≡ k →
    ElementWalks set e i rest end (tree bytes w) (reply.Refused k) (tree bytes w) → ElementGoes w set e i bytes rest end (reply.Refused kind) bytes
element_refused w set e i rest end bytes kind k forest is walks =
    record { walks = subst (λ (z : ErrorKind). ElementWalks set e i rest end (tree bytes w) (reply.Refused z) (tree bytes w)) (sym is) walks; forest = forest; changes = unchanged_at w bytes bytes refl }

pub element_stays : (w : ℕ) (set : Schemas) (e : SchemaType) (i : ℕ) (rest : List Step) (end : Ending) (bytes new : List ℕ) (kind : ErrorKind) → Forest bytes w → new ≡ bytes →
    ElementWalks set e i rest end (tree bytes w) (reply.Refused kind) (tree bytes w) → ElementGoes w set e i bytes rest end (reply.Refused kind) new
element_stays w set e i rest end bytes new kind forest same walks = subst (ElementGoes w set e i bytes rest end (reply.Refused kind)) (sym same) (element_refused w set e i rest end bytes kind kind forest refl walks)

-- ---- fields ----

-- the field that a step names
pub named_leads : (p : Place) (schema : StructSchema) (f : Field) (s : Step) (r : Result At Error) (old bytes : List ℕ) → IsNamedBy schema s f →
    ((whole : Record → Value) (y : Record) → found_target whole y (Ok f) ≡ in_record (set_of schema) whole y (number_of schema) (step_seen s)) →
    HopLeads (FieldGoes p f old) r bytes → HopLeads (first_step (StructGoes p schema old) s) r bytes
named_leads p schema f s r old bytes named found h =
    leads_more (FieldGoes p f old) (first_step (StructGoes p schema old) s) r bytes
    (λ rest end k later g. record { walks = step_found schema f s rest end (placed_struct old p) k (placed_struct later p) named found g.walks; planted = g.planted; changes = g.changes }) h

-- a group
pub group_leads : (p : Place) (f : Field) (group : StructSchema) (bytes : List ℕ) → Planted bytes (place_words p) → IsGroupAt f group → IsRoomFor f (placed_struct bytes p) → StepGoes f (placed_struct bytes p) →
    LeadsOn (FieldGoes p f bytes) (at.Struct p group) bytes
group_leads p f group bytes planted leads room goes = record {
  stands = record { stands = leads.stands; planted = planted; room = leads.room (placed_struct bytes p) room };
  onward = λ rest end k later g. record {
    walks = field_group f rest end (placed_struct bytes p) group k (placed_struct later p) leads goes g.walks;
    planted = g.planted;
    changes = g.changes;
  };
}

-- what stands behind the pointer of a slot, at a word, after the step has filled it
pub record IsSlotAt (p : Place) (f : Field) (old : List ℕ) (m : Arena) (w : ℕ) : Type 0 where
  pub goes : StepGoes f (placed_struct old p)
  pub filled : built_at m p ≡ with_pointer_tree (placed_struct old p) (pointer_index f) (filled_in f (placed_struct old p))
  pub here : tree (segment m) w ≡ filled_in f (placed_struct old p)
  pub changes : PartChanges (place_words p) old (segment m)
  pub forest : Forest (segment m) w
  pub leaves : (new : List ℕ) → Forest new w → Changes w (segment m) new → LeavesIn p (pointer_index f) m w new

module _ (p : Place) (f : Field) (old : List ℕ) (m : Arena) (w : ℕ) (slot : IsSlotAt p f old m w) where
  abbrev s : StructTree
  s = placed_struct old p

  -- a struct there
  pub struct_leads : (schema : StructSchema) (q : Place) → IsStructSlot f schema → shape_at (segment m) w ≡ StructIn q.start q.data_words q.pointers → LeadsOn (FieldGoes p f old) (at.Struct q schema) (segment m)
  struct_leads schema q leads place =
      let is : struct_in (tree (segment m) w) ≡ placed_struct (segment m) q = here_is (segment m) w q.start q.data_words q.pointers slot.forest place in
      record {
        stands = record {
          stands = leads.stands;
          planted = struct_planted (segment m) w q.start q.data_words q.pointers slot.forest place;
          room = subst (IsUnder schema) is (struct_here f s schema (tree (segment m) w) leads slot.here).room;
        };
        onward = λ rest end k later g.
            let inside : IsInStruct (segment m) later w q.start q.data_words q.pointers = in_struct (segment m) later w q.start q.data_words q.pointers slot.forest place g.planted g.changes in
            let left : LeavesIn p (pointer_index f) m w later = slot.leaves later inside.forest inside.changes in
            let y : StructTree = placed_struct later q in
            let walks : StructWalks (set_of schema) (number_of schema) rest end (struct_in (filled_in f s)) k y =
            subst (λ (x : StructTree). StructWalks (set_of schema) (number_of schema) rest end x k y) (sym is ∙ ap struct_in slot.here) g.walks in
            record {
              walks = subst (λ (z : StructTree). FieldWalks f rest end s k z)
                  (sym (pointer_again s (built_at m p) (placed_struct later p) (pointer_index f) (filled_in f s) (struct_tree y) slot.filled (left.struct ∙ ap (with_pointer_tree (built_at m p) (pointer_index f)) inside.tree)))
                  (field_struct f rest end s schema k y leads slot.goes walks);
              planted = left.planted;
              changes = then slot.changes left.changes;
            };
      }

  -- a list there
  pub list_leads : (set : Schemas) (element : TypeHandle) → IsListSlot f element → set ≡ field_set f → IsListStand (field_set f) (seen_type element) (filled_in f s) →
      (now : At) → ((bytes : List ℕ) → IsAtList w set (seen_type element) bytes → IsAt now bytes) →
      ((old : List ℕ) (path : List Step) (end : Ending) (k : Reply) (new : List ℕ) → HopGoes now old path end k new → ListGoes w set (seen_type element) old path end k new) → LeadsOn (FieldGoes p f old) now (segment m)
  list_leads set element leads same list now stands goes = record {
    stands = stands (segment m) (record {
      forest = slot.forest;
      entries = subst (λ (z : Schemas). NamesEntries z (seen_type element)) (sym same) leads.entries;
      list = subst (λ (z : Schemas). IsListStand z (seen_type element) (tree (segment m) w)) (sym same) (subst (IsListStand (field_set f) (seen_type element)) (sym slot.here) list);
    });
    onward = λ rest end k later h.
        let g : ListGoes w set (seen_type element) (segment m) rest end k later = goes (segment m) rest end k later h in
        let left : LeavesIn p (pointer_index f) m w later = slot.leaves later g.forest g.changes in
        let y : Tree = tree later w in
        let walks : ListWalks (field_set f) (seen_type element) rest end (filled_in f s) k y =
        subst (λ (x : Tree). ListWalks (field_set f) (seen_type element) rest end x k y) slot.here (subst (λ (z : Schemas). ListWalks z (seen_type element) rest end (tree (segment m) w) k y) same g.walks) in
        record {
          walks = subst (λ (z : StructTree). FieldWalks f rest end s k z) (sym (pointer_again s (built_at m p) (placed_struct later p) (pointer_index f) (filled_in f s) y slot.filled left.struct))
              (field_list f rest end s element k y leads slot.goes walks);
          planted = left.planted;
          changes = then slot.changes left.changes;
        };
  }

-- ---- elements ----

-- what is no list is a null, where a list may stand
pub null_there : (set : Schemas) (e : SchemaType) (x : Tree) → IsListStand set e x → is_list x ≡ false → x ≡ tree_of.Null
null_there set e tree_of.Null stands none = refl
null_there set e (tree_of.Struct bytes ps) stands none = absurd (true≢false (sym (stands.reads_it refl)))
null_there set e (tree_of.Voids n) stands none = absurd (true≢false none)
null_there set e (tree_of.Bits bs) stands none = absurd (true≢false none)
null_there set e (tree_of.Numbers w bytes) stands none = absurd (true≢false none)
null_there set e (tree_of.Pointers ps) stands none = absurd (true≢false none)
null_there set e (tree_of.Composite d p es) stands none = absurd (true≢false none)
null_there set e (tree_of.FaultLeaf k) stands none = absurd (true≢false (sym (stands.reads_it refl)))

pub list_there : (x : Tree) → is_list x ≡ true → is_null_tree x ≡ false
list_there tree_of.Null is = absurd (true≢false (sym is))
list_there x is = refl

-- a null has none
pub nothing_refused : (set : Schemas) (e : SchemaType) (x : Tree) (s : Step) (rest : List Step) (end : Ending) (kind : ErrorKind) → IsListStand set e x → is_list x ≡ false → kind ≡ refusal_at_nothing (step_seen s) →
    ListWalks set e (s ∷ rest) end x (reply.Refused kind) x
nothing_refused set e x s rest end kind stands none is =
    subst (λ (y : Tree). ListWalks set e (s ∷ rest) end y (reply.Refused kind) y) (sym (null_there set e x stands none)) (nothing_steps (s ∷ rest) s rest end kind refl is set e)

-- an element that is there
pub there_leads : (w : ℕ) (set : Schemas) (e : SchemaType) (i : ℕ) (r : Result At Error) (old bytes : List ℕ) → IsListStand set e (tree old w) → is_null_tree (tree old w) ≡ false → i < list_length (tree old w) →
    HopLeads (ElementGoes w set e i old) r bytes → HopLeads (first_step (ListGoes w set e old) (step.Element i)) r bytes
there_leads w set e i r old bytes stands there inside h =
    leads_more (ElementGoes w set e i old) (first_step (ListGoes w set e old) (step.Element i)) r bytes
    (λ rest end k later g. record { walks = element_there set e (tree old w) stands there i rest end k (tree later w) inside g.walks; forest = g.forest; changes = g.changes }) h

-- a struct of a list of structs
pub struct_in_leads : (w : ℕ) (schema : StructSchema) (i : ℕ) (bytes : List ℕ) (q : Place) → IsStruct schema → IsListStand (set_of schema) (StructType (number_of schema) (generic_of schema)) (tree bytes w) → i < list_length (tree bytes w) →
    HasStruct (tree bytes w) i → Planted bytes (place_words q) → placed_struct bytes q ≡ element_struct (tree bytes w) i →
    ((new : List ℕ) → Planted new (place_words q) → PartChanges (place_words q) bytes new → Leaves w (with_struct_element i (placed_struct new q) (tree bytes w)) bytes new) →
    LeadsOn (ElementGoes w (set_of schema) (StructType (number_of schema) (generic_of schema)) i bytes) (at.Struct q schema) bytes
struct_in_leads w schema i bytes q stands list inside there planted is leaves =
    let set = set_of schema in
    let b = number_of schema in
    let g = generic_of schema in
    let x : Tree = tree bytes w in
    record {
      stands = record { stands = stands; planted = planted; room = subst (IsUnder schema) (sym is) (fits_at set b g x i there list.sound) };
      onward = λ rest end k later h.
          let left : Leaves w (with_struct_element i (placed_struct later q) x) bytes later = leaves later h.planted h.changes in
          record {
            walks = subst (λ (z : Tree). ElementWalks set (StructType b g) i rest end x k z) (sym left.tree)
                (element_in_struct set x i rest end inside b g k (placed_struct later q) (subst (λ (y : StructTree). StructWalks set b rest end y k (placed_struct later q)) is h.walks));
            forest = left.forest;
            changes = left.changes;
          };
    }

-- the pointer of an element of a list of lists, at a word, after the step has filled it
pub record IsInnerFilled (w : ℕ) (set : Schemas) (e : SchemaType) (i : ℕ) (old m : List ℕ) (q : ℕ) : Type 0 where
  -- the word is that of the element
  pub here : tree old q ≡ element_pointer (tree old w) i 1
  -- what stood there was within the limits of a fill, and sound
  pub within : fill_due set VoidValue (ListType e) (tree old q) ≡ None
  pub whole : first_fault (tree old q) ≡ None
  -- what stands there now, and what else that changed
  pub filled : tree m q ≡ entered_list set e (tree old q)
  pub changes : Changes q old m
  -- what changes at the word is all that changes of the list
  pub leaves : (new : List ℕ) → Forest new q → Changes q old new → Leaves w (with_pointer_element i (tree new q) (tree old w)) old new

-- a list of a list of lists, after the step has filled it
pub list_in_leads : (w : ℕ) (set : Schemas) (e : SchemaType) (i : ℕ) (old m : List ℕ) (q : ℕ) → i < list_length (tree old w) → HasPointer (tree old w) i → IsInnerFilled w set e i old m q → IsAtList q set e m →
    (now : At) → ((bytes : List ℕ) → IsAtList q set e bytes → IsAt now bytes) →
    ((old : List ℕ) (path : List Step) (end : Ending) (k : Reply) (new : List ℕ) → HopGoes now old path end k new → ListGoes q set e old path end k new) → LeadsOn (ElementGoes w set (ListType e) i old) now m
list_in_leads w set e i old m q inside there inner list now stands goes =
    let x : Tree = tree old w in
    record {
      stands = stands m list;
      onward = λ rest end k later h.
          let g : ListGoes q set e m rest end k later = goes m rest end k later h in
          let left : Leaves w (with_pointer_element i (tree later q) x) old later = inner.leaves later g.forest (at_then inner.changes g.changes) in
          record {
            walks = subst (λ (z : Tree). ElementWalks set (ListType e) i rest end x k z) (sym left.tree)
                (element_in_list set x i rest end inside e k (tree later q) there
                (subst (λ (z : Tree). fill_due set VoidValue (ListType e) z ≡ None) inner.here inner.within)
                (subst (λ (z : Tree). first_fault z ≡ None) inner.here inner.whole)
                (subst (λ (z : Tree). ListWalks set e rest end z k (tree later q)) (inner.filled ∙ ap (entered_list set e) inner.here) g.walks));
            forest = left.forest;
            changes = left.changes;
          };
    }

-- ---- the path ----

-- a call from the start does what its rest does from where the walk stands
abbrev pub Onward : Place → StructSchema → List ℕ → List Step → At → List ℕ → List Step → Type 0
Onward p schema old path now bytes rest = (end : Ending) (k : Reply) (later : List ℕ) → HopGoes now bytes rest end k later → StructGoes p schema old path end k later

pub onward_start : (p : Place) (schema : StructSchema) (old : List ℕ) (path : List Step) → Onward p schema old path (at.Struct p schema) old path
onward_start p schema old path end k later g = g

-- the steps from an index on
rest_from : (path : List Step) (i : ℕ) (d : Step) → i < length path → get_or path i d ∷ drop (i + 1) path ≡ drop i path
rest_from path i d inside = sym (drop_more path i d inside)

pub onward_step : (p : Place) (schema : StructSchema) (old : List ℕ) (path : List Step) (now next : At) (before bytes : List ℕ) (i : ℕ) (d : Step) → i < length path →
    Onward p schema old path now before (drop i path) → LeadsOn (first_step (HopGoes now before) (get_or path i d)) next bytes → Onward p schema old path next bytes (drop (i + 1) path)
onward_step p schema old path now next before bytes i d inside onward h end k later g =
    onward end k later (subst (λ (rest : List Step). HopGoes now before rest end k later) (rest_from path i d inside) (h.onward (drop (i + 1) path) end k later g))

pub onward_refused : (p : Place) (schema : StructSchema) (old : List ℕ) (path : List Step) (now : At) (before bytes : List ℕ) (i : ℕ) (d : Step) (kind : ErrorKind) → i < length path →
    Onward p schema old path now before (drop i path) → ((rest : List Step) (end : Ending) → first_step (HopGoes now before) (get_or path i d) rest end (reply.Refused kind) bytes) → (end : Ending) → StructGoes p schema old path end (reply.Refused kind) bytes
onward_refused p schema old path now before bytes i d kind inside onward h end =
    onward end (reply.Refused kind) bytes (subst (λ (rest : List Step). HopGoes now before rest end (reply.Refused kind) bytes) (rest_from path i d inside) (h (drop (i + 1) path) end))

pub onward_end : (p : Place) (schema : StructSchema) (old : List ℕ) (path : List Step) (now : At) (before bytes : List ℕ) (i : ℕ) (end : Ending) (k : Reply) → length path ≤ i →
    Onward p schema old path now before (drop i path) → HopGoes now before [] end k bytes → StructGoes p schema old path end k bytes
onward_end p schema old path now before bytes i end k past onward g =
    onward end k bytes (subst (λ (rest : List Step). HopGoes now before rest end k bytes) (sym (at_drop_all (λ (rest : List Step). rest) path i past)) g)
