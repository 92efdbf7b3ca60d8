-- A request in which nothing is a cause is not refused for it.
use Rattle.std.proofs.Common.{ℕ, zero, suc, ◌+◌, ◌<◌, ◌≡◌, ◌≢◌, ◌∙◌, ◌&&◌, ap, arith, not, refl, subst, sym, Bool, true, false, List, [], ◌∷◌, ◌++◌, length, map, slice_get, Option, Some, None, Result, Ok, Err}
use Rattle.std.proofs.lemmas.Bool.{and_parts}
use Rattle.std.proofs.lemmas.Str.{IsUtf8-from_is_utf8}
use Rattle.std.specs.Str.{IsUtf8, is_utf8}
use Rattle.capnp_device.specs.declared.error.ErrorKind.{ErrorKind}
use Rattle.capnp_device.specs.declared.error.ErrorKind.TheVariants.{NameNotUtf8, NodeNotFound}
use Rattle.capnp_schema.specs.Schema.{Brand, Field, Node}
use Rattle.capnp_schema.specs.Types.{SchemaType}
use Rattle.capnp_request.specs.Order.{Begun, Made, add_struct, at_node, begin_enum, begin_struct, enum_made, is_node_there, make_all, make_enum, make_next, make_struct, name_files, name_root, name_roots, new_ids, nothing_made, nothing_named, result_of, struct_made, with_struct}
use Rattle.capnp_request.specs.Scopes.{is_met, node_named, scopes_of}
use Rattle.capnp_request.specs.Terms.{AnnotationNode, EnumNode, FieldTerm, NodeKind, OtherNode, RequestTerm, Said, SchemaNode, StructNode, StructPart}
use Rattle.capnp_request.specs.Types.{is_enum, is_of_kind, is_root, is_struct_kind, number_struct}
use Rattle.capnp_request.specs.Work.{Bound, Entry, GroupOf, Named, Place, Whole, Work, work_continued, work_of, work_said, ◌>>=◌}
use Rattle.capnp_request_meaning.specs.Laws.{NothingIsMissing, RefusalsHaveCauses}
use Rattle.capnp_request_meaning.specs.Meaning.{AreEnumsNamed, AreFieldsFrom, AreNodesFrom, IsEnumNamed, IsGroupEntry, Numbers}
use Rattle.capnp_request_meaning.specs.Sound.{AnySaid, IsNodeSound, IsNodeOfKind, IsRequestSound, IsTextFor, Refusal}
use Rattle.capnp_request_meaning.proofs.EntriesSound.{Fine, FineWith, IsFineAt, IsFinePlace, enum_fine, fine_keeps, struct_fine}
use Rattle.capnp_request_meaning.proofs.ListsFound.{among_first}
use Rattle.capnp_request_meaning.proofs.NamesMeant.{IsBegun, IsEnumBegun, enum_begun, struct_begun}
use Rattle.capnp_request_meaning.proofs.NamesSound.{IsFieldMade, IsReady, begin_said, enum_said, id_at, said_at}
use Rattle.capnp_request_meaning.proofs.WorkSound.{IfGood, IsGood, IsOther, good_bind, good_said}
use Rattle.capnp_request_meaning.proofs.NumbersKept.{IsFit, enum_fit, files_fit, struct_fit}
use Rattle.capnp_request_meaning.proofs.OrderMeant.{AreMade, IsStep, enum_step, nodes_counted, none_made, struct_step}
use Rattle.capnp_request_meaning.proofs.SetsMeant.{NodeAt, node_of_entry}
use Rattle.capnp_request_meaning.proofs.TextsKept.{AreTexts, dotted_text}
use Rattle.capnp_request_meaning.proofs.TypesMeant.{numbers}
use Rattle.capnp_request_meaning.proofs.TypesSound.{AreNodesSound, scopes_said, struct_good}
use Rattle.capnp_request_meaning.proofs.Works.{Grows, IfDone, grows_none, grows_on}

-- ---- the parent of a group has the field ----

record NameAt (gs : List Field) (j : ℕ) : Type 0 where
  name : List ℕ
  text : is_utf8 name ≡ true
  there : slice_get (map (λ (f : Field). f.name) gs) j ≡ Some name

field_there : (k : Numbers) (inside : List Bound) (n i : ℕ) (fs : List (Said FieldTerm)) (gs : List Field) (us : List SchemaType) (ts : List (List SchemaType)) (j : ℕ) (x : Said FieldTerm) → AreFieldsFrom k inside n i fs gs us ts → slice_get fs j ≡ Some x → NameAt gs j
field_there k inside n i [] [] [] [] j x h there = absurd (cc)
field_there k inside n i (Ok f ∷ fs) (g ∷ gs) (u ∷ us) (t ∷ ts) zero x h there = record { name = g.name; text = h.0.text; there = refl }
field_there k inside n i (Ok f ∷ fs) (g ∷ gs) (u ∷ us) (t ∷ ts) (suc j) x h there = let rest : NameAt gs j = field_there k inside n (i + 1) fs gs us ts j x h.1 there in record { name = rest.name; text = rest.text; there = rest.there }
field_there k inside n i fs gs us ts j x h there = absurd h

same_node : (o : Option SchemaNode) (m n : SchemaNode) → o ≡ Some m → o ≡ Some n → m ≡ n
same_node o m n e f = let h : ◌≡◌ {A = Option SchemaNode} (Some m) (Some n) = sym e ∙ f in cc

same_part : (k : NodeKind) (p q : StructPart) → k ≡ StructNode p → k ≡ StructNode q → p ≡ q
same_part k p q e f = let h : StructNode p ≡ StructNode q = sym e ∙ f in cc

same_list : (d : Said (List (Said FieldTerm))) (a b : List (Said FieldTerm)) → d ≡ Ok a → d ≡ Ok b → a ≡ b
same_list d a b e f = let h : ◌≡◌ {A = Said (List (Said FieldTerm))} (Ok a) (Ok b) = sym e ∙ f in cc

module _ (nodes : List SchemaNode) (strict : Bool) (m : Made) (s : Named) (made : AreMade nodes strict m s) where
  parent_ready : (e : Entry) (p j : ℕ) → p < length m.nodes → IsGroupEntry nodes s.entries e p j → IsFieldMade m.nodes p j
  parent_ready e p j less g =
      let count : length made.done ≡ length m.nodes = nodes_counted (numbers nodes strict s) [] [] made.done m.nodes m.brands made.meant in
      let inside : p < length made.done = omega (arith, less, count) in
      let there : slice_get made.done p ≡ Some g.parent = among_first made.done made.rest p g.parent inside (ap (λ xs. slice_get xs p) (sym made.entries_are) ∙ g.numbered) in
      let at_p : NodeAt (numbers nodes strict s) made.done g.parent m.nodes p = node_of_entry (numbers nodes strict s) made.done m.nodes m.brands p g.parent made.meant there in
      let one : at_p.is.node ≡ g.node = same_node (node_named nodes g.parent.node) at_p.is.node g.node at_p.is.first g.first in
      let part : at_p.is.part ≡ g.part = same_part at_p.is.node.kind at_p.is.part g.part at_p.is.struct (ap (λ (n : SchemaNode). n.kind) one ∙ g.struct) in
      let members : at_p.is.members ≡ g.members = same_list at_p.is.part.fields at_p.is.members g.members at_p.is.listed (ap (λ (q : StructPart). q.fields) part ∙ g.listed) in
      let field : NameAt at_p.node.fields j = field_there (numbers nodes strict s) g.parent.bound (length at_p.before) 0 at_p.is.members at_p.node.fields at_p.brand.field_types at_p.brand.annotation_types.children j (Ok g.field) at_p.is.fields (ap (λ xs. slice_get xs j) members ∙ g.member) in
      record { parent = at_p.node; field = field.name; parent_text = IsUtf8-from_is_utf8 at_p.node.display_name at_p.is.text; field_text = IsUtf8-from_is_utf8 field.name field.text; numbered = at_p.there; member = field.there }

  ready : (e : Entry) (p : Place) → IsFinePlace nodes s.entries (length m.nodes) e p → IsReady m.nodes p
  ready e Whole h = tt
  ready e (GroupOf p j) h = parent_ready e p j h.0 h.1

-- the names of structs and enums are texts
nodes_text : (k : Numbers) (earlier : List Entry) (before : List Node) (es : List Entry) (ns : List Node) (bs : List Brand) → AreNodesFrom k earlier before es ns bs → AreTexts (map (λ (n : Node). n.display_name) ns)
nodes_text k earlier before [] [] [] h = tt
nodes_text k earlier before (e ∷ es) (n ∷ ns) (b ∷ bs) h = (IsUtf8-from_is_utf8 n.display_name h.0.text, nodes_text k (earlier ++ e ∷ []) (before ++ n ∷ []) es ns bs h.1)
nodes_text k earlier before es ns bs h = absurd h

enum_text : (cause : Refusal) (nodes : List SchemaNode) → AreNodesSound cause nodes → NameNotUtf8 ≡ cause.kind → (id : ℕ) (name : List ℕ) → IsEnumNamed nodes id name → IsUtf8 name
enum_text cause nodes named same id name is =
    let sound : IsNodeSound cause nodes is.node = named id is.node is.first in
    subst IsUtf8 (sym is.is) (dotted_text is.display (IsUtf8-from_is_utf8 is.display (said_at cause (IsTextFor cause) is.node.display_name is.display sound.display_name is.said same)))

enums_text : (cause : Refusal) (nodes : List SchemaNode) → AreNodesSound cause nodes → NameNotUtf8 ≡ cause.kind → (ids : List ℕ) (names : List (List ℕ)) → AreEnumsNamed nodes ids names → AreTexts names
enums_text cause nodes named same [] [] h = tt
enums_text cause nodes named same (id ∷ ids) (name ∷ names) h = (enum_text cause nodes named same id name h.0, enums_text cause nodes named same ids names h.1)
enums_text cause nodes named same [] (name ∷ names) h = absurd h
enums_text cause nodes named same (id ∷ ids) [] h = absurd h

-- ---- one step ----

kind_there : (test : NodeKind → Bool) (o : Option SchemaNode) (n : SchemaNode) → is_of_kind test o ≡ true → o ≡ Some n → test n.kind ≡ true
kind_there test o n h e = sym (ap (is_of_kind test) e) ∙ h

module _ (cause : Refusal) (other : IsOther cause) (nodes : List SchemaNode) (named : AreNodesSound cause nodes) where
  module _ (m : Made) (e : Entry) where
    add_fine : (b : Begun) → IsBegun nodes m e b → IsNodeOfKind cause is_struct_kind nodes e.node → IsGood cause (FineWith cause nodes (length m.nodes) e) (add_struct nodes cause.strict m e.node e.bound b)
    add_fine b begun is =
        good_bind cause (FineWith cause nodes (length m.nodes) e) (struct_made nodes cause.strict (length m.nodes) e.node e.bound b.name b.node) (λ made. work_of (with_struct nodes cause.strict m b made)) (struct_fine cause other nodes named (length m.nodes) e b.name b.node begun.first (λ same. kind_there is_struct_kind (node_named nodes e.node) b.node (is same) begun.first)) (λ made s i. i)

    without : (r : Result (Made × Named) ErrorKind) → IfGood cause (FineWith cause nodes (length m.nodes) e) r → IfGood cause (Fine cause nodes) r
    without (Err kind) h = h
    without (Ok p) h = record { entries = h.entries; enums = h.enums }

    struct_next : (s : Named) → slice_get s.entries (length m.nodes) ≡ Some e → Fine cause nodes s → AreMade nodes cause.strict m s → IfGood cause (Fine cause nodes) (make_struct nodes cause.strict m e s)
    struct_next s here fine made =
        let at_e : IsFineAt cause nodes s.entries (length m.nodes) e = fine.entries (length m.nodes) e here in
        without (make_struct nodes cause.strict m e s)
        (good_said cause (FineWith cause nodes (length m.nodes) e) (begin_struct nodes m e s.enums) (add_struct nodes cause.strict m e.node e.bound) AnySaid (begin_said cause other nodes named m e s.enums (nodes_text (numbers nodes cause.strict s) [] [] made.done m.nodes m.brands made.meant) (λ same. enums_text cause nodes named same made.named.ids m.enum_names made.named.named) fine.enums at_e.struct (ready nodes cause.strict m s made e e.place at_e.place))
        (λ b h u. add_fine b (struct_begun nodes m e s.enums b h) at_e.struct) s (record { there = here; entries = fine.entries; enums = fine.enums }))

  enum_next : (m : Made) (id : ℕ) (s : Named) → slice_get s.enums (length m.enums) ≡ Some id → Fine cause nodes s → IfGood cause (Fine cause nodes) (make_enum nodes cause.strict m id s)
  enum_next m id s here fine =
      let is : IsNodeOfKind cause is_enum nodes id = id_at cause nodes s.enums (length m.enums) id fine.enums here in
      good_said cause (Fine cause nodes) (begin_enum nodes id) (λ b. enum_made nodes cause.strict id b.0 b.1 >>= (λ e. work_of (record m { enums = m.enums ++ e ∷ [] }))) AnySaid (enum_said cause other nodes named id is) (begun is) s fine
    where
      begun : IsNodeOfKind cause is_enum nodes id → (b : List ℕ × SchemaNode) → begin_enum nodes id ≡ Ok b → Unit {0} → IsGood cause (Fine cause nodes) (enum_made nodes cause.strict id b.0 b.1 >>= (λ e. work_of (record m { enums = m.enums ++ e ∷ [] })))
      begun is b h u =
          let first : IsEnumBegun nodes id b.0 b.1 = enum_begun nodes id b h in
          good_bind cause (Fine cause nodes) (enum_made nodes cause.strict id b.0 b.1) (λ e. work_of (record m { enums = m.enums ++ e ∷ [] })) (enum_fine cause other nodes named id b.0 b.1 first.first (λ same. kind_there is_enum (node_named nodes id) b.1 (is same) first.first)) (λ e t i. i)

  -- ---- all steps ----

  abbrev AnyState : Named → Type 0
  AnyState s = Unit {0}

  abbrev AreMadeLater : Made → Named → Type 0
  AreMadeLater m s = (z : Named) → Grows s z → AreMade nodes cause.strict m z

  abbrev NeverMissing : (Made → Work Made) → Type 0
  NeverMissing again = (m : Made) (s : Named) → Fine cause nodes s → AreMadeLater m s → IsFit nodes s → IfGood cause AnyState (again m s)

  step_then : (again : Made → Work Made) → NeverMissing again → (s : Named) (m : Made) (r : Result (Made × Named) ErrorKind) → AreMadeLater m s → IfGood cause (Fine cause nodes) r → IsStep nodes cause.strict s m r → IfDone (λ (after : Made) t. IsFit nodes t) r → IfGood cause AnyState (work_continued again r)
  step_then again h s m (Err kind) later good step fit = good
  step_then again h s m (Ok p) later good step fit = h p.0 p.1 good (λ z g. step.later z g (later z (grows_on s p.1 z step.grown g))) fit

  next_then : (again : Made → Work Made) → NeverMissing again → (m : Made) (s : Named) (o : Option Entry) (q : Option ℕ) → slice_get s.entries (length m.nodes) ≡ o → slice_get s.enums (length m.enums) ≡ q → Fine cause nodes s → AreMadeLater m s → IsFit nodes s → IfGood cause AnyState (make_next nodes cause.strict again m o q s)
  next_then again h m s (Some e) q entry enum fine later fit = step_then again h s m (make_struct nodes cause.strict m e s) later (struct_next m e s entry fine (later s (grows_none s))) (struct_step nodes cause.strict m e s entry fit) (struct_fit nodes cause.strict m e s entry fit)
  next_then again h m s None (Some id) entry enum fine later fit = step_then again h s m (make_enum nodes cause.strict m id s) later (enum_next m id s enum fine) (enum_step nodes cause.strict m id s enum) (enum_fit nodes cause.strict m id s fit)
  next_then again h m s None None entry enum fine later fit = tt

  all_then : (steps : ℕ) → NeverMissing (make_all nodes cause.strict steps)
  all_then zero m s fine later fit = other
  all_then (suc steps) m s fine later fit = next_then (make_all nodes cause.strict steps) (all_then steps) m s (slice_get s.entries (length m.nodes)) (slice_get s.enums (length m.enums)) refl refl fine later fit

  -- ---- roots ----

  abbrev AreThere : List ℕ → Type 0
  AreThere [] = Unit {0}
  AreThere (id ∷ ids) = (is_node_there (node_named nodes id) ≡ true) × AreThere ids

  there_more : (a b : List ℕ) → AreThere a → AreThere b → AreThere (a ++ b)
  there_more [] b h k = k
  there_more (x ∷ a) b h k = (h.0, there_more a b h.1 k)

  new_there : (ids met : List ℕ) → AreThere (new_ids nodes ids met)
  new_there [] met = tt
  new_there (id ∷ ids) met = go (not (is_met met id) && is_node_there (node_named nodes id)) refl (new_there ids (id ∷ met)) (new_there ids met)
    where
      go : (q : Bool) → (not (is_met met id) && is_node_there (node_named nodes id)) ≡ q → AreThere (new_ids nodes ids (id ∷ met)) → AreThere (new_ids nodes ids met) → AreThere (elim q as (λ _. List ℕ) [ true ↦ id ∷ new_ids nodes ids (id ∷ met) | false ↦ new_ids nodes ids met ])
      go true is h k = let parts = and_parts (not (is_met met id)) (is_node_there (node_named nodes id)) is in (parts.1, h)
      go false is h k = k

  root_struct : (k : NodeKind) → is_root k ≡ true → is_struct_kind k ≡ true
  root_struct (StructNode part) e = refl
  root_struct (EnumNode members) e = absurd (cc)
  root_struct (AnnotationNode t) e = absurd (cc)
  root_struct OtherNode e = absurd (cc)

  root_good : (id : ℕ) (n : SchemaNode) → node_named nodes id ≡ Some n → (q : Bool) → is_root n.kind ≡ q → IsGood cause (Fine cause nodes) (name_root nodes cause.strict id q)
  root_good id n first false e = λ s i. i
  root_good id n first true e =
      let is : IsNodeOfKind cause is_struct_kind nodes id = λ same. ap (is_of_kind is_struct_kind) first ∙ root_struct n.kind e in
      good_said cause (Fine cause nodes) (scopes_of nodes id) (λ bound. number_struct id bound >>= (λ number. work_of [])) AnySaid (scopes_said cause nodes named id) (λ bound f u.
      good_bind cause (Fine cause nodes) (number_struct id bound) (λ number. work_of []) (struct_good cause other nodes named (Fine cause nodes) (fine_keeps cause nodes) id bound is) (λ number s i. i))

  abbrev within : (steps : ℕ) (met : List ℕ) (id : ℕ) (ids : List ℕ) → SchemaNode → Work (List ℕ)
  within steps met id ids n = work_said n.nested >>= (λ nested. name_root nodes cause.strict id (is_root n.kind) >>= (λ none. name_roots nodes cause.strict steps (new_ids nodes nested met ++ met) (ids ++ new_ids nodes nested met)))

  at_root : (o : Option SchemaNode) (f : SchemaNode → Work (List ℕ)) → is_node_there o ≡ true → ((n : SchemaNode) → o ≡ Some n → IsGood cause (Fine cause nodes) (f n)) → IsGood cause (Fine cause nodes) (at_node o f)
  at_root None f e h = absurd (cc)
  at_root (Some n) f e h = h n refl

  roots_good : (steps : ℕ) (met queue : List ℕ) → AreThere queue → IsGood cause (Fine cause nodes) (name_roots nodes cause.strict steps met queue)
  roots_good zero met queue h = λ s i. i
  roots_good (suc steps) met [] h = λ s i. i
  roots_good (suc steps) met (id ∷ ids) h = at_root (node_named nodes id) (within steps met id ids) h.0 (λ n first.
      let is : IsNodeSound cause nodes n = named id n first in
      good_said cause (Fine cause nodes) n.nested (λ nested. name_root nodes cause.strict id (is_root n.kind) >>= (λ none. name_roots nodes cause.strict steps (new_ids nodes nested met ++ met) (ids ++ new_ids nodes nested met))) AnySaid is.nested (λ nested e u.
      good_bind cause (Fine cause nodes) (name_root nodes cause.strict id (is_root n.kind)) (λ none. name_roots nodes cause.strict steps (new_ids nodes nested met ++ met) (ids ++ new_ids nodes nested met)) (root_good id n first (is_root n.kind) refl) (λ none.
      roots_good steps (new_ids nodes nested met ++ met) (ids ++ new_ids nodes nested met) (there_more ids (new_ids nodes nested met) h.1 (new_there nested met)))))

-- ---- the request ----

module _ (cause : Refusal) (other : IsOther cause) (r : RequestTerm) (sound : IsRequestSound cause r) where
  files_good : IsGood cause (Fine cause r.nodes) (name_files r.nodes cause.strict r.files)
  files_good = good_said cause (Fine cause r.nodes) r.files (λ ids. name_roots r.nodes cause.strict (length r.nodes) (new_ids r.nodes ids []) (new_ids r.nodes ids [])) AnySaid sound.files
      (λ ids e u. roots_good cause other r.nodes sound.nodes (length r.nodes) (new_ids r.nodes ids []) (new_ids r.nodes ids []) (new_there cause other r.nodes sound.nodes ids []))

  result_other : (x : Result (Made × Named) ErrorKind) → IfGood {A = Made} cause (λ s. Unit {0}) x → result_of x ≢ Err cause.kind
  result_other (Ok p) h e = cc
  result_other (Err kind) h e = let same : kind ≡ cause.kind = cc in h same

  convert_other : (x : Result (List ℕ × Named) ErrorKind) → IfGood {A = List ℕ} cause (Fine cause r.nodes) x → IfDone (λ (none : List ℕ) t. IsFit r.nodes t) x → result_of (work_continued (λ none. make_all r.nodes cause.strict (65536 + suc (length r.nodes)) nothing_made) x) ≢ Err cause.kind
  convert_other (Err kind) h fit = result_other (Err kind) h
  convert_other (Ok p) h fit = result_other (make_all r.nodes cause.strict (65536 + suc (length r.nodes)) nothing_made p.1) (all_then cause other r.nodes sound.nodes (65536 + suc (length r.nodes)) nothing_made p.1 h (λ z g. none_made r.nodes cause.strict z) fit)

  nothing_fine : Fine cause r.nodes nothing_named
  nothing_fine = record { entries = λ n e there. absurd (cc); enums = tt }

pub refusals_caused : RefusalsHaveCauses
refusals_caused cause r bounds sound =
    let other : IsOther cause = λ e. bounds (sym e) in
    convert_other cause other r sound (name_files r.nodes cause.strict r.files nothing_named) (files_good cause other r sound nothing_named (nothing_fine cause other r sound)) (files_fit r.nodes cause.strict r.files)

pub nothing_missing : NothingIsMissing
nothing_missing r strict sound = refusals_caused (record { kind = NodeNotFound; strict = strict }) r (λ e. cc) sound
