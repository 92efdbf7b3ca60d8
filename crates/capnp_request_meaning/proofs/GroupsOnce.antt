-- No two entries are the group of one field: groups are numbered by the entry and the field that name them.
use Rattle.std.proofs.Common.{ℕ, zero, suc, ◌+◌, ◌<◌, ◌≡◌, ◌∙◌, ◌⊎◌, ◌&&◌, ap, arith, inl, inr, refl, subst, sym, nat_lt, Bool, true, false, List, [], ◌∷◌, ◌++◌, length, map, slice_get, Option, Some, None, Result, Ok, Err}
use Rattle.std.proofs.lemmas.Bool.{cases_order}
use Rattle.std.proofs.lemmas.List.{length-append}
use Rattle.std.proofs.lemmas.Option.{slice_get_within}
use Rattle.capnp_device.specs.declared.error.ErrorKind.{ErrorKind}
use Rattle.capnp_device.specs.declared.error.ErrorKind.TheVariants.{NodeNotFound, TooManyTypes}
use Rattle.capnp_schema.specs.Schema.{Annotation, Brand, FieldKind, Group, Node, Slot}
use Rattle.capnp_schema.specs.Types.{SchemaType, StructType}
use Rattle.capnp_request.specs.Conversion.{Converted, Note, annotations_of, converted_field, converted_name, field_of, fields_of, is_untyped, is_untyped_default, kind_of, notes_of}
use Rattle.capnp_request.specs.Order.{Begun, Made, add_struct, all_fields, at_struct, begin_struct, make_all, make_enum, make_next, make_struct, name_files, nothing_named, struct_made, with_struct}
use Rattle.capnp_request.specs.Scopes.{node_named}
use Rattle.capnp_request.specs.Terms.{AnnotationNode, AnnotationTerm, EnumNode, FieldKindTerm, FieldTerm, GroupTerm, NodeKind, OtherNode, RequestTerm, Said, SchemaNode, SlotTerm, StructNode, StructPart, UnreadField}
use Rattle.capnp_request.specs.Types.{add_entry, is_of_kind, is_struct_kind, type_of, where_node}
use Rattle.capnp_request.specs.Values.{value_stated}
use Rattle.capnp_request.specs.Work.{Bound, Entry, GroupOf, MarkedType, Named, Place, Seen, Whole, Work, plain, seen_in, where_so, work_continued, work_of, work_said, ◌>>=◌}
use Rattle.capnp_request_meaning.specs.Meaning.{AreGroupsDistinct, IsAnnotationOf, IsSaidList, IsTypeOf}
use Rattle.capnp_request_meaning.proofs.AnnotationsMeant.{annotations_meant}
use Rattle.capnp_request_meaning.proofs.EntriesKept.{KeepsWhole, whole_entry}
use Rattle.capnp_request_meaning.proofs.EnumsMeant.{IsEnumAdded, enum_added}
use Rattle.capnp_request_meaning.proofs.FieldsMeant.{group_entry}
use Rattle.capnp_request_meaning.proofs.Leads.{AnyEntries, any_whole}
use Rattle.capnp_request_meaning.proofs.ListsFound.{before_or_last}
use Rattle.capnp_request_meaning.proofs.NodesMeant as made_of
use Rattle.capnp_request_meaning.proofs.RootsMeant.{AreRooted, files_named}
use Rattle.capnp_request_meaning.proofs.TypesMeant.{numbers, type_meant}
use Rattle.capnp_request_meaning.proofs.Works.{Done, IfDone, IsWork, grows_none, seen_alone}

-- ---- places of groups ----

-- of an entry before another, or of a field of that one before another
abbrev pub IsPlacedBefore : (n i : ℕ) → Place → Type 0
IsPlacedBefore n i Whole = Unit {0}
IsPlacedBefore n i (GroupOf p l) = (p < n) ⊎ ((p ≡ n) × (l < i))

pub record AreOnceBefore (n i : ℕ) (es : List Entry) : Type 0 where
  pub once : AreGroupsDistinct es
  pub before : (j : ℕ) (e : Entry) → slice_get es j ≡ Some e → IsPlacedBefore n i e.place

pub once_none : (n i : ℕ) → AreOnceBefore n i []
once_none n i = record { once = λ j k p l e f less a b is_e is_f. absurd (cc); before = λ j e a. absurd (cc) }

-- the places of other groups
abbrev pub IsFresh : (n i : ℕ) → Entry → Type 0
IsFresh n i g = (p l : ℕ) → g.place ≡ GroupOf p l → IsPlacedBefore n i (GroupOf p l) → ⊥

pub groups_more : (n i : ℕ) (es : List Entry) (g : Entry) → AreOnceBefore n i es → IsFresh n i g → AreGroupsDistinct (es ++ g ∷ [])
groups_more n i es g k fresh a b p l e f less at_a at_b is_e is_f = go (before_or_last es g a e at_a) (before_or_last es g b f at_b)
  where
    go : (slice_get es a ≡ Some e) ⊎ ((a ≡ length es) × (g ≡ e)) → (slice_get es b ≡ Some f) ⊎ ((b ≡ length es) × (g ≡ f)) → ⊥
    go (inl x) (inl y) = k.once a b p l e f less x y is_e is_f
    go (inl x) (inr y) = fresh p l (ap (λ (z : Entry). z.place) y.1 ∙ is_f) (subst (IsPlacedBefore n i) is_e (k.before a e x))
    go (inr x) (inl y) = let inside : b < length es = slice_get_within es b f y in absurd (omega (arith, inside, less, x.0))
    go (inr x) (inr y) = absurd (omega (arith, less, x.0, y.0))

once_more : (n i m j : ℕ) (es : List Entry) (g : Entry) → AreOnceBefore n i es → ((p : Place) → IsPlacedBefore n i p → IsPlacedBefore m j p) → IsPlacedBefore m j g.place → IsFresh n i g → AreOnceBefore m j (es ++ g ∷ [])
once_more n i m j es g k later last fresh = record { once = groups_more n i es g k fresh; before = λ a e there. go a e (before_or_last es g a e there) }
  where
    go : (a : ℕ) (e : Entry) → (slice_get es a ≡ Some e) ⊎ ((a ≡ length es) × (g ≡ e)) → IsPlacedBefore m j e.place
    go a e (inl old) = later e.place (k.before a e old)
    go a e (inr new) = subst (λ (x : Entry). IsPlacedBefore m j x.place) new.1 last

-- a struct node is no group
pub once_whole : (n i : ℕ) (nodes : List SchemaNode) → KeepsWhole (AreOnceBefore n i) nodes
once_whole n i nodes es id bound few none scopes k = once_more n i n i es (whole_entry id bound) k (λ p h. h) tt (λ p l e h. absurd (cc))

pub groups_whole : (es : List Entry) (id : ℕ) (bound : List Bound) → AreGroupsDistinct es → AreGroupsDistinct (es ++ whole_entry id bound ∷ [])
groups_whole es id bound once a b p l e f less at_a at_b is_e is_f = go (before_or_last es (whole_entry id bound) a e at_a) (before_or_last es (whole_entry id bound) b f at_b)
  where
    go : (slice_get es a ≡ Some e) ⊎ ((a ≡ length es) × (whole_entry id bound ≡ e)) → (slice_get es b ≡ Some f) ⊎ ((b ≡ length es) × (whole_entry id bound ≡ f)) → ⊥
    go (inl x) (inl y) = once a b p l e f less x y is_e is_f
    go (inl x) (inr y) = let place : Whole ≡ GroupOf p l = ap (λ (z : Entry). z.place) y.1 ∙ is_f in absurd (cc)
    go (inr x) y = let place : Whole ≡ GroupOf p l = ap (λ (z : Entry). z.place) x.1 ∙ is_e in absurd (cc)

-- the group of the next field
placed_next : (n i : ℕ) (p : Place) → IsPlacedBefore n i p → IsPlacedBefore n (i + 1) p
placed_next n i Whole h = tt
placed_next n i (GroupOf p l) (inl h) = inl h
placed_next n i (GroupOf p l) (inr h) = inr (h.0, omega (arith, h.1))

not_yet : (n i : ℕ) → IsPlacedBefore n i (GroupOf n i) → ⊥
not_yet n i (inl h) = omega (arith, h)
not_yet n i (inr h) = omega (arith, h.1)

pub group_fresh : (n i id : ℕ) (inside : List Bound) → IsFresh n i (group_entry id inside n i)
group_fresh n i id inside p l e h = not_yet n i (subst (IsPlacedBefore n i) (sym e) h)

pub once_group : (n i id : ℕ) (inside : List Bound) (es : List Entry) → AreOnceBefore n i es → AreOnceBefore n (i + 1) (es ++ group_entry id inside n i ∷ [])
once_group n i id inside es k = once_more n i n (i + 1) es (group_entry id inside n i) k (placed_next n i) (inr (refl, omega arith)) (group_fresh n i id inside)

pub once_next : (n i : ℕ) (es : List Entry) → AreOnceBefore n i es → AreOnceBefore n (i + 1) es
once_next n i es k = record { once = k.once; before = λ j e there. placed_next n i e.place (k.before j e there) }

placed_behind : (n i m : ℕ) (p : Place) → n < m → IsPlacedBefore n i p → IsPlacedBefore m 0 p
placed_behind n i m Whole less h = tt
placed_behind n i m (GroupOf p l) less (inl h) = inl (omega (arith, h, less))
placed_behind n i m (GroupOf p l) less (inr h) = inl (omega (arith, h.0, less))

pub once_behind : (n i m : ℕ) (es : List Entry) → n < m → AreOnceBefore n i es → AreOnceBefore m 0 es
once_behind n i m es less k = record { once = k.once; before = λ j e there. placed_behind n i m e.place less (k.before j e there) }

-- two that are the group of one field are one
pub group_is_one : (es : List Entry) → AreGroupsDistinct es → (i j p l : ℕ) (e f : Entry) → slice_get es i ≡ Some e → slice_get es j ≡ Some f → e.place ≡ GroupOf p l → f.place ≡ GroupOf p l → i ≡ j
group_is_one es once i j p l e f a b is_e is_f = go (cases_order i j)
  where
    go : (i ≡ j) ⊎ ((i < j) ⊎ (j < i)) → i ≡ j
    go (inl h) = h
    go (inr (inl h)) = absurd (once i j p l e f h a b is_e is_f)
    go (inr (inr h)) = absurd (once j i p l f e h b a is_f is_e)

-- ---- work ----

abbrev pub IfOnce : {A : Type 0} → (n i : ℕ) → Result (A × Named) ErrorKind → Type 0
IfOnce {A = A} n i x = IfDone (λ (a : A) t. AreOnceBefore n i t.entries) x

pub once_work : {A : Type 0} (n i : ℕ) (P : A → Named → Type 0) (w : Work A) (s : Named) → IsWork (AreOnceBefore n i) w P → AreOnceBefore n i s.entries → IfOnce n i (w s)
once_work {A = A} n i P w s h k = go (w s) (h s)
  where
    go : (x : Result (A × Named) ErrorKind) → IfDone (λ a t. Done (AreOnceBefore n i) s t (P a)) x → IfOnce n i x
    go (Err kind) d = tt
    go (Ok p) d = d.kept k

pub once_bind : {A B : Type 0} (n i m j : ℕ) (w : Work A) (f : A → Work B) (s : Named) → IfOnce n i (w s) → ((p : A × Named) → AreOnceBefore n i p.1.entries → IfOnce m j (f p.0 p.1)) → IfOnce m j ((w >>= f) s)
once_bind {A = A} {B = B} n i m j w f s h k = go (w s) h
  where
    go : (x : Result (A × Named) ErrorKind) → IfOnce n i x → IfOnce {A = B} m j (work_continued f x)
    go (Err kind) d = tt
    go (Ok p) d = k p d

once_said : {A B : Type 0} (n i : ℕ) (d : Said A) (f : A → Work B) (s : Named) → ((a : A) → d ≡ Ok a → IfOnce n i (f a s)) → IfOnce n i ((work_said d >>= f) s)
once_said n i (Ok a) f s h = h a refl
once_said n i (Err kind) f s h = tt

once_where : {A : Type 0} (n i : ℕ) (b : Bool) (kind : ErrorKind) (x : Result (A × Named) ErrorKind) → IfOnce n i x → IfOnce n i (where_so b kind x)
once_where n i true kind x h = h
once_where n i false kind x h = tt

module _ (nodes : List SchemaNode) (strict : Bool) where
  module _ (n : ℕ) (inside : List Bound) where
    -- ---- fields ----

    abbrev Annotated : Said (List (Said AnnotationTerm)) → List (Annotation × SchemaType) → Named → Type 0
    Annotated list ps z = IsSaidList (IsAnnotationOf (numbers nodes strict z) inside) list (map (λ (p : Annotation × SchemaType). p.0) ps) (map (λ (p : Annotation × SchemaType). p.1) ps)

    annotations_once : (i : ℕ) (list : Said (List (Said AnnotationTerm))) (s : Named) → AreOnceBefore n i s.entries → IfOnce n i (annotations_of nodes strict inside list s)
    annotations_once i list s k = once_work n i (Annotated list) (annotations_of nodes strict inside list) s (annotations_meant (AreOnceBefore n i) nodes (once_whole n i nodes) strict inside list) k

    pub kind_once : (i : ℕ) (k : FieldKindTerm) (s : Named) → AreOnceBefore n i s.entries → IfOnce n (i + 1) (kind_of nodes strict inside n i k s)
    kind_once i (SlotTerm offset t default) s k =
        once_bind n i n (i + 1) (seen_in (type_of nodes strict inside t)) (λ (typed : MarkedType × Seen). work_said (value_stated default) >>= (λ v. work_of (Slot offset v, typed.0, notes_of n i typed.1 (is_untyped typed.0.type && is_untyped_default default)))) s
        (once_work n i (λ (p : MarkedType × Seen) z. IsTypeOf (numbers nodes strict z) inside t p.0) (seen_in (type_of nodes strict inside t)) s (seen_alone (AreOnceBefore n i) (type_of nodes strict inside t) (λ u z. IsTypeOf (numbers nodes strict z) inside t u) (type_meant (AreOnceBefore n i) nodes (once_whole n i nodes) strict inside t)) k)
        (λ p h. once_said n (i + 1) (value_stated default) (λ v. work_of (Slot offset v, p.0.0, notes_of n i p.0.1 (is_untyped p.0.0.type && is_untyped_default default))) p.1 (λ v e. once_next n i p.1.entries h))
    kind_once i (GroupTerm id) s k =
        once_bind n (i + 1) n (i + 1) (where_node is_struct_kind nodes id (add_entry (group_entry id inside n i))) (λ number. work_of (Group number, plain (StructType number number), [])) s
        (once_where n (i + 1) (is_of_kind is_struct_kind (node_named nodes id)) NodeNotFound (add_entry (group_entry id inside n i) s)
        (once_where n (i + 1) (nat_lt (length s.entries) 65536) TooManyTypes (Ok (length s.entries, record s { entries = s.entries ++ group_entry id inside n i ∷ [] })) (once_group n i id inside s.entries k)))
        (λ p h. h)
    kind_once i (UnreadField kind) s k = tt

    abbrev with_kind : FieldTerm → List ℕ → FieldKind × MarkedType × List Note → Work Converted
    with_kind f name kind = annotations_of nodes strict inside f.annotations >>= (λ annotations. work_of (converted_field name f.discriminant_value kind annotations))

    abbrev with_name : ℕ → FieldTerm → List ℕ → Work Converted
    with_name i f name = kind_of nodes strict inside n i f.kind >>= with_kind f name

    pub field_once : (i : ℕ) (f : FieldTerm) (s : Named) → AreOnceBefore n i s.entries → IfOnce n (i + 1) (field_of nodes strict inside n i f s)
    field_once i f s k = once_said n (i + 1) f.name (λ bytes. work_said (converted_name bytes) >>= with_name i f) s (λ bytes e. once_said n (i + 1) (converted_name bytes) (with_name i f) s (λ name g.
        once_bind n (i + 1) n (i + 1) (kind_of nodes strict inside n i f.kind) (with_kind f name) s (kind_once i f.kind s k) (λ p h.
        once_bind n (i + 1) n (i + 1) (annotations_of nodes strict inside f.annotations) (λ annotations. work_of (converted_field name f.discriminant_value p.0 annotations)) p.1
        (annotations_once (i + 1) f.annotations p.1 h) (λ q l. l))))

    -- all fields behind the one before them
    pub fields_once : (i : ℕ) (fs : List (Said FieldTerm)) (s : Named) → AreOnceBefore n i s.entries → IfOnce (n + 1) 0 (fields_of nodes strict inside n i fs s)
    fields_once i [] s k = once_behind n i (n + 1) s.entries (omega arith) k
    fields_once i (Err kind ∷ fs) s k = tt
    fields_once i (Ok f ∷ fs) s k =
        once_bind n (i + 1) (n + 1) 0 (field_of nodes strict inside n i f) (λ first. fields_of nodes strict inside n (i + 1) fs >>= (λ rest. work_of (first ∷ rest))) s (field_once i f s k)
        (λ p h. once_bind (n + 1) 0 (n + 1) 0 (fields_of nodes strict inside n (i + 1) fs) (λ rest. work_of (p.0 ∷ rest)) p.1 (fields_once (i + 1) fs p.1 h) (λ q l. l))

    pub all_fields_once : (d : Said (List (Said FieldTerm))) (s : Named) → AreOnceBefore n 0 s.entries → IfOnce (n + 1) 0 (all_fields nodes strict inside n d s)
    all_fields_once (Ok fs) s k = fields_once 0 fs s k
    all_fields_once (Err kind) s k = tt

  -- ---- structs ----

  module _ (n id : ℕ) (inside : List Bound) (name : List ℕ) (node : SchemaNode) where
    abbrev with_part : StructPart → Work (Node × Brand × List Note)
    with_part part = all_fields nodes strict inside n part.fields >>= made_of.with_fields AnyEntries nodes (any_whole nodes) strict n id inside name node part

    struct_once : (s : Named) → AreOnceBefore n 0 s.entries → IfOnce (n + 1) 0 (struct_made nodes strict n id inside name node s)
    struct_once s k = go node.kind
      where
        go : (q : NodeKind) → IfOnce (n + 1) 0 (at_struct q with_part s)
        go (StructNode part) =
            once_bind (n + 1) 0 (n + 1) 0 (all_fields nodes strict inside n part.fields) (made_of.with_fields AnyEntries nodes (any_whole nodes) strict n id inside name node part) s (all_fields_once n inside part.fields s k)
            (λ p h. once_bind (n + 1) 0 (n + 1) 0 (annotations_of nodes strict inside node.annotations) (made_of.with_own AnyEntries nodes (any_whole nodes) strict n id inside name node part p.0) p.1 (annotations_once (n + 1) inside 0 node.annotations p.1 h) (λ q l. l))
        go (EnumNode members) = tt
        go (AnnotationNode t) = tt
        go OtherNode = tt

  -- ---- one step ----

  abbrev pub IsOnceAt : Made → Named → Type 0
  IsOnceAt m s = AreOnceBefore (length m.nodes) 0 s.entries

  abbrev pub IfOnceAt : Result (Made × Named) ErrorKind → Type 0
  IfOnceAt x = IfDone (λ (after : Made) t. IsOnceAt after t) x

  make_once : (m : Made) (e : Entry) (b : Begun) (x : Result ((Node × Brand × List Note) × Named) ErrorKind) → IfOnce (length m.nodes + 1) 0 x → IfOnceAt (work_continued (λ (made : Node × Brand × List Note). work_of (with_struct nodes strict m b made)) x)
  make_once m e b (Err kind) h = tt
  make_once m e b (Ok p) h =
      let longer : length (m.nodes ++ p.0.0 ∷ []) ≡ length m.nodes + 1 = length-append m.nodes (p.0.0 ∷ []) in
      subst (λ l. AreOnceBefore l 0 p.1.entries) (sym longer) h

  pub struct_step_once : (m : Made) (e : Entry) (s : Named) → IsOnceAt m s → IfOnceAt (make_struct nodes strict m e s)
  struct_step_once m e s k = go (begin_struct nodes m e s.enums)
    where
      go : (d : Said Begun) → IfOnceAt ((work_said d >>= add_struct nodes strict m e.node e.bound) s)
      go (Ok b) = make_once m e b (struct_made nodes strict (length m.nodes) e.node e.bound b.name b.node s) (struct_once (length m.nodes) e.node e.bound b.name b.node s k)
      go (Err kind) = tt

  pub enum_step_once : (m : Made) (id : ℕ) (s : Named) → IsOnceAt m s → IfOnceAt (make_enum nodes strict m id s)
  enum_step_once m id s k = go (make_enum nodes strict m id s) (enum_added (AreOnceBefore (length m.nodes) 0) nodes (once_whole (length m.nodes) 0 nodes) strict m id s)
    where
      go : (x : Result (Made × Named) ErrorKind) → IfDone (λ (after : Made) t. Done (AreOnceBefore (length m.nodes) 0) s t (λ z. IsEnumAdded (numbers nodes strict z) m after id)) x → IfOnceAt x
      go (Err kind) d = tt
      go (Ok p) d =
          let added : IsEnumAdded (numbers nodes strict p.1) m p.0 id = d.later p.1 (grows_none p.1) in
          subst (λ (ns : List Node). AreOnceBefore (length ns) 0 p.1.entries) (sym added.nodes_are) (d.kept k)

  -- ---- all steps ----

  abbrev pub IfAllOnce : Result (Made × Named) ErrorKind → Type 0
  IfAllOnce x = IfDone (λ (after : Made) t. AreGroupsDistinct t.entries) x

  steps_once : (again : Made → Work Made) → ((m : Made) (s : Named) → IsOnceAt m s → IfAllOnce (again m s)) → (x : Result (Made × Named) ErrorKind) → IfOnceAt x → IfAllOnce (work_continued again x)
  steps_once again h (Err kind) k = tt
  steps_once again h (Ok p) k = h p.0 p.1 k

  next_once : (again : Made → Work Made) → ((m : Made) (s : Named) → IsOnceAt m s → IfAllOnce (again m s)) → (m : Made) (s : Named) (o : Option Entry) (q : Option ℕ) → IsOnceAt m s → IfAllOnce (make_next nodes strict again m o q s)
  next_once again h m s (Some e) q k = steps_once again h (make_struct nodes strict m e s) (struct_step_once m e s k)
  next_once again h m s None (Some id) k = steps_once again h (make_enum nodes strict m id s) (enum_step_once m id s k)
  next_once again h m s None None k = k.once

  pub all_once : (steps : ℕ) (m : Made) (s : Named) → IsOnceAt m s → IfAllOnce (make_all nodes strict steps m s)
  all_once zero m s k = tt
  all_once (suc steps) m s k = next_once (make_all nodes strict steps) (all_once steps) m s (slice_get s.entries (length m.nodes)) (slice_get s.enums (length m.enums)) k

-- the structs of the requested files are no groups
pub files_once : (r : RequestTerm) (strict : Bool) → IfOnce 0 0 (name_files r.nodes strict r.files nothing_named)
files_once r strict = once_work 0 0 (λ (none : List ℕ) z. AreRooted r z.entries) (name_files r.nodes strict r.files) nothing_named (files_named (AreOnceBefore 0 0) r (once_whole 0 0 r.nodes) strict) (once_none 0 0)
