-- The notes of a field, of a struct, and of all structs that are made: exactly of what stands so.
use Rattle.std.proofs.Common.{ℕ, zero, suc, ◌+◌, ◌≡◌, ◌∙◌, ◌⊎◌, ◌&&◌, ap, arith, inl, inr, not, refl, subst, sym, Bool, true, false, List, [], ◌∷◌, ◌++◌, map, slice_get, Option, Some, Result, Ok, Err}
use Rattle.capnp_device.specs.declared.error.ErrorKind.{ErrorKind}
use Rattle.capnp_wire.specs.Reading.{is_null_tree}
use Rattle.capnp_wire.specs.Tree.{Tree}
use Rattle.capnp_schema.specs.Schema.{FieldKind, Group, Slot}
use Rattle.capnp_schema.specs.Types.{SchemaType, AnyPointerType, BoolType, DataType, EnumType, IntType, ListType, StructType, TextType, UIntType, VoidType}
use Rattle.capnp_request.specs.Conversion.{Converted, Float32Note, Float64Note, InterfaceNote, Note, StandIn, UntypedDefaultNote, annotations_of, converted_field, converted_name, field_of, fields_of, is_untyped, is_untyped_default, kind_of, note_at, note_where, notes_of}
use Rattle.capnp_request.specs.Order.{all_notes, at_struct}
use Rattle.capnp_request.specs.Terms.{AnnotationNode, EnumNode, FieldKindTerm, FieldTerm, GroupTerm, ListWords, NodeKind, OtherNode, Said, SchemaNode, SlotTerm, Stands, StructNode, StructPart, StructWords, TypeTerm, UnreadField, UnreadValue, Untyped, ValueTerm}
use Rattle.capnp_request.specs.Types.{add_entry, is_struct_kind, type_of, where_node}
use Rattle.capnp_request.specs.Values.{value_stated}
use Rattle.capnp_request.specs.Work.{Bound, GroupOf, MarkedType, Named, Seen, Work, nothing_seen, plain, seen_in, work_continued, work_of, work_said, ◌>>=◌}
use Rattle.capnp_request_meaning.specs.Meaning.{StandsIn}
use Rattle.capnp_request_meaning.specs.Noted.{IsNotable}
use Rattle.capnp_request_meaning.proofs.ListsFound.{IsAmong, same_some, still_at}
use Rattle.capnp_request_meaning.proofs.TypesNoted.{Capability, Leaf, Long, Sees, Short, flag, leaf, type_seen}
use Rattle.capnp_request_meaning.proofs.Works.{IfDone}

-- ---- among lists in a row ----

pub among_left : {A : Type 0} (xs ys : List A) (x : A) → IsAmong xs x → IsAmong (xs ++ ys) x
among_left xs ys x h = record { index = h.index; there = still_at xs ys h.index x h.there }

pub among_right : {A : Type 0} (xs ys : List A) (x : A) → IsAmong ys x → IsAmong (xs ++ ys) x
among_right [] ys x h = h
among_right (y ∷ xs) ys x h = let k : IsAmong (xs ++ ys) x = among_right xs ys x h in record { index = suc k.index; there = k.there }

later_among : {A : Type 0} (xs ys : List A) (y x : A) → IsAmong xs x ⊎ IsAmong ys x → IsAmong (y ∷ xs) x ⊎ IsAmong ys x
later_among xs ys y x (inl h) = inl (record { index = suc h.index; there = h.there })
later_among xs ys y x (inr h) = inr h

parts_at : {A : Type 0} (xs ys : List A) (x : A) (i : ℕ) → slice_get (xs ++ ys) i ≡ Some x → IsAmong xs x ⊎ IsAmong ys x
parts_at [] ys x i h = inr (record { index = i; there = h })
parts_at (y ∷ xs) ys x zero h = inl (record { index = zero; there = h })
parts_at (y ∷ xs) ys x (suc i) h = later_among xs ys y x (parts_at xs ys x i h)

pub among_parts : {A : Type 0} (xs ys : List A) (x : A) → IsAmong (xs ++ ys) x → IsAmong xs x ⊎ IsAmong ys x
among_parts xs ys x h = parts_at xs ys x h.index h.there

pub none_among : {A : Type 0} (x : A) (i : ℕ) → slice_get [] i ≡ Some x → ⊥
none_among x i h = cc

abbrev pub Iff : Type 0 → Type 0 → Type 0
Iff S T = (S → T) × (T → S)

-- ---- what work gives ----

abbrev pub Gives : {A : Type 0} → Work A → (A → Type 0) → Type 0
Gives w P = (s : Named) → IfDone (λ a t. P a) (w s)

module _ {A B : Type 0} (w : Work A) (f : A → Work B) where
  pub gives_bind : (P : A → Type 0) (Q : B → Type 0) → Gives w P → ((a : A) → P a → Gives (f a) Q) → Gives (w >>= f) Q
  gives_bind P Q hw hf s = go (w s) (hw s)
    where
      go : (r : Result (A × Named) ErrorKind) → IfDone (λ a t. P a) r → IfDone (λ b t. Q b) (work_continued f r)
      go (Err kind) h = tt
      go (Ok p) h = hf p.0 h p.1

pub gives_any : {A : Type 0} (w : Work A) → Gives w (λ a. Unit {0})
gives_any {A = A} w s = go (w s)
  where
    go : (r : Result (A × Named) ErrorKind) → IfDone (λ a t. Unit {0}) r
    go (Err kind) = tt
    go (Ok p) = tt

pub gives_said : {A B : Type 0} (d : Said A) (f : A → Work B) (Q : B → Type 0) → ((a : A) → d ≡ Ok a → Gives (f a) Q) → Gives (work_said d >>= f) Q
gives_said (Ok a) f Q h = h a refl
gives_said (Err kind) f Q h = λ s. tt

pub gives_struct : {A : Type 0} (k : NodeKind) (f : StructPart → Work A) (Q : A → Type 0) → ((part : StructPart) → k ≡ StructNode part → Gives (f part) Q) → Gives (at_struct k f) Q
gives_struct (StructNode part) f Q h = h part refl
gives_struct (EnumNode enumerants) f Q h = λ s. tt
gives_struct (AnnotationNode t) f Q h = λ s. tt
gives_struct OtherNode f Q h = λ s. tt

-- ---- the notes of a slot ----

abbrev Told : Seen → (untyped : Bool) → StandIn → Type 0
Told seen untyped Float32Note = seen.float32 ≡ true
Told seen untyped Float64Note = seen.float64 ≡ true
Told seen untyped InterfaceNote = seen.interface ≡ true
Told seen untyped UntypedDefaultNote = untyped ≡ true

among_where : (q : Bool) (n x : Note) → IsAmong (note_where q n) x → (q ≡ true) × (n ≡ x)
among_where true n x h = (refl, go h.index h.there)
  where
    go : (i : ℕ) → slice_get (n ∷ []) i ≡ Some x → n ≡ x
    go zero e = same_some e
    go (suc i) e = absurd (none_among x i e)
among_where false n x h = absurd (none_among x h.index h.there)

where_among : (q : Bool) (n x : Note) → q ≡ true → n ≡ x → IsAmong (note_where q n) x
where_among true n x e same = record { index = zero; there = ap (λ (y : Note). Some y) same }
where_among false n x e same = absurd (cc)

abbrev IsToldOf : (n i : ℕ) → Seen → (untyped : Bool) → Note → Type 0
IsToldOf n i seen untyped x = (x.entry ≡ n) × (x.field ≡ i) × Told seen untyped x.stand_in

told : (n i : ℕ) (seen : Seen) (untyped : Bool) (k : StandIn) (x : Note) → Told seen untyped k → note_at n i k ≡ x → IsToldOf n i seen untyped x
told n i seen untyped k x h same = (sym (ap (λ (y : Note). y.entry) same), sym (ap (λ (y : Note). y.field) same), subst (λ (y : Note). Told seen untyped y.stand_in) same h)

module _ (n i : ℕ) (seen : Seen) (untyped : Bool) where
  abbrev notes_a : List Note
  notes_a = note_where seen.float32 (note_at n i Float32Note)

  abbrev notes_b : List Note
  notes_b = note_where seen.float64 (note_at n i Float64Note)

  abbrev notes_c : List Note
  notes_c = note_where seen.interface (note_at n i InterfaceNote)

  abbrev notes_d : List Note
  notes_d = note_where untyped (note_at n i UntypedDefaultNote)

  of_notes : (x : Note) → IsAmong (notes_of n i seen untyped) x → IsToldOf n i seen untyped x
  of_notes x h = third (among_parts (notes_a ++ notes_b ++ notes_c) notes_d x h)
    where
      first : IsAmong notes_a x ⊎ IsAmong notes_b x → IsToldOf n i seen untyped x
      first (inl k) = let e = among_where seen.float32 (note_at n i Float32Note) x k in told n i seen untyped Float32Note x e.0 e.1
      first (inr k) = let e = among_where seen.float64 (note_at n i Float64Note) x k in told n i seen untyped Float64Note x e.0 e.1

      second : IsAmong (notes_a ++ notes_b) x ⊎ IsAmong notes_c x → IsToldOf n i seen untyped x
      second (inl k) = first (among_parts notes_a notes_b x k)
      second (inr k) = let e = among_where seen.interface (note_at n i InterfaceNote) x k in told n i seen untyped InterfaceNote x e.0 e.1

      third : IsAmong (notes_a ++ notes_b ++ notes_c) x ⊎ IsAmong notes_d x → IsToldOf n i seen untyped x
      third (inl k) = second (among_parts (notes_a ++ notes_b) notes_c x k)
      third (inr k) = let e = among_where untyped (note_at n i UntypedDefaultNote) x k in told n i seen untyped UntypedDefaultNote x e.0 e.1

  to_notes : (x : Note) → IsToldOf n i seen untyped x → IsAmong (notes_of n i seen untyped) x
  to_notes x h = go x.stand_in refl h.2
    where
      same : (k : StandIn) → x.stand_in ≡ k → note_at n i k ≡ x
      same k e = ap (λ a. note_at a i k) (sym h.0) ∙ (ap (λ a. note_at x.entry a k) (sym h.1) ∙ ap (λ a. note_at x.entry x.field a) (sym e))

      among_c : IsAmong (notes_a ++ notes_b ++ notes_c) x → IsAmong (notes_of n i seen untyped) x
      among_c k = among_left (notes_a ++ notes_b ++ notes_c) notes_d x k

      among_b : IsAmong (notes_a ++ notes_b) x → IsAmong (notes_of n i seen untyped) x
      among_b k = among_c (among_left (notes_a ++ notes_b) notes_c x k)

      go : (k : StandIn) → x.stand_in ≡ k → Told seen untyped k → IsAmong (notes_of n i seen untyped) x
      go Float32Note e q = among_b (among_left notes_a notes_b x (where_among seen.float32 (note_at n i Float32Note) x q (same Float32Note e)))
      go Float64Note e q = among_b (among_right notes_a notes_b x (where_among seen.float64 (note_at n i Float64Note) x q (same Float64Note e)))
      go InterfaceNote e q = among_c (among_right (notes_a ++ notes_b) notes_c x (where_among seen.interface (note_at n i InterfaceNote) x q (same InterfaceNote e)))
      go UntypedDefaultNote e q = among_right (notes_a ++ notes_b ++ notes_c) notes_d x (where_among untyped (note_at n i UntypedDefaultNote) x q (same UntypedDefaultNote e))

-- ---- defaults of untyped pointers ----

abbrev IsUntypedDefault : SchemaType → ValueTerm → Type 0
IsUntypedDefault u default = (u ≡ AnyPointerType) × (tree : Tree) × (default ≡ Untyped tree) × (is_null_tree tree ≡ false)

not_true : (q : Bool) → not q ≡ true → q ≡ false
not_true true e = absurd (cc)
not_true false e = refl

untyped_default : (u : SchemaType) (default : ValueTerm) → (is_untyped u && is_untyped_default default) ≡ true → IsUntypedDefault u default
untyped_default AnyPointerType (Untyped tree) e = (refl, tree, refl, not_true (is_null_tree tree) e)
untyped_default AnyPointerType (Stands v) e = absurd (cc)
untyped_default AnyPointerType (StructWords tree) e = absurd (cc)
untyped_default AnyPointerType (ListWords tree) e = absurd (cc)
untyped_default AnyPointerType (UnreadValue kind) e = absurd (cc)
untyped_default VoidType default e = absurd (cc)
untyped_default BoolType default e = absurd (cc)
untyped_default (IntType bytes) default e = absurd (cc)
untyped_default (UIntType bytes) default e = absurd (cc)
untyped_default (EnumType number) default e = absurd (cc)
untyped_default TextType default e = absurd (cc)
untyped_default DataType default e = absurd (cc)
untyped_default (StructType number generic) default e = absurd (cc)
untyped_default (ListType t) default e = absurd (cc)

is_default : (u : SchemaType) (default : ValueTerm) → IsUntypedDefault u default → (is_untyped u && is_untyped_default default) ≡ true
is_default u default h = ap (λ x. is_untyped x && is_untyped_default default) h.0 ∙ (ap (λ d. is_untyped_default d) h.2 ∙ ap (λ q. not q) h.3)

-- ---- fields ----

pub record IsFieldNotable (nodes : List SchemaNode) (strict : Bool) (k : FieldKindTerm) (u : SchemaType) (x : StandIn) : Type 0 where
  pub offset : ℕ
  pub type : TypeTerm
  pub default : ValueTerm
  pub slot : k ≡ SlotTerm offset type default
  pub notable : IsNotable nodes strict type default u x

abbrev pub type_in : FieldKindTerm → TypeTerm → TypeTerm
type_in (SlotTerm offset t default) other = t
type_in (GroupTerm id) other = other
type_in (UnreadField kind) other = other

abbrev pub default_in : FieldKindTerm → ValueTerm → ValueTerm
default_in (SlotTerm offset t default) other = default
default_in (GroupTerm id) other = other
default_in (UnreadField kind) other = other

module _ (nodes : List SchemaNode) (strict : Bool) (inside : List Bound) (n : ℕ) where
  abbrev pub AreNotesOf : (i : ℕ) → FieldKindTerm → SchemaType → List Note → Type 0
  AreNotesOf i k u notes = (x : Note) → Iff (IsAmong notes x) ((x.entry ≡ n) × (x.field ≡ i) × IsFieldNotable nodes strict k u x.stand_in)

  -- what is seen in a type alone
  abbrev IsExact : TypeTerm → Seen → Type 0
  IsExact t seen = (l : Leaf) → Iff (flag l seen ≡ true) ((strict ≡ false) × StandsIn nodes t (leaf l))

  exact_in : (t : TypeTerm) → Gives (seen_in (type_of nodes strict inside t)) (λ p. IsExact t p.1)
  exact_in t s = go (type_of nodes strict inside t (record s { seen = nothing_seen })) (λ l. type_seen l nodes strict inside t (record s { seen = nothing_seen }))
    where
      unseen : (l : Leaf) → flag l nothing_seen ≡ true → ⊥
      unseen Short e = cc
      unseen Long e = cc
      unseen Capability e = cc

      why : (l : Leaf) (S : Type 0) → (flag l nothing_seen ≡ true) ⊎ S → S
      why l S (inl e) = absurd (unseen l e)
      why l S (inr h) = h

      go : (r : Result (MarkedType × Named) ErrorKind) → ((l : Leaf) → IfDone (λ a t2. Sees (flag l nothing_seen) (flag l t2.seen) ((strict ≡ false) × StandsIn nodes t (leaf l))) r)
          → IfDone (λ (p : MarkedType × Seen) (z : Named). IsExact t p.1) (work_continued (λ (a : MarkedType) (z : Named). Ok ((a, z.seen), record z { seen = nothing_seen })) r)
      go (Err kind) h = tt
      go (Ok p) h = λ l. (λ e. why l ((strict ≡ false) × StandsIn nodes t (leaf l)) ((h l).why e), (h l).shows)

  module _ (i offset : ℕ) (t : TypeTerm) (default : ValueTerm) (u : SchemaType) (seen : Seen) (exact : IsExact t seen) where
    abbrev untyped : Bool
    untyped = is_untyped u && is_untyped_default default

    told_notable : (k : StandIn) → Told seen untyped k → IsNotable nodes strict t default u k
    told_notable Float32Note e = (exact Short).0 e
    told_notable Float64Note e = (exact Long).0 e
    told_notable InterfaceNote e = (exact Capability).0 e
    told_notable UntypedDefaultNote e = untyped_default u default e

    notable_told : (k : StandIn) → IsNotable nodes strict t default u k → Told seen untyped k
    notable_told Float32Note h = (exact Short).1 h
    notable_told Float64Note h = (exact Long).1 h
    notable_told InterfaceNote h = (exact Capability).1 h
    notable_told UntypedDefaultNote h = is_default u default h

    slot_exact : AreNotesOf i (SlotTerm offset t default) u (notes_of n i seen untyped)
    slot_exact x = (to, from)
      where
        to : IsAmong (notes_of n i seen untyped) x → (x.entry ≡ n) × (x.field ≡ i) × IsFieldNotable nodes strict (SlotTerm offset t default) u x.stand_in
        to h = let is : IsToldOf n i seen untyped x = of_notes n i seen untyped x h in (is.0, is.1, record { offset = offset; type = t; default = default; slot = refl; notable = told_notable x.stand_in is.2 })

        from : (x.entry ≡ n) × (x.field ≡ i) × IsFieldNotable nodes strict (SlotTerm offset t default) u x.stand_in → IsAmong (notes_of n i seen untyped) x
        from h =
            let is : IsFieldNotable nodes strict (SlotTerm offset t default) u x.stand_in = h.2 in
            let same : is.type ≡ t = sym (ap (λ k. type_in k t) is.slot) in
            let value : is.default ≡ default = sym (ap (λ k. default_in k default) is.slot) in
            let notable : IsNotable nodes strict t default u x.stand_in = subst (λ v. IsNotable nodes strict t v u x.stand_in) value (subst (λ y. IsNotable nodes strict y is.default u x.stand_in) same is.notable) in
            to_notes n i seen untyped x (h.0, h.1, notable_told x.stand_in notable)

  no_notes : (i : ℕ) (k : FieldKindTerm) (u : SchemaType) → ((offset : ℕ) (t : TypeTerm) (default : ValueTerm) → k ≡ SlotTerm offset t default → ⊥) → AreNotesOf i k u []
  no_notes i k u never x = (λ h. absurd (none_among x h.index h.there), λ h. absurd (never h.2.offset h.2.type h.2.default h.2.slot))

  no_slot : (id offset : ℕ) (t : TypeTerm) (default : ValueTerm) → GroupTerm id ≡ SlotTerm offset t default → ⊥
  no_slot id offset t default e = cc

  abbrev IsKindNoted : (i : ℕ) → FieldKindTerm → FieldKind × MarkedType × List Note → Type 0
  IsKindNoted i k q = AreNotesOf i k q.1.type q.2

  kind_noted : (i : ℕ) (k : FieldKindTerm) → Gives (kind_of nodes strict inside n i k) (IsKindNoted i k)
  kind_noted i (SlotTerm offset t default) =
      gives_bind (seen_in (type_of nodes strict inside t)) (λ (typed : MarkedType × Seen). work_said (value_stated default) >>= (λ v. work_of (Slot offset v, typed.0, notes_of n i typed.1 (is_untyped typed.0.type && is_untyped_default default)))) (λ p. IsExact t p.1) (IsKindNoted i (SlotTerm offset t default)) (exact_in t)
      (λ typed exact. gives_said (value_stated default) (λ v. work_of (Slot offset v, typed.0, notes_of n i typed.1 (is_untyped typed.0.type && is_untyped_default default))) (IsKindNoted i (SlotTerm offset t default))
      (λ v said s. slot_exact i offset t default typed.0.type typed.1 exact))
  kind_noted i (GroupTerm id) =
      gives_bind (where_node is_struct_kind nodes id (add_entry (record { node = id; bound = inside; place = GroupOf n i }))) (λ number. work_of (Group number, plain (StructType number number), [])) (λ number. Unit {0}) (IsKindNoted i (GroupTerm id))
      (gives_any (where_node is_struct_kind nodes id (add_entry (record { node = id; bound = inside; place = GroupOf n i }))))
      (λ number h s. no_notes i (GroupTerm id) (StructType number number) (no_slot id))
  kind_noted i (UnreadField kind) = λ s. tt

  abbrev pub IsFieldNoted : (i : ℕ) → FieldTerm → Converted → Type 0
  IsFieldNoted i f c = AreNotesOf i f.kind c.type c.notes

  field_noted : (i : ℕ) (f : FieldTerm) → Gives (field_of nodes strict inside n i f) (IsFieldNoted i f)
  field_noted i f =
      gives_said f.name (λ bytes. work_said (converted_name bytes) >>= (λ name. kind_of nodes strict inside n i f.kind >>= (λ kind. annotations_of nodes strict inside f.annotations >>= (λ annotations. work_of (converted_field name f.discriminant_value kind annotations))))) (IsFieldNoted i f)
      (λ bytes said. gives_said (converted_name bytes) (λ name. kind_of nodes strict inside n i f.kind >>= (λ kind. annotations_of nodes strict inside f.annotations >>= (λ annotations. work_of (converted_field name f.discriminant_value kind annotations)))) (IsFieldNoted i f)
      (λ name taken. gives_bind (kind_of nodes strict inside n i f.kind) (λ kind. annotations_of nodes strict inside f.annotations >>= (λ annotations. work_of (converted_field name f.discriminant_value kind annotations))) (IsKindNoted i f.kind) (IsFieldNoted i f) (kind_noted i f.kind)
      (λ kind noted. gives_bind (annotations_of nodes strict inside f.annotations) (λ annotations. work_of (converted_field name f.discriminant_value kind annotations)) (λ annotations. Unit {0}) (IsFieldNoted i f) (gives_any (annotations_of nodes strict inside f.annotations))
      (λ annotations any s. noted))))

  -- a note of one of the fields from i on
  pub record IsNoteFrom (i : ℕ) (fs : List (Said FieldTerm)) (types : List SchemaType) (x : Note) : Type 0 where
    pub index : ℕ
    pub field : FieldTerm
    pub stands : SchemaType
    pub entry : x.entry ≡ n
    pub numbered : x.field ≡ i + index
    pub there : slice_get fs index ≡ Some (Ok field)
    pub typed : slice_get types index ≡ Some stands
    pub notable : IsFieldNotable nodes strict field.kind stands x.stand_in

  abbrev types_of : List Converted → List SchemaType
  types_of cs = map (λ (c : Converted). c.type) cs

  abbrev pub AreNoted : (i : ℕ) → List (Said FieldTerm) → List Converted → Type 0
  AreNoted i fs cs = (x : Note) → Iff (IsAmong (all_notes cs) x) (IsNoteFrom i fs (types_of cs) x)

  none_noted : (i : ℕ) → AreNoted i [] []
  none_noted i x = (λ h. absurd (none_among x h.index h.there), λ h. absurd (none_among (Ok h.field) h.index h.there))

  same_field : (f g : FieldTerm) → ◌≡◌ {A = Option (Said FieldTerm)} (Some (Ok f)) (Some (Ok g)) → f ≡ g
  same_field f g e = cc

  one_more_noted : (i : ℕ) (f : FieldTerm) (fs : List (Said FieldTerm)) (c : Converted) (cs : List Converted) → IsFieldNoted i f c → AreNoted (i + 1) fs cs → AreNoted i (Ok f ∷ fs) (c ∷ cs)
  one_more_noted i f fs c cs one rest x = (to, from)
    where
      to : IsAmong (c.notes ++ all_notes cs) x → IsNoteFrom i (Ok f ∷ fs) (types_of (c ∷ cs)) x
      to h = go (among_parts c.notes (all_notes cs) x h)
        where
          go : IsAmong c.notes x ⊎ IsAmong (all_notes cs) x → IsNoteFrom i (Ok f ∷ fs) (types_of (c ∷ cs)) x
          go (inl k) = let is = (one x).0 k in let e : x.field ≡ i + 0 = omega (arith, is.1) in record { index = zero; field = f; stands = c.type; entry = is.0; numbered = e; there = refl; typed = refl; notable = is.2 }
          go (inr k) =
              let is : IsNoteFrom (i + 1) fs (types_of cs) x = (rest x).0 k in
              let e : x.field ≡ i + suc is.index = omega (arith, is.numbered) in
              record { index = suc is.index; field = is.field; stands = is.stands; entry = is.entry; numbered = e; there = is.there; typed = is.typed; notable = is.notable }

      at : (j : ℕ) (g : FieldTerm) (u : SchemaType) → x.entry ≡ n → x.field ≡ i + j → slice_get (Ok f ∷ fs) j ≡ Some (Ok g) → slice_get (types_of (c ∷ cs)) j ≡ Some u → IsFieldNotable nodes strict g.kind u x.stand_in → IsAmong (c.notes ++ all_notes cs) x
      at zero g u entry numbered there typed notable =
          let same : g ≡ f = sym (same_field f g there) in
          let type : u ≡ c.type = sym (same_some typed) in
          let e : x.field ≡ i = omega (arith, numbered) in
          among_left c.notes (all_notes cs) x ((one x).1 (entry, e, subst (λ v. IsFieldNotable nodes strict f.kind v x.stand_in) type (subst (λ (y : FieldTerm). IsFieldNotable nodes strict y.kind u x.stand_in) same notable)))
      at (suc j) g u entry numbered there typed notable =
          let e : x.field ≡ (i + 1) + j = omega (arith, numbered) in
          among_right c.notes (all_notes cs) x ((rest x).1 (record { index = j; field = g; stands = u; entry = entry; numbered = e; there = there; typed = typed; notable = notable }))

      from : IsNoteFrom i (Ok f ∷ fs) (types_of (c ∷ cs)) x → IsAmong (c.notes ++ all_notes cs) x
      from h = at h.index h.field h.stands h.entry h.numbered h.there h.typed h.notable

  pub fields_noted : (i : ℕ) (fs : List (Said FieldTerm)) → Gives (fields_of nodes strict inside n i fs) (AreNoted i fs)
  fields_noted i [] = λ s. none_noted i
  fields_noted i (Err kind ∷ fs) = λ s. tt
  fields_noted i (Ok f ∷ fs) =
      gives_bind (field_of nodes strict inside n i f) (λ first. fields_of nodes strict inside n (i + 1) fs >>= (λ rest. work_of (first ∷ rest))) (IsFieldNoted i f) (AreNoted i (Ok f ∷ fs)) (field_noted i f)
      (λ first one. gives_bind (fields_of nodes strict inside n (i + 1) fs) (λ rest. work_of (first ∷ rest)) (AreNoted (i + 1) fs) (AreNoted i (Ok f ∷ fs)) (fields_noted (i + 1) fs)
      (λ rest others s. one_more_noted i f fs first rest one others))
