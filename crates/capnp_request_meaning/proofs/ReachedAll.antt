-- Each entry and each enum is reached from a struct of a requested file.
use Rattle.std.proofs.Common.{ℕ, zero, suc, ◌<◌, ◌≡◌, ◌∙◌, ◌⊎◌, ◌==◌, ◌&&◌, ap, arith, inl, inr, not, refl, subst, sym, Bool, true, false, List, [], ◌∷◌, ◌++◌, length, slice_get, Option, Some, None, Result, Ok, Err}
use Rattle.std.proofs.lemmas.Bool.{eq-eqb, or_cases, or_left, or_right, true≢false}
use Rattle.std.proofs.lemmas.Option.{slice_get_within}
use Rattle.capnp_device.specs.declared.error.ErrorKind.{ErrorKind}
use Rattle.capnp_request.specs.Order.{Made, is_node_there, make_all, make_enum, make_next, make_struct, name_files, name_root, name_roots, new_ids, nothing_named}
use Rattle.capnp_request.specs.Scopes.{is_met, node_named, scopes_of}
use Rattle.capnp_request.specs.Terms.{AnnotationNode, EnumNode, NodeKind, OtherNode, RequestTerm, SchemaNode, StructNode, StructPart}
use Rattle.capnp_request.specs.Types.{is_root, number_struct}
use Rattle.capnp_request.specs.Work.{Bound, Entry, Named, Work, work_continued, work_of, work_said, ◌>>=◌}
use Rattle.capnp_request_meaning.specs.Meaning.{EntryAt, EnumAt, IsListed, NestedIn, OfFile, Requested, Target}
use Rattle.capnp_request_meaning.proofs.EntriesKept.{IsNumbered, bound_unbound}
use Rattle.capnp_request_meaning.proofs.FieldsLed.{HenceEntry, HenceEnum, Reached, enum_step_led, struct_step_led}
use Rattle.capnp_request_meaning.proofs.Leads.{IsLed, IsNew, Led, led_bind, led_node, led_of, led_said, led_weaken, new_parted}
use Rattle.capnp_request_meaning.proofs.RootsMeant.{met_append}
use Rattle.capnp_request_meaning.proofs.ScopesKept.{scopes_unbound}
use Rattle.capnp_request_meaning.proofs.TypesLed.{IsStructAdded, struct_led}
use Rattle.capnp_request_meaning.proofs.Works.{Grows, IfDone, entry_still, enum_still, grows_on}

-- ---- the structs of the requested files ----

pub record IsPlain (k : NodeKind) : Type 0 where
  pub part : StructPart
  pub struct : k ≡ StructNode part
  pub no_group : part.is_group ≡ false

no_group_of : (q : Bool) → not q ≡ true → q ≡ false
no_group_of true e = absurd (cc)
no_group_of false e = refl

pub plain_of : (k : NodeKind) → is_root k ≡ true → IsPlain k
plain_of (StructNode part) e = record { part = part; struct = refl; no_group = no_group_of part.is_group e }
plain_of (EnumNode enumerants) e = absurd (cc)
plain_of (AnnotationNode t) e = absurd (cc)
plain_of OtherNode e = absurd (cc)

-- ids that are new stand among these
new_among : (nodes : List SchemaNode) (ids met : List ℕ) (y : ℕ) → is_met (new_ids nodes ids met) y ≡ true → is_met ids y ≡ true
new_among nodes [] met y h = h
new_among nodes (id ∷ ids) met y h = go (not (is_met met id) && is_node_there (node_named nodes id)) (new_among nodes ids (id ∷ met) y) (new_among nodes ids met y) h
  where
    go : (q : Bool) → (is_met (new_ids nodes ids (id ∷ met)) y ≡ true → is_met ids y ≡ true) → (is_met (new_ids nodes ids met) y ≡ true → is_met ids y ≡ true)
        → is_met (elim q as (λ _. List ℕ) [ true ↦ id ∷ new_ids nodes ids (id ∷ met) | false ↦ new_ids nodes ids met ]) y ≡ true → is_met (id ∷ ids) y ≡ true
    go false f g h = or_right (id == y) (is_met ids y) (g h)
    go true f g h = one (or_cases (id == y) (is_met (new_ids nodes ids (id ∷ met)) y) h)
      where
        one : ((id == y) ≡ true) ⊎ (is_met (new_ids nodes ids (id ∷ met)) y ≡ true) → is_met (id ∷ ids) y ≡ true
        one (inl e) = or_left (id == y) (is_met ids y) e
        one (inr e) = or_right (id == y) (is_met ids y) (f e)

module _ (r : RequestTerm) (strict : Bool) where
  abbrev pub AreListed : List ℕ → Type 0
  AreListed ids = (id : ℕ) → is_met ids id ≡ true → IsListed r id

  pub requested : (id : ℕ) (n : SchemaNode) → IsListed r id → node_named r.nodes id ≡ Some n → IsPlain n.kind → (bound : List Bound) → scopes_of r.nodes id ≡ Ok bound → (x : Target) (z : Named) → IsStructAdded id bound x z → Reached r strict x z
  requested id n listed first plain bound scopes x z h =
      let at : IsNumbered id bound h.0 z.entries = h.2 in
      subst (λ y. Reached r strict y z) (sym h.1)
      (Requested h.0 at.entry n plain.part at.numbered at.whole (bound_unbound at.entry.bound bound at.same (scopes_unbound r.nodes id bound scopes)) (subst (IsListed r) (sym at.node) listed) (ap (λ i. node_named r.nodes i) at.node ∙ first) plain.struct plain.no_group)

  pub root_led : (id : ℕ) (n : SchemaNode) → IsListed r id → node_named r.nodes id ≡ Some n → (q : Bool) → is_root n.kind ≡ q → IsLed (name_root r.nodes strict id q) (Reached r strict)
  root_led id n listed first false is = led_of {A = List ℕ} [] (Reached r strict)
  root_led id n listed first true is =
      led_said (scopes_of r.nodes id) (λ bound. number_struct id bound >>= (λ number. work_of [])) (Reached r strict) (λ bound scopes.
      led_bind (number_struct id bound) (λ number. work_of []) (Reached r strict)
      (led_weaken (number_struct id bound) (IsStructAdded id bound) (Reached r strict) (requested id n listed first (plain_of n.kind is) bound scopes) (struct_led id bound))
      (λ number. led_of {A = List ℕ} [] (Reached r strict)))

  -- what a queue of listed ids has first, and later
  pub queue_first : (id : ℕ) (ids : List ℕ) → AreListed (id ∷ ids) → IsListed r id
  queue_first id ids h = itself (id == id) refl
    where
      itself : (q : Bool) → (id == id) ≡ q → IsListed r id
      itself true e = h id (or_left (id == id) (is_met ids id) e)
      itself false e = absurd (true≢false (sym (eq-eqb id id refl) ∙ e))

  pub queue_later : (id : ℕ) (ids met : List ℕ) (n : SchemaNode) (nested : List ℕ) → AreListed (id ∷ ids) → node_named r.nodes id ≡ Some n → n.nested ≡ Ok nested → AreListed (ids ++ new_ids r.nodes nested met)
  queue_later id ids met n nested h first listed y m = go (or_cases (is_met ids y) (is_met (new_ids r.nodes nested met) y) (sym (met_append ids (new_ids r.nodes nested met) y) ∙ m))
    where
      go : (is_met ids y ≡ true) ⊎ (is_met (new_ids r.nodes nested met) y ≡ true) → IsListed r y
      go (inl e) = h y (or_right (id == y) (is_met ids y) e)
      go (inr e) = NestedIn id n nested y (queue_first id ids h) first listed (new_among r.nodes nested met y e)

  pub files_listed : (ids : List ℕ) → r.files ≡ Ok ids → AreListed (new_ids r.nodes ids [])
  files_listed ids said id m = OfFile ids id said (new_among r.nodes ids [] id m)

  roots_led : (steps : ℕ) (met queue : List ℕ) → AreListed queue → IsLed (name_roots r.nodes strict steps met queue) (Reached r strict)
  roots_led zero met queue h = led_of {A = List ℕ} [] (Reached r strict)
  roots_led (suc steps) met [] h = led_of {A = List ℕ} [] (Reached r strict)
  roots_led (suc steps) met (id ∷ ids) h =
      led_node (node_named r.nodes id) (λ n. work_said n.nested >>= (λ nested. name_root r.nodes strict id (is_root n.kind) >>= (λ none. name_roots r.nodes strict steps (new_ids r.nodes nested met ++ met) (ids ++ new_ids r.nodes nested met)))) (Reached r strict) (λ n first.
      led_said n.nested (λ nested. name_root r.nodes strict id (is_root n.kind) >>= (λ none. name_roots r.nodes strict steps (new_ids r.nodes nested met ++ met) (ids ++ new_ids r.nodes nested met))) (Reached r strict) (λ nested listed.
      led_bind (name_root r.nodes strict id (is_root n.kind)) (λ none. name_roots r.nodes strict steps (new_ids r.nodes nested met ++ met) (ids ++ new_ids r.nodes nested met)) (Reached r strict) (root_led id n (queue_first id ids h) first (is_root n.kind) refl)
      (λ none. roots_led steps (new_ids r.nodes nested met ++ met) (ids ++ new_ids r.nodes nested met) (queue_later id ids met n nested h first listed))))

  pub files_led : IsLed (name_files r.nodes strict r.files) (Reached r strict)
  files_led = led_said r.files (λ ids. name_roots r.nodes strict (length r.nodes) (new_ids r.nodes ids []) (new_ids r.nodes ids [])) (Reached r strict) (λ ids said.
      roots_led (length r.nodes) (new_ids r.nodes ids []) (new_ids r.nodes ids []) (files_listed ids said))

  -- ---- all that is named ----

  abbrev pub AllReached : Named → Type 0
  AllReached s = (x : Target) → IsNew nothing_named s x → (z : Named) → Grows s z → Reached r strict x z

  pub files_reached : IfDone (λ (none : List ℕ) t. AllReached t) (name_files r.nodes strict r.files nothing_named)
  files_reached = go (name_files r.nodes strict r.files nothing_named) (files_led nothing_named)
    where
      go : (x : Result (List ℕ × Named) ErrorKind) → IfDone (λ (none : List ℕ) t. Led nothing_named t (Reached r strict)) x → IfDone (λ (none : List ℕ) t. AllReached t) x
      go (Err kind) h = tt
      go (Ok p) h = h.new

  pub reached_more : (s t : Named) (L : Target → Named → Type 0) → Led s t L → AllReached s → ((x : Target) (z : Named) → Grows s z → L x z → Reached r strict x z) → AllReached t
  reached_more s t L led all f x is z g = go (new_parted nothing_named s t x is)
    where
      go : IsNew nothing_named s x ⊎ IsNew s t x → Reached r strict x z
      go (inl old) = all x old z (grows_on s t z led.grown g)
      go (inr new) = f x z (grows_on s t z led.grown g) (led.new x new z g)

  abbrev pub IfReached : Result (Made × Named) ErrorKind → Type 0
  IfReached x = IfDone (λ (after : Made) t. AllReached t) x

  module _ (m : Made) (s : Named) (all : AllReached s) where
    pub struct_reached : (e : Entry) → slice_get s.entries (length m.nodes) ≡ Some e → IfReached (make_struct r.nodes strict m e s)
    struct_reached e there = go (make_struct r.nodes strict m e s) (struct_step_led r strict m e s)
      where
        within : IsNew nothing_named s (EntryAt (length m.nodes))
        within = let less : length m.nodes < length s.entries = slice_get_within s.entries (length m.nodes) e there in (omega arith, less)

        go : (x : Result (Made × Named) ErrorKind) → IfDone (λ (after : Made) t. Led s t (HenceEntry r strict (length m.nodes) e)) x → IfReached x
        go (Err kind) h = tt
        go (Ok p) h = reached_more s p.1 (HenceEntry r strict (length m.nodes) e) h all (λ x z g k. k (all (EntryAt (length m.nodes)) within z g) (entry_still s z g (length m.nodes) e there))

    pub enum_reached : (id : ℕ) → slice_get s.enums (length m.enums) ≡ Some id → IfReached (make_enum r.nodes strict m id s)
    enum_reached id there = go (make_enum r.nodes strict m id s) (enum_step_led r strict m id s)
      where
        within : IsNew nothing_named s (EnumAt (length m.enums))
        within = let less : length m.enums < length s.enums = slice_get_within s.enums (length m.enums) id there in (omega arith, less)

        go : (x : Result (Made × Named) ErrorKind) → IfDone (λ (after : Made) t. Led s t (HenceEnum r strict (length m.enums) id)) x → IfReached x
        go (Err kind) h = tt
        go (Ok p) h = reached_more s p.1 (HenceEnum r strict (length m.enums) id) h all (λ x z g k. k (all (EnumAt (length m.enums)) within z g) (enum_still s z g (length m.enums) id there))

  abbrev pub IsStepping : (Made → Work Made) → Type 0
  IsStepping again = (m : Made) (s : Named) → AllReached s → IfReached (again m s)

  then_reached : (again : Made → Work Made) → IsStepping again → (m : Made) (s : Named) (x : Result (Made × Named) ErrorKind) → IfReached x → IfReached (work_continued again x)
  then_reached again h m s (Err kind) k = tt
  then_reached again h m s (Ok p) k = h p.0 p.1 k

  next_reached : (again : Made → Work Made) → IsStepping again → (m : Made) (s : Named) (o : Option Entry) (q : Option ℕ) → slice_get s.entries (length m.nodes) ≡ o → slice_get s.enums (length m.enums) ≡ q → AllReached s → IfReached (make_next r.nodes strict again m o q s)
  next_reached again h m s (Some e) q entry enum all = then_reached again h m s (make_struct r.nodes strict m e s) (struct_reached m s all e entry)
  next_reached again h m s None (Some id) entry enum all = then_reached again h m s (make_enum r.nodes strict m id s) (enum_reached m s all id enum)
  next_reached again h m s None None entry enum all = all

  pub all_reached : (steps : ℕ) → IsStepping (make_all r.nodes strict steps)
  all_reached zero m s all = tt
  all_reached (suc steps) m s all = next_reached (make_all r.nodes strict steps) (all_reached steps) m s (slice_get s.entries (length m.nodes)) (slice_get s.enums (length m.enums)) refl refl all
