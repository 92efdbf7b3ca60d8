-- The listing of a pattern by its first step, and of what a step reads.
use Rattle.std.proofs.Common.{ℕ, List, [], ◌∷◌, ◌++◌, Bool, true, false, ◌||◌, Result, Ok, Err, length, ◌≡◌, ◌∙◌, ap, append-nil, arith, refl, subst, sym}
use Rattle.std.specs.declared.alloc.Global.{Global}
use Rattle.std.specs.declared.vec.Vec.{Vec}
use Rattle.capnp_call.specs.declared.calls.Step.{Step}
use Rattle.capnp_device.specs.declared.error.ErrorKind.{ErrorKind}
use Rattle.capnp_device.specs.declared.error.ErrorKind.TheVariants.{NotAContainer, UntypedStep}
use Rattle.capnp_base.specs.declared.any_pointer.Reader.{Reader as AnyHandle}
use Rattle.capnp_dynamic_readers.specs.Handles.{list_reader_of}
use Rattle.capnp_dynamic_readers.specs.Seen.{value_seen}
use Rattle.capnp_dynamic_readers.specs.Shown.{type_seen}
use Rattle.capnp_dynamic_readers.specs.declared.dynamic_list.Reader.{Reader as ListHandle}
use Rattle.capnp_dynamic_readers.specs.declared.dynamic_struct.Reader.{Reader as StructHandle}
use Rattle.capnp_dynamic_readers.specs.declared.dynamic_value.Reader.{Reader as DynamicValue}
use Rattle.capnp_dynamic_readers.specs.declared.dynamic_value.Reader.TheVariants as dynamic
use Rattle.capnp_patch.specs.Gets.{Part, Reached, is_empty, step_read, value_part_seen}
use Rattle.capnp_records.specs.Call.{PathStep}
use Rattle.capnp_records.specs.Record as value
use Rattle.capnp_schema.specs.Schema.{Schemas}
use Rattle.capnp_schema.specs.Types.{SchemaType}
use Rattle.capnp_wire.specs.Reading.{list_length}
use Rattle.capnp_wire.specs.Standing.{list_of}
use Rattle.capnp_queries.specs.Patterns.{Listing, all_listed, elements_from, is_each, is_left_out, listed, listing, read_listing, step_listing, steps_below, steps_listing, steps_meant, stopped, unread_listing}
use Rattle.capnp_queries.specs.PatternsSeen.{IsListed, IsNotListed, paths_seen}
use Rattle.capnp_queries.specs.Steps.Listings.{each_listing}
use Rattle.capnp_queries.specs.declared.patterns.NotListed.{NotListed}
use Rattle.capnp_queries.proofs.Counts.{elements_counted}
use Rattle.capnp_queries.proofs.Listings.{and_nothing}

-- ---- the first step of a pattern ----

module _ (set : Schemas) (behind : Bool) (here : List PathStep) (p : Part) where
  pub at_end : (pattern : List PathStep) → pattern ≡ [] → listing set behind pattern here p ≡ listed (here ∷ [])
  unfolding listing
  at_end pattern e = ap (λ (steps : List PathStep). listing set behind steps here p) e

  abbrev by_kind : (each : Bool) → PathStep → List PathStep → Listing
  by_kind each s rest = steps_listing (step_listing set (listing set (behind || each) rest) (behind || each) (is_empty rest) here p) here p.type (steps_meant set each p s)

  first_step : (pattern : List PathStep) (s : PathStep) (rest : List PathStep) (each : Bool) → pattern ≡ s ∷ rest → is_each s ≡ each → listing set behind pattern here p ≡ by_kind each s rest
  unfolding listing
  first_step pattern s rest each e is = ap (λ (steps : List PathStep). listing set behind steps here p) e ∙ ap (λ (q : Bool). by_kind q s rest) is

  or_true : (b : Bool) → (b || true) ≡ true
  or_true true = refl
  or_true false = refl

  or_false : (b : Bool) → (b || false) ≡ b
  or_false true = refl
  or_false false = refl

  pub at_each : (pattern : List PathStep) (s : PathStep) (rest : List PathStep) → pattern ≡ s ∷ rest → is_each s ≡ true → listing set behind pattern here p ≡ each_listing set rest here p
  at_each pattern s rest e is =
      first_step pattern s rest true e is
      ∙ ap (λ (q : Bool). steps_listing (step_listing set (listing set q rest) q (is_empty rest) here p) here p.type (steps_below set p.type p.value)) (or_true behind)

  pub at_step : (pattern : List PathStep) (s : PathStep) (rest : List PathStep) → pattern ≡ s ∷ rest → is_each s ≡ false →
      listing set behind pattern here p ≡ step_listing set (listing set behind rest) behind (is_empty rest) here p s
  at_step pattern s rest e is =
      first_step pattern s rest false e is
      ∙ (ap (λ (q : Bool). all_listed (step_listing set (listing set q rest) q (is_empty rest) here p) (s ∷ [])) (or_false behind)
      ∙ and_nothing (step_listing set (listing set behind rest) behind (is_empty rest) here p s))

-- ---- what a step reads ----

-- nothing more is listed
pub unchanged : (most : ℕ) (set : Schemas) (paths : Vec (Vec Step Global) Global) (l : Listing) → listed [] ≡ l → IsListed most (paths_seen paths.items) set l (Ok paths)
unchanged most set paths l e =
    subst (λ (x : Listing). IsListed most (paths_seen paths.items) set x (Ok paths)) e (refl, sym (append-nil (paths_seen paths.items)), λ le. omega (arith, le))

module _ (next : Part → Listing) (behind : Bool) (path : List PathStep) (t : SchemaType) (r : Reached) where
  pub read_there : (q : Part) → Ok q ≡ r → next q ≡ read_listing next behind path t r
  read_there q e = ap (read_listing next behind path t) e

  pub left_out : (kind : ErrorKind) → Err kind ≡ r → is_left_out behind kind ≡ true → listed [] ≡ read_listing next behind path t r
  left_out kind e is = sym (ap (λ (q : Bool). unread_listing q path kind t) is) ∙ ap (read_listing next behind path t) e

  pub refused : (kind : ErrorKind) → Err kind ≡ r → is_left_out behind kind ≡ false → stopped path kind t ≡ read_listing next behind path t r
  refused kind e is = sym (ap (λ (q : Bool). unread_listing q path kind t) is) ∙ ap (read_listing next behind path t) e

module _ (most : ℕ) (before : List (List PathStep)) (set : Schemas) (behind last : Bool) (rest here : List PathStep) (v : DynamicValue) (s : PathStep) (same : last ≡ is_empty rest) where
  abbrev stepped : Listing
  stepped = step_listing set (listing set behind rest) behind (is_empty rest) here (value_part_seen v) s

  pub goes_there : (there : List PathStep) (w : DynamicValue) (r : Result (Vec (Vec Step Global) Global) NotListed) → there ≡ here ++ s ∷ [] → Ok (value_part_seen w) ≡ step_read set last (value_part_seen v) s →
      IsListed most before set (listing set behind rest there (value_part_seen w)) r → IsListed most before set stepped r
  goes_there there w r at is h =
      subst (λ (l : Listing). IsListed most before set l r)
      (ap (λ (path : List PathStep). listing set behind rest path (value_part_seen w)) at
      ∙ read_there (listing set behind rest (here ++ s ∷ [])) behind (here ++ s ∷ []) (type_seen v) (step_read set (is_empty rest) (value_part_seen v) s) (value_part_seen w)
      (is ∙ ap (λ (q : Bool). step_read set q (value_part_seen v) s) same)) h

  pub stops_there : (kind : ErrorKind) (why : NotListed) → Err kind ≡ step_read set last (value_part_seen v) s → is_left_out behind kind ≡ false →
      IsNotListed most (length before) set (stopped (here ++ s ∷ []) kind (type_seen v)) why → IsNotListed most (length before) set stepped why
  stops_there kind why is out h =
      subst (λ (l : Listing). IsNotListed most (length before) set l why)
      (refused (listing set behind rest (here ++ s ∷ [])) behind (here ++ s ∷ []) (type_seen v) (step_read set (is_empty rest) (value_part_seen v) s) kind
      (is ∙ ap (λ (q : Bool). step_read set q (value_part_seen v) s) same) out) h

-- ---- what a `*` stands for ----

abbrev below : Schemas → DynamicValue → Result (List PathStep) ErrorKind
below set v = steps_below set (type_seen v) (value_seen v)

abbrev IsPlain : DynamicValue → Type 0
IsPlain v = (set : Schemas) → below set v ≡ Err NotAContainer

pub plain_value : (v : DynamicValue) → ((s : StructHandle) → v ≡ dynamic.Struct s → ⊥) → ((l : ListHandle) → v ≡ dynamic.List l → ⊥) → ((p : AnyHandle) → v ≡ dynamic.AnyPointer p → ⊥) → IsPlain v
plain_value dynamic.Void h k m = λ set. refl
plain_value (dynamic.Bool b) h k m = λ set. refl
plain_value (dynamic.Int8 x) h k m = λ set. refl
plain_value (dynamic.Int16 x) h k m = λ set. refl
plain_value (dynamic.Int32 x) h k m = λ set. refl
plain_value (dynamic.Int64 x) h k m = λ set. refl
plain_value (dynamic.UInt8 x) h k m = λ set. refl
plain_value (dynamic.UInt16 x) h k m = λ set. refl
plain_value (dynamic.UInt32 x) h k m = λ set. refl
plain_value (dynamic.UInt64 x) h k m = λ set. refl
plain_value (dynamic.Enum e) h k m = λ set. refl
plain_value (dynamic.Text t) h k m = λ set. refl
plain_value (dynamic.«Data» bytes) h k m = λ set. refl
plain_value (dynamic.Struct s) h k m = absurd (h s refl)
plain_value (dynamic.List l) h k m = absurd (k l refl)
plain_value (dynamic.AnyPointer p) h k m = absurd (m p refl)

pub untyped_value : (set : Schemas) (v : DynamicValue) (p : AnyHandle) → v ≡ dynamic.AnyPointer p → below set v ≡ Err UntypedStep
untyped_value set v p e = ap (below set) e

pub each_refused : (most before : ℕ) (set : Schemas) (rest here : List PathStep) (v : DynamicValue) (kind : ErrorKind) (why : NotListed) → below set v ≡ Err kind →
    IsNotListed most before set (stopped here kind (type_seen v)) why → IsNotListed most before set (each_listing set rest here (value_part_seen v)) why
each_refused most before set rest here v kind why e h =
    subst (λ (l : Listing). IsNotListed most before set l why)
    (ap (steps_listing (step_listing set (listing set true rest) true (is_empty rest) here (value_part_seen v)) here (type_seen v)) (sym e)) h

pub each_element : (set : Schemas) (rest here : List PathStep) (l : ListHandle) (m : ℕ) → m ≡ list_length (list_of (list_reader_of l)) →
    all_listed (step_listing set (listing set true rest) true (is_empty rest) here (value_part_seen (dynamic.List l))) (elements_from 0 m) ≡ each_listing set rest here (value_part_seen (dynamic.List l))
each_element set rest here l m e =
    ap (λ (n : ℕ). all_listed (step_listing set (listing set true rest) true (is_empty rest) here (value_part_seen (dynamic.List l))) (elements_from 0 n))
    (e ∙ sym (elements_counted _ 0 (list_length (list_of (list_reader_of l)))))
