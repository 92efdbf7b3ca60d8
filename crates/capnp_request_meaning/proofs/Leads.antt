-- Work of which each entry and enum that it names is led to.
use Rattle.std.proofs.Common.{ℕ, suc, ◌∙◌, ◌<◌, ◌≤◌, ◌≡◌, ◌⊎◌, ap, arith, inl, inr, refl, Bool, true, false, List, [], ◌∷◌, length, slice_get, Option, Some, None, Result, Ok, Err}
use Rattle.std.proofs.lemmas.Bool.{cases_order}
use Rattle.capnp_device.specs.declared.error.ErrorKind.{ErrorKind}
use Rattle.capnp_request.specs.Order.{at_enum, at_node, at_struct}
use Rattle.capnp_request.specs.Terms.{AnnotationNode, EnumNode, EnumerantTerm, NodeKind, OtherNode, Said, SchemaNode, StructNode, StructPart}
use Rattle.capnp_request.specs.Types.{bind_scope}
use Rattle.capnp_request.specs.Work.{Bound, Entry, MarkedType, Named, Seen, Work, each, each_read, nothing_seen, seen_in, where_else, where_so, work_continued, work_of, work_said, work_unnoted, ◌>>=◌}
use Rattle.capnp_request_meaning.specs.Meaning.{AnyBound, EntryAt, EnumAt, IsRead, Target}
use Rattle.capnp_request_meaning.proofs.EntriesKept.{KeepsWhole}
use Rattle.capnp_request_meaning.proofs.Works.{Done, Grows, IfDone, IsWork, grows_on, grows_same}

-- ---- what is new ----

abbrev pub IsNew : (s t : Named) → Target → Type 0
IsNew s t (EntryAt n) = (length s.entries ≤ n) × (n < length t.entries)
IsNew s t (EnumAt n) = (length s.enums ≤ n) × (n < length t.enums)

parted : (a b c n : ℕ) → (a ≤ n) × (n < c) → ((a ≤ n) × (n < b)) ⊎ ((b ≤ n) × (n < c))
parted a b c n h = go (cases_order n b)
  where
    go : (n ≡ b) ⊎ ((n < b) ⊎ (b < n)) → ((a ≤ n) × (n < b)) ⊎ ((b ≤ n) × (n < c))
    go (inl e) = inr (omega (arith, e), h.1)
    go (inr (inl e)) = inl (h.0, e)
    go (inr (inr e)) = inr (omega (arith, e), h.1)

pub new_parted : (s t u : Named) (x : Target) → IsNew s u x → IsNew s t x ⊎ IsNew t u x
new_parted s t u (EntryAt n) h = parted (length s.entries) (length t.entries) (length u.entries) n h
new_parted s t u (EnumAt n) h = parted (length s.enums) (length t.enums) (length u.enums) n h

not_new : (a b n : ℕ) → a ≡ b → (b ≤ n) × (n < a) → ⊥
not_new a b n e h = omega (arith, e, h.0, h.1)

-- ---- each that is new is led to, whatever is named later ----

pub record Led (s t : Named) (L : Target → Named → Type 0) : Type 0 where
  pub grown : Grows s t
  pub new : (x : Target) → IsNew s t x → (z : Named) → Grows t z → L x z

abbrev pub IsLed : {A : Type 0} → Work A → (Target → Named → Type 0) → Type 0
IsLed w L = (s : Named) → IfDone (λ a t. Led s t L) (w s)

-- nothing is kept of entries here
abbrev pub AnyEntries : List Entry → Type 0
AnyEntries es = Unit {0}

pub any_whole : (nodes : List SchemaNode) → KeepsWhole AnyEntries nodes
any_whole nodes es id bound few none scopes k = tt

none_new : (s t : Named) (L : Target → Named → Type 0) → t.entries ≡ s.entries → t.enums ≡ s.enums → (x : Target) → IsNew s t x → (z : Named) → Grows t z → L x z
none_new s t L e f (EntryAt n) is z g = absurd (not_new (length t.entries) (length s.entries) n (ap (λ xs. length xs) e) is)
none_new s t L e f (EnumAt n) is z g = absurd (not_new (length t.enums) (length s.enums) n (ap (λ xs. length xs) f) is)

pub led_none : (s t : Named) (L : Target → Named → Type 0) → t.entries ≡ s.entries → t.enums ≡ s.enums → Led s t L
led_none s t L e f = record { grown = grows_same s t e f; new = none_new s t L e f }

pub led_of : {A : Type 0} (a : A) (L : Target → Named → Type 0) → IsLed (work_of a) L
led_of a L s = led_none s s L refl refl

pub led_where : {A : Type 0} (b : Bool) (kind : ErrorKind) (s : Named) (L : Target → Named → Type 0) (r : Result (A × Named) ErrorKind) → (b ≡ true → IfDone (λ a t. Led s t L) r) → IfDone (λ a t. Led s t L) (where_so b kind r)
led_where true kind s L r h = h refl
led_where false kind s L r h = tt

pub led_else : {A : Type 0} (b : Bool) (s : Named) (L : Target → Named → Type 0) (r other : Result (A × Named) ErrorKind) → (b ≡ true → IfDone (λ a t. Led s t L) r) → (b ≡ false → IfDone (λ a t. Led s t L) other) → IfDone (λ a t. Led s t L) (where_else b r other)
led_else true s L r other h k = h refl
led_else false s L r other h k = k refl

pub led_weaken : {A : Type 0} (w : Work A) (L M : Target → Named → Type 0) → ((x : Target) (z : Named) → L x z → M x z) → IsLed w L → IsLed w M
led_weaken {A = A} w L M f h s = go (w s) (h s)
  where
    go : (r : Result (A × Named) ErrorKind) → IfDone (λ a t. Led s t L) r → IfDone (λ a t. Led s t M) r
    go (Err kind) k = tt
    go (Ok p) k = record { grown = k.grown; new = λ x is z g. f x z (k.new x is z g) }

led_after : {B : Type 0} (s u : Named) (P : Named → Type 0) (L : Target → Named → Type 0) (r : Result (B × Named) ErrorKind) → ((z : Named) → Grows u z → P z) → Led s u L → IfDone (λ b t. Led u t (λ x z. P z → L x z)) r → IfDone (λ b t. Led s t L) r
led_after s u P L (Err kind) p k h = tt
led_after s u P L (Ok q) p k h = record { grown = grows_on s u q.1 k.grown h.grown; new = λ x is z g. go x z g (new_parted s u q.1 x is) }
  where
    go : (x : Target) (z : Named) → Grows q.1 z → IsNew s u x ⊎ IsNew u q.1 x → L x z
    go x z g (inl is) = k.new x is z (grows_on u q.1 z h.grown g)
    go x z g (inr is) = h.new x is z g (p z (grows_on u q.1 z h.grown g))

module _ {A B : Type 0} (w : Work A) (f : A → Work B) where
  -- what is led to by the second work may rest on what holds of the first one's result
  pub led_bind_with : (P : A → Named → Type 0) (L : Target → Named → Type 0) → IsWork AnyEntries w P → IsLed w L → ((a : A) → IsLed (f a) (λ x z. P a z → L x z)) → IsLed (w >>= f) L
  led_bind_with P L hw lw lf s = go (w s) (hw s) (lw s)
    where
      go : (r : Result (A × Named) ErrorKind) → IfDone (λ a t. Done AnyEntries s t (P a)) r → IfDone (λ a t. Led s t L) r → IfDone (λ b t. Led s t L) (work_continued f r)
      go (Err kind) h k = tt
      go (Ok p) h k = led_after s p.1 (P p.0) L (f p.0 p.1) h.later k (lf p.0 p.1)

  pub led_bind : (L : Target → Named → Type 0) → IsLed w L → ((a : A) → IsLed (f a) L) → IsLed (w >>= f) L
  led_bind L lw lf s = go (w s) (lw s)
    where
      weak : (u : Named) (r : Result (B × Named) ErrorKind) → IfDone (λ b t. Led u t L) r → IfDone (λ b t. Led u t (λ x z. Unit {0} → L x z)) r
      weak u (Err kind) k = tt
      weak u (Ok p) k = record { grown = k.grown; new = λ x is z g c. k.new x is z g }

      go : (r : Result (A × Named) ErrorKind) → IfDone (λ a t. Led s t L) r → IfDone (λ b t. Led s t L) (work_continued f r)
      go (Err kind) k = tt
      go (Ok p) k = led_after s p.1 (λ z. Unit {0}) L (f p.0 p.1) (λ z g. tt) k (weak p.1 (f p.0 p.1) (lf p.0 p.1))

pub led_said : {A B : Type 0} (d : Said A) (f : A → Work B) (L : Target → Named → Type 0) → ((a : A) → d ≡ Ok a → IsLed (f a) L) → IsLed (work_said d >>= f) L
led_said (Ok a) f L h = h a refl
led_said (Err kind) f L h = λ s. tt

pub led_node : {A : Type 0} (o : Option SchemaNode) (f : SchemaNode → Work A) (L : Target → Named → Type 0) → ((n : SchemaNode) → o ≡ Some n → IsLed (f n) L) → IsLed (at_node o f) L
led_node (Some n) f L h = h n refl
led_node None f L h = λ s. tt

pub led_struct : {A : Type 0} (k : NodeKind) (f : StructPart → Work A) (L : Target → Named → Type 0) → ((part : StructPart) → k ≡ StructNode part → IsLed (f part) L) → IsLed (at_struct k f) L
led_struct (StructNode part) f L h = h part refl
led_struct (EnumNode enumerants) f L h = λ s. tt
led_struct (AnnotationNode t) f L h = λ s. tt
led_struct OtherNode f L h = λ s. tt

pub led_enum : {A : Type 0} (k : NodeKind) (f : Said (List (Said EnumerantTerm)) → Work A) (L : Target → Named → Type 0) → ((members : Said (List (Said EnumerantTerm))) → k ≡ EnumNode members → IsLed (f members) L) → IsLed (at_enum k f) L
led_enum (EnumNode enumerants) f L h = h enumerants refl
led_enum (StructNode part) f L h = λ s. tt
led_enum (AnnotationNode t) f L h = λ s. tt
led_enum OtherNode f L h = λ s. tt

-- ---- what is seen in work alone ----

module _ {A : Type 0} (w : Work A) (L : Target → Named → Type 0) (hw : IsLed w L) where
  pub led_seen : IsLed (seen_in w) L
  led_seen s = go (w (record s { seen = nothing_seen })) (hw (record s { seen = nothing_seen }))
    where
      still : (t : Named) (x : Target) → IsNew s (record t { seen = nothing_seen }) x → IsNew (record s { seen = nothing_seen }) t x
      still t (EntryAt n) is = is
      still t (EnumAt n) is = is

      go : (r : Result (A × Named) ErrorKind) → IfDone (λ a t. Led (record s { seen = nothing_seen }) t L) r
          → IfDone (λ (p : A × Seen) (t : Named). Led s t L) (work_continued (λ (a : A) (t : Named). Ok ((a, t.seen), record t { seen = nothing_seen })) r)
      go (Err kind) h = tt
      go (Ok p) h = record {
        grown = record { entries = h.grown.entries; enums = h.grown.enums; entries_are = h.grown.entries_are; enums_are = h.grown.enums_are };
        new = λ x is z g. h.new x (still p.1 x is) z (record { entries = g.entries; enums = g.enums; entries_are = g.entries_are; enums_are = g.enums_are });
      }

  pub led_unnoted : IsLed (work_unnoted w) L
  led_unnoted = led_bind (seen_in w) (λ p. work_of p.0) L led_seen (λ p. led_of p.0 L)

-- ---- the same work for each of a list ----

module _ (types : Bound → Work (List MarkedType)) (L : Bound → Target → Named → Type 0) (h : (b : Bound) → IsLed (types b) (L b)) where
  pub led_scopes : (bs : List Bound) → IsLed (each (bind_scope types) bs) (λ x z. AnyBound (λ b. L b x z) bs)
  led_scopes [] = led_of {A = List Bound} [] (λ x z. ⊥)
  led_scopes (b ∷ bs) =
      led_bind (bind_scope types b) (λ c. each (bind_scope types) bs >>= (λ cs. work_of (c ∷ cs))) (λ x z. AnyBound (λ d. L d x z) (b ∷ bs))
      (led_weaken (bind_scope types b) (L b) (λ x z. AnyBound (λ d. L d x z) (b ∷ bs)) (λ x z k. inl k) (led_bind (types b) (λ ts. work_of (record b { types = ts })) (L b) (h b) (λ ts. led_of (record b { types = ts }) (L b))))
      (λ c. led_bind (each (bind_scope types) bs) (λ cs. work_of (c ∷ cs)) (λ x z. AnyBound (λ d. L d x z) (b ∷ bs))
      (led_weaken (each (bind_scope types) bs) (λ x z. AnyBound (λ d. L d x z) bs) (λ x z. AnyBound (λ d. L d x z) (b ∷ bs)) (λ x z k. inr k) (led_scopes bs))
      (λ cs. led_of (c ∷ cs) (λ x z. AnyBound (λ d. L d x z) (b ∷ bs))))

-- one of a list leads there
pub record OneLeads {A : Type 0} (d : Said (List (Said A))) (L : A → Target → Named → Type 0) (x : Target) (z : Named) : Type 0 where
  pub index : ℕ
  pub one : A
  pub read : IsRead d index one
  pub leads : L one x z

same_list : {A : Type 0} (a b : List (Said A)) → ◌≡◌ {A = Said (List (Said A))} (Ok a) (Ok b) → a ≡ b
same_list a b e = cc

module _ {A B : Type 0} (f : A → Work B) (L : A → Target → Named → Type 0) (h : (a : A) → IsLed (f a) (L a)) where
  one_first : (a : A) (rest : List (Said A)) (x : Target) (z : Named) → L a x z → OneLeads (Ok (Ok a ∷ rest)) L x z
  one_first a rest x z l = record { index = 0; one = a; read = record { list = Ok a ∷ rest; said = refl; there = refl }; leads = l }

  one_later : (a : Said A) (rest : List (Said A)) (x : Target) (z : Named) → OneLeads (Ok rest) L x z → OneLeads (Ok (a ∷ rest)) L x z
  one_later a rest x z o = record { index = suc o.index; one = o.one; read = record { list = a ∷ rest; said = refl; there = ap (λ xs. slice_get xs o.index) (same_list rest o.read.list o.read.said) ∙ o.read.there }; leads = o.leads }

  pub led_each : (list : List (Said A)) → IsLed (each_read f list) (OneLeads (Ok list) L)
  led_each [] = led_of {A = List B} [] (OneLeads (Ok []) L)
  led_each (Err kind ∷ list) = λ s. tt
  led_each (Ok a ∷ list) =
      led_bind (f a) (λ y. each_read f list >>= (λ ys. work_of (y ∷ ys))) (OneLeads (Ok (Ok a ∷ list)) L)
      (led_weaken (f a) (L a) (OneLeads (Ok (Ok a ∷ list)) L) (one_first a list) (h a))
      (λ y. led_bind (each_read f list) (λ ys. work_of (y ∷ ys)) (OneLeads (Ok (Ok a ∷ list)) L)
      (led_weaken (each_read f list) (OneLeads (Ok list) L) (OneLeads (Ok (Ok a ∷ list)) L) (one_later (Ok a) list) (led_each list))
      (λ ys. led_of (y ∷ ys) (OneLeads (Ok (Ok a ∷ list)) L)))

  pub led_all : (d : Said (List (Said A))) → IsLed (work_said d >>= each_read f) (OneLeads d L)
  led_all (Ok list) = led_each list
  led_all (Err kind) = λ s. tt
