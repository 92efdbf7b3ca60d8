-- Work that only adds to what was named, and of whose result something holds from then on.
use Rattle.std.proofs.Common.{ℕ, ◌≡◌, ◌∙◌, ap, refl, sym, append_assoc, Bool, true, false, List, [], ◌∷◌, ◌++◌, map, slice_get, Option, Some, None, Result, Ok, Err}
use Rattle.std.proofs.lemmas.List.{append-nil}
use Rattle.capnp_device.specs.declared.error.ErrorKind.{ErrorKind}
use Rattle.capnp_request.specs.Order.{at_enum, at_node, at_struct}
use Rattle.capnp_request.specs.Terms.{AnnotationNode, EnumNode, EnumerantTerm, NodeKind, OtherNode, Said, SchemaNode, StructNode, StructPart}
use Rattle.capnp_request.specs.Work.{Entry, Named, Seen, Work, each_read, nothing_seen, seen_in, where_else, where_so, work_continued, work_of, work_said, work_unnoted, ◌>>=◌}
use Rattle.capnp_request_meaning.specs.Meaning.{EachSaid, IsSaidList}
use Rattle.capnp_request_meaning.proofs.ListsFound.{still_at}

-- ---- what was named grows ----

pub record Grows (s t : Named) : Type 0 where
  pub entries : List Entry
  pub enums : List ℕ
  pub entries_are : t.entries ≡ s.entries ++ entries
  pub enums_are : t.enums ≡ s.enums ++ enums

-- it stays where nothing but what was seen changes
pub grows_same : (s t : Named) → t.entries ≡ s.entries → t.enums ≡ s.enums → Grows s t
grows_same s t e f = record { entries = []; enums = []; entries_are = e ∙ sym (append-nil s.entries); enums_are = f ∙ sym (append-nil s.enums) }

pub grows_none : (s : Named) → Grows s s
grows_none s = grows_same s s refl refl

pub grows_on : (s t u : Named) → Grows s t → Grows t u → Grows s u
grows_on s t u g h = record {
  entries = g.entries ++ h.entries;
  enums = g.enums ++ h.enums;
  entries_are = h.entries_are ∙ (ap (λ xs. xs ++ h.entries) g.entries_are ∙ append_assoc s.entries g.entries h.entries);
  enums_are = h.enums_are ∙ (ap (λ xs. xs ++ h.enums) g.enums_are ∙ append_assoc s.enums g.enums h.enums);
}

pub entry_still : (s t : Named) → Grows s t → (n : ℕ) (e : Entry) → slice_get s.entries n ≡ Some e → slice_get t.entries n ≡ Some e
entry_still s t g n e h = ap (λ xs. slice_get xs n) g.entries_are ∙ still_at s.entries g.entries n e h

pub enum_still : (s t : Named) → Grows s t → (n id : ℕ) → slice_get s.enums n ≡ Some id → slice_get t.enums n ≡ Some id
enum_still s t g n id h = ap (λ xs. slice_get xs n) g.enums_are ∙ still_at s.enums g.enums n id h

-- ---- work, with what is kept of the entries and what holds later ----

-- from s to t: something is kept of the entries, and something holds whatever is named behind t
pub record Done (K : List Entry → Type 0) (s t : Named) (P : Named → Type 0) : Type 0 where
  pub grown : Grows s t
  pub kept : K s.entries → K t.entries
  pub later : (z : Named) → Grows t z → P z

abbrev pub IfDone : {A : Type 0} → (A → Named → Type 0) → Result (A × Named) ErrorKind → Type 0
IfDone Q (Ok p) = Q p.0 p.1
IfDone Q (Err kind) = Unit {0}

abbrev pub IsWork : {A : Type 0} → (List Entry → Type 0) → Work A → (A → Named → Type 0) → Type 0
IsWork K w P = (s : Named) → IfDone (λ a t. Done K s t (P a)) (w s)

-- nothing in particular
abbrev pub Anything : {A : Type 0} → A → Named → Type 0
Anything a z = Unit {0}

module _ (K : List Entry → Type 0) where
  pub nothing_new : (s t : Named) (P : Named → Type 0) → t.entries ≡ s.entries → t.enums ≡ s.enums → (K s.entries → K t.entries) → ((z : Named) → Grows s z → P z) → Done K s t P
  nothing_new s t P e f k p = record { grown = grows_same s t e f; kept = k; later = λ z g. p z (grows_on s t z (grows_same s t e f) g) }

  pub stays : (s : Named) (P : Named → Type 0) → ((z : Named) → Grows s z → P z) → Done K s s P
  stays s P p = record { grown = grows_none s; kept = λ k. k; later = p }

  after : {B : Type 0} (s u : Named) (P : Named → Type 0) (Q : B → Named → Type 0) (r : Result (B × Named) ErrorKind) → Done K s u P → IfDone (λ b t. Done K u t (λ z. P z → Q b z)) r → IfDone (λ b t. Done K s t (Q b)) r
  after s u P Q (Err kind) d h = tt
  after s u P Q (Ok q) d h = record {
    grown = grows_on s u q.1 d.grown h.grown;
    kept = λ k. h.kept (d.kept k);
    later = λ z g. h.later z g (d.later z (grows_on u q.1 z h.grown g));
  }

  pub of_work : {A : Type 0} (a : A) (P : A → Named → Type 0) → ((z : Named) → P a z) → IsWork K (work_of a) P
  of_work a P p s = stays s (P a) (λ z g. p z)

  pub done_where : {A : Type 0} (b : Bool) (kind : ErrorKind) (Q : A → Named → Type 0) (r : Result (A × Named) ErrorKind) → (b ≡ true → IfDone Q r) → IfDone Q (where_so b kind r)
  done_where true kind Q r h = h refl
  done_where false kind Q r h = tt

  pub done_else : {A : Type 0} (b : Bool) (Q : A → Named → Type 0) (r other : Result (A × Named) ErrorKind) → IfDone Q r → IfDone Q other → IfDone Q (where_else b r other)
  done_else true Q r other h k = h
  done_else false Q r other h k = k

  pub weaken : {A : Type 0} (s : Named) (P Q : A → Named → Type 0) (r : Result (A × Named) ErrorKind) → ((a : A) (z : Named) → Grows s z → P a z → Q a z) → IfDone (λ a t. Done K s t (P a)) r → IfDone (λ a t. Done K s t (Q a)) r
  weaken s P Q (Err kind) f h = tt
  weaken s P Q (Ok p) f h = record { grown = h.grown; kept = h.kept; later = λ z g. f p.0 z (grows_on s p.1 z h.grown g) (h.later z g) }

  pub weaker : {A : Type 0} (w : Work A) (P Q : A → Named → Type 0) → ((a : A) (z : Named) → P a z → Q a z) → IsWork K w P → IsWork K w Q
  weaker w P Q f h s = weaken s P Q (w s) (λ a z g p. f a z p) (h s)

  module _ {A B : Type 0} (w : Work A) (f : A → Work B) where
    pub bind : (P : A → Named → Type 0) (Q : B → Named → Type 0) → IsWork K w P → ((a : A) → IsWork K (f a) (λ b z. P a z → Q b z)) → IsWork K (w >>= f) Q
    bind P Q hw hf s = go (w s) (hw s)
      where
        go : (x : Result (A × Named) ErrorKind) → IfDone (λ a t. Done K s t (P a)) x → IfDone (λ b t. Done K s t (Q b)) (work_continued f x)
        go (Err kind) h = tt
        go (Ok p) h = after s p.1 (P p.0) Q (f p.0 p.1) h (hf p.0 p.1)

    -- the same where some of what holds of the first result does not depend on what is named
    pub bind_with : (C : A → Type 0) (P : A → Named → Type 0) (Q : B → Named → Type 0) → IsWork K w (λ a z. C a × P a z) → ((a : A) → C a → IsWork K (f a) (λ b z. P a z → Q b z)) → IsWork K (w >>= f) Q
    bind_with C P Q hw hf s = go (w s) (hw s)
      where
        go : (x : Result (A × Named) ErrorKind) → IfDone (λ a t. Done K s t (λ z. C a × P a z)) x → IfDone (λ b t. Done K s t (Q b)) (work_continued f x)
        go (Err kind) h = tt
        go (Ok p) h =
            let c : C p.0 × P p.0 p.1 = h.later p.1 (grows_none p.1) in
            after s p.1 (λ z. C p.0 × P p.0 z) Q (f p.0 p.1) h (weaken p.1 (λ b z. P p.0 z → Q b z) (λ b z. (C p.0 × P p.0 z) → Q b z) (f p.0 p.1) (λ b z g q d. q d.1) (hf p.0 c.0 p.1))

  pub said_bind : {A B : Type 0} (d : Said A) (f : A → Work B) (Q : B → Named → Type 0) → ((a : A) → d ≡ Ok a → IsWork K (f a) Q) → IsWork K (work_said d >>= f) Q
  said_bind (Ok a) f Q h = h a refl
  said_bind (Err kind) f Q h = λ s. tt

  pub node_bind : {A : Type 0} (o : Option SchemaNode) (f : SchemaNode → Work A) (Q : A → Named → Type 0) → ((n : SchemaNode) → o ≡ Some n → IsWork K (f n) Q) → IsWork K (at_node o f) Q
  node_bind (Some n) f Q h = h n refl
  node_bind None f Q h = λ s. tt

  pub struct_bind : {A : Type 0} (k : NodeKind) (f : StructPart → Work A) (Q : A → Named → Type 0) → ((part : StructPart) → k ≡ StructNode part → IsWork K (f part) Q) → IsWork K (at_struct k f) Q
  struct_bind (StructNode part) f Q h = h part refl
  struct_bind (EnumNode enumerants) f Q h = λ s. tt
  struct_bind (AnnotationNode t) f Q h = λ s. tt
  struct_bind OtherNode f Q h = λ s. tt

  pub enum_bind : {A : Type 0} (k : NodeKind) (f : Said (List (Said EnumerantTerm)) → Work A) (Q : A → Named → Type 0) → ((members : Said (List (Said EnumerantTerm))) → k ≡ EnumNode members → IsWork K (f members) Q) → IsWork K (at_enum k f) Q
  enum_bind (EnumNode enumerants) f Q h = h enumerants refl
  enum_bind (StructNode part) f Q h = λ s. tt
  enum_bind (AnnotationNode t) f Q h = λ s. tt
  enum_bind OtherNode f Q h = λ s. tt

  -- ---- what is seen in work alone ----

  module _ {A : Type 0} (w : Work A) (P : A → Named → Type 0) (hw : IsWork K w P) where
    pub seen_alone : IsWork K (seen_in w) (λ p z. P p.0 z)
    seen_alone s = go (w (record s { seen = nothing_seen })) (hw (record s { seen = nothing_seen }))
      where
        go : (x : Result (A × Named) ErrorKind) → IfDone (λ a t. Done K (record s { seen = nothing_seen }) t (P a)) x
            → IfDone (λ (p : A × Seen) (t : Named). Done K s t (P p.0)) (work_continued (λ (a : A) (t : Named). Ok ((a, t.seen), record t { seen = nothing_seen })) x)
        go (Err kind) h = tt
        go (Ok p) h = record {
          grown = record { entries = h.grown.entries; enums = h.grown.enums; entries_are = h.grown.entries_are; enums_are = h.grown.enums_are };
          kept = h.kept;
          later = λ z g. h.later z (record { entries = g.entries; enums = g.enums; entries_are = g.entries_are; enums_are = g.enums_are });
        }

    pub unnoted : IsWork K (work_unnoted w) P
    unnoted = bind (seen_in w) (λ p. work_of p.0) (λ p z. P p.0 z) P seen_alone (λ p. of_work p.0 (λ a z. P p.0 z → P a z) (λ z h. h))

  -- ---- the same work for each of a list ----

  module _ {A B C D : Type 0} (f : A → Work D) (g : D → B) (h : D → C) (R : Named → A → B → C → Type 0) (hf : (x : A) → IsWork K (f x) (λ c z. R z x (g c) (h c))) where
    pub each_of : (xs : List (Said A)) → IsWork K (each_read f xs) (λ cs z. EachSaid (R z) xs (map g cs) (map h cs))
    each_of [] = of_work [] (λ cs z. EachSaid (R z) [] (map g cs) (map h cs)) (λ z. tt)
    each_of (Err kind ∷ xs) = λ s. tt
    each_of (Ok x ∷ xs) =
        bind (f x) (λ y. each_read f xs >>= (λ ys. work_of (y ∷ ys))) (λ c z. R z x (g c) (h c)) (λ cs z. EachSaid (R z) (Ok x ∷ xs) (map g cs) (map h cs)) (hf x)
        (λ y. bind (each_read f xs) (λ ys. work_of (y ∷ ys)) (λ cs z. EachSaid (R z) xs (map g cs) (map h cs)) (λ cs z. R z x (g y) (h y) → EachSaid (R z) (Ok x ∷ xs) (map g cs) (map h cs)) (each_of xs)
        (λ ys. of_work (y ∷ ys) (λ cs z. EachSaid (R z) xs (map g ys) (map h ys) → R z x (g y) (h y) → EachSaid (R z) (Ok x ∷ xs) (map g cs) (map h cs)) (λ z rest one. (one, rest))))

    pub all_of : (d : Said (List (Said A))) → IsWork K (work_said d >>= each_read f) (λ cs z. IsSaidList (R z) d (map g cs) (map h cs))
    all_of (Ok xs) = each_of xs
    all_of (Err kind) = λ s. tt
