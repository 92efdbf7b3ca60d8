-- Lists of differences, and what is told beside them.
use Rattle.std.proofs.Common.{ℕ, ◌+◌, ◌<◌, ◌≤◌, ◌≡◌, ◌↔◌, ◌⊎◌, inl, inr, ⊎_elim, refl, List, [], ◌∷◌, ◌++◌, Bool, true, false, IsTrue, Contains, Option, Some, None, length, arith, ap, ap₂, sym, ◌∙◌, subst}
use Rattle.std.proofs.lemmas.Bool.{cases_lt}
use Rattle.std.proofs.lemmas.List.Elements.{Contains-append_left, Contains-push, Contains-push_cases}
use Rattle.capnp_schema.specs.Schema.{Field, Node, Schemas, TypedField, field_at, fields_of, node_of}
use Rattle.capnp_schema.specs.Types.{SchemaType}
use Rattle.capnp_differences.specs.Differences.{DiffersAt, FieldDiffers, FieldsDiffer, Holds, SameDefaults, UnionDiffers, kind_change, member_change, members_change, place_change, type_change, unless}
use Rattle.capnp_differences.specs.Steps.Comparing.{default_change}
use Rattle.capnp_differences.specs.Steps.Telling.{IsKnown, IsOf, IsOfFields, IsOfPair, Tells, difference_of}
use Rattle.capnp_differences.specs.declared.differences.Cause.{Cause}
use Rattle.capnp_differences.specs.declared.differences.Cause.TheVariants as cause
use Rattle.capnp_differences.specs.declared.differences.Difference.{Difference}
use Rattle.capnp_differences.specs.declared.differences.Pair.{Pair}

-- ---- one after another ----

pub tells_none : (xs : List Difference) (New : Difference → Type 0) → ((d : Difference) → New d → ⊥) → Tells xs xs New
tells_none xs New quiet d = (λ h. inl h, λ h. ⊎_elim (λ l. l) (λ n. absurd (quiet d n)) h)

tells_one : (xs : List Difference) (x : Difference) → Tells xs (xs ++ (x ∷ [])) (λ d. d ≡ x)
tells_one xs x d = (λ h. turned (Contains-push_cases xs x d h), λ h. ⊎_elim (λ l. Contains-append_left xs (x ∷ []) d l) (λ e. subst (λ (y : Difference). Contains (xs ++ (x ∷ [])) y) (sym e) (Contains-push xs x)) h)
  where
    turned : Contains xs d ⊎ (x ≡ d) → Contains xs d ⊎ (d ≡ x)
    turned (inl l) = inl l
    turned (inr e) = inr (sym e)

module _ (xs ys : List Difference) (P : Difference → Type 0) (f : Tells xs ys P) where
  pub tells_as : (Q : Difference → Type 0) → ((d : Difference) → (P d ↔ Q d)) → Tells xs ys Q
  tells_as Q same d = (λ h. ⊎_elim (λ l. inl l) (λ p. inr ((same d).0 p)) ((f d).0 h), λ h. (f d).1 (⊎_elim (λ l. inl l) (λ q. inr ((same d).1 q)) h))

  pub tells_then : (zs : List Difference) (Q : Difference → Type 0) → Tells ys zs Q → Tells xs zs (λ d. P d ⊎ Q d)
  tells_then zs Q g d = (λ h. ⊎_elim (λ l. first ((f d).0 l)) (λ q. inr (inr q)) ((g d).0 h), λ h. (g d).1 (back h))
    where
      first : Contains xs d ⊎ P d → Contains xs d ⊎ (P d ⊎ Q d)
      first (inl l) = inl l
      first (inr p) = inr (inl p)

      back : Contains xs d ⊎ (P d ⊎ Q d) → Contains ys d ⊎ Q d
      back (inl l) = inl ((f d).1 (inl l))
      back (inr (inl p)) = inl ((f d).1 (inr p))
      back (inr (inr q)) = inr q

-- ---- by causes ----

module _ (p : Pair) (o : Option ℕ) where
  pub told_none : (xs : List Difference) (k : Option Cause) → k ≡ None → Tells xs xs (IsOf p o (λ c. k ≡ Some c))
  told_none xs k is = tells_none xs (IsOf p o (λ c. k ≡ Some c)) (λ d h. absurd (clash h.0 h.1))
    where
      clash : (c : Cause) → k ≡ Some c → ⊥
      clash c e = cc

  pub told_some : (xs ys : List Difference) (k : Option Cause) (x : Cause) → k ≡ Some x → ys ≡ xs ++ (difference_of p o x ∷ []) → Tells xs ys (IsOf p o (λ c. k ≡ Some c))
  told_some xs ys k x is put =
      subst (λ (l : List Difference). Tells xs l (IsOf p o (λ c. k ≡ Some c))) (sym put)
      (tells_as xs (xs ++ (difference_of p o x ∷ [])) (λ d. d ≡ difference_of p o x) (tells_one xs (difference_of p o x)) (IsOf p o (λ c. k ≡ Some c)) (λ d. (λ e. (x, is, e), λ h. h.2 ∙ ap (difference_of p o) (same h.0 h.1))))
    where
      same : (c : Cause) → k ≡ Some c → c ≡ x
      same c e = cc

  pub causes_as : (xs ys : List Difference) (P Q : Cause → Type 0) → ((c : Cause) → (P c ↔ Q c)) → Tells xs ys (IsOf p o P) → Tells xs ys (IsOf p o Q)
  causes_as xs ys P Q same f = tells_as xs ys (IsOf p o P) f (IsOf p o Q) (λ d. (λ h. (h.0, (same h.0).0 h.1, h.2), λ h. (h.0, (same h.0).1 h.1, h.2)))

  pub causes_then : (xs ys zs : List Difference) (P Q : Cause → Type 0) → Tells xs ys (IsOf p o P) → Tells ys zs (IsOf p o Q) → Tells xs zs (IsOf p o (λ c. P c ⊎ Q c))
  causes_then xs ys zs P Q f g = tells_as xs zs (λ d. IsOf p o P d ⊎ IsOf p o Q d) (tells_then xs ys (IsOf p o P) f zs (IsOf p o Q) g) (IsOf p o (λ c. P c ⊎ Q c)) (λ d. (there d, back d))
    where
      there : (d : Difference) → IsOf p o P d ⊎ IsOf p o Q d → IsOf p o (λ c. P c ⊎ Q c) d
      there d (inl h) = (h.0, inl h.1, h.2)
      there d (inr h) = (h.0, inr h.1, h.2)

      back : (d : Difference) → IsOf p o (λ c. P c ⊎ Q c) d → IsOf p o P d ⊎ IsOf p o Q d
      back d (c, inl h, e) = inl (c, h, e)
      back d (c, inr h, e) = inr (c, h, e)

  -- what is told by a cause that is another's equal
  pub told_by : (xs ys : List Difference) (k l : Option Cause) → k ≡ l → Tells xs ys (IsOf p o (λ c. k ≡ Some c)) → Tells xs ys (IsOf p o (λ c. l ≡ Some c))
  told_by xs ys k l same f = subst (λ (x : Option Cause). Tells xs ys (IsOf p o (λ c. x ≡ Some c))) same f

-- ---- unions ----

pub union_told : (p : Pair) (n m : Node) (xs ys zs : List Difference) (k l : Option Cause) → k ≡ members_change n m → l ≡ place_change n m
    → Tells xs ys (IsOf p None (λ c. k ≡ Some c)) → Tells ys zs (IsOf p None (λ c. l ≡ Some c)) → Tells xs zs (IsOf p None (UnionDiffers n m))
union_told p n m xs ys zs k l e f g h =
    causes_then p None xs ys zs (λ c. members_change n m ≡ Some c) (λ c. place_change n m ≡ Some c)
    (told_by p None xs ys k (members_change n m) e g) (told_by p None ys zs l (place_change n m) f h)

-- ---- fields ----

pub known_from : (same : Bool) (S : Type 0) → (IsTrue same ↔ S) → IsKnown S
known_from true S is = inl (is.0 refl)
known_from false S is = inr (λ s. clash (is.1 s))
  where
    clash : false ≡ true → ⊥
    clash e = cc

-- defaults are compared, unless the types differ
pub by_types : (t : Option Cause) → (t ≡ Some cause.TypeChanged) ⊎ ((t ≡ Some cause.TypeChanged → ⊥) × ((same : Bool) → default_change same t ≡ unless same cause.DefaultChanged))
by_types (Some cause.TypeChanged) = inl refl
by_types t = inr (λ e. cc, λ same. refl)

unless_causes : (same : Bool) (S : Type 0) → (IsTrue same ↔ S) → (c : Cause) → ((unless same cause.DefaultChanged ≡ Some c) ↔ ((c ≡ cause.DefaultChanged) × (S → ⊥)))
unless_causes true S is c = (λ e. absurd (none e), λ h. absurd (h.1 (is.0 refl)))
  where
    none : None ≡ Some c → ⊥
    none e = cc
unless_causes false S is c = (λ e. (same e, λ s. clash (is.1 s)), λ h. ap (λ (x : Cause). Some x) (sym h.0))
  where
    same : Some cause.DefaultChanged ≡ Some c → c ≡ cause.DefaultChanged
    same e = cc

    clash : false ≡ true → ⊥
    clash e = cc

default_causes : (same : Bool) (S : Type 0) → (IsTrue same ↔ S) → (t : Option Cause) (c : Cause) → ((default_change same t ≡ Some c) ↔ ((c ≡ cause.DefaultChanged) × (S → ⊥) × (t ≡ Some cause.TypeChanged → ⊥)))
default_causes same S is t c = at (by_types t)
  where
    at : (t ≡ Some cause.TypeChanged) ⊎ ((t ≡ Some cause.TypeChanged → ⊥) × ((b : Bool) → default_change b t ≡ unless b cause.DefaultChanged)) → ((default_change same t ≡ Some c) ↔ ((c ≡ cause.DefaultChanged) × (S → ⊥) × (t ≡ Some cause.TypeChanged → ⊥)))
    at (inl e) = (λ h. absurd (none (subst (λ (x : Option Cause). default_change same x ≡ Some c) e h)), λ h. absurd (h.2 e))
      where
        none : None ≡ Some c → ⊥
        none h = cc
    at (inr (other, plain)) = (λ h. let k = (unless_causes same S is c).0 (sym (plain same) ∙ h) in (k.0, k.1, other), λ h. plain same ∙ (unless_causes same S is c).1 (h.0, h.1))

abbrev pub typed_as : Field → SchemaType → TypedField
typed_as f t = record { field = f; type = t }

abbrev ByKind : TypedField → TypedField → Cause → Type 0
ByKind f g c = kind_change f.field.kind g.field.kind ≡ Some c

abbrev ByDefault : Schemas → TypedField → TypedField → Cause → Type 0
ByDefault set f g c = (c ≡ cause.DefaultChanged) × (SameDefaults f.field.kind g.field.kind → ⊥) × (type_change cause.TypeChanged set f.type g.type ≡ Some cause.TypeChanged → ⊥)

abbrev ByMember : TypedField → TypedField → Cause → Type 0
ByMember f g c = member_change f.field g.field ≡ Some c

abbrev ByType : Schemas → TypedField → TypedField → Cause → Type 0
ByType set f g c = type_change cause.TypeChanged set f.type g.type ≡ Some c

module _ (p : Pair) (o : Option ℕ) (set : Schemas) (f g : TypedField) (xs x1 x2 x3 x4 : List Difference) (kinds defaults members types : Option Cause) (same : Bool)
    (is : IsTrue same ↔ SameDefaults f.field.kind g.field.kind) where
  pub shared_told : kinds ≡ kind_change f.field.kind g.field.kind → defaults ≡ default_change same types → members ≡ member_change f.field g.field → types ≡ type_change cause.TypeChanged set f.type g.type
      → Tells xs x1 (IsOf p o (λ c. kinds ≡ Some c)) → Tells x1 x2 (IsOf p o (λ c. defaults ≡ Some c)) → Tells x2 x3 (IsOf p o (λ c. members ≡ Some c)) → Tells x3 x4 (IsOf p o (λ c. types ≡ Some c))
      → Tells xs x4 (IsOf p o (FieldsDiffer set f g))
  shared_told e1 e2 e3 e4 t1 t2 t3 t4 =
      causes_then p o xs x1 x4 (ByKind f g) (λ c. ByDefault set f g c ⊎ (ByMember f g c ⊎ ByType set f g c)) (told_by p o xs x1 kinds (kind_change f.field.kind g.field.kind) e1 t1)
      (causes_then p o x1 x2 x4 (ByDefault set f g) (λ c. ByMember f g c ⊎ ByType set f g c) (causes_as p o x1 x2 (λ c. default_change same (type_change cause.TypeChanged set f.type g.type) ≡ Some c) (ByDefault set f g) (default_causes same (SameDefaults f.field.kind g.field.kind) is (type_change cause.TypeChanged set f.type g.type)) (told_by p o x1 x2 defaults (default_change same (type_change cause.TypeChanged set f.type g.type)) (e2 ∙ ap (default_change same) e4) t2))
      (causes_then p o x2 x3 x4 (ByMember f g) (ByType set f g) (told_by p o x2 x3 members (member_change f.field g.field) e3 t3) (told_by p o x3 x4 types (type_change cause.TypeChanged set f.type g.type) e4 t4)))

-- the same of a field whose record and type are those of what was looked at
module _ (p : Pair) (o : Option ℕ) (set : Schemas) (f g : TypedField) (a b : Field) (s t : SchemaType) (ea : a ≡ f.field) (eb : b ≡ g.field) where
  pub shared_as : (xs ys : List Difference) → s ≡ f.type → t ≡ g.type → Tells xs ys (IsOf p o (FieldsDiffer set (typed_as a s) (typed_as b t))) → Tells xs ys (IsOf p o (FieldsDiffer set f g))
  shared_as xs ys es et told =
      subst (λ (y : TypedField). Tells xs ys (IsOf p o (FieldsDiffer set f y))) (ap₂ typed_as eb et)
      (subst (λ (x : TypedField). Tells xs ys (IsOf p o (FieldsDiffer set x (typed_as b t)))) (ap₂ typed_as ea es) told)

-- it is known whether their defaults are the same
pub known_as : (same : Bool) (f g : TypedField) (a b : Field) → a ≡ f.field → b ≡ g.field → (IsTrue same ↔ SameDefaults a.kind b.kind) → IsKnown (SameDefaults f.field.kind g.field.kind)
known_as same f g a b ea eb is =
    subst (λ (y : Field). IsKnown (SameDefaults f.field.kind y.kind)) eb (subst (λ (x : Field). IsKnown (SameDefaults x.kind b.kind)) ea (known_from same (SameDefaults a.kind b.kind) is))

-- a field of the older struct
module _ (set : Schemas) (p : Pair) (i : ℕ) (xs ys : List Difference) where
  pub gone_told : length (fields_of set p.newer) ≤ i → Tells xs ys (IsOf p (Some i) (λ c. Some cause.FieldGone ≡ Some c)) → Tells xs ys (IsOf p (Some i) (FieldDiffers set p.older p.newer i))
  gone_told past t = causes_as p (Some i) xs ys (λ c. Some cause.FieldGone ≡ Some c) (FieldDiffers set p.older p.newer i) (λ c. (there c, back c)) t
    where
      there : (c : Cause) → Some cause.FieldGone ≡ Some c → FieldDiffers set p.older p.newer i c
      there c e = inl (past, cc)

      back : (c : Cause) → FieldDiffers set p.older p.newer i c → Some cause.FieldGone ≡ Some c
      back c (inl gone) = ap (λ (x : Cause). Some x) (sym gone.1)
      back c (inr there) = absurd (let here = there.0 in omega arith)

  pub field_told : (f g : TypedField) → f ≡ field_at set p.older i → g ≡ field_at set p.newer i → i < length (fields_of set p.newer) → Tells xs ys (IsOf p (Some i) (FieldsDiffer set f g)) → Tells xs ys (IsOf p (Some i) (FieldDiffers set p.older p.newer i))
  field_told f g e h here t =
      causes_as p (Some i) xs ys (FieldsDiffer set (field_at set p.older i) (field_at set p.newer i)) (FieldDiffers set p.older p.newer i) (λ c. (λ d. inr (here, d), back c))
      (subst (λ (y : TypedField). Tells xs ys (IsOf p (Some i) (FieldsDiffer set (field_at set p.older i) y))) h (subst (λ (x : TypedField). Tells xs ys (IsOf p (Some i) (FieldsDiffer set x g))) e t))
    where
      back : (c : Cause) → FieldDiffers set p.older p.newer i c → FieldsDiffer set (field_at set p.older i) (field_at set p.newer i) c
      back c (inl gone) = absurd (let past = gone.0 in omega arith)
      back c (inr there) = there.1

-- one after another
module _ (set : Schemas) (p : Pair) where
  pub fields_none : (xs : List Difference) → Tells xs xs (IsOfFields set p 0)
  fields_none xs = tells_none xs (IsOfFields set p 0) (λ d h. absurd (let l = h.1 in omega arith))

  pub fields_more : (i : ℕ) (xs ys zs : List Difference) → Tells xs ys (IsOfFields set p i) → Tells ys zs (IsOf p (Some i) (FieldDiffers set p.older p.newer i)) → Tells xs zs (IsOfFields set p (i + 1))
  fields_more i xs ys zs f g = tells_as xs zs (λ d. IsOfFields set p i d ⊎ IsOf p (Some i) (FieldDiffers set p.older p.newer i) d) (tells_then xs ys (IsOfFields set p i) f zs (IsOf p (Some i) (FieldDiffers set p.older p.newer i)) g) (IsOfFields set p (i + 1)) (λ d. (there d, back d))
    where
      there : (d : Difference) → IsOfFields set p i d ⊎ IsOf p (Some i) (FieldDiffers set p.older p.newer i) d → IsOfFields set p (i + 1) d
      there d (inl h) = let lt = h.1 in (h.0, omega arith, h.2)
      there d (inr h) = (i, omega arith, h)

      back : (d : Difference) → IsOfFields set p (i + 1) d → IsOfFields set p i d ⊎ IsOf p (Some i) (FieldDiffers set p.older p.newer i) d
      back d h = ⊎_elim (λ lt. inl (h.0, lt, h.2)) (λ le. inr (let lt = h.1 in let same : h.0 ≡ i = omega arith in subst (λ (k : ℕ). IsOf p (Some k) (FieldDiffers set p.older p.newer k) d) same h.2)) (cases_lt h.0 i)

  -- the union, and then the fields
  pub pair_told : (n m : Node) (xs ys zs : List Difference) → n ≡ node_of set p.older → m ≡ node_of set p.newer → Tells xs ys (IsOf p None (UnionDiffers n m)) → Tells ys zs (IsOfFields set p (length (fields_of set p.older))) → Tells xs zs (IsOfPair set p)
  pair_told n m xs ys zs e h f g =
      tells_then xs ys (IsOf p None (UnionDiffers (node_of set p.older) (node_of set p.newer)))
      (subst (λ (y : Node). Tells xs ys (IsOf p None (UnionDiffers (node_of set p.older) y))) h (subst (λ (x : Node). Tells xs ys (IsOf p None (UnionDiffers x m))) e f))
      zs (IsOfFields set p (length (fields_of set p.older))) g

-- ---- what is told of a pair holds of it ----

pub pair_holds : (set : Schemas) (p : Pair) (d : Difference) → IsOfPair set p d → (d.pair ≡ p) × Holds set d
pair_holds set p d (inl (c, h, e)) = (ap (λ (x : Difference). x.pair) e, subst (λ (x : Difference). Holds set x) (sym e) h)
pair_holds set p d (inr (i, below, (c, h, e))) = (ap (λ (x : Difference). x.pair) e, subst (λ (x : Difference). Holds set x) (sym e) (below, h))

at_pair : (set : Schemas) (q : Pair) (o : Option ℕ) (c : Cause) → DiffersAt set q o c → IsOfPair set q (difference_of q o c)
at_pair set q None c h = inl (c, h, refl)
at_pair set q (Some i) c h = inr (i, h.0, (c, h.1, refl))

pub holds_pair : (set : Schemas) (p : Pair) (d : Difference) → d.pair ≡ p → Holds set d → IsOfPair set p d
holds_pair set p d e h = subst (λ (x : Pair). IsOfPair set x d) e (at_pair set d.pair d.field d.cause h)
