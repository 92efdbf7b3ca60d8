-- The steps of a print.
use Rattle.std.proofs.Common.{ℕ, zero, suc, ◌+◌, ◌-◌, ◌<◌, ◌≡◌, ◌==◌, refl, List, [], ◌∷◌, ◌++◌, Bool, true, false, length, codes, Ok, Err, Result, IfErr, OnOk, rules, ap, sym, subst, ◌∙◌, arith}
use Rattle.capnp_device.specs.declared.error.ErrorKind.TheVariants.{TooDeep}
use Rattle.capnp_schema.specs.Schema.{TypedField}
use Rattle.capnp_schema.specs.StructHandles.{struct_fields}
use Rattle.capnp_records.specs.Facts.Spelled.{said_both}
use Rattle.capnp_records.specs.Text.{Layout, Out, after, bracketed_text, deeper, line, list_text, more_text, said_text, separator, struct_text}
use Rattle.capnp_dynamic_readers.specs.Handles.{schema_of}
use Rattle.capnp_dynamic_readers.specs.Steps.Leaf.{IsLeaf}
use Rattle.capnp_dynamic_readers.specs.Pieces.{Taken}
use Rattle.capnp_dynamic_readers.specs.Steps.Pieces.{IsPut, IsStopped, Leads}
use Rattle.capnp_dynamic_readers.specs.Steps.Shown.{count_of}
use Rattle.capnp_dynamic_readers.specs.Steps.Styled.{IsTexts, items_in, leaf_in, list_in, record_in}
use Rattle.capnp_dynamic_readers.specs.Styles.{Texts}
use Rattle.capnp_dynamic_readers.specs.declared.dynamic_list.Reader.{Reader as ListHandle}
use Rattle.capnp_dynamic_readers.specs.declared.dynamic_struct.Reader.{Reader as StructHandle}
use Rattle.capnp_dynamic_readers.specs.declared.dynamic_value.Reader.{Reader as DynamicValue}
use Rattle.capnp_dynamic_readers.specs.declared.dynamic_value.Reader.TheVariants as dynamic
use Rattle.capnp_dynamic_readers.specs.declared.walk.output.Stop.{Stop}
use Rattle.capnp_dynamic_readers.proofs.Streams.{first_stopped, nothing_put, same, same_put, then, then_put, two_put}

-- ---- levels ----

before_suc : (n : ℕ) → suc n - 1 ≡ n
before_suc n = omega arith

module _ (x : Texts) {under : TypedField → Texts} (law : IsTexts x under) where
  pub struct_deep : (left : ℕ) (at : Layout) (r : StructHandle) → 0 < left → x.value left at (dynamic.Struct r) ≡ record_in x (left - 1) at r
  struct_deep zero at r h = absurd (omega (arith, h))
  struct_deep (suc n) at r h = law.struct_deep n at r ∙ ap (λ m. record_in x m at r) (sym (before_suc n))

  pub list_deep : (left : ℕ) (at : Layout) (l : ListHandle) → 0 < left → x.value left at (dynamic.List l) ≡ list_in x (left - 1) at l
  list_deep zero at l h = absurd (omega (arith, h))
  list_deep (suc n) at l h = law.list_deep n at l ∙ ap (λ m. list_in x m at l) (sym (before_suc n))

  -- with no level left
  pub struct_flat : (left : ℕ) (at : Layout) (v : DynamicValue) (r : StructHandle) → left ≡ 0 → v ≡ dynamic.Struct r → x.value left at v ≡ Err TooDeep
  struct_flat left at v r none is = ap (λ (m : ℕ). x.value m at v) none ∙ (ap (x.value 0 at) is ∙ law.struct_flat at r)

  pub list_flat : (left : ℕ) (at : Layout) (v : DynamicValue) (l : ListHandle) → left ≡ 0 → v ≡ dynamic.List l → x.value left at v ≡ Err TooDeep
  list_flat left at v l none is = ap (λ (m : ℕ). x.value m at v) none ∙ (ap (x.value 0 at) is ∙ law.list_flat at l)

  -- a leaf that was put
  pub leaf_put : (left : ℕ) (at : Layout) (v : DynamicValue) (old new : Taken) → IsLeaf v → IsPut old (leaf_in x v) new → IsPut old (x.value left at v) new
  leaf_put left at v old new h p = same_put old new (x.value left at v) (leaf_in x v) (law.leaf left at v h) p

  -- or was not
  pub leaf_stopped : (left : ℕ) (at : Layout) (v : DynamicValue) (old : Taken) (stop : Stop) → IsLeaf v → IsStopped old (leaf_in x v) stop → IsStopped old (x.value left at v) stop
  leaf_stopped left at v old stop h s = same old (law.leaf left at v h) (Err stop) s

-- ---- brackets ----

pub brackets_put : (opening closing : List ℕ) (at further : Layout) (items : List Out) → further ≡ deeper at → (p0 p1 p2 p3 p4 : Taken) →
    IsPut p0 (said_text opening) p1 → IsPut p1 (more_text further true items) p2 → IsPut p2 (said_text (line at)) p3 → IsPut p3 (said_text closing) p4 →
    IsPut p0 (bracketed_text opening closing at items) p4
brackets_put opening closing at further items e p0 p1 p2 p3 p4 a b c d =
    then_put p0 p1 p4 (said_text opening) (after (more_text (deeper at) true items) (said_text (line at ++ closing))) a
    (then_put p1 p2 p4 (more_text (deeper at) true items) (said_text (line at ++ closing)) (subst (λ (z : Layout). IsPut p1 (more_text z true items) p2) e b) (two_put p2 p3 p4 (line at) closing c d))

-- why a bracket was not put
pub opening_stopped : (p : Taken) (opening closing : List ℕ) (at : Layout) (items : List Out) (stop : Stop) → IsStopped p (said_text opening) stop → IsStopped p (bracketed_text opening closing at items) stop
opening_stopped p opening closing at items stop h = first_stopped p (said_text opening) (after (more_text (deeper at) true items) (said_text (line at ++ closing))) stop h

-- with the opening bracket put, what stands between is to come
opened : (p0 p1 : Taken) (opening closing : List ℕ) (at : Layout) (items : List Out) → IsPut p0 (said_text opening) p1 →
    Leads p0 (bracketed_text opening closing at items) p1 (after (more_text (deeper at) true items) (said_text (line at ++ closing)))
opened p0 p1 opening closing at items a = then p0 p1 (said_text opening) (after (more_text (deeper at) true items) (said_text (line at ++ closing))) a

-- and with that put, a line and the closing bracket
filled : (p0 p1 p2 : Taken) (opening closing : List ℕ) (at : Layout) (items : List Out) → IsPut p0 (said_text opening) p1 → IsPut p1 (more_text (deeper at) true items) p2 →
    Leads p0 (bracketed_text opening closing at items) p2 (after (said_text (line at)) (said_text closing))
filled p0 p1 p2 opening closing at items a b = λ r k.
    opened p0 p1 opening closing at items a r
    (then p1 p2 (more_text (deeper at) true items) (said_text (line at ++ closing)) b r (same p2 (sym (said_both (line at) closing)) r k))

-- ---- elements ----

less_one : (n i : ℕ) → i < n → n - i ≡ suc (n - (i + 1))
less_one n i h = omega (arith, h)

next_is : (i : ℕ) → suc i ≡ i + 1
next_is i = omega arith

not_zero : (i : ℕ) → false ≡ (suc i == 0)
not_zero i = search rules

none_left : (n i : ℕ) → n < i + 1 → n - i ≡ 0
none_left n i h = omega (arith, h)

module _ (x : Texts) {under : TypedField → Texts} (law : IsTexts x under) (left : ℕ) (at : Layout) (l : ListHandle) where
  -- an element, and the items of those behind it
  one_more : (n i : ℕ) → i < n → x.elements left at l i (n - i) ≡ x.element left at l i ∷ x.elements left at l (suc i) (n - (i + 1))
  one_more n i h = ap (x.elements left at l i) (less_one n i h) ∙ law.elements_next left at l i (n - (i + 1))

  pub element_next : (n i : ℕ) → i < n → (p0 p1 p2 : Taken) →
      IsPut p0 (said_text (separator at (i == 0))) p1 → IsPut p1 (x.element left at l i) p2 →
      Leads p0 (more_text at (i == 0) (x.elements left at l i (n - i))) p2 (more_text at (i + 1 == 0) (x.elements left at l (i + 1) (n - (i + 1))))
  element_next n i h p0 p1 p2 a b = λ r k.
      same p0 (ap (more_text at (i == 0)) (one_more n i h)) r
      (then p0 p1 (said_text (separator at (i == 0))) (after (x.element left at l i) (more_text at false (x.elements left at l (suc i) (n - (i + 1))))) a r
      (then p1 p2 (x.element left at l i) (more_text at false (x.elements left at l (suc i) (n - (i + 1)))) b r
      (same p2 (ap (λ q. more_text at q (x.elements left at l (suc i) (n - (i + 1)))) (not_zero i) ∙ ap (λ j. more_text at (j == 0) (x.elements left at l j (n - (i + 1)))) (next_is i)) r k)))

  pub separator_stopped : (n i : ℕ) → i < n → (p : Taken) (stop : Stop) → IsStopped p (said_text (separator at (i == 0))) stop → IsStopped p (more_text at (i == 0) (x.elements left at l i (n - i))) stop
  separator_stopped n i h p stop a =
      same p (ap (more_text at (i == 0)) (one_more n i h)) (Err stop)
      (first_stopped p (said_text (separator at (i == 0))) (after (x.element left at l i) (more_text at false (x.elements left at l (suc i) (n - (i + 1))))) stop a)

  pub element_stopped : (n i : ℕ) → i < n → (p0 p1 : Taken) (stop : Stop) → IsPut p0 (said_text (separator at (i == 0))) p1 →
      IsStopped p1 (x.element left at l i) stop → IsStopped p0 (more_text at (i == 0) (x.elements left at l i (n - i))) stop
  element_stopped n i h p0 p1 stop a b =
      same p0 (ap (more_text at (i == 0)) (one_more n i h)) (Err stop)
      (then p0 p1 (said_text (separator at (i == 0))) (after (x.element left at l i) (more_text at false (x.elements left at l (suc i) (n - (i + 1))))) a (Err stop)
      (first_stopped p1 (x.element left at l i) (more_text at false (x.elements left at l (suc i) (n - (i + 1)))) stop b))

  pub elements_end : (n i : ℕ) (q : Bool) → n < i + 1 → (p : Taken) → IsPut p (more_text at q (x.elements left at l i (n - i))) p
  elements_end n i q h p = same p (ap (more_text at q) (ap (x.elements left at l i) (none_left n i h) ∙ law.elements_none left at l i)) (Ok p) (nothing_put p)

-- ---- whole lists and structs ----

module _ (x : Texts) {under : TypedField → Texts} (law : IsTexts x under) where
  pub list_none : (left : ℕ) (at : Layout) (l : ListHandle) → count_of l ≡ 0 → list_in x left at l ≡ said_text (codes "[]")
  list_none left at l h = ap (λ (n : ℕ). list_text at (x.elements left (deeper at) l 0 n)) h ∙ ap (list_text at) (law.elements_none left (deeper at) l 0)

  pub list_some : (left : ℕ) (at : Layout) (l : ListHandle) → 0 < count_of l → list_in x left at l ≡ bracketed_text (codes "[") (codes "]") at (x.elements left (deeper at) l 0 (count_of l))
  list_some left at l h = go (count_of l) h
    where
      go : (n : ℕ) → 0 < n → list_text at (x.elements left (deeper at) l 0 n) ≡ bracketed_text (codes "[") (codes "]") at (x.elements left (deeper at) l 0 n)
      go zero h = absurd (omega (arith, h))
      go (suc n) h = ap (list_text at) (law.elements_next left (deeper at) l 0 n) ∙ ap (bracketed_text (codes "[") (codes "]") at) (sym (law.elements_next left (deeper at) l 0 n))

module _ (x : Texts) where
  pub struct_some : (left : ℕ) (at : Layout) (r : StructHandle) → 0 < length (struct_fields (schema_of r)) → record_in x left at r ≡ bracketed_text (codes "(") (codes ")") at (items_in x left (deeper at) r 0)
  struct_some left at r h = go (struct_fields (schema_of r)) h
    where
      go : (fs : List TypedField) → 0 < length fs → struct_text at fs (items_in x left (deeper at) r 0) ≡ bracketed_text (codes "(") (codes ")") at (items_in x left (deeper at) r 0)
      go [] h = absurd (omega (arith, h))
      go (f ∷ fs) h = refl

  pub struct_none : (left : ℕ) (at : Layout) (r : StructHandle) → length (struct_fields (schema_of r)) ≡ 0 → record_in x left at r ≡ said_text (codes "()")
  struct_none left at r h = go (struct_fields (schema_of r)) h
    where
      go : (fs : List TypedField) → length fs ≡ 0 → struct_text at fs (items_in x left (deeper at) r 0) ≡ said_text (codes "()")
      go [] h = refl
      go (f ∷ fs) h = absurd (omega (arith, h))

-- ---- through a result ----

pub ok_map : {T E P Q : Type 0} (r : Result T E) → (P → Q) → OnOk r P → OnOk r Q
ok_map (Ok x) f h = f h
ok_map (Err e) f h = tt {0}

pub err_map : {T E : Type 0} {F G : E → Type 0} (r : Result T E) → ((e : E) → F e → G e) → IfErr r F → IfErr r G
err_map (Ok x) f h = tt {0}
err_map (Err e) f h = f e h

-- ---- lists ----

pub list_put : (x : Texts) {under : TypedField → Texts} (law : IsTexts x under) (left : ℕ) (at further : Layout) (l : ListHandle) → further ≡ deeper at → 0 < count_of l → (p0 p1 p2 p3 p4 : Taken) →
    IsPut p0 (said_text (codes "[")) p1 → IsPut p1 (more_text further true (x.elements left further l 0 (count_of l))) p2 → IsPut p2 (said_text (line at)) p3 → IsPut p3 (said_text (codes "]")) p4 →
    IsPut p0 (list_in x left at l) p4
list_put x law left at further l e h p0 p1 p2 p3 p4 a b c d =
    same_put p0 p4 (list_in x left at l) (bracketed_text (codes "[") (codes "]") at (x.elements left (deeper at) l 0 (count_of l))) (list_some x law left at l h)
    (brackets_put (codes "[") (codes "]") at (deeper at) (x.elements left (deeper at) l 0 (count_of l)) refl p0 p1 p2 p3 p4 a (subst (λ (z : Layout). IsPut p1 (more_text z true (x.elements left z l 0 (count_of l))) p2) e b) c d)

-- why a list was not put: its opening bracket, its elements, the line behind them or its closing bracket was not
module _ (x : Texts) {under : TypedField → Texts} (law : IsTexts x under) (left : ℕ) (at further : Layout) (l : ListHandle) (e : further ≡ deeper at) (some : 0 < count_of l) where
  abbrev own_items : List Out
  own_items = x.elements left (deeper at) l 0 (count_of l)

  as_list : (p : Taken) → Leads p (list_in x left at l) p (bracketed_text (codes "[") (codes "]") at own_items)
  as_list p = same p (list_some x law left at l some)

  same_items : (p q : Taken) → IsPut p (more_text further true (x.elements left further l 0 (count_of l))) q → IsPut p (more_text (deeper at) true own_items) q
  same_items p q b = subst (λ (z : Layout). IsPut p (more_text z true (x.elements left z l 0 (count_of l))) q) e b

  pub list_stopped_inside : (p0 p1 : Taken) (stop : Stop) → IsPut p0 (said_text (codes "[")) p1 → IsStopped p1 (more_text further true (x.elements left further l 0 (count_of l))) stop → IsStopped p0 (list_in x left at l) stop
  list_stopped_inside p0 p1 stop a b =
      as_list p0 (Err stop)
      (opened p0 p1 (codes "[") (codes "]") at own_items a (Err stop)
      (first_stopped p1 (more_text (deeper at) true own_items) (said_text (line at ++ codes "]")) stop
      (subst (λ (z : Layout). IsStopped p1 (more_text z true (x.elements left z l 0 (count_of l))) stop) e b)))

  pub list_stopped_behind : (p0 p1 p2 : Taken) (stop : Stop) → IsPut p0 (said_text (codes "[")) p1 → IsPut p1 (more_text further true (x.elements left further l 0 (count_of l))) p2 → IsStopped p2 (said_text (line at)) stop →
      IsStopped p0 (list_in x left at l) stop
  list_stopped_behind p0 p1 p2 stop a b c =
      as_list p0 (Err stop) (filled p0 p1 p2 (codes "[") (codes "]") at own_items a (same_items p1 p2 b) (Err stop) (first_stopped p2 (said_text (line at)) (said_text (codes "]")) stop c))

  pub list_stopped_last : (p0 p1 p2 p3 : Taken) (stop : Stop) → IsPut p0 (said_text (codes "[")) p1 → IsPut p1 (more_text further true (x.elements left further l 0 (count_of l))) p2 → IsPut p2 (said_text (line at)) p3 →
      IsStopped p3 (said_text (codes "]")) stop → IsStopped p0 (list_in x left at l) stop
  list_stopped_last p0 p1 p2 p3 stop a b c d =
      as_list p0 (Err stop) (filled p0 p1 p2 (codes "[") (codes "]") at own_items a (same_items p1 p2 b) (Err stop) (then p2 p3 (said_text (line at)) (said_text (codes "]")) c (Err stop) d))

pub list_stopped_first : (x : Texts) {under : TypedField → Texts} (law : IsTexts x under) (left : ℕ) (at : Layout) (l : ListHandle) (p : Taken) (stop : Stop) → 0 < count_of l → IsStopped p (said_text (codes "[")) stop → IsStopped p (list_in x left at l) stop
list_stopped_first x law left at l p stop some h =
    same p (list_some x law left at l some) (Err stop) (opening_stopped p (codes "[") (codes "]") at (x.elements left (deeper at) l 0 (count_of l)) stop h)

-- ---- levels fall ----

pub leaf_from : (v : DynamicValue) → ((s : StructHandle) → v ≡ dynamic.Struct s → ⊥) → ((l : ListHandle) → v ≡ dynamic.List l → ⊥) → IsLeaf v
leaf_from (dynamic.Struct s) h k = absurd (h s refl)
leaf_from (dynamic.List l) h k = absurd (k l refl)
leaf_from v h k = tt {0}

pub some_left : (left : ℕ) → (left ≡ 0 → ⊥) → 0 < left
some_left left h = omega (arith, h)
