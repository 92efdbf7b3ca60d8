-- The steps of a write of a value that stands alone, and of the elements of a list.
use Rattle.std.proofs.Common.{ℕ, zero, suc, ◌+◌, ◌-◌, ◌<◌, ◌≡◌, ◌==◌, refl, List, [], ◌++◌, Bool, true, false, codes, length, Some, None, Err, IfErr, OnOk, Result, ap, arith, sym, subst, ◌∙◌}
use Rattle.std.proofs.lemmas.Bool.{true≢false}
use Rattle.std.proofs.lemmas.Bool.Decides.{nat_tests}
use Rattle.capnp_schema.specs.Schema.{node_of}
use Rattle.capnp_schema.specs.StructHandles.{number_of, set_of}
use Rattle.capnp_records.specs.Text.{Layout, deeper}
use Rattle.capnp_dynamic_readers.specs.Handles.{schema_of}
use Rattle.capnp_dynamic_readers.specs.Shown.{set_seen, struct_printed}
use Rattle.capnp_dynamic_readers.specs.Steps.Leaf.{IsLeaf}
use Rattle.capnp_dynamic_readers.specs.Steps.Shown.{count_of}
use Rattle.capnp_dynamic_readers.specs.Typed.{struct_type}
use Rattle.capnp_dynamic_readers.specs.declared.dynamic_list.Reader.{Reader as ListHandle}
use Rattle.capnp_dynamic_readers.specs.declared.dynamic_struct.Reader.{Reader as StructHandle}
use Rattle.capnp_dynamic_readers.specs.declared.dynamic_value.Reader.{Reader as DynamicValue}
use Rattle.capnp_dynamic_readers.specs.declared.dynamic_value.Reader.TheVariants as dynamic
use Rattle.capnp_json.specs.Json.{json_within, part_json}
use Rattle.capnp_json.specs.Pieces.{IsJson, Out, after, ending, items_left, said, separator}
use Rattle.capnp_json.specs.Steps.Leaf.{leaf_json}
use Rattle.capnp_json.specs.Steps.Puts.{Gives, IsPut, IsStopped, Leads, limit_of, made}
use Rattle.capnp_json.specs.Steps.Shown.{element_items, element_shown, elements_onward, list_shown, record_shown, root_shown, value_shown}
use Rattle.capnp_json.specs.Written.{IsOnlyJson, IsRefused}
use Rattle.capnp_json.specs.declared.error.JsonError.{JsonError}
use Rattle.capnp_json.specs.declared.error.JsonError.TheVariants.{OutOfMemory, Read, TextNotUtf8, TooLarge, UntypedHasNoJson}
use Rattle.capnp_json.specs.declared.forms.Form.{Form}
use Rattle.capnp_json.specs.declared.output.Output.{Output}
use Rattle.capnp_json.proofs.LeafJsons.{leaf_is}
use Rattle.capnp_json.proofs.Puts.{same, stop_first, then}

-- ---- levels ----

before_suc : (n : ℕ) → suc n - 1 ≡ n
before_suc n = omega arith

struct_deep : (left : ℕ) (at : Layout) (form : Form) (r : StructHandle) → (left ≡ 0 → ⊥) → value_shown left at form (dynamic.Struct r) ≡ record_shown (left - 1) at r
struct_deep zero at form r h = absurd (h refl)
struct_deep (suc n) at form r h = ap (λ m. record_shown m at r) (sym (before_suc n))

list_deep : (left : ℕ) (at : Layout) (form : Form) (l : ListHandle) → (left ≡ 0 → ⊥) → value_shown left at form (dynamic.List l) ≡ list_shown (left - 1) at form l
list_deep zero at form l h = absurd (h refl)
list_deep (suc n) at form l h = ap (λ m. list_shown m at form l) (sym (before_suc n))

pub leaf_shown : (left : ℕ) (at : Layout) (form : Form) (v : DynamicValue) → IsLeaf v → value_shown left at form v ≡ leaf_json at form v
leaf_shown zero at form v h = leaf_is None at form v h
leaf_shown (suc n) at form v h = leaf_is (Some (json_within (set_seen v) n)) at form v h

pub leaf_from : (v : DynamicValue) → ((s : StructHandle) → v ≡ dynamic.Struct s → ⊥) → ((l : ListHandle) → v ≡ dynamic.List l → ⊥) → IsLeaf v
leaf_from (dynamic.Struct s) h k = absurd (h s refl)
leaf_from (dynamic.List l) h k = absurd (k l refl)
leaf_from v h k = tt {0}

-- a JSON that is another
module _ {T : Type 0} (result : Result T JsonError) (old new : Output) (x y : Out) (e : x ≡ y) where
  pub put_as : OnOk result (IsPut old y new) → OnOk result (IsPut old x new)
  put_as h = subst (λ (o : Out). OnOk result (IsPut old o new)) (sym e) h

  pub stopped_as : IfErr result (IsStopped old y) → IfErr result (IsStopped old x)
  stopped_as h = subst (λ (o : Out). IfErr result (IsStopped old o)) (sym e) h

module _ (left : ℕ) (at : Layout) (form : Form) (v : DynamicValue) (h : left ≡ 0 → ⊥) where
  pub struct_is : (s : StructHandle) → v ≡ dynamic.Struct s → value_shown left at form v ≡ record_shown (left - 1) at s
  struct_is s is = ap (value_shown left at form) is ∙ struct_deep left at form s h

  pub list_is : (l : ListHandle) → v ≡ dynamic.List l → value_shown left at form v ≡ list_shown (left - 1) at form l
  list_is l is = ap (value_shown left at form) is ∙ list_deep left at form l h

-- ---- elements ----

less_one : (n i : ℕ) → i < n → n - i ≡ suc (n - (i + 1))
less_one n i h = omega (arith, h)

next_is : (i : ℕ) → suc i ≡ i + 1
next_is i = omega arith

not_first : (i : ℕ) → false ≡ (i + 1 == 0)
not_first i = grind (arith, nat_tests)

none_left : (n i : ℕ) → n < i + 1 → n - i ≡ 0
none_left n i h = omega (arith, h)

module _ (left : ℕ) (at : Layout) (form : Form) (l : ListHandle) where
  -- an element, and those after it
  element_next : (first : Bool) (i : ℕ) → i < count_of l → elements_onward left at form l first i ≡ after (said (separator at first)) (after (element_shown left at form l i) (elements_onward left at form l (i + 1 == 0) (i + 1)))
  element_next first i h =
      ap (λ (n : ℕ). items_left (codes "]") at first (element_items left at form l i n)) (less_one (count_of l) i h)
      ∙ (ap (λ (j : ℕ). after (said (separator at first)) (after (element_shown left at form l i) (items_left (codes "]") at false (element_items left at form l j (count_of l - (i + 1)))))) (next_is i)
      ∙ ap (λ (q : Bool). after (said (separator at first)) (after (element_shown left at form l i) (elements_onward left at form l q (i + 1)))) (not_first i))

  module _ (i : ℕ) (inside : i < count_of l) (p0 : Output) where
    pub separator_stopped : (why : JsonError) → IsStopped p0 (said (separator at (i == 0))) why → IsStopped p0 (elements_onward left at form l (i == 0) i) why
    separator_stopped why h =
        same p0 (element_next (i == 0) i inside) (Err why)
        (stop_first p0 (said (separator at (i == 0))) (after (element_shown left at form l i) (elements_onward left at form l (i + 1 == 0) (i + 1))) why h)

    module _ (p1 : Output) (put : IsPut p0 (said (separator at (i == 0))) p1) where
      past_separator : Leads p0 (elements_onward left at form l (i == 0) i) p1 (after (element_shown left at form l i) (elements_onward left at form l (i + 1 == 0) (i + 1)))
      past_separator z k =
          same p0 (element_next (i == 0) i inside) z
          (then p0 p1 (said (separator at (i == 0))) (after (element_shown left at form l i) (elements_onward left at form l (i + 1 == 0) (i + 1))) put z k)

      pub element_stopped : (why : JsonError) → IsStopped p1 (element_shown left at form l i) why → IsStopped p0 (elements_onward left at form l (i == 0) i) why
      element_stopped why h = past_separator (Err why) (stop_first p1 (element_shown left at form l i) (elements_onward left at form l (i + 1 == 0) (i + 1)) why h)

      pub element_put : (p2 : Output) → IsPut p1 (element_shown left at form l i) p2 → Leads p0 (elements_onward left at form l (i == 0) i) p2 (elements_onward left at form l (i + 1 == 0) (i + 1))
      element_put p2 h = λ z k. past_separator z (then p1 p2 (element_shown left at form l i) (elements_onward left at form l (i + 1 == 0) (i + 1)) h z k)

  -- past the last
  pub elements_end : (i : ℕ) (none : Bool) (p : Output) → i ≡ count_of l → none ≡ (count_of l == 0) → Leads p (elements_onward left at form l (i == 0) i) p (said (ending at none ++ codes "]"))
  elements_end i none p e n = λ z k.
      same p
      (ap (λ (m : ℕ). items_left (codes "]") at (i == 0) (element_items left at form l i m)) (none_left (count_of l) i (omega (arith, e)))
      ∙ ap (λ (q : Bool). said (ending at q ++ codes "]")) (ap (λ (m : ℕ). m == 0) e ∙ sym n)) z k

  whole_list : list_shown left at form l ≡ after (said (codes "[")) (elements_onward left (deeper at) form l true 0)
  whole_list =
      let e : count_of l ≡ count_of l - 0 = omega arith in
      ap (λ (n : ℕ). after (said (codes "[")) (items_left (codes "]") (deeper at) true (element_items left (deeper at) form l 0 n))) e

  -- the bracket was put, or could not be
  pub list_begins : (further : Layout) (old mid : Output) → further ≡ deeper at → IsPut old (said (codes "[")) mid → Leads old (list_shown left at form l) mid (elements_onward left further form l true 0)
  list_begins further old mid e put = λ z k.
      same old whole_list z
      (then old mid (said (codes "[")) (elements_onward left (deeper at) form l true 0) put z
      (subst (λ (f : Layout). Gives mid (elements_onward left f form l true 0) z) e k))

  pub list_stopped : (old : Output) (why : JsonError) → IsStopped old (said (codes "[")) why → IsStopped old (list_shown left at form l) why
  list_stopped old why h = same old whole_list (Err why) (stop_first old (said (codes "[")) (elements_onward left (deeper at) form l true 0) why h)

-- ---- a value that stands alone ----

pub group_root : (at : Layout) (form : Form) (v : DynamicValue) (s : StructHandle) → v ≡ dynamic.Struct s → (node_of (set_of (schema_of s)) (number_of (schema_of s))).is_group ≡ true → root_shown at form v ≡ record_shown 64 at s
group_root at form v s e h = ap (root_shown at form) e ∙ go (node_of (set_of (schema_of s)) (number_of (schema_of s))).is_group h
  where
    go : (q : Bool) → q ≡ true → part_json (set_of (schema_of s)) (json_within (set_of (schema_of s)) 64) at form (struct_type (schema_of s)) (struct_printed q s) ≡ record_shown 64 at s
    go true e = refl
    go false e = absurd (true≢false (sym e))

pub struct_root : (at : Layout) (form : Form) (v : DynamicValue) (s : StructHandle) → v ≡ dynamic.Struct s → (node_of (set_of (schema_of s)) (number_of (schema_of s))).is_group ≡ false → root_shown at form v ≡ value_shown 64 at form v
struct_root at form v s e h =
    ap (root_shown at form) e ∙ (go (node_of (set_of (schema_of s)) (number_of (schema_of s))).is_group h ∙ sym (ap (value_shown 64 at form) e))
  where
    go : (q : Bool) → q ≡ false → part_json (set_of (schema_of s)) (json_within (set_of (schema_of s)) 64) at form (struct_type (schema_of s)) (struct_printed q s) ≡ value_shown 64 at form (dynamic.Struct s)
    go false e = refl
    go true e = absurd (true≢false e)

pub other_root : (at : Layout) (form : Form) (v : DynamicValue) → ((s : StructHandle) → v ≡ dynamic.Struct s → ⊥) → root_shown at form v ≡ value_shown 64 at form v
other_root at form (dynamic.Struct s) h = absurd (h s refl)
other_root at form dynamic.Void h = refl
other_root at form (dynamic.Bool b) h = refl
other_root at form (dynamic.Int8 x) h = refl
other_root at form (dynamic.Int16 x) h = refl
other_root at form (dynamic.Int32 x) h = refl
other_root at form (dynamic.Int64 x) h = refl
other_root at form (dynamic.UInt8 x) h = refl
other_root at form (dynamic.UInt16 x) h = refl
other_root at form (dynamic.UInt32 x) h = refl
other_root at form (dynamic.UInt64 x) h = refl
other_root at form (dynamic.Enum e) h = refl
other_root at form (dynamic.Text t) h = refl
other_root at form (dynamic.«Data» bytes) h = refl
other_root at form (dynamic.List l) h = refl
other_root at form (dynamic.AnyPointer p) h = refl

-- why a value was not written into nothing
pub stopped_alone : (limit : ℕ) (old : Output) (o : Out) (why : JsonError) → made old ≡ [] → limit_of old ≡ limit → IsStopped old o why → IsRefused limit o why
stopped_alone limit old o (Read kind) e l h = h
stopped_alone limit old o UntypedHasNoJson e l h = h
stopped_alone limit old o TextNotUtf8 e l h = h
stopped_alone limit old o OutOfMemory e l h = tt {0}
stopped_alone limit old o TooLarge e l h = λ bytes k. longer (limit_of old) limit (length (made old)) (length bytes) (ap length e) l (h bytes k)
  where
    longer : (x y m n : ℕ) → m ≡ 0 → x ≡ y → x < m + n → y < n
    longer x y m n e l h = omega (arith, e, l, h)

-- a JSON that was put into nothing
pub put_alone : (old new : Output) (o : Out) (items : List ℕ) → made old ≡ [] → items ≡ made new → IsPut old o new → IsJson o items
put_alone old new o items e i put = subst (IsJson o) (sym (i ∙ (put.behind ∙ ap (λ (xs : List ℕ). xs ++ put.bytes) e))) put.json

pub only_alone : (old new : Output) (o : Out) (items : List ℕ) → made old ≡ [] → items ≡ made new → IsPut old o new → IsOnlyJson o items
only_alone old new o items e i put = λ others h. put.only others h ∙ sym (i ∙ (put.behind ∙ ap (λ (xs : List ℕ). xs ++ put.bytes) e))
