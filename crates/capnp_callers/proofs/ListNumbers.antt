-- The numbers of a list are read one after another.
use Rattle.std.proofs.Common.{ℕ, zero, suc, ◌+◌, ◌-◌, ◌<◌, ◌≤◌, ◌≡◌, List, [], ◌∷◌, ◌++◌, length, pos, IfOk, Result, Ok, Err, ap, arith, inl, inr, subst, sym, refl, ◌∙◌}
use Rattle.std.specs.List.{range_with_len}
use Rattle.std.proofs.lemmas.Bool.{cases_lt}
use Rattle.std.proofs.lemmas.List.{get_or_append_left, get_or_at, length-append}
use Rattle.capnp_device.specs.declared.error.Error.{Error}
use Rattle.capnp_device.specs.declared.error.ErrorKind.{ErrorKind}
use Rattle.capnp_device.specs.declared.error.ErrorKind.TheVariants.{TypeMismatch}
use Rattle.capnp_base.specs.Taking.{indices}
use Rattle.capnp_schema.specs.Accepted.{NamesEntries}
use Rattle.capnp_schema.specs.Schema.{Schemas}
use Rattle.capnp_schema.specs.Types.{SchemaType, UIntType}
use Rattle.capnp_records.specs.Record as value
use Rattle.capnp_records.specs.Record.{Value}
use Rattle.capnp_dynamic_readers.specs.Handles.{element_of, list_set}
use Rattle.capnp_dynamic_readers.specs.Reads.{element_seen}
use Rattle.capnp_dynamic_readers.specs.Seen.{answered_value, value_seen}
use Rattle.capnp_dynamic_readers.specs.Typed.{IsOf}
use Rattle.capnp_dynamic_readers.specs.declared.dynamic_list.Reader.{Reader as ListHandle}
use Rattle.capnp_dynamic_readers.specs.declared.dynamic_value.Reader.{Reader as DynamicValue}
use Rattle.capnp_dynamic_readers.specs.declared.dynamic_value.Reader.TheVariants as dynamic
use Rattle.capnp_callers.specs.Values.{AreFirstOf, IsNoNumberOf, IsNoUInt16, built_count}

-- the first of the indices that are still to come, and the others
pub first_index : (k n i : ℕ) (rest : List ℕ) → indices k n ≡ i ∷ rest → (i ≡ k) × (k < n) × (rest ≡ indices (k + 1) n)
unfolding indices
first_index k n i rest = go (n - k) refl
  where
    go : (m : ℕ) → n - k ≡ m → range_with_len k m ≡ i ∷ rest → (i ≡ k) × (k < n) × (rest ≡ range_with_len (k + 1) (n - (k + 1)))
    go zero d e = absurd cc
    go (suc m) d e =
        let left : m ≡ n - (k + 1) = omega (arith, d) in
        (cc, omega (arith, d), (let same : rest ≡ range_with_len (k + 1) m = cc in same) ∙ ap (range_with_len (k + 1)) left)

-- none is still to come
pub no_index : (k n : ℕ) → indices k n ≡ [] → n ≤ k
unfolding indices
no_index k n = go (n - k) refl
  where
    go : (m : ℕ) → n - k ≡ m → range_with_len k m ≡ [] → n ≤ k
    go zero d e = omega (arith, d)
    go (suc m) d e = absurd cc

-- one more number
one_more : (l : ListHandle) (numbers : List ℕ) (x : ℕ) → AreFirstOf l numbers → element_seen l (length numbers) ≡ value.Number (pos x) → AreFirstOf l (numbers ++ x ∷ [])
one_more l numbers x first is i h = elim (cases_lt i (length numbers)) [
  | inl inside ↦ first i inside ∙ ap (λ (n : ℕ). value.Number (pos n)) (sym (get_or_append_left numbers (x ∷ []) 0 i inside))
  | inr past ↦
      let longer = length-append numbers (x ∷ []) in
      let at : length numbers ≡ i = omega (arith, past, h, longer) in
      ap (element_seen l) (sym at) ∙ is ∙ ap (λ (n : ℕ). value.Number (pos n)) (sym (get_or_at numbers x [] 0 i at))
]

-- ---- an element ----

-- what a list answers at an index
abbrev pub IsAnswer : ListHandle → ℕ → Result DynamicValue Error → Type 0
IsAnswer l i x = (answered_value x ≡ element_seen l i) × (NamesEntries (list_set l) (element_of l) → IfOk x (IsOf (list_set l) (element_of l)))

module _ (l : ListHandle) (k : ℕ) where
  -- the element that a loop is given once it had so many
  pub record IsNext (x : Result DynamicValue Error) (b : List ℕ) : Type 0 where
    pub inside : k < built_count l
    pub rest : b ≡ indices (k + 1) (built_count l)
    pub answer : IsAnswer l k x

  pub next_element : (s : ListHandle) (a b : List ℕ) (i : ℕ) (x : Result DynamicValue Error) → s ≡ l → a ≡ indices k (built_count l) → a ≡ i ∷ b → IsAnswer s i x → IsNext x b
  next_element s a b i x same left first is =
      let h = first_index k (built_count l) i b (sym left ∙ first) in
      record {
        inside = h.1;
        rest = h.2;
        answer = subst (λ (n : ℕ). IsAnswer l n x) h.0 (subst (λ (z : ListHandle). IsAnswer z i x) same is);
      }

  -- an element that is no UInt16 is of another type
  only_uint16 : (set : Schemas) (v : DynamicValue) → ((n : ℕ) → v ≡ dynamic.UInt16 n → ⊥) → IsOf set (UIntType 2) v → ⊥
  only_uint16 set (dynamic.UInt16 n) other h = other n refl
  only_uint16 set (dynamic.UInt8 n) other h = cc
  only_uint16 set (dynamic.UInt32 n) other h = cc
  only_uint16 set (dynamic.UInt64 n) other h = cc
  only_uint16 set (dynamic.Enum e) other h = let is = h.2 in cc
  only_uint16 set (dynamic.Struct s) other h = let is = h.2 in cc
  only_uint16 set (dynamic.List s) other h = let is = h.1 in cc
  only_uint16 set v other h = cc

  not_uint16 : (x : Result DynamicValue Error) (b : List ℕ) (v : DynamicValue) → IsNext x b → x ≡ Ok v → ((n : ℕ) → v ≡ dynamic.UInt16 n → ⊥) → UIntType 2 ≡ element_of l → ⊥
  not_uint16 x b v next is other same =
      let of : IfOk x (IsOf (list_set l) (element_of l)) = next.answer.1 (subst (NamesEntries (list_set l)) same tt) in
      only_uint16 (list_set l) v other (subst (λ (t : SchemaType). IsOf (list_set l) t v) (sym same) (subst (λ (y : Result DynamicValue Error). IfOk y (IsOf (list_set l) (element_of l))) is of))

  -- and else it is the next number
  number_is : (x : Result DynamicValue Error) (b : List ℕ) (n : ℕ) → IsNext x b → x ≡ Ok (dynamic.UInt16 n) → element_seen l k ≡ value.Number (pos n)
  number_is x b n next is = sym next.answer.0 ∙ ap answered_value is

-- one number more was read
pub read_on : (l : ListHandle) (numbers new : List ℕ) (n : ℕ) (x : Result DynamicValue Error) (b : List ℕ) → IsNext l (length numbers) x b → x ≡ Ok (dynamic.UInt16 n) → new ≡ numbers ++ n ∷ [] → AreFirstOf l numbers →
    (b ≡ indices (length new) (built_count l)) × (length new ≤ built_count l) × AreFirstOf l new
read_on l numbers new n x b next is grown first =
    let longer : length new ≡ length numbers + 1 = ap length grown ∙ length-append numbers (n ∷ []) in
    let inside = next.inside in (
      next.rest ∙ ap (λ (k : ℕ). indices k (built_count l)) (sym longer),
      omega (arith, longer, inside),
      subst (AreFirstOf l) (sym grown) (one_more l numbers n first (number_is l (length numbers) x b n next is)),
    )

-- ---- the first element that is none ----

-- what is there of another type is no fault
there_mismatched : (t : SchemaType) (v : DynamicValue) (kind : ErrorKind) → (kind ≡ TypeMismatch) × (UIntType 2 ≡ t → ⊥) → IsNoUInt16 t (value_seen v) kind
there_mismatched t dynamic.Void kind h = h
there_mismatched t (dynamic.Bool b) kind h = h
there_mismatched t (dynamic.Int8 n) kind h = h
there_mismatched t (dynamic.Int16 n) kind h = h
there_mismatched t (dynamic.Int32 n) kind h = h
there_mismatched t (dynamic.Int64 n) kind h = h
there_mismatched t (dynamic.UInt8 n) kind h = h
there_mismatched t (dynamic.UInt16 n) kind h = h
there_mismatched t (dynamic.UInt32 n) kind h = h
there_mismatched t (dynamic.UInt64 n) kind h = h
there_mismatched t (dynamic.Enum e) kind h = h
there_mismatched t (dynamic.Text b) kind h = h
there_mismatched t (dynamic.«Data» b) kind h = h
there_mismatched t (dynamic.Struct s) kind h = h
there_mismatched t (dynamic.List s) kind h = h
there_mismatched t (dynamic.AnyPointer p) kind h = h

module _ (l : ListHandle) (numbers : List ℕ) (first : AreFirstOf l numbers) (x : Result DynamicValue Error) (b : List ℕ) (next : IsNext l (length numbers) x b) where
  -- what the next element answers says why it is no number
  none_of : (v : Value) (kind : ErrorKind) → answered_value x ≡ v → IsNoUInt16 (element_of l) v kind → IsNoNumberOf l kind
  none_of v kind is none = (numbers, next.inside, first, subst (λ (w : Value). IsNoUInt16 (element_of l) w kind) (sym is ∙ next.answer.0) none)

  pub element_refused : (e : Error) → x ≡ Err e → IsNoNumberOf l e.kind
  element_refused e is = none_of (value.Fault e.kind) e.kind (ap answered_value is) refl

  pub element_mismatched : (v : DynamicValue) (kind : ErrorKind) → x ≡ Ok v → ((n : ℕ) → v ≡ dynamic.UInt16 n → ⊥) → kind ≡ TypeMismatch → IsNoNumberOf l kind
  element_mismatched v kind is other e =
      none_of (value_seen v) kind (ap answered_value is) (there_mismatched (element_of l) v kind (e, not_uint16 l (length numbers) x b v next is other))
