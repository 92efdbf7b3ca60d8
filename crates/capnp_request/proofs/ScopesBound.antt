-- What brands bind to scopes: the scopes of a brand and bindings in a row, one more at a time.
use Rattle.std.proofs.Common.{ℕ, ◌+◌, ◌-◌, ◌<◌, ◌≤◌, ◌≡◌, ◌≢◌, ◌⊎◌, inl, inr, min, ◌∙◌, ap, arith, pos, refl, sym, zero, suc, ◌==◌, Bool, true, false, List, [], ◌∷◌, ◌++◌, length, map, take, drop, cond, get_or, slice_get, Some, None, Result, Ok, Err}
use Rattle.std.proofs.lemmas.Bool.Decides.{nat_tests}
use Rattle.std.proofs.lemmas.List.{append-nil, map-append}
use Rattle.capnp_device.specs.declared.error.ErrorKind.{ErrorKind}
use Rattle.capnp_schema.specs.Types.{SchemaType, VoidType, BoolType, IntType, UIntType, EnumType, TextType, DataType, StructType, ListType, AnyPointerType}
use Rattle.capnp_records.specs.Record as value
use Rattle.capnp_records.specs.Record.{Record, Value}
use Rattle.capnp_request.specs.Steps.Seen.{element_seen}
use Rattle.capnp_request.specs.declared.handles.RequestList.{RequestList}
use Rattle.capnp_request.specs.Steps.Bindings.{seen_marked, with_nothing}
use Rattle.capnp_request.specs.Conversion.{is_untyped}
use Rattle.capnp_request.specs.Steps.Handles.{IsListOf, values_left}
use Rattle.capnp_request.specs.Steps.Meant.{says_or, scope_in}
use Rattle.capnp_request.specs.Parts.{request_read_at}
use Rattle.capnp_request.specs.Reading.{binding_said, bindings_said, brand_in, list_or, in_struct, number_in, scope_said, scopes_said, with_scope}
use Rattle.capnp_request.specs.Scopes.{scopes_of}
use Rattle.capnp_request.specs.Terms.{BindingTerms, BrandTerm, MoreBindings, NoBindings, Said, SchemaNode, TypeTerm, UnreadBrand, UnreadType}
use Rattle.capnp_request.specs.Types.{bind_scope, binding_types, brand_types, named_scopes, type_of, with_type, with_type_of, without_untyped}
use Rattle.capnp_request.specs.Work.{Bound, MarkedType, Named, each, work_of, work_said, ◌>>=◌, work_continued}
use Rattle.capnp_request.specs.declared.marks.MarkedType.{MarkedType as MarkedRecord}
use Rattle.capnp_request.specs.declared.schema_nodes.GenericScope.{GenericScope}
use Rattle.capnp_request.proofs.ListsRead.{count_of, element_is, none_left, one_left}
use Rattle.capnp_request.proofs.Walks.{all_done, more_done, prefixed, step_err, step_ok}

-- ---- a brand's list ----

module _ (inner : Record → TypeTerm) (v : Value) where
  pub brand_fault : (kind : ErrorKind) → value.Fault kind ≡ v → brand_in inner v ≡ UnreadBrand kind
  brand_fault kind e = ap (brand_in inner) (sym e)

  module _ (r : Record) (there : value.Struct r ≡ v) where
    pub list_fault : (kind : ErrorKind) → value.Fault kind ≡ request_read_at 19 0 r → brand_in inner v ≡ UnreadBrand kind
    list_fault kind e = ap (brand_in inner) (sym there) ∙ ap (list_or UnreadBrand (scopes_said inner)) (sym e)

    pub list_read : (l : RequestList) (w : Value) → w ≡ value.Elements (values_left l 0) → w ≡ request_read_at 19 0 r → brand_in inner v ≡ scopes_said inner (values_left l 0)
    list_read l w whole e = ap (brand_in inner) (sym there) ∙ (ap (list_or UnreadBrand (scopes_said inner)) (sym e) ∙ ap (list_or UnreadBrand (scopes_said inner)) whole)

-- ---- the scopes of a brand ----

module _ (inner : Record → TypeTerm) (l : RequestList) (i : ℕ) (id : ℕ) where
  pub scope_end : count_of l ≤ i → scope_in (scopes_said inner (values_left l i)) id ≡ Ok None
  scope_end h = ap (λ vs. scope_in (scopes_said inner vs) id) (none_left l i h)

  module _ (is : IsListOf 20 l) (inside : i < count_of l) where
    pub scope_fault : (kind : ErrorKind) → value.Fault kind ≡ element_seen l i → scope_in (scopes_said inner (values_left l i)) id ≡ Err kind
    scope_fault kind e = ap (λ vs. scope_in (scopes_said inner vs) id) (one_left l i inside) ∙ ap (λ (v : Value). scope_in (with_scope inner (scopes_said inner (values_left l (i + 1))) v) id) (element_is l 20 i is ∙ sym e)

    module _ (r : Record) (x : ℕ) (e : value.Struct r ≡ element_seen l i) (number : value.Number (pos x) ≡ request_read_at 20 0 r) where
      scope_more : scope_in (scopes_said inner (values_left l i)) id ≡ says_or (x == id) (scope_said inner r) (scope_in (scopes_said inner (values_left l (i + 1))) id)
      scope_more =
          ap (λ vs. scope_in (scopes_said inner vs) id) (one_left l i inside)
          ∙ (ap (λ (v : Value). scope_in (with_scope inner (scopes_said inner (values_left l (i + 1))) v) id) (element_is l 20 i is ∙ sym e)
          ∙ ap (λ (v : Value). says_or (number_in v == id) (scope_said inner r) (scope_in (scopes_said inner (values_left l (i + 1))) id)) (sym number))

      pub scope_next : x ≢ id → scope_in (scopes_said inner (values_left l i)) id ≡ scope_in (scopes_said inner (values_left l (i + 1))) id
      scope_next other = scope_more ∙ ap (λ q. says_or q (scope_said inner r) (scope_in (scopes_said inner (values_left l (i + 1))) id)) (let differs : (x == id) ≡ false = grind (arith, nat_tests, other) in differs)

      pub scope_here : x ≡ id → scope_in (scopes_said inner (values_left l i)) id ≡ Ok (Some (scope_said inner r))
      scope_here same = scope_more ∙ ap (λ q. says_or q (scope_said inner r) (scope_in (scopes_said inner (values_left l (i + 1))) id)) (let equals : (x == id) ≡ true = grind (arith, nat_tests, same) in equals)

-- ---- bindings in a row ----

module _ (nodes : List SchemaNode) (strict : Bool) (inside : List Bound) (inner : Record → TypeTerm) (l : RequestList) where
  abbrev left : ℕ → BindingTerms
  left i = bindings_said inner (values_left l i)

  pub bindings_end : (i count : ℕ) (ys : List MarkedType) (s : Named) → (count_of l ≤ i) → prefixed ys (binding_types nodes strict inside (bindings_said inner (values_left l i)) count s) ≡ prefixed ys (Ok ([], s))
  bindings_end i count ys s h = ap (λ vs. prefixed ys (binding_types nodes strict inside (bindings_said inner vs) count s)) (none_left l i h) ∙ go count
    where
      go : (n : ℕ) → prefixed ys (binding_types nodes strict inside NoBindings n s) ≡ prefixed ys (Ok ([], s))
      go zero = refl
      go (suc n) = refl

  pub bindings_full : (i count : ℕ) (ys : List MarkedType) (s : Named) → count ≡ 0 → prefixed ys (binding_types nodes strict inside (bindings_said inner (values_left l i)) count s) ≡ prefixed ys (Ok ([], s))
  bindings_full i count ys s h = ap (λ n. prefixed ys (binding_types nodes strict inside (bindings_said inner (values_left l i)) n s)) h

  pub bindings_all : (i count : ℕ) (ys : List MarkedType) (s : Named) → (min (count_of l) count ≤ i) → prefixed ys (binding_types nodes strict inside (bindings_said inner (values_left l i)) (count - i) s) ≡ Ok (ys, s)
  bindings_all i count ys s h = go (le_either (count_of l) i) ∙ ap (λ (zs : List MarkedType). Ok (zs, s)) (append-nil ys)
    where
      le_either : (a b : ℕ) → (a ≤ b) ⊎ (b < a)
      le_either a b = grind arith

      go : (count_of l ≤ i) ⊎ (i < count_of l) → prefixed ys (binding_types nodes strict inside (bindings_said inner (values_left l i)) (count - i) s) ≡ Ok (ys ++ [], s)
      go (inl past) = bindings_end i (count - i) ys s past
      go (inr inside) = bindings_full i (count - i) ys s (omega (arith, h, inside))

  module _ (i count : ℕ) (ys : List MarkedType) (s : Named) (is : IsListOf 21 l) (within : i < count_of l) (below : i < count) where
    step : (k : TypeTerm) → bindings_said inner (values_left l i) ≡ MoreBindings k (left (i + 1)) →
        prefixed ys (binding_types nodes strict inside (left i) (count - i) s) ≡ prefixed ys (work_continued (λ y. binding_types nodes strict inside (left (i + 1)) (count - (i + 1)) >>= (λ zs. work_of (y ∷ zs))) (type_of nodes strict inside k s))
    step k e =
        let n : count - i ≡ suc (count - (i + 1)) = omega (arith, below) in
        ap (λ m. prefixed ys (binding_types nodes strict inside (left i) m s)) n ∙ ap (λ b. prefixed ys (binding_types nodes strict inside b (suc (count - (i + 1))) s)) e

    pub binding_fault : (kind : ErrorKind) → value.Fault kind ≡ element_seen l i → prefixed ys (binding_types nodes strict inside (bindings_said inner (values_left l i)) (count - i) s) ≡ Err kind
    binding_fault kind e = step (UnreadType kind) (ap (bindings_said inner) (one_left l i within) ∙ ap (λ (v : Value). MoreBindings (in_struct UnreadType (binding_said inner) v) (left (i + 1))) (element_is l 21 i is ∙ sym e))

    module _ (r : Record) (e : value.Struct r ≡ element_seen l i) where
      here : bindings_said inner (values_left l i) ≡ MoreBindings (binding_said inner r) (left (i + 1))
      here = ap (bindings_said inner) (one_left l i within) ∙ ap (λ (v : Value). MoreBindings (in_struct UnreadType (binding_said inner) v) (left (i + 1))) (element_is l 21 i is ∙ sym e)

      pub binding_refused : (kind : ErrorKind) → type_of nodes strict inside (binding_said inner r) s ≡ Err kind → prefixed ys (binding_types nodes strict inside (bindings_said inner (values_left l i)) (count - i) s) ≡ Err kind
      binding_refused kind h = step (binding_said inner r) here ∙ ap (λ o. prefixed ys (work_continued (λ y. binding_types nodes strict inside (left (i + 1)) (count - (i + 1)) >>= (λ zs. work_of (y ∷ zs))) o)) h

      pub binding_more : (y : MarkedType) (t : Named) (after : List MarkedType) → type_of nodes strict inside (binding_said inner r) s ≡ Ok (y, t) → after ≡ ys ++ y ∷ [] →
          prefixed ys (binding_types nodes strict inside (bindings_said inner (values_left l i)) (count - i) s) ≡ prefixed after (binding_types nodes strict inside (bindings_said inner (values_left l (i + 1))) (count - (i + 1)) t)
      binding_more y t after h all =
          step (binding_said inner r) here
          ∙ (ap (λ o. prefixed ys (work_continued (λ y. binding_types nodes strict inside (left (i + 1)) (count - (i + 1)) >>= (λ zs. work_of (y ∷ zs))) o)) h
          ∙ (more_done ys y (binding_types nodes strict inside (left (i + 1)) (count - (i + 1)) t)
          ∙ ap (λ (zs : List MarkedType). prefixed zs (binding_types nodes strict inside (left (i + 1)) (count - (i + 1)) t)) (sym all)))

-- ---- untyped pointers at the end ----

last_any : (u : SchemaType) (x : MarkedType) → is_untyped u ≡ true → with_type_of u x [] ≡ []
last_any AnyPointerType x e = refl
last_any u x e = cc

pub trim_any : (xs : List MarkedType) (x : MarkedType) → is_untyped x.type ≡ true → without_untyped (xs ++ x ∷ []) ≡ without_untyped xs
trim_any [] x e = last_any x.type x e
trim_any (y ∷ xs) x e = ap (with_type y) (trim_any xs x e)

not_empty : (u : SchemaType) (t x : MarkedType) (xs : List MarkedType) → with_type_of u t (x ∷ xs) ≡ t ∷ x ∷ xs
not_empty VoidType t x xs = refl
not_empty BoolType t x xs = refl
not_empty (IntType bytes) t x xs = refl
not_empty (UIntType bytes) t x xs = refl
not_empty (EnumType number) t x xs = refl
not_empty TextType t x xs = refl
not_empty DataType t x xs = refl
not_empty (StructType number generic) t x xs = refl
not_empty (ListType element) t x xs = refl
not_empty AnyPointerType t x xs = refl

before_one : (t x : MarkedType) (xs : List MarkedType) → with_type t (xs ++ x ∷ []) ≡ t ∷ (xs ++ x ∷ [])
before_one t x [] = not_empty t.type t x []
before_one t x (y ∷ xs) = not_empty t.type t y (xs ++ x ∷ [])

last_other : (u : SchemaType) (x : MarkedType) → is_untyped u ≡ false → with_type_of u x [] ≡ x ∷ []
last_other AnyPointerType x e = cc
last_other VoidType x e = refl
last_other BoolType x e = refl
last_other (IntType bytes) x e = refl
last_other (UIntType bytes) x e = refl
last_other (EnumType number) x e = refl
last_other TextType x e = refl
last_other DataType x e = refl
last_other (StructType number generic) x e = refl
last_other (ListType element) x e = refl

pub trim_other : (xs : List MarkedType) (x : MarkedType) → is_untyped x.type ≡ false → without_untyped (xs ++ x ∷ []) ≡ xs ++ x ∷ []
trim_other [] x e = last_other x.type x e
trim_other (y ∷ xs) x e = ap (with_type y) (trim_other xs x e) ∙ before_one y x xs

take_one : (xs : List MarkedRecord) (i : ℕ) (x : MarkedRecord) → slice_get xs i ≡ Some x → take (suc i) xs ≡ take i xs ++ x ∷ []
take_one [] i x e = cc
take_one (y ∷ xs) zero x e = let h : y ≡ x = cc in ap (λ (z : MarkedRecord). z ∷ []) h
take_one (y ∷ xs) (suc i) x e = ap (λ (zs : List MarkedRecord). y ∷ zs) (take_one xs i x e)

-- one type more, and how many are kept of them
pub kept_more : (items : List MarkedRecord) (i kept next : ℕ) (x : MarkedRecord) → slice_get items i ≡ Some x → without_untyped (map seen_marked (take i items)) ≡ map seen_marked (take kept items) → next ≡ cond (is_untyped (seen_marked x).type) kept (i + 1) →
    without_untyped (map seen_marked (take (i + 1) items)) ≡ map seen_marked (take next items)
kept_more items i kept next x there so_far is = go (is_untyped (seen_marked x).type) refl
  where
    more : map seen_marked (take (i + 1) items) ≡ map seen_marked (take i items) ++ seen_marked x ∷ []
    more =
        let e : i + 1 ≡ suc i = omega arith in
        ap (λ n. map seen_marked (take n items)) e ∙ (ap (map seen_marked) (take_one items i x there) ∙ map-append seen_marked (take i items) (x ∷ []))

    go : (q : Bool) → is_untyped (seen_marked x).type ≡ q → without_untyped (map seen_marked (take (i + 1) items)) ≡ map seen_marked (take next items)
    go true holds =
        ap without_untyped more
        ∙ (trim_any (map seen_marked (take i items)) (seen_marked x) holds
        ∙ (so_far ∙ ap (λ n. map seen_marked (take n items)) (sym (is ∙ ap (λ q. cond q kept (i + 1)) holds))))
    go false fails =
        ap without_untyped more
        ∙ (trim_other (map seen_marked (take i items)) (seen_marked x) fails
        ∙ (sym more ∙ ap (λ n. map seen_marked (take n items)) (sym (is ∙ ap (λ q. cond q kept (i + 1)) fails))))

pub kept_below : (q : Bool) (i kept next : ℕ) → next ≡ cond q kept (i + 1) → kept ≤ i → next ≤ i + 1
kept_below true i kept next is below = omega (arith, is, below)
kept_below false i kept next is below = omega (arith, is)

-- ---- the scopes of a node ----

module _ (nodes : List SchemaNode) (strict : Bool) (inside : List Bound) (id : ℕ) (brand : BrandTerm) (s : Named) where
  abbrev work : BrandTerm → Said (List Bound) → Result (List Bound × Named) ErrorKind
  work b scopes = (work_said scopes >>= each (bind_scope (brand_types nodes strict inside b))) s

  pub scopes_unread : (kind : ErrorKind) → scopes_of nodes id ≡ Err kind → named_scopes nodes strict inside id brand s ≡ Err kind
  scopes_unread kind e = ap (work brand) e

  module _ (items : List GenericScope) (generic : scopes_of nodes id ≡ Ok (map with_nothing items)) where
    pub scopes_none : length items ≡ 0 → (bound : List Bound) → bound ≡ [] → named_scopes nodes strict inside id brand s ≡ Ok (bound, s)
    scopes_none none bound empty = ap (work brand) generic ∙ (go items none ∙ ap (λ (bs : List Bound). Ok (bs, s)) (sym empty))
      where
        go : (xs : List GenericScope) → length xs ≡ 0 → work brand (Ok (map with_nothing xs)) ≡ Ok ([], s)
        go [] e = refl
        go (x ∷ xs) e = absurd (omega (arith, e))

    pub scopes_fault : (kind : ErrorKind) → (length items ≡ 0 → ⊥) → brand ≡ UnreadBrand kind → named_scopes nodes strict inside id brand s ≡ Err kind
    scopes_fault kind some fault = ap (work brand) generic ∙ (ap (λ b. work b (Ok (map with_nothing items))) fault ∙ go items some)
      where
        go : (xs : List GenericScope) → (length xs ≡ 0 → ⊥) → work (UnreadBrand kind) (Ok (map with_nothing xs)) ≡ Err kind
        go [] some = absurd (some refl)
        go (x ∷ xs) some = refl

    pub scopes_by : (b : BrandTerm) → brand ≡ b → named_scopes nodes strict inside id brand s ≡ each (bind_scope (brand_types nodes strict inside b)) (map with_nothing items) s
    scopes_by b e = ap (work brand) generic ∙ ap (λ x. work x (Ok (map with_nothing items))) e

-- ---- one scope more is bound ----

item_left : {A : Type 0} (xs : List A) (i : ℕ) (d : A) → i < length xs → drop i xs ≡ get_or xs i d ∷ drop (i + 1) xs
item_left [] i d h = absurd (omega (arith, h))
item_left (y ∷ xs) zero d h = refl
item_left {A = A} (y ∷ xs) (suc i) d h = let k : suc i + 1 ≡ suc (i + 1) = omega arith in item_left xs i d (omega (arith, h)) ∙ ap (λ n. get_or xs i d ∷ drop n (y ∷ xs)) (sym k)

items_over : {A : Type 0} (xs : List A) (i : ℕ) → length xs ≤ i → drop i xs ≡ []
items_over [] zero h = refl
items_over [] (suc i) h = refl
items_over (x ∷ xs) zero h = absurd (omega (arith, h))
items_over (x ∷ xs) (suc i) h = items_over xs i (omega (arith, h))

module _ (nodes : List SchemaNode) (strict : Bool) (inside : List Bound) (brand : BrandTerm) (generic : List GenericScope) (i : ℕ) (ys : List Bound) (s : Named) where
  abbrev each_bound : List GenericScope → Named → Result (List Bound × Named) ErrorKind
  each_bound xs u = each (bind_scope (brand_types nodes strict inside brand)) (map with_nothing xs) u

  pub bind_over : length generic ≤ i → prefixed ys (each (bind_scope (brand_types nodes strict inside brand)) (map with_nothing (drop i generic)) s) ≡ Ok (ys, s)
  bind_over past = ap (λ (xs : List GenericScope). prefixed ys (each_bound xs s)) (items_over generic i past) ∙ all_done (bind_scope (brand_types nodes strict inside brand)) ys s

  module _ (d : GenericScope) (within : i < length generic) where
    abbrev here_bound : GenericScope
    here_bound = get_or generic i d

    next_bound : prefixed ys (each_bound (drop i generic) s) ≡ prefixed ys (each_bound (here_bound ∷ drop (i + 1) generic) s)
    next_bound = ap (λ (xs : List GenericScope). prefixed ys (each_bound xs s)) (item_left generic i d within)

    pub bind_refused : (kind : ErrorKind) → brand_types nodes strict inside brand (with_nothing (get_or generic i d)) s ≡ Err kind → prefixed ys (each (bind_scope (brand_types nodes strict inside brand)) (map with_nothing (drop i generic)) s) ≡ Err kind
    bind_refused kind e =
        next_bound ∙ step_err (bind_scope (brand_types nodes strict inside brand)) ys (with_nothing (get_or generic i d)) (map with_nothing (drop (i + 1) generic)) s kind
        (ap (work_continued (λ ts. work_of (record (with_nothing (get_or generic i d)) { types = ts }))) e)

    pub bind_more : (ts : List MarkedType) (t : Named) (after : List Bound) → brand_types nodes strict inside brand (with_nothing (get_or generic i d)) s ≡ Ok (ts, t) → after ≡ ys ++ record (with_nothing (get_or generic i d)) { types = ts } ∷ [] →
        prefixed ys (each (bind_scope (brand_types nodes strict inside brand)) (map with_nothing (drop i generic)) s) ≡ prefixed after (each (bind_scope (brand_types nodes strict inside brand)) (map with_nothing (drop (i + 1) generic)) t)
    bind_more ts t after e all =
        next_bound
        ∙ (step_ok (bind_scope (brand_types nodes strict inside brand)) ys (with_nothing (get_or generic i d)) (map with_nothing (drop (i + 1) generic)) (record (with_nothing (get_or generic i d)) { types = ts }) s t
        (ap (work_continued (λ us. work_of (record (with_nothing (get_or generic i d)) { types = us }))) e)
        ∙ ap (λ (zs : List Bound). prefixed zs (each_bound (drop (i + 1) generic) t)) (sym all))
