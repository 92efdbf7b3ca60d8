-- The number of one more entry or enum.
use Rattle.std.proofs.Common.{ℕ, ◌+◌, ◌<◌, ◌≤◌, ◌≡◌, nat_lt, ◌∙◌, suc, arith, ap, refl, sym, cond, Bool, true, false, ◌==◌, List, [], ◌∷◌, ◌++◌, length, map, Option, Some, None, Ok}
use Rattle.std.proofs.lemmas.Bool.Decides.{nat_tests}
use Rattle.std.proofs.lemmas.List.{length-append, length-map, map-append}
use Rattle.std.specs.Cmp.{IsEquivalence}
use Rattle.std.specs.HashMap.{HashMap, get, Updates}
use Rattle.std.specs.Map.{lookup}
use Rattle.capnp_device.specs.declared.error.ErrorKind.TheVariants.{NodeNotFound, TooManyTypes}
use Rattle.capnp_request.specs.Scopes.{node_named}
use Rattle.capnp_request.specs.Terms.{SchemaNode}
use Rattle.capnp_request.specs.Types.{add_enum, entry_number, enum_or_add, enum_position, is_entry_of, is_enum, is_of_kind, number_enum, number_where}
use Rattle.capnp_request.specs.Work.{Bound, Entry, GroupOf, Named, where_so}

-- the first of two
abbrev pub or_else : {A : Type 0} → Option A → Option A → Option A
or_else (Some x) other = Some x
or_else None other = other

or_where : (q : Bool) (n m : ℕ) (rest other : Option ℕ) → number_where q n (or_else rest other) ≡ or_else (number_where q n rest) other
or_where true n m rest other = refl
or_where false n m rest other = refl

pub one_more : (id : ℕ) (bound : List Bound) (es : List Entry) (e : Entry) (n : ℕ) →
    entry_number id bound (es ++ e ∷ []) n ≡ or_else (entry_number id bound es n) (number_where (is_entry_of id bound e e.place) (n + length es) None)
one_more id bound [] e n = let h : n ≡ n + 0 = omega arith in ap (λ m. number_where (is_entry_of id bound e e.place) m None) h
one_more id bound (x ∷ es) e n =
    let h : n + 1 + length es ≡ n + suc (length es) = omega arith in
    ap (number_where (is_entry_of id bound x x.place) n) (one_more id bound es e (n + 1) ∙ ap (λ m. or_else (entry_number id bound es (n + 1)) (number_where (is_entry_of id bound e e.place) m None)) h)
    ∙ or_where (is_entry_of id bound x x.place) n n (entry_number id bound es (n + 1)) _

pub one_more_enum : (id : ℕ) (xs : List ℕ) (x n : ℕ) → enum_position (xs ++ x ∷ []) id n ≡ or_else (enum_position xs id n) (number_where (x == id) (n + length xs) None)
one_more_enum id [] x n = let h : n ≡ n + 0 = omega arith in ap (λ m. number_where (x == id) m None) h
one_more_enum id (y ∷ xs) x n =
    let h : n + 1 + length xs ≡ n + suc (length xs) = omega arith in
    ap (number_where (y == id) n) (one_more_enum id xs x (n + 1) ∙ ap (λ m. or_else (enum_position xs id (n + 1)) (number_where (x == id) m None)) h)
    ∙ or_where (y == id) n n (enum_position xs id (n + 1)) _

-- equal keys have the same value
same_value : {K X : Type 0} (eq : K → K → Bool) → IsEquivalence eq → (k q : K) → eq k q ≡ true → (es : List (K × X)) → lookup (eq k) es ≡ lookup (eq q) es
same_value eq laws k q e [] = refl
same_value eq laws k q e (p ∷ es) = ap (λ b. cond b (Some p.1) (lookup (eq k) es)) (laws.congr k q p.0 e) ∙ ap (cond (eq q p.0) (Some p.1)) (same_value eq laws k q e es)

-- A map says the number of each key. A key without one got the next.
module _ {K S : Type 0} (eq : K → K → Bool) (laws : IsEquivalence eq) (m n : HashMap K ℕ S) (k : K) (v : ℕ) (absent : get eq m k ≡ None) (updates : Updates eq m n k (Some v)) where
  module _ (q : K) (before after : Option ℕ) (test : Bool) (was : get eq m q ≡ before) (next : after ≡ or_else before (number_where test v None)) (same : test ≡ eq k q) where
    found : (b : Bool) → eq k q ≡ b → cond b (Some v) before ≡ or_else before (number_where b v None)
    found true e = ap (λ o. or_else o (Some v)) (sym (sym was ∙ (sym (same_value eq laws k q e m.entries) ∙ absent)))
    found false e = none before
      where
        none : (o : Option ℕ) → o ≡ or_else o None
        none None = refl
        none (Some x) = refl

    pub number_added : get eq n q ≡ after
    number_added = updates.0 q ∙ (ap (cond (eq k q) (Some v)) was ∙ (found (eq k q) refl ∙ (ap (λ b. or_else before (number_where b v None)) (sym same) ∙ sym next)))

-- the number of an entry, where one stands behind the others
pub added_entry : (id : ℕ) (bound : List Bound) (es : List Entry) (e : Entry) (all : List Entry) (number : ℕ) → all ≡ es ++ e ∷ [] → number ≡ length es →
    entry_number id bound all 0 ≡ or_else (entry_number id bound es 0) (number_where (is_entry_of id bound e e.place) number None)
added_entry id bound es e all number more is =
    let at : 0 + length es ≡ number = omega (arith, is) in
    ap (λ xs. entry_number id bound xs 0) more ∙ (one_more id bound es e 0 ∙ ap (λ n. or_else (entry_number id bound es 0) (number_where (is_entry_of id bound e e.place) n None)) at)

none_more : (o : Option ℕ) → or_else o None ≡ o
none_more None = refl
none_more (Some x) = refl

-- a group is the entry of no bindings
pub added_group : (id : ℕ) (bound : List Bound) (es : List Entry) (node : ℕ) (inside : List Bound) (parent field : ℕ) (all : List Entry) → all ≡ es ++ record { node = node; bound = inside; place = GroupOf parent field } ∷ [] →
    entry_number id bound all 0 ≡ entry_number id bound es 0
added_group id bound es node inside parent field all more =
    ap (λ xs. entry_number id bound xs 0) more ∙ (one_more id bound es (record { node = node; bound = inside; place = GroupOf parent field }) 0 ∙ none_more (entry_number id bound es 0))

-- one more at the end, as it is seen
pub map_more : {A B : Type 0} (f : A → B) (xs ys : List A) (x : A) (y : B) → ys ≡ xs ++ x ∷ [] → f x ≡ y → map f ys ≡ map f xs ++ y ∷ []
map_more f xs ys x y e is = ap (map f) e ∙ (map-append f xs (x ∷ []) ∙ ap (λ z. map f xs ++ z ∷ []) is)

-- the same of an enum
pub added_enum : (id : ℕ) (xs : List ℕ) (x : ℕ) (all : List ℕ) (number : ℕ) → all ≡ xs ++ x ∷ [] → number ≡ length xs →
    enum_position all id 0 ≡ or_else (enum_position xs id 0) (number_where (x == id) number None)
added_enum id xs x all number more is =
    let at : 0 + length xs ≡ number = omega (arith, is) in
    ap (λ ys. enum_position ys id 0) more ∙ (one_more_enum id xs x 0 ∙ ap (λ n. or_else (enum_position xs id 0) (number_where (x == id) n None)) at)

-- ---- refusals ----

test_true : (a b : ℕ) → a < b → nat_lt a b ≡ true
test_true a b h = grind (arith, nat_tests)

-- ---- enums ----

module _ (nodes : List SchemaNode) (id : ℕ) (s : Named) where
  module _ (none : enum_position s.enums id 0 ≡ None) where
    at_enum : number_enum nodes id s ≡ where_so (is_of_kind is_enum (node_named nodes id)) NodeNotFound (add_enum id s)
    at_enum = ap (λ o. enum_or_add nodes o id s) none

    module _ (found : is_of_kind is_enum (node_named nodes id) ≡ true) where
      found_enum : number_enum nodes id s ≡ add_enum id s
      found_enum = at_enum ∙ ap (λ q. where_so q NodeNotFound (add_enum id s)) found

      pub new_enum : (number : ℕ) (all : List ℕ) → length s.enums < 4294967295 → number ≡ length s.enums → all ≡ s.enums ++ id ∷ [] → number_enum nodes id s ≡ Ok (number, record s { enums = all })
      new_enum number all h count more =
          found_enum
          ∙ (ap (λ q. where_so q TooManyTypes (Ok (length s.enums, record s { enums = s.enums ++ id ∷ [] }))) (test_true (length s.enums) 4294967295 h)
          ∙ (ap (λ n. Ok (n, record s { enums = s.enums ++ id ∷ [] })) (sym count) ∙ ap (λ (xs : List ℕ). Ok (number, record s { enums = xs })) (sym more)))

-- one more of fewer than 65,536
pub few_more : {A B : Type 0} (f : A → B) (xs ys : List A) (x : A) (n : ℕ) → ys ≡ xs ++ x ∷ [] → n ≡ length (map f xs) → n < 65536 → length ys ≤ 65536
few_more f xs ys x n more count few =
    let all : length ys ≡ length xs + 1 = ap length more ∙ length-append xs (x ∷ []) in
    let same : length (map f xs) ≡ length xs = length-map xs f in
    omega (arith, all, same, count, few)
