-- What is bound to parameters is alike where it is written alike.
use Rattle.std.proofs.Common.{ℕ, zero, suc, ◌-◌, ◌≤◌, ◌≡◌, ◌∙◌, ◌⊎◌, ◌==◌, ◌||◌, ap, arith, bytes_eq, codes, cond, inl, inr, refl, subst, sym, Bool, true, false, List, [], ◌∷◌, ◌++◌, map}
use Rattle.std.proofs.lemmas.Bool.{eq-eqb, eqb-true, or_parts, true≢false}
use Rattle.std.proofs.lemmas.List.{append-nil, append_cancel_right}
use Rattle.capnp_schema.specs.Types.{SchemaType, AnyPointerType, BoolType, DataType, EnumType, IntType, ListType, StructType, TextType, UIntType, VoidType}
use Rattle.capnp_request.specs.Names.{bindings_name, more_names, part_bindings, set_type_name, sizes, type_name, unsigned_name}
use Rattle.capnp_request.specs.Types.{by_bytes}
use Rattle.capnp_request.specs.Work.{Bound, MarkedType}
use Rattle.capnp_request_meaning.specs.Meaning.{EachBound, without_types}
use Rattle.capnp_request_meaning.specs.Written.{AreAlike, AreScopesAlike, AreTypesAlike, HaveOwnParts, first_type, is_named_type, marked_kind, other_types}
use Rattle.capnp_request_meaning.proofs.BracketsRead.{AreClosed, AreFree, EndsAtComma, Stays, hidden_in_brackets, read_on, set_type_closed, set_type_free}

abbrev tail_of : List ℕ → List ℕ
tail_of [] = []
tail_of (x ∷ xs) = xs

-- ---- what stands outside brackets in the name of a type that needs no other ----

abbrev pub base : (is_float : Bool) → SchemaType → List ℕ
base q (ListType t) = codes "List"
base q t = set_type_name [] [] q t

sizes_outside : (one two four eight : List ℕ) (bytes : ℕ) → read_on Stays 0 one ≡ one → read_on Stays 0 two ≡ two → read_on Stays 0 four ≡ four → read_on Stays 0 eight ≡ eight → read_on Stays 0 (sizes one two four eight bytes) ≡ sizes one two four eight bytes
sizes_outside one two four eight bytes a b c d = go (bytes == 1) (bytes == 2) (bytes == 4)
  where
    go : (p q r : Bool) → read_on Stays 0 (elim p as (λ _. List ℕ) [ true ↦ one | false ↦ elim q as (λ _. List ℕ) [ true ↦ two | false ↦ elim r as (λ _. List ℕ) [ true ↦ four | false ↦ eight ] ] ]) ≡ elim p as (λ _. List ℕ) [ true ↦ one | false ↦ elim q as (λ _. List ℕ) [ true ↦ two | false ↦ elim r as (λ _. List ℕ) [ true ↦ four | false ↦ eight ] ] ]
    go true q r = a
    go false true r = b
    go false false true = c
    go false false false = d

unsigned_outside : (q : Bool) (bytes : ℕ) → read_on Stays 0 (unsigned_name q bytes) ≡ unsigned_name q bytes
unsigned_outside true bytes = sizes_outside (codes "UInt8") (codes "UInt16") (codes "Float32") (codes "Float64") bytes refl refl refl refl
unsigned_outside false bytes = sizes_outside (codes "UInt8") (codes "UInt16") (codes "UInt32") (codes "UInt64") bytes refl refl refl refl

module _ (structs enums : List (List ℕ)) (closed_structs : AreClosed structs) (closed_enums : AreClosed enums) where
  list_outside : (q : Bool) (t : SchemaType) → read_on Stays 0 (set_type_name structs enums q (ListType t)) ≡ codes "List"
  list_outside q t =
      let inner : List ℕ = 40 ∷ (set_type_name structs enums q t ++ 41 ∷ []) in
      let hidden : read_on Stays 0 (inner ++ []) ≡ [] = hidden_in_brackets (set_type_name structs enums q t) (set_type_closed structs enums closed_structs closed_enums q t) Stays 0 [] in
      let alone : read_on Stays 0 inner ≡ [] = ap (λ xs. read_on Stays 0 xs) (sym (append-nil inner)) ∙ hidden in
      ap (λ xs. codes "List" ++ xs) alone

  pub outside_base : (q : Bool) (t : SchemaType) → is_named_type t ≡ false → read_on Stays 0 (set_type_name structs enums q t) ≡ base q t
  outside_base q VoidType e = refl
  outside_base q BoolType e = refl
  outside_base q (IntType bytes) e = sizes_outside (codes "Int8") (codes "Int16") (codes "Int32") (codes "Int64") bytes refl refl refl refl
  outside_base q (UIntType bytes) e = unsigned_outside q bytes
  outside_base q (EnumType number) e = absurd (true≢false e)
  outside_base q TextType e = refl
  outside_base q DataType e = refl
  outside_base q (StructType number generic) e = absurd (true≢false e)
  outside_base q (ListType t) e = list_outside q t
  outside_base q AnyPointerType e = refl

-- ---- the kind of a type by that ----

abbrev kind_where : Bool → ℕ → ℕ → ℕ
kind_where true kind other = kind
kind_where false kind other = other

abbrev kind_of : List ℕ → ℕ
kind_of xs =
    kind_where (bytes_eq xs (codes "Void")) 0 (kind_where (bytes_eq xs (codes "Bool")) 1
    (kind_where (bytes_eq xs (codes "Int8")) 2 (kind_where (bytes_eq xs (codes "Int16")) 3 (kind_where (bytes_eq xs (codes "Int32")) 4 (kind_where (bytes_eq xs (codes "Int64")) 5
    (kind_where (bytes_eq xs (codes "UInt8")) 6 (kind_where (bytes_eq xs (codes "UInt16")) 7 (kind_where (bytes_eq xs (codes "UInt32")) 8 (kind_where (bytes_eq xs (codes "UInt64")) 9
    (kind_where (bytes_eq xs (codes "Text")) 10 (kind_where (bytes_eq xs (codes "Data")) 11 (kind_where (bytes_eq xs (codes "AnyPointer")) 13
    (kind_where (bytes_eq xs (codes "Float32")) 16 (kind_where (bytes_eq xs (codes "Float64")) 17 15))))))))))))))

sizes_kind : (one two four eight : List ℕ) (a b c d bytes : ℕ) → kind_of one ≡ a → kind_of two ≡ b → kind_of four ≡ c → kind_of eight ≡ d → kind_of (sizes one two four eight bytes) ≡ by_bytes bytes a b c d
sizes_kind one two four eight a b c d bytes h i j k = go (bytes == 1) (bytes == 2) (bytes == 4)
  where
    go : (p q r : Bool) → kind_of (elim p as (λ _. List ℕ) [ true ↦ one | false ↦ elim q as (λ _. List ℕ) [ true ↦ two | false ↦ elim r as (λ _. List ℕ) [ true ↦ four | false ↦ eight ] ] ]) ≡ cond p a (cond q b (cond r c d))
    go true q r = h
    go false true r = i
    go false false true = j
    go false false false = k

kind_base : (q : Bool) (t : SchemaType) → is_named_type t ≡ false → kind_of (base q t) ≡ marked_kind q t
kind_base true VoidType e = refl
kind_base false VoidType e = refl
kind_base true BoolType e = refl
kind_base false BoolType e = refl
kind_base true (IntType bytes) e = sizes_kind (codes "Int8") (codes "Int16") (codes "Int32") (codes "Int64") 2 3 4 5 bytes refl refl refl refl
kind_base false (IntType bytes) e = sizes_kind (codes "Int8") (codes "Int16") (codes "Int32") (codes "Int64") 2 3 4 5 bytes refl refl refl refl
kind_base true (UIntType bytes) e = sizes_kind (codes "UInt8") (codes "UInt16") (codes "Float32") (codes "Float64") 6 7 16 17 bytes refl refl refl refl
kind_base false (UIntType bytes) e = sizes_kind (codes "UInt8") (codes "UInt16") (codes "UInt32") (codes "UInt64") 6 7 8 9 bytes refl refl refl refl
kind_base true TextType e = refl
kind_base false TextType e = refl
kind_base true DataType e = refl
kind_base false DataType e = refl
kind_base true (ListType t) e = refl
kind_base false (ListType t) e = refl
kind_base true AnyPointerType e = refl
kind_base false AnyPointerType e = refl
kind_base q (EnumType number) e = absurd (true≢false e)
kind_base q (StructType number generic) e = absurd (true≢false e)

-- ---- names, types and bindings that are written alike ----

-- what stands among names: text that is passed over inside brackets, and up to a comma
pub record AreTypeNames (structs enums : List (List ℕ)) : Type 0 where
  pub closed_structs : AreClosed structs
  pub closed_enums : AreClosed enums
  pub free_structs : AreFree structs
  pub free_enums : AreFree enums

module _ (structs enums structs2 enums2 : List (List ℕ)) (one : AreTypeNames structs enums) (two : AreTypeNames structs2 enums2) where
  abbrev A : (p q : Bool) → SchemaType → SchemaType → Type 0
  A p q t u = AreAlike structs enums structs2 enums2 p q t u

  abbrev Either : (p q : Bool) → SchemaType → SchemaType → Type 0
  Either p q t u = (((is_named_type t || is_named_type u) ≡ true) × (set_type_name structs enums p t ≡ set_type_name structs2 enums2 q u)) ⊎ (((is_named_type t || is_named_type u) ≡ false) × (marked_kind p t ≡ marked_kind q u))

  either : (p q : Bool) (t u : SchemaType) → set_type_name structs enums p t ≡ set_type_name structs2 enums2 q u → Either p q t u
  either p q t u e = go (is_named_type t || is_named_type u) refl
    where
      go : (n : Bool) → (is_named_type t || is_named_type u) ≡ n → Either p q t u
      go true named = inl (named, e)
      go false unnamed =
          let parts = or_parts (is_named_type t) (is_named_type u) unnamed in
          let bases : base p t ≡ base q u = sym (outside_base structs enums one.closed_structs one.closed_enums p t parts.0) ∙ (ap (λ xs. read_on Stays 0 xs) e ∙ outside_base structs2 enums2 two.closed_structs two.closed_enums q u parts.1) in
          inr (unnamed, sym (kind_base p t parts.0) ∙ (ap kind_of bases ∙ kind_base q u parts.1))

  -- inside the brackets of lists
  elements : (p q : Bool) (t u : SchemaType) → set_type_name structs enums p (ListType t) ≡ set_type_name structs2 enums2 q (ListType u) → set_type_name structs enums p t ≡ set_type_name structs2 enums2 q u
  elements p q t u e = append_cancel_right (set_type_name structs enums p t) (set_type_name structs2 enums2 q u) (41 ∷ []) (ap (λ xs. tail_of (tail_of (tail_of (tail_of (tail_of xs))))) e)

  type_alike : (p q : Bool) (t u : SchemaType) → set_type_name structs enums p t ≡ set_type_name structs2 enums2 q u → A p q t u
  type_alike p q (ListType t) (ListType u) e = type_alike p q t u (elements p q t u e)
  type_alike p q t u e = either p q t u e

  abbrev Alike : MarkedType → MarkedType → Type 0
  Alike t u = A t.is_float u.is_float t.type u.type

  abbrev TypesAlike : List MarkedType → List MarkedType → ℕ → Type 0
  TypesAlike ts us count = AreTypesAlike structs enums structs2 enums2 ts us count

  -- what stands behind the first name begins with a comma, or is nothing
  more_ends : (ss es : List (List ℕ)) (ts : List MarkedType) (count : ℕ) → read_on EndsAtComma 0 (more_names ss es ts count) ≡ more_names ss es ts count
  more_ends ss es [] zero = refl
  more_ends ss es (t ∷ ts) zero = refl
  more_ends ss es [] (suc count) = refl
  more_ends ss es (t ∷ ts) (suc count) = refl

  more_shown : (ss es : List (List ℕ)) (ts : List MarkedType) (count : ℕ) → more_names ss es ts (suc count) ≡ 44 ∷ 32 ∷ (type_name ss es (first_type ts) ++ more_names ss es (other_types ts) count)
  more_shown ss es [] count = refl
  more_shown ss es (t ∷ ts) count = refl

  -- a name and what stands behind it
  split_more : (t u : MarkedType) (ts us : List MarkedType) (count : ℕ) → type_name structs enums t ++ more_names structs enums ts count ≡ type_name structs2 enums2 u ++ more_names structs2 enums2 us count → more_names structs enums ts count ≡ more_names structs2 enums2 us count
  split_more t u ts us count e =
      sym (set_type_free structs enums one.closed_structs one.closed_enums one.free_structs one.free_enums t.is_float t.type (more_names structs enums ts count) ∙ more_ends structs enums ts count)
      ∙ (ap (λ xs. read_on EndsAtComma 0 xs) e ∙ (set_type_free structs2 enums2 two.closed_structs two.closed_enums two.free_structs two.free_enums u.is_float u.type (more_names structs2 enums2 us count) ∙ more_ends structs2 enums2 us count))

  split_name : (t u : MarkedType) (ts us : List MarkedType) (count : ℕ) → type_name structs enums t ++ more_names structs enums ts count ≡ type_name structs2 enums2 u ++ more_names structs2 enums2 us count → Alike t u
  split_name t u ts us count e =
      let rest : more_names structs enums ts count ≡ more_names structs2 enums2 us count = split_more t u ts us count e in
      type_alike t.is_float u.is_float t.type u.type (append_cancel_right (type_name structs enums t) (type_name structs2 enums2 u) (more_names structs2 enums2 us count) (ap (λ xs. type_name structs enums t ++ xs) (sym rest) ∙ e))

  more_alike : (ts us : List MarkedType) (count : ℕ) → more_names structs enums ts count ≡ more_names structs2 enums2 us count → TypesAlike ts us count
  more_alike ts us zero e = tt
  more_alike ts us (suc count) e =
      let shown : type_name structs enums (first_type ts) ++ more_names structs enums (other_types ts) count ≡ type_name structs2 enums2 (first_type us) ++ more_names structs2 enums2 (other_types us) count =
      ap (λ xs. tail_of (tail_of xs)) (sym (more_shown structs enums ts count) ∙ (e ∙ more_shown structs2 enums2 us count)) in
      (split_name (first_type ts) (first_type us) (other_types ts) (other_types us) count shown, more_alike (other_types ts) (other_types us) count (split_more (first_type ts) (first_type us) (other_types ts) (other_types us) count shown))

  none_alike : (count : ℕ) → TypesAlike [] [] count
  none_alike zero = tt
  none_alike (suc count) = (inr (refl, refl), none_alike count)

  bindings_alike : (ts us : List MarkedType) (count : ℕ) → bindings_name structs enums ts count ≡ bindings_name structs2 enums2 us count → TypesAlike ts us count
  bindings_alike [] [] count e = none_alike count
  bindings_alike [] (u ∷ us) count e = absurd (cc)
  bindings_alike (t ∷ ts) [] count e = absurd (cc)
  bindings_alike (t ∷ ts) (u ∷ us) zero e = tt
  bindings_alike (t ∷ ts) (u ∷ us) (suc count) e =
      let one_less : suc count - 1 ≡ count = omega arith in
      let shown : type_name structs enums t ++ more_names structs enums ts (suc count - 1) ≡ type_name structs2 enums2 u ++ more_names structs2 enums2 us (suc count - 1) =
      append_cancel_right (type_name structs enums t ++ more_names structs enums ts (suc count - 1)) (type_name structs2 enums2 u ++ more_names structs2 enums2 us (suc count - 1)) (41 ∷ []) (ap tail_of e) in
      (split_name t u ts us (suc count - 1) shown, subst (λ c. TypesAlike ts us c) one_less (more_alike ts us (suc count - 1) (split_more t u ts us (suc count - 1) shown)))

  -- ---- scopes ----

  abbrev part : List (List ℕ) → List (List ℕ) → List Bound → ℕ → ℕ → List ℕ
  part ss es bs dots k = part_bindings ss es bs dots k

  none_there : (ss es : List (List ℕ)) (bs : List Bound) (dots k : ℕ) → EachBound (λ (c : Bound). (dots - c.distance == k) ≡ false) bs → part ss es bs dots k ≡ []
  none_there ss es [] dots k h = refl
  none_there ss es (b ∷ bs) dots k h = go (dots - b.distance == k) h.0 (none_there ss es bs dots k h.1)
    where
      go : (q : Bool) → q ≡ false → part ss es bs dots k ≡ [] → (elim q as (λ _. List ℕ) [ true ↦ bindings_name ss es b.types b.parameters ++ part ss es bs dots k | false ↦ part ss es bs dots k ]) ≡ []
      go false e rest = rest
      go true e rest = absurd (true≢false e)

  -- a scope alone at its part
  alone_there : (ss es : List (List ℕ)) (b : Bound) (bs : List Bound) (dots k : ℕ) → dots - b.distance ≡ k → EachBound (λ (c : Bound). (dots - c.distance == k) ≡ false) bs → part ss es (b ∷ bs) dots k ≡ bindings_name ss es b.types b.parameters
  alone_there ss es b bs dots k here h = go (dots - b.distance == k) (eq-eqb (dots - b.distance) k here)
    where
      go : (q : Bool) → q ≡ true → (elim q as (λ _. List ℕ) [ true ↦ bindings_name ss es b.types b.parameters ++ part ss es bs dots k | false ↦ part ss es bs dots k ]) ≡ bindings_name ss es b.types b.parameters
      go true e = ap (λ xs. bindings_name ss es b.types b.parameters ++ xs) (none_there ss es bs dots k h) ∙ append-nil (bindings_name ss es b.types b.parameters)
      go false e = absurd (true≢false (sym e))

  -- without the first scope
  others_there : (ss es : List (List ℕ)) (b : Bound) (bs : List Bound) (dots k : ℕ) → (dots - b.distance == k) ≡ false → part ss es (b ∷ bs) dots k ≡ part ss es bs dots k
  others_there ss es b bs dots k other = ap (λ q. elim q as (λ _. List ℕ) [ true ↦ bindings_name ss es b.types b.parameters ++ part ss es bs dots k | false ↦ part ss es bs dots k ]) other

  -- without the first scopes the parts are alike too
  others_alike : (b c : Bound) (bs cs : List Bound) (dots : ℕ) → EachBound (λ (x : Bound). (dots - x.distance == dots - b.distance) ≡ false) bs → EachBound (λ (x : Bound). (dots - x.distance == dots - b.distance) ≡ false) cs → dots - c.distance ≡ dots - b.distance
      → ((k : ℕ) → k ≤ dots → part structs enums (b ∷ bs) dots k ≡ part structs2 enums2 (c ∷ cs) dots k) → (k : ℕ) → k ≤ dots → part structs enums bs dots k ≡ part structs2 enums2 cs dots k
  others_alike b c bs cs dots none none2 here h k less = go (dots - b.distance == k) refl
    where
      go : (q : Bool) → (dots - b.distance == k) ≡ q → part structs enums bs dots k ≡ part structs2 enums2 cs dots k
      go true e =
          let at : dots - b.distance ≡ k = eqb-true (dots - b.distance) k e in
          none_there structs enums bs dots k (subst (λ l. EachBound (λ (x : Bound). (dots - x.distance == l) ≡ false) bs) at none) ∙ sym (none_there structs2 enums2 cs dots k (subst (λ l. EachBound (λ (x : Bound). (dots - x.distance == l) ≡ false) cs) at none2))
      go false e = sym (others_there structs enums b bs dots k e) ∙ (h k less ∙ others_there structs2 enums2 c cs dots k (ap (λ d. d == k) here ∙ e))

  abbrev without_first : List Bound → List Bound
  without_first [] = []
  without_first (b ∷ bs) = bs

  abbrev of_first : {B : Type 0} → B → (Bound → B) → List Bound → B
  of_first none f [] = none
  of_first none f (b ∷ bs) = f b

  pub scopes_alike : (bs cs : List Bound) (dots : ℕ) → map without_types bs ≡ map without_types cs → HaveOwnParts dots bs → HaveOwnParts dots cs → ((k : ℕ) → k ≤ dots → part structs enums bs dots k ≡ part structs2 enums2 cs dots k) → AreScopesAlike structs enums structs2 enums2 bs cs
  scopes_alike [] [] dots same own own2 h = tt
  scopes_alike [] (c ∷ cs) dots same own own2 h = absurd (cc)
  scopes_alike (b ∷ bs) [] dots same own own2 h = absurd (cc)
  scopes_alike (b ∷ bs) (c ∷ cs) dots same own own2 h =
      let scope : b.scope ≡ c.scope = ap (of_first 0 (λ (x : Bound). x.scope)) same in
      let distance : b.distance ≡ c.distance = ap (of_first 0 (λ (x : Bound). x.distance)) same in
      let parameters : b.parameters ≡ c.parameters = ap (of_first 0 (λ (x : Bound). x.parameters)) same in
      let here : dots - c.distance ≡ dots - b.distance = ap (λ d. dots - d) (sym distance) in
      let own_here : EachBound (λ (x : Bound). (dots - x.distance == dots - b.distance) ≡ false) cs = subst (λ k. EachBound (λ (x : Bound). (dots - x.distance == k) ≡ false) cs) here own2.0 in
      let bindings : bindings_name structs enums b.types b.parameters ≡ bindings_name structs2 enums2 c.types c.parameters =
      sym (alone_there structs enums b bs dots (dots - b.distance) refl own.0) ∙ (h (dots - b.distance) (omega arith) ∙ alone_there structs2 enums2 c cs dots (dots - b.distance) here own_here) in
      (scope, bindings_alike b.types c.types b.parameters (bindings ∙ ap (λ k. bindings_name structs2 enums2 c.types k) (sym parameters)), scopes_alike bs cs dots (ap without_first same) own.1 own2.1 (others_alike b c bs cs dots own.0 own_here here h))
