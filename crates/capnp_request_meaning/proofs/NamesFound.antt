-- Structs are found by their display names: a query passes over groups, and no earlier struct has the name.
use Rattle.std.proofs.Common.{ℕ, zero, suc, ◌+◌, ◌-◌, ◌^◌, ◌<◌, ◌≤◌, ◌≡◌, ◌∙◌, ◌==◌, ◌&&◌, ap, arith, bytes_eq, not, refl, sym, Bool, true, false, List, [], ◌∷◌, ◌++◌, length, slice_get, Some, None, Ok}
use Rattle.std.specs.Prelude.{if◌then◌else◌}
use Rattle.std.proofs.lemmas.Bool.{and_from, and_parts, eq-eqb, lt-ltb, true≢false}
use Rattle.std.proofs.lemmas.Option.{slice_get_within}
use Rattle.std.proofs.lemmas.Slice.Eq.{bytes_eq-Decides}
use Rattle.capnp_schema.specs.Accepted.{IsAccepted}
use Rattle.capnp_schema.specs.ByName.{brand_among, brand_asked, brand_named, numbered_brand}
use Rattle.capnp_schema.specs.Schema.{Brand, Node, Schemas, node_of}
use Rattle.capnp_request.specs.Names.{bindings_name, dotted_of, occurrences_of, part_bindings}
use Rattle.capnp_request.specs.Scopes.{node_named}
use Rattle.capnp_request.specs.Terms.{RequestTerm, Said, SchemaNode, StructNode, StructPart}
use Rattle.capnp_request.specs.Work.{Bound, Entry, GroupOf, MarkedType, Place, Whole}
use Rattle.capnp_request_meaning.specs.Found.{IsStructFound}
use Rattle.capnp_request_meaning.specs.Laws.{EachStructIsFound, IsUnboundAt, NamesFindStructs}
use Rattle.capnp_request_meaning.specs.Meaning.{AreUnbound, IsFound, IsListed, IsSetOf, numbers_in}
use Rattle.capnp_request_meaning.specs.Written.{AreWrittenAlike, HasBareNames, IsWholeAt, dots_of, HasOwnNames}
use Rattle.capnp_request_meaning.proofs.GroupsMarked.{brand_within, made, marked_by, own_node}
use Rattle.capnp_request_meaning.proofs.ListsFound.{same_some, there_below}
use Rattle.capnp_request_meaning.proofs.NamesAlike.{names_alike, names_of}
use Rattle.capnp_request_meaning.proofs.NamesDiffer.{names_differ}
use Rattle.capnp_request_meaning.proofs.NamesMeant.{no_bindings}
use Rattle.capnp_request_meaning.proofs.NamesOwn.{names_own}

-- ---- the first of a name ----

abbrev is_asked : Schemas → List ℕ → ℕ → Bool
is_asked set name b = not (node_of set b).is_group && bytes_eq name (node_of set b).display_name

first_asked : (set : Schemas) (xs : List Brand) (b : ℕ) (name : List ℕ) (i : ℕ) → i < length xs → is_asked set name (b + i) ≡ true → ((j : ℕ) → j < i → is_asked set name (b + j) ≡ false) → brand_among set xs b name ≡ Some (b + i)
first_asked set [] b name i less here none = absurd (omega (arith, less))
first_asked set (x ∷ xs) b name zero less here none =
    let start : b + zero ≡ b = omega arith in
    ap (λ q. if q then Some b else brand_among set xs (suc b) name) (ap (λ l. is_asked set name l) (sym start) ∙ here) ∙ ap (λ l. Some l) (sym start)
first_asked set (x ∷ xs) b name (suc i) less here none =
    let start : b + zero ≡ b = omega arith in
    let next : b + suc i ≡ suc b + i = omega arith in
    let first : is_asked set name b ≡ false = ap (λ l. is_asked set name l) (sym start) ∙ none zero (omega arith) in
    let rest : brand_among set xs (suc b) name ≡ Some (suc b + i) =
    first_asked set xs (suc b) name i (omega (arith, less)) (ap (λ l. is_asked set name l) (sym next) ∙ here) (λ j below. let same : suc b + j ≡ b + suc j = omega arith in ap (λ l. is_asked set name l) same ∙ none (suc j) (omega (arith, below))) in
    ap (λ q. if q then Some b else brand_among set xs (suc b) name) first ∙ (rest ∙ ap (λ l. Some l) (sym next))

-- 32 bits hold its number
asked : (set : Schemas) (name : List ℕ) (i : ℕ) → i < 65536 → brand_named set name ≡ Some i → brand_asked set name ≡ Some i
asked set name i less e =
    let small : i < 2 ^ 32 = omega (arith, less) in
    ap numbered_brand e ∙ ap (λ q. if q then Some i else None) (lt-ltb i (2 ^ 32) small)

-- ---- nothing is bound where nothing is written ----

module _ (structs enums : List (List ℕ)) where
  none_written : (ts : List MarkedType) (count : ℕ) → bindings_name structs enums ts count ≡ [] → ts ≡ []
  none_written [] count e = refl
  none_written (t ∷ ts) count e = absurd (cc)

  first_nothing : (xs ys : List ℕ) → xs ++ ys ≡ [] → xs ≡ []
  first_nothing [] ys e = refl
  first_nothing (x ∷ xs) ys e = absurd (cc)

  other_nothing : (xs ys : List ℕ) → xs ++ ys ≡ [] → ys ≡ []
  other_nothing [] ys e = e
  other_nothing (x ∷ xs) ys e = absurd (cc)

  -- what stands behind part k, the bindings of one more scope too where it is that scope's
  abbrev with_scope : Bound → List Bound → (dots k : ℕ) → Bool → List ℕ
  with_scope b bs dots k q = elim q as (λ _. List ℕ) [ true ↦ bindings_name structs enums b.types b.parameters ++ part_bindings structs enums bs dots k | false ↦ part_bindings structs enums bs dots k ]

  own_nothing : (b : Bound) (bs : List Bound) (dots k : ℕ) (q : Bool) → q ≡ true → with_scope b bs dots k q ≡ [] → bindings_name structs enums b.types b.parameters ≡ []
  own_nothing b bs dots k true e f = first_nothing (bindings_name structs enums b.types b.parameters) (part_bindings structs enums bs dots k) f
  own_nothing b bs dots k false e f = absurd (cc)

  others_nothing : (b : Bound) (bs : List Bound) (dots k : ℕ) (q : Bool) → with_scope b bs dots k q ≡ [] → part_bindings structs enums bs dots k ≡ []
  others_nothing b bs dots k true f = other_nothing (bindings_name structs enums b.types b.parameters) (part_bindings structs enums bs dots k) f
  others_nothing b bs dots k false f = f

  pub nothing_bound : (bs : List Bound) (dots : ℕ) → ((k : ℕ) → k ≤ dots → part_bindings structs enums bs dots k ≡ []) → AreUnbound bs
  nothing_bound [] dots h = tt
  nothing_bound (b ∷ bs) dots h =
      let part : ℕ = dots - b.distance in (
        none_written b.types b.parameters (own_nothing b bs dots part (part == part) (eq-eqb part part refl) (h part (omega arith))),
        nothing_bound bs dots (λ k less. others_nothing b bs dots k (part == k) (h k less)),
      )

module _ (r : RequestTerm) (strict : Bool) (set : Schemas) (is : IsSetOf r strict set) (accepted : IsAccepted set) where
  -- ---- an entry that is no group, where no earlier one has its name ----

  module _ (i : ℕ) (e : Entry) (n : Node) (at : IsWholeAt is.entries set i e n) (first : (j : ℕ) (f : Entry) (m : Node) → j < i → IsWholeAt is.entries set j f m → n.display_name ≡ m.display_name → ⊥) where
    node_here : node_of set i ≡ n
    node_here = own_node r strict set is i e at.there ∙ same_some (sym (made r strict set is i e at.there).numbered ∙ at.node)

    asked_here : is_asked set n.display_name (0 + i) ≡ true
    asked_here =
        let start : 0 + i ≡ i = omega arith in
        let unmarked : (node_of set i).is_group ≡ false = marked_by r strict set is accepted i e at.there Whole at.whole in
        let same : bytes_eq n.display_name (node_of set i).display_name ≡ true = (bytes_eq-Decides n.display_name (node_of set i).display_name).1 (ap (λ (x : Node). x.display_name) (sym node_here)) in
        ap (λ l. is_asked set n.display_name l) start ∙ and_from (not (node_of set i).is_group) (bytes_eq n.display_name (node_of set i).display_name) (ap not unmarked) same

    module _ (j : ℕ) (less : j < i) where
      inside : j < length is.entries
      inside = let here : i < length is.entries = slice_get_within is.entries i e at.there in omega (arith, less, here)

      abbrev other : (f : Entry) × (slice_get is.entries j ≡ Some f)
      other = there_below is.entries j inside

      node_there : node_of set j ≡ (made r strict set is j other.0 other.1).node
      node_there = own_node r strict set is j other.0 other.1

      at_place : (p : Place) → other.0.place ≡ p → is_asked set n.display_name j ≡ true → ⊥
      at_place (GroupOf q l) place h =
          let group : (node_of set j).is_group ≡ true = marked_by r strict set is accepted j other.0 other.1 (GroupOf q l) place in
          let parts = and_parts (not (node_of set j).is_group) (bytes_eq n.display_name (node_of set j).display_name) h in
          true≢false (sym parts.0 ∙ ap not group)
      at_place Whole place h =
          let parts = and_parts (not (node_of set j).is_group) (bytes_eq n.display_name (node_of set j).display_name) h in
          let same : n.display_name ≡ (node_of set j).display_name = (bytes_eq-Decides n.display_name (node_of set j).display_name).0 parts.1 in
          first j other.0 (made r strict set is j other.0 other.1).node less (record { there = other.1; node = (made r strict set is j other.0 other.1).numbered; whole = place }) (same ∙ ap (λ (x : Node). x.display_name) node_there)

      not_before : is_asked set n.display_name j ≡ false
      not_before = go (is_asked set n.display_name j) refl
        where
          go : (q : Bool) → is_asked set n.display_name j ≡ q → is_asked set n.display_name j ≡ false
          go false h = h
          go true h = absurd (at_place other.0.place refl h)

    found_first : brand_asked set n.display_name ≡ Some i
    found_first =
        let here : i < length is.entries = slice_get_within is.entries i e at.there in
        let start : 0 + i ≡ i = omega arith in
        asked set n.display_name i (omega (arith, here, is.few))
        (first_asked set set.brands 0 n.display_name i (brand_within r strict set is i e at.there) asked_here (λ j less. let same : 0 + j ≡ j = omega arith in ap (λ l. is_asked set n.display_name l) same ∙ not_before j less) ∙ ap (λ l. Some l) start)

  -- ---- one with nothing bound ----

  module _ (own : HasOwnNames r.nodes) (bare : HasBareNames r.nodes) where
    -- an entry of its name has nothing bound either, so it is the same
    unbound_first : (i j : ℕ) (e f : Entry) (n m : Node) → IsUnboundAt is.entries set i e n → IsWholeAt is.entries set j f m → n.display_name ≡ m.display_name → i ≡ j
    unbound_first i j e f n m a b same =
        let alike : AreWrittenAlike (numbers_in r strict is.entries set) set.nodes i j e f n.display_name m.display_name = names_alike r strict set is own bare i j e f n m (record { there = a.there; node = a.node; whole = a.whole }) b same in
        let nodes : alike.one.node ≡ alike.two.node = same_some (sym alike.one.first ∙ (ap (λ x. node_named r.nodes x) alike.same_node ∙ alike.two.first)) in
        let shown : alike.one.is.display ≡ alike.two.is.display = same_ok (sym alike.one.is.said ∙ (ap (λ (x : SchemaNode). x.display_name) nodes ∙ alike.two.is.said)) in
        let dots : dots_of alike.two ≡ dots_of alike.one = ap (λ d. occurrences_of 46 (dotted_of d)) (sym shown) in
        let unbound : AreUnbound f.bound = nothing_bound (names_of alike.two.before) alike.two.is.enums f.bound (dots_of alike.two) (λ k less. sym (alike.alike k (omega (arith, less, dots))) ∙ no_bindings (names_of alike.one.before) alike.one.is.enums e.bound (dots_of alike.one) k a.unbound) in
        names_differ r strict set is own i j e f n m a (record { there = b.there; node = b.node; whole = b.whole; unbound = unbound }) same
      where
        same_ok : {xs ys : List ℕ} → ◌≡◌ {A = Said (List ℕ)} (Ok xs) (Ok ys) → xs ≡ ys
        same_ok e = cc

    unbound_found : (i : ℕ) (e : Entry) (n : Node) → IsUnboundAt is.entries set i e n → brand_asked set n.display_name ≡ Some i
    unbound_found i e n a =
        found_first i e n (record { there = a.there; node = a.node; whole = a.whole }) (λ j f m less b same. let one : i ≡ j = unbound_first i j e f n m a b same in absurd (omega (arith, less, one)))

    struct_found : (id : ℕ) (n : SchemaNode) (part : StructPart) → IsListed r id → node_named r.nodes id ≡ Some n → n.kind ≡ StructNode part → part.is_group ≡ false → IsStructFound is.entries set id n
    struct_found id n part listed first struct group =
        let h : IsFound is.entries set id n = is.roots id n part listed first struct group in
        record {
          number = h.number;
          entry = h.entry;
          node = h.node;
          display = h.display;
          there = h.there;
          numbered = h.numbered;
          same_node = h.same_node;
          whole = h.whole;
          unbound = h.unbound;
          same_id = h.same_id;
          said = h.said;
          name = h.name;
          found = unbound_found h.number h.entry h.node (record { there = h.there; node = h.numbered; whole = h.whole; unbound = h.unbound });
        }

pub structs_found : EachStructIsFound
structs_found r strict set is accepted own bare id n part listed first struct group = struct_found r strict set is accepted own bare id n part listed first struct group

pub names_find : NamesFindStructs
names_find r strict set is accepted told i e n at =
    found_first r strict set is accepted i e n at (λ j f m less b same. let one : i ≡ j = names_own r strict set is told i j e f n m at b same in absurd (omega (arith, less, one)))
