-- Names of groups: told apart by their fields, from one another and from those of structs.
use Rattle.std.proofs.Common.{ℕ, zero, suc, ◌+◌, ◌<◌, ◌≡◌, ◌∙◌, ◌⊎◌, ◌==◌, ◌||◌, ap, append_assoc, arith, inl, inr, nat_lt, refl, subst, sym, Bool, true, false, List, [], ◌∷◌, ◌++◌, length, map, slice_get, Some, Ok}
use Rattle.std.proofs.lemmas.Bool.{or_right, true≢false}
use Rattle.std.proofs.lemmas.List.{append-nil, append_cancel_right}
use Rattle.std.proofs.lemmas.Option.{slice_get_within}
use Rattle.capnp_schema.specs.Accepted.{IsAccepted}
use Rattle.capnp_schema.specs.Schema.{Field, Node, Schemas}
use Rattle.capnp_request.specs.Names.{bound_name, dotted_of, file_where, has_colon, occurrences_of, part_bindings}
use Rattle.capnp_request.specs.Scopes.{node_named}
use Rattle.capnp_request.specs.Terms.{NodeKind, RequestTerm, Said, SchemaNode, StructNode, StructPart}
use Rattle.capnp_request.specs.Work.{Bound, Entry, GroupOf, Place, Whole}
use Rattle.capnp_request_meaning.specs.Found.{AreToldApart, EndsAsField, HasOwnFields, IsEntryNode, IsGroupAt, IsOnePart, ShareNames, has_parts, last_part}
use Rattle.capnp_request_meaning.specs.Laws.{AllNamesDiffer, GroupNamesAreShared, GroupsShareWithStructs}
use Rattle.capnp_request_meaning.specs.Meaning.{IsEntryName, IsGroupName, IsNameOf, IsSetOf, Numbers, numbers_in}
use Rattle.capnp_request_meaning.specs.Written.{HasBareNames, IsBare, IsWholeAt}
use Rattle.capnp_request_meaning.proofs.BracketsRead.{AreClosed, IsHidden, Stays, bare_stays, part_hidden, read_on}
use Rattle.capnp_request_meaning.proofs.GroupsMarked.{GroupField, group_field, made, marked_by, own_node}
use Rattle.capnp_request_meaning.proofs.GroupsOnce.{group_is_one}
use Rattle.capnp_request_meaning.proofs.ListsFound.{same_some}
use Rattle.capnp_request_meaning.proofs.NamesAlike.{KnownAt, bare_dotted, bare_where, enums_closed, known_of_entry, names_of, outside, outside_shown}
use Rattle.capnp_request_meaning.proofs.NamesOwn.{names_own}
use Rattle.capnp_request_meaning.proofs.SetsMeant.{NodeAt, node_of_entry}

-- ---- last parts ----

parts_behind : (xs ys : List ℕ) → has_parts (xs ++ 46 ∷ ys) ≡ true
parts_behind [] ys = refl
parts_behind (x ∷ xs) ys = or_right ((x == 46) || (x == 58)) (has_parts (xs ++ 46 ∷ ys)) (parts_behind xs ys)

last_of_more : (x : ℕ) (xs : List ℕ) → has_parts (x ∷ xs) ≡ true → last_part (x ∷ xs) ≡ last_part xs
last_of_more x xs h = ap (λ q. elim q as (λ _. List ℕ) [ true ↦ last_part xs | false ↦ x ∷ xs ]) h

no_parts : (xs : List ℕ) → IsOnePart xs → has_parts xs ≡ false
no_parts [] h = refl
no_parts (x ∷ xs) h = go (x == 46) (x == 58) h.0 h.1 (no_parts xs h.2)
  where
    go : (p q : Bool) → p ≡ false → q ≡ false → has_parts xs ≡ false → ((p || q) || has_parts xs) ≡ false
    go false false e f k = k
    go false true e f k = absurd (cc)
    go true q e f k = absurd (cc)

last_of_one : (xs : List ℕ) → IsOnePart xs → last_part xs ≡ xs
last_of_one [] h = refl
last_of_one (x ∷ xs) h = ap (λ q. elim q as (λ _. List ℕ) [ true ↦ last_part xs | false ↦ x ∷ xs ]) (no_parts (x ∷ xs) h)

-- behind a dot stands the last part
last_behind : (xs ys : List ℕ) → IsOnePart ys → last_part (xs ++ 46 ∷ ys) ≡ ys
last_behind [] ys h = last_of_one ys h
last_behind (x ∷ xs) ys h = last_of_more x (xs ++ 46 ∷ ys) (or_right ((x == 46) || (x == 58)) (has_parts (xs ++ 46 ∷ ys)) (parts_behind xs ys)) ∙ last_behind xs ys h

colon_parts : (xs : List ℕ) → has_colon xs ≡ true → has_parts xs ≡ true
colon_parts [] h = absurd (true≢false (sym h))
colon_parts (x ∷ xs) h = go (x == 46) (x == 58) (colon_parts xs) h
  where
    go : (p q : Bool) → (has_colon xs ≡ true → has_parts xs ≡ true) → nat_lt 0 (elim q as (λ _. ℕ) [ true ↦ suc (occurrences_of 58 xs) | false ↦ occurrences_of 58 xs ]) ≡ true → ((p || q) || has_parts xs) ≡ true
    go true q k e = refl
    go false true k e = refl
    go false false k e = k e

-- the file of a name changes nothing
last_dotted : (xs : List ℕ) → last_part (dotted_of xs) ≡ last_part xs
last_dotted [] = refl
last_dotted (x ∷ xs) = go (has_colon (x ∷ xs)) refl (last_dotted xs)
  where
    go : (q : Bool) → has_colon (x ∷ xs) ≡ q → last_part (dotted_of xs) ≡ last_part xs → last_part (elim q as (λ _. List ℕ) [ true ↦ dotted_of xs | false ↦ x ∷ xs ]) ≡ last_part (x ∷ xs)
    go true e k = k ∙ sym (last_of_more x xs (colon_parts (x ∷ xs) e))
    go false e k = refl

-- ---- names whose brackets are all closed ----

abbrev IsBalanced : List ℕ → Type 0
IsBalanced xs = (ys : List ℕ) → read_on Stays 0 (xs ++ ys) ≡ read_on Stays 0 xs ++ read_on Stays 0 ys

balanced_both : (a b : List ℕ) → IsBalanced a → IsBalanced b → IsBalanced (a ++ b)
balanced_both a b h k ys =
    ap (λ xs. read_on Stays 0 xs) (append_assoc a b ys) ∙ (h (b ++ ys) ∙ (ap (λ xs. read_on Stays 0 a ++ xs) (k ys) ∙ (sym (append_assoc (read_on Stays 0 a) (read_on Stays 0 b) (read_on Stays 0 ys)) ∙ ap (λ xs. xs ++ read_on Stays 0 ys) (sym (h b)))))

read_bare : (xs : List ℕ) → IsBare xs → read_on Stays 0 xs ≡ xs
read_bare xs h = ap (λ zs. read_on Stays 0 zs) (sym (append-nil xs)) ∙ (bare_stays xs [] h ∙ append-nil xs)

balanced_bare : (xs : List ℕ) → IsBare xs → IsBalanced xs
balanced_bare xs h ys = bare_stays xs ys h ∙ ap (λ zs. zs ++ read_on Stays 0 ys) (sym (read_bare xs h))

balanced_hidden : (xs : List ℕ) → IsHidden xs → IsBalanced xs
balanced_hidden xs h ys =
    let none : read_on Stays 0 xs ≡ [] = ap (λ zs. read_on Stays 0 zs) (sym (append-nil xs)) ∙ h Stays 0 [] in
    h Stays 0 ys ∙ ap (λ zs. zs ++ read_on Stays 0 ys) (sym none)

module _ (structs enums : List (List ℕ)) (closed_structs : AreClosed structs) (closed_enums : AreClosed enums) (bound : List Bound) (dots : ℕ) where
  balanced_bound : (k : ℕ) (xs : List ℕ) → IsBare xs → IsBalanced (bound_name structs enums bound dots k xs)
  balanced_bound k [] h = balanced_hidden (part_bindings structs enums bound dots k) (part_hidden structs enums closed_structs closed_enums bound dots k)
  balanced_bound k (x ∷ xs) h = go (x == 46) (balanced_bound (k + 1) xs h.2) (balanced_bound k xs h.2)
    where
      go : (q : Bool) → IsBalanced (bound_name structs enums bound dots (k + 1) xs) → IsBalanced (bound_name structs enums bound dots k xs)
          → IsBalanced (elim q as (λ _. List ℕ) [ true ↦ part_bindings structs enums bound dots k ++ 46 ∷ bound_name structs enums bound dots (k + 1) xs | false ↦ x ∷ bound_name structs enums bound dots k xs ])
      go true next same = balanced_both (part_bindings structs enums bound dots k) (46 ∷ bound_name structs enums bound dots (k + 1) xs) (balanced_hidden (part_bindings structs enums bound dots k) (part_hidden structs enums closed_structs closed_enums bound dots k)) (balanced_both (46 ∷ []) (bound_name structs enums bound dots (k + 1) xs) (balanced_bare (46 ∷ []) (refl, refl, tt)) next)
      go false next same = balanced_both (x ∷ []) (bound_name structs enums bound dots k xs) (balanced_bare (x ∷ []) (h.0, h.1, tt)) same

same_ok : {xs ys : List ℕ} → ◌≡◌ {A = Said (List ℕ)} (Ok xs) (Ok ys) → xs ≡ ys
same_ok e = cc

named_at : (fs : List Field) (l : ℕ) (name : List ℕ) (f : Field) → slice_get (map (λ (g : Field). g.name) fs) l ≡ Some name → slice_get fs l ≡ Some f → name ≡ f.name
named_at [] l name f a b = absurd (cc)
named_at (x ∷ fs) zero name f a b = sym (same_some a) ∙ ap (λ (g : Field). g.name) (same_some b)
named_at (x ∷ fs) (suc l) name f a b = named_at fs l name f a b

module _ (r : RequestTerm) (strict : Bool) (set : Schemas) (is : IsSetOf r strict set) where
  abbrev k : Numbers
  k = numbers_in r strict is.entries set

  -- ---- a group's name ----

  -- its parent's name, a dot, and its field's
  record NamedByField (i p l : ℕ) (n : Node) : Type 0 where
    by : GroupField r strict set is i p l
    earlier : p < i
    name : n.display_name ≡ (made r strict set is p by.parent by.there).node.display_name ++ 46 ∷ by.field.name

  module _ (i p l : ℕ) (e : Entry) (n : Node) (at : IsGroupAt is.entries set i p l e n) where
    abbrev here : NodeAt k is.entries e set.nodes i
    here = node_of_entry k is.entries set.nodes set.brands i e is.nodes at.there

    abbrev said : IsGroupName here.before p l here.node.display_name
    said = subst (λ q. IsEntryName k here.earlier here.before here.is.node e q here.node.display_name) at.place here.is.name

    named_by_field : NamedByField i p l n
    named_by_field =
        let by : GroupField r strict set is i p l = group_field r strict set is i e at.there p l at.place in
        let inside : p < length here.before = slice_get_within here.before p said.parent said.numbered in
        let parent : said.parent ≡ (made r strict set is p by.parent by.there).node = same_some (sym (here.firsts p said.parent said.numbered) ∙ (made r strict set is p by.parent by.there).numbered) in
        let field : said.field ≡ by.field.name = named_at (made r strict set is p by.parent by.there).node.fields l said.field by.field (ap (λ (x : Node). slice_get (map (λ (g : Field). g.name) x.fields) l) (sym parent) ∙ said.member) by.stands in
        record {
          by = by;
          earlier = omega (arith, inside, here.behind);
          name = ap (λ (x : Node). x.display_name) (same_some (sym at.node ∙ here.there)) ∙ (said.is ∙ (ap (λ (x : Node). x.display_name ++ 46 ∷ said.field) parent ∙ ap (λ xs. (made r strict set is p by.parent by.there).node.display_name ++ 46 ∷ xs) field));
        }

  -- its field's name is one part
  module _ (fields : HasOwnFields r.nodes) where
    one_part : (i p l : ℕ) (g : GroupField r strict set is i p l) → IsOnePart g.field.name
    one_part i p l g = fields.part g.parent.node g.node g.part l g.term g.field.name g.first g.struct (record { list = g.members; said = g.listed; there = g.member }) g.name

    module _ (i j p l q o : ℕ) (e f : Entry) (n m : Node) (a : IsGroupAt is.entries set i p l e n) (b : IsGroupAt is.entries set j q o f m) where
      abbrev one : NamedByField i p l n
      one = named_by_field i p l e n a

      abbrev two : NamedByField j q o m
      two = named_by_field j q o f m b

      abbrev parent_one : Node
      parent_one = (made r strict set is p one.by.parent one.by.there).node

      abbrev parent_two : Node
      parent_two = (made r strict set is q two.by.parent two.by.there).node

      share : n.display_name ≡ m.display_name → (parent_one.display_name ≡ parent_two.display_name) × (one.by.field.name ≡ two.by.field.name)
      share same =
          let whole : parent_one.display_name ++ 46 ∷ one.by.field.name ≡ parent_two.display_name ++ 46 ∷ two.by.field.name = sym one.name ∙ (same ∙ two.name) in
          let field : one.by.field.name ≡ two.by.field.name = sym (last_behind parent_one.display_name one.by.field.name (one_part i p l one.by)) ∙ (ap last_part whole ∙ last_behind parent_two.display_name two.by.field.name (one_part j q o two.by)) in
          (append_cancel_right parent_one.display_name parent_two.display_name (46 ∷ two.by.field.name) (ap (λ xs. parent_one.display_name ++ 46 ∷ xs) (sym field) ∙ whole), field)

      shared : n.display_name ≡ m.display_name → ShareNames set p l q o
      shared same = record {
        parent = parent_one;
        other = parent_two;
        field = one.by.field;
        other_field = two.by.field;
        numbered = (made r strict set is p one.by.parent one.by.there).numbered;
        other_numbered = (made r strict set is q two.by.parent two.by.there).numbered;
        member = one.by.stands;
        other_member = two.by.stands;
        same_parent = (share same).0;
        same_field = (share same).1;
      }

      from_shared : ShareNames set p l q o → n.display_name ≡ m.display_name
      from_shared h =
          let first : h.parent ≡ parent_one = same_some (sym h.numbered ∙ (made r strict set is p one.by.parent one.by.there).numbered) in
          let second : h.other ≡ parent_two = same_some (sym h.other_numbered ∙ (made r strict set is q two.by.parent two.by.there).numbered) in
          let field : h.field ≡ one.by.field = same_some (sym h.member ∙ (ap (λ (x : Node). slice_get x.fields l) first ∙ one.by.stands)) in
          let other : h.other_field ≡ two.by.field = same_some (sym h.other_member ∙ (ap (λ (x : Node). slice_get x.fields o) second ∙ two.by.stands)) in
          let parents : parent_one.display_name ≡ parent_two.display_name = ap (λ (x : Node). x.display_name) (sym first) ∙ (h.same_parent ∙ ap (λ (x : Node). x.display_name) second) in
          let names : one.by.field.name ≡ two.by.field.name = ap (λ (x : Field). x.name) (sym field) ∙ (h.same_field ∙ ap (λ (x : Field). x.name) other) in
          one.name ∙ (ap (λ xs. xs ++ 46 ∷ one.by.field.name) parents ∙ (ap (λ xs. parent_two.display_name ++ 46 ∷ xs) names ∙ sym two.name))

  -- ---- what stands outside brackets ----

  module _ (bare : HasBareNames r.nodes) where
    module _ (j : ℕ) (f : Entry) (m : Node) (b : IsWholeAt is.entries set j f m) where
      abbrev known : KnownAt k bare is.entries f set.nodes j
      known = known_of_entry k bare is.entries set.nodes set.brands j f is.nodes b.there

      abbrev shown : IsNameOf k known.0.earlier known.0.before f known.0.is.node known.0.node.display_name
      shown = subst (λ p. IsEntryName k known.0.earlier known.0.before known.0.is.node f p known.0.node.display_name) b.whole known.0.is.name

      name_known : m.display_name ≡ known.0.node.display_name
      name_known = ap (λ (x : Node). x.display_name) (same_some (sym b.node ∙ known.0.there))

      plain_display : IsBare shown.display
      plain_display = bare.display f.node known.0.is.node shown.display known.0.is.first shown.said

      known_enums : AreClosed shown.enums
      known_enums = enums_closed k bare shown.first_enums.ids shown.enums shown.first_enums.named

      abbrev bound_part : List ℕ
      bound_part = bound_name (names_of known.0.before) shown.enums f.bound (occurrences_of 46 (dotted_of shown.display)) 0 (dotted_of shown.display)

      whole_balanced : IsBalanced m.display_name
      whole_balanced = subst IsBalanced (sym (name_known ∙ shown.is)) (balanced_both (file_where shown.with_file shown.display) bound_part (balanced_bare (file_where shown.with_file shown.display) (bare_where shown.with_file shown.display plain_display))
          (balanced_bound (names_of known.0.before) shown.enums known.1.names known_enums f.bound (occurrences_of 46 (dotted_of shown.display)) 0 (dotted_of shown.display) (bare_dotted shown.display plain_display)))

      whole_outside : read_on Stays 0 m.display_name ≡ file_where shown.with_file shown.display ++ dotted_of shown.display
      whole_outside =
          ap (λ xs. read_on Stays 0 xs) (name_known ∙ shown.is) ∙ (bare_stays (file_where shown.with_file shown.display) bound_part (bare_where shown.with_file shown.display plain_display)
          ∙ ap (λ xs. file_where shown.with_file shown.display ++ xs) (outside (names_of known.0.before) shown.enums known.1.names known_enums f.bound (occurrences_of 46 (dotted_of shown.display)) 0 (dotted_of shown.display) (bare_dotted shown.display plain_display)))

      whole_last : last_part (read_on Stays 0 m.display_name) ≡ last_part shown.display
      whole_last = go (outside_shown shown.display shown.with_file)
        where
          go : (file_where shown.with_file shown.display ++ dotted_of shown.display ≡ dotted_of shown.display) ⊎ (file_where shown.with_file shown.display ++ dotted_of shown.display ≡ shown.display) → last_part (read_on Stays 0 m.display_name) ≡ last_part shown.display
          go (inl h) = ap last_part (whole_outside ∙ h) ∙ last_dotted shown.display
          go (inr h) = ap last_part (whole_outside ∙ h)

    field_bare : (i p l : ℕ) (g : GroupField r strict set is i p l) → IsBare g.field.name
    field_bare i p l g = bare.field g.parent.node g.node g.part l g.term g.field.name g.first g.struct (record { list = g.members; said = g.listed; there = g.member }) g.name

    all_balanced : (bound i : ℕ) (e : Entry) (n : Node) → i < bound → IsEntryNode is.entries set i e n → IsBalanced n.display_name
    all_balanced zero i e n less at = absurd (omega (arith, less))
    all_balanced (suc bound) i e n less at = go (all_balanced bound) e.place refl
      where
        go : ((j : ℕ) (f : Entry) (m : Node) → j < bound → IsEntryNode is.entries set j f m → IsBalanced m.display_name) → (q : Place) → e.place ≡ q → IsBalanced n.display_name
        go smaller Whole place = whole_balanced i e n (record { there = at.there; node = at.node; whole = place })
        go smaller (GroupOf p l) place =
            let named : NamedByField i p l n = named_by_field i p l e n (record { there = at.there; node = at.node; place = place }) in
            let before : IsBalanced (made r strict set is p named.by.parent named.by.there).node.display_name = smaller p named.by.parent (made r strict set is p named.by.parent named.by.there).node (omega (arith, less, named.earlier)) (record { there = named.by.there; node = (made r strict set is p named.by.parent named.by.there).numbered }) in
            subst IsBalanced (sym named.name) (balanced_both (made r strict set is p named.by.parent named.by.there).node.display_name (46 ∷ named.by.field.name) before (balanced_bare (46 ∷ named.by.field.name) (refl, refl, field_bare i p l named.by)))

    module _ (fields : HasOwnFields r.nodes) (i j p l : ℕ) (e f : Entry) (n m : Node) (a : IsGroupAt is.entries set i p l e n) (b : IsWholeAt is.entries set j f m) (same : n.display_name ≡ m.display_name) where
      abbrev group : NamedByField i p l n
      group = named_by_field i p l e n a

      abbrev parent : Node
      parent = (made r strict set is p group.by.parent group.by.there).node

      group_outside : read_on Stays 0 n.display_name ≡ read_on Stays 0 parent.display_name ++ 46 ∷ group.by.field.name
      group_outside =
          ap (λ xs. read_on Stays 0 xs) group.name
          ∙ (all_balanced (suc p) p group.by.parent parent (omega arith) (record { there = group.by.there; node = (made r strict set is p group.by.parent group.by.there).numbered }) (46 ∷ group.by.field.name)
          ∙ ap (λ xs. read_on Stays 0 parent.display_name ++ xs) (read_bare (46 ∷ group.by.field.name) (refl, refl, field_bare i p l group.by)))

      ends_as : EndsAsField r.nodes set f.node p l
      ends_as = record {
        node = (known j f m b).0.is.node;
        display = (shown j f m b).display;
        parent = parent;
        field = group.by.field;
        first = (known j f m b).0.is.first;
        said = (shown j f m b).said;
        numbered = (made r strict set is p group.by.parent group.by.there).numbered;
        member = group.by.stands;
        name = sym (last_behind (read_on Stays 0 parent.display_name) group.by.field.name (one_part fields i p l group.by)) ∙ (ap last_part (sym group_outside) ∙ (ap (λ xs. last_part (read_on Stays 0 xs)) same ∙ whole_last j f m b));
      }

  -- ---- all names ----

  module _ (accepted : IsAccepted set) (apart : AreToldApart r.nodes) where
    group_apart : (i j p l : ℕ) (e f : Entry) (n m : Node) → IsGroupAt is.entries set i p l e n → IsWholeAt is.entries set j f m → n.display_name ≡ m.display_name → ⊥
    group_apart i j p l e f n m a b same =
        let ends : EndsAsField r.nodes set f.node p l = ends_as apart.structs.bare apart.fields i j p l e f n m a b same in
        let g : GroupField r strict set is i p l = (named_by_field i p l e n a).by in
        let at = made r strict set is j f b.there in
        let node : ends.node ≡ at.is.node = same_some (sym ends.first ∙ at.is.first) in
        let parent : ends.parent ≡ (made r strict set is p g.parent g.there).node = same_some (sym ends.numbered ∙ (made r strict set is p g.parent g.there).numbered) in
        let field : ends.field ≡ g.field = same_some (sym ends.member ∙ (ap (λ (x : Node). slice_get x.fields l) parent ∙ g.stands)) in
        let unmarked : at.is.part.is_group ≡ false = sym at.is.group ∙ (ap (λ (x : Node). x.is_group) (sym (own_node r strict set is j f b.there)) ∙ marked_by r strict set is accepted j f b.there Whole b.whole) in
        apart.groups f.node g.parent.node g.id at.is.node g.node at.is.part g.part l g.term ends.display at.is.first at.is.struct unmarked (ap (λ (x : SchemaNode). x.display_name) (sym node) ∙ ends.said) g.first g.struct
        (record { list = g.members; said = g.listed; there = g.member }) g.group (g.name ∙ ap (λ xs. Ok xs) (ap (λ (x : Field). x.name) (sym field) ∙ ends.name))

    abbrev AreOwnBelow : ℕ → Type 0
    AreOwnBelow bound = (i j : ℕ) (e f : Entry) (n m : Node) → i < bound → IsEntryNode is.entries set i e n → IsEntryNode is.entries set j f m → n.display_name ≡ m.display_name → i ≡ j

    groups_own : (bound : ℕ) → AreOwnBelow bound → (i j p l q o : ℕ) (e f : Entry) (n m : Node) → i < suc bound → IsGroupAt is.entries set i p l e n → IsGroupAt is.entries set j q o f m → n.display_name ≡ m.display_name → i ≡ j
    groups_own bound smaller i j p l q o e f n m less a b same =
        let x : GroupField r strict set is i p l = (named_by_field i p l e n a).by in
        let y : GroupField r strict set is j q o = (named_by_field j q o f m b).by in
        let both = share apart.fields i j p l q o e f n m a b same in
        let parents : p ≡ q = smaller p q x.parent y.parent (made r strict set is p x.parent x.there).node (made r strict set is q y.parent y.there).node (omega (arith, less, (named_by_field i p l e n a).earlier)) (record { there = x.there; node = (made r strict set is p x.parent x.there).numbered }) (record { there = y.there; node = (made r strict set is q y.parent y.there).numbered }) both.0 in
        let entry : x.parent ≡ y.parent = same_some (sym x.there ∙ (ap (λ z. slice_get is.entries z) parents ∙ y.there)) in
        let node : x.node ≡ y.node = same_some (sym x.first ∙ (ap (λ (z : Entry). node_named r.nodes z.node) entry ∙ y.first)) in
        let part : x.part ≡ y.part = same_part x.node.kind x.part y.part x.struct (ap (λ (z : SchemaNode). z.kind) node ∙ y.struct) in
        let index : l ≡ o = apart.fields.own x.parent.node x.node x.part l o x.term y.term x.field.name x.first x.struct (record { list = x.members; said = x.listed; there = x.member }) (record { list = y.members; said = ap (λ (z : StructPart). z.fields) part ∙ y.listed; there = y.member }) x.name (y.name ∙ ap (λ xs. Ok xs) (sym both.1)) in
        group_is_one is.entries is.distinct_groups i j q o e f a.there b.there (a.place ∙ (ap (λ z. GroupOf z l) parents ∙ ap (λ z. GroupOf q z) index)) b.place
      where
        same_part : (z : NodeKind) (c d : StructPart) → z ≡ StructNode c → z ≡ StructNode d → c ≡ d
        same_part z c d e f = let h : StructNode c ≡ StructNode d = sym e ∙ f in cc

    own_below : (bound : ℕ) → AreOwnBelow bound
    own_below zero i j e f n m less a b same = absurd (omega (arith, less))
    own_below (suc bound) i j e f n m less a b same = go (own_below bound) e.place f.place refl refl
      where
        go : AreOwnBelow bound → (x y : Place) → e.place ≡ x → f.place ≡ y → i ≡ j
        go smaller Whole Whole u v = names_own r strict set is apart.structs i j e f n m (record { there = a.there; node = a.node; whole = u }) (record { there = b.there; node = b.node; whole = v }) same
        go smaller (GroupOf p l) Whole u v = absurd (group_apart i j p l e f n m (record { there = a.there; node = a.node; place = u }) (record { there = b.there; node = b.node; whole = v }) same)
        go smaller Whole (GroupOf q o) u v = absurd (group_apart j i q o f e m n (record { there = b.there; node = b.node; place = v }) (record { there = a.there; node = a.node; whole = u }) (sym same))
        go smaller (GroupOf p l) (GroupOf q o) u v = groups_own bound smaller i j p l q o e f n m less (record { there = a.there; node = a.node; place = u }) (record { there = b.there; node = b.node; place = v }) same

pub groups_share : GroupNamesAreShared
groups_share r strict set is fields i j p l q o e f n m a b = (shared r strict set is fields i j p l q o e f n m a b, from_shared r strict set is fields i j p l q o e f n m a b)

pub share_with_structs : GroupsShareWithStructs
share_with_structs r strict set is bare fields i j p l e f n m a b same = ends_as r strict set is bare fields i j p l e f n m a b same

pub all_differ : AllNamesDiffer
all_differ r strict set is accepted apart i j e f n m a b same = own_below r strict set is accepted apart (suc i) i j e f n m (omega arith) a b same
