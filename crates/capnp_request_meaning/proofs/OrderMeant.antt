-- Entries and enums are made one after another, until all are made.
use Rattle.std.proofs.Common.{ℕ, zero, suc, ◌<◌, ◌≡◌, ◌∙◌, ◌⊎◌, ap, append_assoc, arith, drop, inl, inr, refl, subst, sym, Bool, false, List, [], ◌∷◌, ◌++◌, length, map, slice_get, Option, Some, None, Result, Ok, Err, nat_lt, true, ◌≤◌, ◌+◌}
use Rattle.std.proofs.lemmas.List.{append-nil, length-map, map-append, length-append}
use Rattle.std.proofs.lemmas.Option.{slice_get_within}
use Rattle.std.specs.Str.{is_utf8}
use Rattle.capnp_device.specs.declared.error.ErrorKind.{ErrorKind}
use Rattle.capnp_schema.specs.Schema.{Brand, Enum, Node}
use Rattle.capnp_request.specs.Order.{Begun, Made, add_struct, begin_struct, enum_names, make_all, make_enum, make_next, make_struct, nothing_made, struct_made, with_struct}
use Rattle.capnp_request.specs.Scopes.{node_named, scopes_of}
use Rattle.capnp_request.specs.Terms.{FieldTerm, GroupTerm, Said, SchemaNode, StructNode, StructPart}
use Rattle.capnp_request.specs.Types.{entry_number, is_entry_of}
use Rattle.capnp_request.specs.Work.{Bound, Entry, GroupOf, Named, Place, Whole, Work, work_continued, work_of}
use Rattle.capnp_request_meaning.specs.Meaning.{AreDistinct, AreEntries, AreEnumsOf, AreFirstEnums, AreNodesFrom, IsEntryAt, IsEntryName, IsEnumOf, IsNodeOf, Numbers, without_types}
use Rattle.capnp_request_meaning.proofs.EntriesKept.{KeepsWhole, not_among, whole_entry}
use Rattle.capnp_request_meaning.proofs.EnumsMeant.{IsEnumAdded, enum_added}
use Rattle.capnp_request_meaning.proofs.FieldsMeant.{group_entry}
use Rattle.capnp_request_meaning.proofs.ListsFound.{IsAmong, Next, before_or_last, last_at, next_of, same_some, still_at}
use Rattle.capnp_request_meaning.proofs.NamesMeant.{AreHeld, AreHolding, AreHoldersThen, HaveNames, IsBegun, IsHolder, enums_begun, first_enums_more, holder, names_cover, struct_begun}
use Rattle.capnp_request_meaning.proofs.NodesMeant.{IsMade, KeepsFields, struct_meant}
use Rattle.capnp_request_meaning.proofs.NumbersBelow.{among_more}
use Rattle.capnp_request_meaning.proofs.NumbersKept.{IsFit, enum_fit, struct_fit}
use Rattle.capnp_request_meaning.proofs.TypesMeant.{numbers}
use Rattle.capnp_request_meaning.proofs.Works.{Done, Grows, IfDone, IsWork, bind, entry_still, enum_still, grows_none, grows_on, of_work, said_bind}
use Rattle.capnp_request.specs.Names.{Holder, dotted_of}
use Rattle.std.proofs.lemmas.Bool.{ltb-true}

-- ---- entries are those of the request, whatever comes behind them ----

abbrev pub StayEntries : List SchemaNode → List Entry → Type 0
StayEntries nodes es = (all more : List Entry) → all ≡ es ++ more → AreEntries nodes all es

entries_more : (nodes : List SchemaNode) (all es : List Entry) (e : Entry) → AreEntries nodes all es → IsEntryAt nodes all e e.place → AreEntries nodes all (es ++ e ∷ [])
entries_more nodes all [] e h is = (is, tt)
entries_more nodes all (x ∷ es) e h is = (h.0, entries_more nodes all es e h.1 is)

pub stay_more : (nodes : List SchemaNode) (es : List Entry) (e : Entry) → StayEntries nodes es → ((all more : List Entry) → all ≡ (es ++ e ∷ []) ++ more → IsEntryAt nodes all e e.place) → StayEntries nodes (es ++ e ∷ [])
stay_more nodes es e k is all more eq = entries_more nodes all es e (k all (e ∷ more) (eq ∙ append_assoc es (e ∷ []) more)) (is all more eq)

-- ---- no two are the same ----

-- no entry is the same as one that is added
abbrev pub IsOther : List Entry → Entry → Type 0
IsOther es g = (i : ℕ) (e : Entry) → slice_get es i ≡ Some e → g.place ≡ Whole → is_entry_of g.node g.bound e e.place ≡ false

pub distinct_more : (es : List Entry) (g : Entry) → AreDistinct es → IsOther es g → AreDistinct (es ++ g ∷ [])
distinct_more es g k other i j e f less at_i at_j whole = go (before_or_last es g i e at_i) (before_or_last es g j f at_j)
  where
    go : (slice_get es i ≡ Some e) ⊎ ((i ≡ length es) × (g ≡ e)) → (slice_get es j ≡ Some f) ⊎ ((j ≡ length es) × (g ≡ f)) → is_entry_of f.node f.bound e e.place ≡ false
    go (inl a) (inl b) = k i j e f less a b whole
    go (inl a) (inr b) = subst (λ (x : Entry). is_entry_of x.node x.bound e e.place ≡ false) b.1 (other i e a (ap (λ (x : Entry). x.place) b.1 ∙ whole))
    go (inr a) (inl b) = let inside : j < length es = slice_get_within es j f b in absurd (omega (arith, inside, less, a.0))
    go (inr a) (inr b) = absurd (omega (arith, less, a.0, b.0))

-- what is kept of the entries: they are those of the request, and no two are the same
pub record Stay (nodes : List SchemaNode) (es : List Entry) : Type 0 where
  pub entries : StayEntries nodes es
  pub distinct : AreDistinct es
  pub few : length es ≤ 65536

one_more : (es : List Entry) (e : Entry) → nat_lt (length es) 65536 ≡ true → length (es ++ e ∷ []) ≤ 65536
one_more es e h =
    let less : length es < 65536 = ltb-true (length es) 65536 h in
    let longer : length (es ++ e ∷ []) ≡ length es + 1 = length-append es (e ∷ []) in
    omega (arith, less, longer)

pub stay_none : (nodes : List SchemaNode) → Stay nodes []
stay_none nodes = record { entries = λ all more is. tt; distinct = λ i j e f less at_i at_j whole. absurd (cc); few = omega arith }

-- a struct node that isn't there with these bindings
pub whole_stays : (nodes : List SchemaNode) (es : List Entry) (id : ℕ) (bound : List Bound) → entry_number id bound es 0 ≡ None → scopes_of nodes id ≡ Ok (map without_types bound) → Stay nodes es → StayEntries nodes (es ++ whole_entry id bound ∷ []) × AreDistinct (es ++ whole_entry id bound ∷ [])
whole_stays nodes es id bound none scopes k = (
  stay_more nodes es (whole_entry id bound) k.entries (λ all more eq. scopes),
  distinct_more es (whole_entry id bound) k.distinct (λ i e there whole. not_among id bound es 0 i e none there),
)

pub stay_whole : (nodes : List SchemaNode) → KeepsWhole (Stay nodes) nodes
stay_whole nodes es id bound few none scopes k =
    let stays : StayEntries nodes (es ++ whole_entry id bound ∷ []) × AreDistinct (es ++ whole_entry id bound ∷ []) = whole_stays nodes es id bound none scopes k in
    record { entries = stays.0; distinct = stays.1; few = one_more es (whole_entry id bound) few }

-- the same, with the entry that is worked on at its number
abbrev pub StayWith : List SchemaNode → (n : ℕ) → Entry → List Entry → Type 0
StayWith nodes n parent es = (slice_get es n ≡ Some parent) × Stay nodes es

pub with_whole : (nodes : List SchemaNode) (n : ℕ) (parent : Entry) → KeepsWhole (StayWith nodes n parent) nodes
with_whole nodes n parent es id bound few none scopes k = (still_at es (whole_entry id bound ∷ []) n parent k.0, stay_whole nodes es id bound few none scopes k.1)

-- a group that a field of an entry's node names
pub group_stays : (nodes : List SchemaNode) (n : ℕ) (parent : Entry) (node : SchemaNode) (part : StructPart) (members : List (Said FieldTerm)) (first : node_named nodes parent.node ≡ Some node) (struct : node.kind ≡ StructNode part) (listed : part.fields ≡ Ok members)
    (es : List Entry) (i id : ℕ) (f : FieldTerm) → slice_get members i ≡ Some (Ok f) → f.kind ≡ GroupTerm id → StayWith nodes n parent es
    → StayEntries nodes (es ++ group_entry id parent.bound n i ∷ []) × AreDistinct (es ++ group_entry id parent.bound n i ∷ [])
group_stays nodes n parent node part members first struct listed es i id f there is k =
    let e : Entry = group_entry id parent.bound n i in
    let here : slice_get (es ++ e ∷ []) n ≡ Some parent = still_at es (e ∷ []) n parent k.0 in
    let kept : Stay nodes es = k.1 in (
      stay_more nodes es e kept.entries (λ all more eq. record {
        parent = parent;
        node = node;
        part = part;
        members = members;
        field = f;
        numbered = ap (λ xs. slice_get xs n) eq ∙ still_at (es ++ e ∷ []) more n parent here;
        same_bound = refl;
        first = first;
        struct = struct;
        listed = listed;
        member = there;
        group = is;
      }),
      distinct_more es e kept.distinct (λ j x there whole. absurd (cc)),
    )

pub with_groups : (nodes : List SchemaNode) (n : ℕ) (parent : Entry) (node : SchemaNode) → node_named nodes parent.node ≡ Some node → KeepsFields (StayWith nodes n parent) parent.bound n node
with_groups nodes n parent node first part members struct listed es i id f few there is k =
    let e : Entry = group_entry id parent.bound n i in
    let here : slice_get (es ++ e ∷ []) n ≡ Some parent = still_at es (e ∷ []) n parent k.0 in
    let stays : StayEntries nodes (es ++ e ∷ []) × AreDistinct (es ++ e ∷ []) = group_stays nodes n parent node part members first struct listed es i id f there is k in
    (here, record { entries = stays.0; distinct = stays.1; few = one_more es e few })

-- ---- nodes one after another ----

pub nodes_counted : (k : Numbers) (earlier : List Entry) (before : List Node) (es : List Entry) (ns : List Node) (bs : List Brand) → AreNodesFrom k earlier before es ns bs → length es ≡ length ns
nodes_counted k earlier before [] [] [] h = refl
nodes_counted k earlier before (e ∷ es) (n ∷ ns) (b ∷ bs) h = ap (λ i. suc i) (nodes_counted k (earlier ++ e ∷ []) (before ++ n ∷ []) es ns bs h.1)
nodes_counted k earlier before es ns bs h = absurd h

module _ (k : Numbers) (entries : List Entry) (all : List Node) (e : Entry) (n : Node) (b : Brand) (is : IsNodeOf k entries all e n b) where
  nodes_more : (earlier : List Entry) (before : List Node) (es : List Entry) (ns : List Node) (bs : List Brand) → entries ≡ earlier ++ es → all ≡ before ++ ns → AreNodesFrom k earlier before es ns bs → AreNodesFrom k earlier before (es ++ e ∷ []) (ns ++ n ∷ []) (bs ++ b ∷ [])
  nodes_more earlier before [] [] [] firsts are h =
      (subst (λ ys. IsNodeOf k ys before e n b) (firsts ∙ append-nil earlier) (subst (λ xs. IsNodeOf k entries xs e n b) (are ∙ append-nil before) is), tt)
  nodes_more earlier before (x ∷ es) (y ∷ ns) (w ∷ bs) firsts are h =
      (h.0, nodes_more (earlier ++ x ∷ []) (before ++ y ∷ []) es ns bs (firsts ∙ sym (append_assoc earlier (x ∷ []) es)) (are ∙ sym (append_assoc before (y ∷ []) ns)) h.1)
  nodes_more earlier before es ns bs firsts are h = absurd h

enums_more : (k : Numbers) (es : List Enum) (e : Enum) → AreEnumsOf k es → IsEnumOf k e → AreEnumsOf k (es ++ e ∷ [])
enums_more k [] e h is = (is, tt)
enums_more k (x ∷ es) e h is = (h.0, enums_more k es e h.1 is)

-- ---- dotted names ----

held_again : (nodes : List SchemaNode) (hs : List Holder) (h : Holder) (es : List Entry) → AreHeld nodes hs es → AreHeld nodes (h ∷ hs) es
held_again nodes hs h es held n e node display there whole first said = let a : IsAmong hs (holder e.node (dotted_of display)) = held n e node display there whole first said in record { index = suc a.index; there = a.there }

same_said : (d : Said (List ℕ)) (a b : List ℕ) → d ≡ Ok a → d ≡ Ok b → a ≡ b
same_said d a b e f = let h : ◌≡◌ {A = Said (List ℕ)} (Ok a) (Ok b) = sym e ∙ f in cc

same_found : (o : Option SchemaNode) (m n : SchemaNode) → o ≡ Some m → o ≡ Some n → m ≡ n
same_found o m n e f = let h : ◌≡◌ {A = Option SchemaNode} (Some m) (Some n) = sym e ∙ f in cc

held_more : (nodes : List SchemaNode) (hs after : List Holder) (es : List Entry) (node : SchemaNode) (e : Entry) → node_named nodes e.node ≡ Some node → (p : Place) → e.place ≡ p → AreHoldersThen hs node e p after → AreHeld nodes hs es → AreHeld nodes after (es ++ e ∷ [])
held_more nodes hs after es node e first (GroupOf q i) is are held n x other display there whole found said = go (before_or_last es e n x there)
  where
    go : (slice_get es n ≡ Some x) ⊎ ((n ≡ length es) × (e ≡ x)) → IsAmong after (holder x.node (dotted_of display))
    go (inl a) = subst (λ ks. IsAmong ks (holder x.node (dotted_of display))) (sym are) (held n x other display a whole found said)
    go (inr b) = let w : GroupOf q i ≡ Whole = sym is ∙ (ap (λ (y : Entry). y.place) b.1 ∙ whole) in absurd (cc)
held_more nodes hs after es node e first Whole is are held n x other display there whole found said = go (before_or_last es e n x there)
  where
    go : (slice_get es n ≡ Some x) ⊎ ((n ≡ length es) × (e ≡ x)) → IsAmong after (holder x.node (dotted_of display))
    go (inl a) = subst (λ ks. IsAmong ks (holder x.node (dotted_of display))) (sym are.2) (held_again nodes hs (holder e.node (dotted_of are.0)) es held n x other display a whole found said)
    go (inr b) =
        let same_one : node ≡ other = same_found (node_named nodes e.node) node other first (ap (λ (y : Entry). node_named nodes y.node) b.1 ∙ found) in
        let shown : are.0 ≡ display = same_said node.display_name are.0 display are.1 (ap (λ (k : SchemaNode). k.display_name) same_one ∙ said) in
        let last : holder e.node (dotted_of are.0) ≡ holder x.node (dotted_of display) = ap (λ (y : Entry). holder y.node (dotted_of are.0)) b.1 ∙ ap (λ ys. holder x.node (dotted_of ys)) shown in
        subst (λ ks. IsAmong ks (holder x.node (dotted_of display))) (sym are.2) (record { index = 0; there = ap (λ h. Some h) last })

-- and each that has a dotted name is one of the entries then
holder_still : (nodes : List SchemaNode) (es more : List Entry) (h : Holder) → IsHolder nodes es h → IsHolder nodes (es ++ more) h
holder_still nodes es more h k = record { number = k.number; entry = k.entry; node = k.node; display = k.display; numbered = still_at es more k.number k.entry k.numbered; whole = k.whole; first = k.first; said = k.said; is = k.is }

holding_more : (nodes : List SchemaNode) (hs after : List Holder) (es : List Entry) (node : SchemaNode) (e : Entry) → node_named nodes e.node ≡ Some node → (p : Place) → e.place ≡ p → AreHoldersThen hs node e p after → AreHolding nodes hs es → AreHolding nodes after (es ++ e ∷ [])
holding_more nodes hs after es node e first (GroupOf q i) is are holding h among = holder_still nodes es (e ∷ []) h (holding h (subst (λ ks. IsAmong ks h) are among))
holding_more nodes hs after es node e first Whole is are holding h among = go (subst (λ ks. IsAmong ks h) are.2 among)
  where
    at : (i : ℕ) → slice_get (holder e.node (dotted_of are.0) ∷ hs) i ≡ Some h → IsHolder nodes (es ++ e ∷ []) h
    at zero there = record { number = length es; entry = e; node = node; display = are.0; numbered = last_at es e; whole = is; first = first; said = are.1; is = sym (same_some there) }
    at (suc i) there = holder_still nodes es (e ∷ []) h (holding h (record { index = i; there = there }))

    go : IsAmong (holder e.node (dotted_of are.0) ∷ hs) h → IsHolder nodes (es ++ e ∷ []) h
    go k = at k.index k.there

abbrev pub enum_ids : List Enum → List ℕ
enum_ids es = map (λ (e : Enum). e.id) es

-- what is made is that of the first entries and enums that are named
pub record AreMade (nodes : List SchemaNode) (strict : Bool) (m : Made) (z : Named) : Type 0 where
  pub done : List Entry
  pub rest : List Entry
  pub more : List ℕ
  pub entries_are : z.entries ≡ done ++ rest
  pub enums_are : z.enums ≡ enum_ids m.enums ++ more
  pub held : AreHeld nodes m.holders done
  pub holding : AreHolding nodes m.holders done
  pub named : AreFirstEnums (numbers nodes strict z) m.enum_names
  pub meant : AreNodesFrom (numbers nodes strict z) [] [] done m.nodes m.brands
  pub enumerated : AreEnumsOf (numbers nodes strict z) m.enums

-- before the first
none_held : (h : Holder) → IsAmong [] h → ⊥
none_held h among = go among.index among.there
  where
    go : (i : ℕ) → slice_get [] i ≡ Some h → ⊥
    go i e = cc

pub none_made : (nodes : List SchemaNode) (strict : Bool) (z : Named) → AreMade nodes strict nothing_made z
none_made nodes strict z = record { done = []; rest = z.entries; more = z.enums; entries_are = refl; enums_are = refl; held = λ n e node display there whole first said. absurd (cc); holding = λ h among. absurd (none_held h among); named = record { ids = []; more = z.enums; are = refl; named = tt }; meant = tt; enumerated = tt }

pub record IsAdded (nodes : List SchemaNode) (strict : Bool) (ids : List ℕ) (m after : Made) (e : Entry) (z : Named) : Type 0 where
  pub node : Node
  pub brand : Brand
  pub nodes_are : after.nodes ≡ m.nodes ++ node ∷ []
  pub brands_are : after.brands ≡ m.brands ++ brand ∷ []
  pub enums_are : after.enums ≡ m.enums
  pub is : (earlier : List Entry) → AreFirstEnums (numbers nodes strict z) after.enum_names → AreHeld nodes m.holders earlier → AreHolding nodes m.holders earlier → HaveNames nodes m.nodes after.enum_names e.bound → IsNodeOf (numbers nodes strict z) earlier m.nodes e node brand
  pub held : (earlier : List Entry) → AreHeld nodes m.holders earlier → AreHeld nodes after.holders (earlier ++ e ∷ [])
  pub holding : (earlier : List Entry) → AreHolding nodes m.holders earlier → AreHolding nodes after.holders (earlier ++ e ∷ [])
  pub named : enum_names nodes (drop (length m.enum_names) ids) m.enum_names ≡ Ok after.enum_names

-- from s, with m made, to the end
pub record Ends (nodes : List SchemaNode) (strict : Bool) (s : Named) (m after : Made) (t : Named) : Type 0 where
  pub grown : Grows s t
  pub kept : Stay nodes s.entries → Stay nodes t.entries
  pub made : AreMade nodes strict m t → AreMade nodes strict after t
  pub no_entry : slice_get t.entries (length after.nodes) ≡ None
  pub no_enum : slice_get t.enums (length after.enums) ≡ None

module _ (nodes : List SchemaNode) (strict : Bool) where
  entry_made : (ids more : List ℕ) (m after : Made) (e : Entry) (z : Named) → z.enums ≡ ids ++ more → slice_get z.entries (length m.nodes) ≡ Some e → IsAdded nodes strict ids m after e z → HaveNames nodes m.nodes after.enum_names e.bound → AreMade nodes strict m z → AreMade nodes strict after z
  entry_made ids more m after e z grown there added below made =
      let named : AreFirstEnums (numbers nodes strict z) after.enum_names = first_enums_more nodes (numbers nodes strict z) refl m.enum_names after.enum_names ids more made.named added.named grown in
      let count : length made.done ≡ length m.nodes = nodes_counted (numbers nodes strict z) [] [] made.done m.nodes m.brands made.meant in
      let behind : slice_get (made.done ++ made.rest) (length made.done) ≡ Some e = ap (λ i. slice_get (made.done ++ made.rest) i) count ∙ (ap (λ xs. slice_get xs (length m.nodes)) (sym made.entries_are) ∙ there) in
      let next : Next made.rest e = next_of made.done made.rest e behind in
      let longer : AreNodesFrom (numbers nodes strict z) [] [] (made.done ++ e ∷ []) (m.nodes ++ added.node ∷ []) (m.brands ++ added.brand ∷ []) = nodes_more (numbers nodes strict z) made.done m.nodes e added.node added.brand (added.is made.done named made.held made.holding below) [] [] made.done m.nodes m.brands refl refl made.meant in
      record {
        done = made.done ++ e ∷ [];
        rest = next.more;
        more = made.more;
        entries_are = made.entries_are ∙ (ap (λ xs. made.done ++ xs) next.are ∙ sym (append_assoc made.done (e ∷ []) next.more));
        enums_are = made.enums_are ∙ ap (λ es. enum_ids es ++ made.more) (sym added.enums_are);
        held = added.held made.done made.held;
        holding = added.holding made.done made.holding;
        named = named;
        meant = subst (λ ns. AreNodesFrom (numbers nodes strict z) [] [] (made.done ++ e ∷ []) ns after.brands) (sym added.nodes_are)
            (subst (λ bs. AreNodesFrom (numbers nodes strict z) [] [] (made.done ++ e ∷ []) (m.nodes ++ added.node ∷ []) bs) (sym added.brands_are) longer);
        enumerated = subst (AreEnumsOf (numbers nodes strict z)) (sym added.enums_are) made.enumerated;
      }

  enum_made_too : (m after : Made) (id : ℕ) (z : Named) → slice_get z.enums (length m.enums) ≡ Some id → IsEnumAdded (numbers nodes strict z) m after id → AreMade nodes strict m z → AreMade nodes strict after z
  enum_made_too m after id z there added made =
      let count : length (enum_ids m.enums) ≡ length m.enums = length-map m.enums (λ (e : Enum). e.id) in
      let behind : slice_get (enum_ids m.enums ++ made.more) (length (enum_ids m.enums)) ≡ Some id = ap (λ i. slice_get (enum_ids m.enums ++ made.more) i) count ∙ (ap (λ xs. slice_get xs (length m.enums)) (sym made.enums_are) ∙ there) in
      let next : Next made.more id = next_of (enum_ids m.enums) made.more id behind in
      let ids : enum_ids after.enums ≡ enum_ids m.enums ++ id ∷ [] = ap enum_ids added.enums_are ∙ (map-append (λ (e : Enum). e.id) m.enums (added.new ∷ []) ∙ ap (λ x. enum_ids m.enums ++ x ∷ []) added.is_id) in
      record {
        done = made.done;
        rest = made.rest;
        more = next.more;
        entries_are = made.entries_are;
        held = subst (λ hs. AreHeld nodes hs made.done) (sym added.holders_are) made.held;
        holding = subst (λ hs. AreHolding nodes hs made.done) (sym added.holders_are) made.holding;
        named = subst (AreFirstEnums (numbers nodes strict z)) (sym added.names_are) made.named;
        enums_are = made.enums_are ∙ (ap (λ xs. enum_ids m.enums ++ xs) next.are ∙ (sym (append_assoc (enum_ids m.enums) (id ∷ []) next.more) ∙ ap (λ xs. xs ++ next.more) (sym ids)));
        meant = subst (λ ns. AreNodesFrom (numbers nodes strict z) [] [] made.done ns after.brands) (sym added.nodes_are)
            (subst (λ bs. AreNodesFrom (numbers nodes strict z) [] [] made.done m.nodes bs) (sym added.brands_are) made.meant);
        enumerated = subst (AreEnumsOf (numbers nodes strict z)) (sym added.enums_are) (enums_more (numbers nodes strict z) m.enums added.new made.enumerated added.is);
      }

  -- ---- one step ----

  abbrev pub IsStep : (s : Named) (m : Made) → Result (Made × Named) ErrorKind → Type 0
  IsStep s m r = IfDone (λ (after : Made) t. Done (Stay nodes) s t (λ z. AreMade nodes strict m z → AreMade nodes strict after z)) r

  module _ (m : Made) (e : Entry) (s : Named) (here : slice_get s.entries (length m.nodes) ≡ Some e) where
    abbrev pub Kept : List Entry → Type 0
    Kept = StayWith nodes (length m.nodes) e

    struct_added : (b : Begun) → IsBegun nodes m e b → enum_names nodes (drop (length m.enum_names) s.enums) m.enum_names ≡ Ok b.enum_names → IsWork Kept (add_struct nodes strict m e.node e.bound b) (λ after z. IsAdded nodes strict s.enums m after e z)
    struct_added b begun named =
        bind Kept (struct_made nodes strict (length m.nodes) e.node e.bound b.name b.node) (λ made. work_of (with_struct nodes strict m b made)) (λ made z. IsMade (numbers nodes strict z) (length m.nodes) e.node e.bound b.name b.node made.0 made.1) (λ after z. IsAdded nodes strict s.enums m after e z)
        (struct_meant Kept nodes (with_whole nodes (length m.nodes) e) strict (length m.nodes) e.node e.bound b.name b.node (with_groups nodes (length m.nodes) e b.node begun.first))
        (λ made. of_work Kept (with_struct nodes strict m b made) (λ after z. IsMade (numbers nodes strict z) (length m.nodes) e.node e.bound b.name b.node made.0 made.1 → IsAdded nodes strict s.enums m after e z) (λ z h. record {
          node = made.0;
          brand = made.1;
          nodes_are = refl;
          brands_are = refl;
          enums_are = refl;
          is = λ earlier firsts held holding below. record {
            node = b.node;
            part = h.part;
            members = h.members;
            first = begun.first;
            struct = h.struct;
            listed = h.listed;
            id = h.is_id;
            name = subst (λ (x : List ℕ). IsEntryName (numbers nodes strict z) earlier m.nodes b.node e e.place x) (sym h.is_name) (begun.name strict z.entries z.enums earlier firsts held holding below);
            short = subst (λ (x : List ℕ). length x ≤ 1024) (sym h.is_name) begun.short;
            text = subst (λ (x : List ℕ). is_utf8 x ≡ true) (sym h.is_name) begun.text;
            annotations = h.annotations;
            data_words = h.data_words;
            pointers = h.pointers;
            group = h.group;
            discriminant_count = h.discriminant_count;
            discriminant_offset = h.discriminant_offset;
            brand = h.brand;
            fields = h.fields;
          };
          held = λ earlier held. held_more nodes m.holders b.holders earlier b.node e begun.first e.place refl begun.holders held;
          holding = λ earlier holding. holding_more nodes m.holders b.holders earlier b.node e begun.first e.place refl begun.holders holding;
          named = named;
        }))

    -- what is bound has names before the entry
    bound_named : IsFit nodes s → (after : Made) → enum_names nodes (drop (length m.enum_names) s.enums) m.enum_names ≡ Ok after.enum_names → HaveNames nodes m.nodes after.enum_names e.bound
    bound_named fit after named are_plain = among_more (length m.nodes) (length m.nodes) (length s.enums) (length after.enum_names) (omega arith) (names_cover nodes s.enums m.enum_names after.enum_names named) e.bound (fit are_plain (length m.nodes) e here)

    without_parent : IsFit nodes s → (r : Result (Made × Named) ErrorKind) → IfDone (λ (after : Made) t. Done Kept s t (λ z. IsAdded nodes strict s.enums m after e z)) r → IsStep s m r
    without_parent fit (Err kind) h = tt
    without_parent fit (Ok p) h = record {
      grown = h.grown;
      kept = λ k. (h.kept (here, k)).1;
      later = λ z g made. let grown : Grows s z = grows_on s p.1 z h.grown g in entry_made s.enums grown.enums m p.0 e z grown.enums_are (entry_still s z grown (length m.nodes) e here) (h.later z g) (let added : IsAdded nodes strict s.enums m p.0 e z = h.later z g in bound_named fit p.0 added.named) made;
    }

    pub struct_is_added : IfDone (λ (after : Made) t. Done Kept s t (λ z. IsAdded nodes strict s.enums m after e z)) (make_struct nodes strict m e s)
    struct_is_added = said_bind Kept (begin_struct nodes m e s.enums) (add_struct nodes strict m e.node e.bound) (λ after z. IsAdded nodes strict s.enums m after e z) (λ b h. struct_added b (struct_begun nodes m e s.enums b h) (enums_begun nodes m e s.enums b h)) s

    pub struct_step : IsFit nodes s → IsStep s m (make_struct nodes strict m e s)
    struct_step fit = without_parent fit (make_struct nodes strict m e s) struct_is_added

  module _ (m : Made) (id : ℕ) (s : Named) (here : slice_get s.enums (length m.enums) ≡ Some id) where
    as_step : (r : Result (Made × Named) ErrorKind) → IfDone (λ (after : Made) t. Done (Stay nodes) s t (λ z. IsEnumAdded (numbers nodes strict z) m after id)) r → IsStep s m r
    as_step (Err kind) h = tt
    as_step (Ok p) h = record {
      grown = h.grown;
      kept = h.kept;
      later = λ z g made. enum_made_too m p.0 id z (enum_still s z (grows_on s p.1 z h.grown g) (length m.enums) id here) (h.later z g) made;
    }

    pub enum_step : IsStep s m (make_enum nodes strict m id s)
    enum_step = as_step (make_enum nodes strict m id s) (enum_added (Stay nodes) nodes (stay_whole nodes) strict m id s)

  -- ---- all steps ----

  abbrev IfEnds : Named → Made → Result (Made × Named) ErrorKind → Type 0
  IfEnds s m r = IfDone (λ (after : Made) t. Ends nodes strict s m after t) r

  ends_on : (s : Named) (m a : Made) (u : Named) (r : Result (Made × Named) ErrorKind) → Done (Stay nodes) s u (λ z. AreMade nodes strict m z → AreMade nodes strict a z) → IfEnds u a r → IfEnds s m r
  ends_on s m a u (Err kind) d h = tt
  ends_on s m a u (Ok q) d h = record {
    grown = grows_on s u q.1 d.grown h.grown;
    kept = λ k. h.kept (d.kept k);
    made = λ first. h.made (d.later q.1 h.grown first);
    no_entry = h.no_entry;
    no_enum = h.no_enum;
  }

  abbrev IsEnding : (Made → Work Made) → Type 0
  IsEnding again = (m : Made) (s : Named) → IsFit nodes s → IfEnds s m (again m s)

  ends_after : (again : Made → Work Made) → IsEnding again → (s : Named) (m : Made) (r : Result (Made × Named) ErrorKind) → IsStep s m r → IfDone (λ (after : Made) t. IsFit nodes t) r → IfEnds s m (work_continued again r)
  ends_after again h s m (Err kind) d fit = tt
  ends_after again h s m (Ok p) d fit = ends_on s m p.0 p.1 (again p.0 p.1) d (h p.0 p.1 fit)

  next_ends : (again : Made → Work Made) → IsEnding again → (m : Made) (s : Named) (o : Option Entry) (q : Option ℕ) → slice_get s.entries (length m.nodes) ≡ o → slice_get s.enums (length m.enums) ≡ q → IsFit nodes s → IfEnds s m (make_next nodes strict again m o q s)
  next_ends again h m s (Some e) q entry enum fit = ends_after again h s m (make_struct nodes strict m e s) (struct_step m e s entry fit) (struct_fit nodes strict m e s entry fit)
  next_ends again h m s None (Some id) entry enum fit = ends_after again h s m (make_enum nodes strict m id s) (enum_step m id s enum) (enum_fit nodes strict m id s fit)
  next_ends again h m s None None entry enum fit = record { grown = grows_none s; kept = λ k. k; made = λ first. first; no_entry = entry; no_enum = enum }

  pub all_end : (steps : ℕ) → IsEnding (make_all nodes strict steps)
  all_end zero m s fit = tt
  all_end (suc steps) m s fit = next_ends (make_all nodes strict steps) (all_end steps) m s (slice_get s.entries (length m.nodes)) (slice_get s.enums (length m.enums)) refl refl fit
