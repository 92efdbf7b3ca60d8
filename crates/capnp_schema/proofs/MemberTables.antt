-- The tables of members by their discriminant values.
use Rattle.std.proofs.Common.{Contains, IsTrue, slice_set, ◌&&◌, ℕ, ◌≡◌, ◌<◌, ◌≤◌, ◌+◌, ◌==◌, ⊎_elim, Bool, true, false, not, List, [], ◌∷◌, ◌++◌, drop, take, length, map, get_or, position, slice_get, Option, Some, None, refl, sym, ap, ◌∙◌, subst, arith, get_or-set_same, get_or-set_other}
use Rattle.std.specs.Option.{option_map, unwrap_or}
use Rattle.std.specs.List.{position_or_len}
use Rattle.std.proofs.lemmas.Bool.{cases_lt, cases_Bool, eqb-true, eq-eqb}
use Rattle.std.proofs.lemmas.Grind.{common_steps}
use Rattle.std.proofs.lemmas.Option.{slice_get_within, slice_get_past, slice_get-get_or, get_or_from_slice_get, slice_get-map, same_Some}
use Rattle.std.proofs.lemmas.List.{length-map, length-set}
use Rattle.std.proofs.lemmas.List.Sums.{position_or_len_is}
use Rattle.capnp_schema.specs.declared.record.FieldRecord.{FieldRecord}
use Rattle.capnp_schema.specs.declared.record.NodeRecord.{NodeRecord}
use Rattle.capnp_schema.specs.Schema.{Schemas, Node, Field, is_member, no_node, node_at, seen_field, seen_node}
use Rattle.capnp_schema.specs.Query.{is_member_of, is_non_union, member_of}
use Rattle.capnp_schema.specs.Accepted.{AreApartBelow, HasEachMember, IsAccepted}
use Rattle.capnp_schema.proofs.EntryWalk.{at_node}
use Rattle.capnp_schema.proofs.Members.{member_by_value}
use Rattle.capnp_schema.specs.Tables.{IsMemberTable}
use Rattle.capnp_schema.specs.Steps.Tables.{ArePlaced, placed_member}

not_plain : (b : Bool) → not b ≡ false → b ≡ true
not_plain true e = refl
not_plain false e = cc

plain_only : (b : Bool) → not b ≡ true → b ≡ true → ⊥
plain_only true e h = cc
plain_only false e h = cc

pub none_placed : (fields : List Field) (count : ℕ) (table : List ℕ) → length table ≡ count → ArePlaced fields 0 count table
none_placed fields count table counted = record { counted = counted; each = λ k f h. absurd (omega arith) }

pub value_below : (fields : List Field) (count i : ℕ) (f : Field) → AreApartBelow fields count → slice_get fields i ≡ Some f → is_non_union f ≡ false → f.discriminant_value < count
value_below fields count i f apart here e = apart.below i f here (not_plain (is_member f) e)

pub one_placed : (fields : List Field) (i count : ℕ) (table more : List ℕ) (f : Field) → AreApartBelow fields count → slice_get fields i ≡ Some f → more ≡ placed_member (is_non_union f) table f.discriminant_value i → ArePlaced fields i count table → ArePlaced fields (i + 1) count more
one_placed fields i count table more f apart here after before = by_kind (is_non_union f) refl after
  where
    is_here : (k : ℕ) (x : Field) → k < i + 1 → i ≤ k → slice_get fields k ≡ Some x → (f ≡ x) × (k ≡ i)
    is_here k x h le at = let e : k ≡ i = omega arith in (same_Some f x (sym here ∙ ap (slice_get fields) (sym e) ∙ at), e)

    by_kind : (non_union : Bool) → is_non_union f ≡ non_union → more ≡ placed_member non_union table f.discriminant_value i → ArePlaced fields (i + 1) count more
    by_kind true e same = rw same (record {
      counted = before.counted;
      each = λ k x h at member. ⊎_elim
          (λ less. before.each k x less at member)
          (λ le. absurd (plain_only (is_member f) e (ap is_member (is_here k x h le at).0 ∙ member)))
          (cases_lt k i);
    })
    by_kind false e same = rw same (record {
      counted = length-set table f.discriminant_value i ∙ before.counted;
      each = λ k x h at member. ⊎_elim
          (λ less. get_or-set_other table f.discriminant_value x.discriminant_value i 0 (λ v. let j : k ≡ i = apart.once k i x f at here member v in omega arith) ∙ before.each k x less at member)
          (λ le. let at_f = is_here k x h le at in ap (λ (y : Field). get_or (slice_set table f.discriminant_value i) y.discriminant_value 0) (sym at_f.0) ∙ get_or-set_same table f.discriminant_value i 0 (let c = before.counted in let b = value_below fields count i f apart here e in omega arith) ∙ sym at_f.1)
          (cases_lt k i);
    })

-- ---- the member of a value ----

module _ (passes : Field → Bool) (fs : List Field) where
  before_it : (i : ℕ) (d : Field) → i ≤ length fs → ((k : ℕ) (g : Field) → k < i → slice_get fs k ≡ Some g → passes g ≡ true → ⊥) → (k : ℕ) → k < i → passes (get_or fs k d) ≡ false
  before_it i d le none k h = ⊎_elim (λ is. absurd (none k (get_or fs k d) h (slice_get-get_or fs k d (omega arith)) is)) (λ no. no) (cases_Bool (passes (get_or fs k d)))

  pub found_first : (i : ℕ) (f : Field) → slice_get fs i ≡ Some f → passes f ≡ true → ((k : ℕ) (g : Field) → k < i → slice_get fs k ≡ Some g → passes g ≡ true → ⊥) → position passes fs ≡ Some i
  found_first i f here is none =
      let inside : i < length fs = slice_get_within fs i f here in
      let p : position_or_len passes fs ≡ i = position_or_len_is passes fs i f (omega arith) (before_it i f (omega arith) none) (λ h. ap passes (get_or_from_slice_get fs i f f here) ∙ is) in
      rw p (grind (arith, common_steps))

  pub found_none : ((k : ℕ) (g : Field) → slice_get fs k ≡ Some g → passes g ≡ true → ⊥) → position passes fs ≡ None
  found_none none = at_cases fs refl
    where
      at_cases : (xs : List Field) → fs ≡ xs → position passes fs ≡ None
      at_cases [] e = rw e refl
      at_cases (d ∷ xs) e = let p : position_or_len passes fs ≡ length fs = position_or_len_is passes fs (length fs) d (omega arith) (before_it (length fs) d (omega arith) (λ k g h. none k g)) (λ h. absurd (omega arith)) in rw p (grind (arith, common_steps))

both : (a b : Bool) → a && b ≡ true → (a ≡ true) × (b ≡ true)
both true b e = (refl, e)
both false b e = cc

pub is_of : (d : ℕ) (f : Field) → is_member_of d f ≡ true → IsTrue (is_member f) × (f.discriminant_value ≡ d)
is_of d f e = let t = both (is_member f) (f.discriminant_value == d) e in (t.0, eqb-true f.discriminant_value d t.1)

-- a field of the value of non-union fields is no member
pub no_member : (f : Field) → IsTrue (is_member f) × (f.discriminant_value ≡ 65535) → ⊥
no_member f h = plain_only (f.discriminant_value == 65535) h.0 (eq-eqb f.discriminant_value 65535 h.1)

pub of_value : (d : ℕ) (f : Field) → f.discriminant_value ≡ d → d < 65535 → is_member_of d f ≡ true
of_value d f same h = ap (λ q. q && (f.discriminant_value == d)) (member_by_value f (omega arith)) ∙ eq-eqb f.discriminant_value d same

pub field_of : (n : Node) → HasEachMember n → (d : ℕ) → d < n.discriminant_count → (k : ℕ) × (f : Field) × (slice_get n.fields k ≡ Some f) × (f.discriminant_value ≡ d)
field_of n each d h = by_place (each.some d h)
  where
    by_place : Contains (map (λ (f : Field). f.discriminant_value) n.fields) d → (k : ℕ) × (f : Field) × (slice_get n.fields k ≡ Some f) × (f.discriminant_value ≡ d)
    by_place at = by_field (slice_get n.fields at.0) refl
      where
        there : slice_get (map (λ (f : Field). f.discriminant_value) n.fields) at.0 ≡ Some d
        there = slice_get-get_or (map (λ (f : Field). f.discriminant_value) n.fields) at.0 d at.1 ∙ ap Some at.2

        by_field : (o : Option Field) → slice_get n.fields at.0 ≡ o → (k : ℕ) × (f : Field) × (slice_get n.fields k ≡ Some f) × (f.discriminant_value ≡ d)
        by_field None e = let same = slice_get-map (λ (f : Field). f.discriminant_value) n.fields at.0 ∙ ap (option_map (λ (f : Field). f.discriminant_value)) e in let t = there in cc
        by_field (Some f) e = (at.0, f, e, same_Some f.discriminant_value d (sym (slice_get-map (λ (f : Field). f.discriminant_value) n.fields at.0 ∙ ap (option_map (λ (f : Field). f.discriminant_value)) e) ∙ there))

-- where all members are placed
pub member_table_stands : (n : Node) (table : List ℕ) → n.discriminant_count ≤ 65535 → HasEachMember n → ArePlaced n.fields (length n.fields) n.discriminant_count table → IsMemberTable n table
member_table_stands n table few each all = record {
  same_length = all.counted;
  each = λ d i at. by_field d i at (field_of n each d (let h = slice_get_within table d i at in let c = all.counted in omega arith));
}
  where
    by_field : (d i : ℕ) → slice_get table d ≡ Some i → (k : ℕ) × (f : Field) × (slice_get n.fields k ≡ Some f) × (f.discriminant_value ≡ d) → member_of n.fields d ≡ Some i
    by_field d i at (k, f, here, same) =
        let below : d < 65535 = (let h = slice_get_within table d i at in let c = all.counted in omega arith) in
        let is : is_member_of d f ≡ true = of_value d f same below in
        let found : get_or table d 0 ≡ k = ap (λ v. get_or table v 0) (sym same) ∙ all.each k f (slice_get_within n.fields k f here) here (is_of d f is).0 in
        let k_is : k ≡ i = sym found ∙ get_or_from_slice_get table d i 0 at in
        found_first (is_member_of d) n.fields k f here is (λ j g h there test. let j_is : j ≡ k = each.apart.once j k g f there here (is_of d g test).0 ((is_of d g test).1 ∙ sym same) in omega arith) ∙ ap Some k_is

-- the look-up
pub member_found : (n : Node) (table : List ℕ) → HasEachMember n → IsMemberTable n table → (d : ℕ) → slice_get table d ≡ member_of n.fields d
member_found n table each stands d = ⊎_elim
    (λ less. let there = slice_get-get_or table d 0 less in there ∙ sym (stands.each d (get_or table d 0) there))
    (λ le. slice_get_past table d le ∙ sym (found_none (is_member_of d) n.fields (λ k g at test. let h = each.apart.below k g at (is_of d g test).0 in let v = (is_of d g test).1 in let c = stands.same_length in omega arith)))
    (cases_lt d (length table))

-- ---- nodes by number, and past the last ----

no_members : HasEachMember no_node
no_members = record {
  apart = record { below = λ k f at. cc; once = λ i j f g at. cc };
  some = λ d h. absurd (omega arith);
}

pub has_each : (set : Schemas) → IsAccepted set → (n : ℕ) → HasEachMember (node_at set n)
has_each set accepted = at_node set HasEachMember accepted.rule9 no_members

-- an empty table past the last node
pub no_member_table : IsMemberTable no_node []
no_member_table = record { same_length = refl; each = λ d i at. cc }

pub node_here : (set : Schemas) (n : ℕ) (x : Node) → Some x ≡ slice_get set.nodes n → node_at set n ≡ x
node_here set n x is = ap (λ (o : Option Node). unwrap_or o no_node) (sym is)

-- ---- as the code has them ----

-- a table of which all is written
pub all_written : (len : ℕ) (new items : List ℕ) → len ≡ length new → length items ≡ length new → take len (new ++ drop (length new) items) ≡ new
all_written len [] [] counted same = ap (λ (k : ℕ). take k []) counted
all_written len [] (x ∷ items) counted same = absurd (omega arith)
all_written len (x ∷ new) [] counted same = absurd (omega arith)
all_written len (x ∷ new) (y ∷ items) counted same = ap (λ (k : ℕ). take k ((x ∷ new) ++ drop (length new) items)) counted ∙ ap (λ w. x ∷ w) (all_written (length new) new items refl (omega arith))

pub all_placed : (n : NodeRecord) (fields : List FieldRecord) (count : ℕ) (table : List ℕ) → fields ≡ n.body.fields.items → count ≡ n.body.discriminant_count → ArePlaced (map seen_field fields) (length fields) count table → ArePlaced (seen_node n).fields (length (seen_node n).fields) (seen_node n).discriminant_count table
all_placed n fields count table same counted all =
    subst (λ (k : ℕ). ArePlaced (map seen_field n.body.fields.items) k n.body.discriminant_count table) (sym (length-map n.body.fields.items seen_field))
    (subst (λ (k : ℕ). ArePlaced (map seen_field n.body.fields.items) (length n.body.fields.items) k table) counted
    (subst (λ (fs : List FieldRecord). ArePlaced (map seen_field fs) (length fs) count table) same all))
