-- Ways up from a group to its parents.
use Rattle.std.proofs.Common.{ℕ, zero, suc, ◌≡◌, ◌+◌, ◌<◌, ◌≤◌, Bool, true, false, List, [], ◌∷◌, length, arith, refl, sym, ap, ◌∙◌, subst, Option, Some, None, slice_get, eqb, add-one, ◌||◌, get_or, replicate, ⊎_elim}
use Rattle.std.proofs.Math.ListN.{set as set_at, length-set}
use Rattle.std.proofs.lemmas.Bool.{cases_lt}
use Rattle.std.proofs.lemmas.List.{get_or-set_other}
use Rattle.std.proofs.lemmas.Option.{same_Some, some_pair_parts}
use Rattle.std.proofs.lemmas.Map.Steps.{length-le_from_distinct_below}
use Rattle.std.proofs.lemmas.Map.Keys.{IsDistinct-cons}
use Rattle.std.specs.Option.{option_flatten}
use Rattle.std.specs.List.{IsDistinct, AllByRecursion, list_any}
use Rattle.capnp_schema.specs.Schema.{Schemas, node_of}
use Rattle.capnp_schema.specs.Accepted.{EndsAtStruct, HasOneParent, HaveSameSizes, StandsInStruct}
use Rattle.capnp_schema.specs.Steps.Checking.Parents.{group_target, TargetsAreGroups, IsParentTable, AreKnown}
use Rattle.capnp_schema.proofs.GroupTargets.{is_parent, from_parent, within_brands}

abbrev pub is_group : Schemas → ℕ → Bool
is_group set b = (node_of set b).is_group

-- so many steps to a parent lead from brand b to one that is no group
abbrev pub Depth : ℕ → Schemas → ℕ → Type 0
Depth zero set b = is_group set b ≡ false
Depth (suc n) set b = (is_group set b ≡ true) × ((p i : ℕ) × (group_target set p i ≡ Some b) × Depth n set p)

pub ends_from_depth : (n : ℕ) (set : Schemas) (b : ℕ) → Depth n set b → EndsAtStruct n set b
ends_from_depth zero set b d = d
ends_from_depth (suc n) set b (h, (p, i, t, rest)) = (h, (p, i, is_parent set b p i t, ends_from_depth n set p rest))

pub depth_from_ends : (n : ℕ) (set : Schemas) (b : ℕ) → EndsAtStruct n set b → Depth n set b
depth_from_ends zero set b d = d
depth_from_ends (suc n) set b (h, (p, i, t, rest)) = (h, (p, i, from_parent set b p i t, depth_from_ends n set p rest))

-- n steps to a parent lead from brand b, through groups, to brand c
abbrev pub StepsUp : ℕ → Schemas → ℕ → ℕ → Type 0
StepsUp zero set b c = b ≡ c
StepsUp (suc n) set b c = (is_group set b ≡ true) × ((p i : ℕ) × (group_target set p i ≡ Some b) × StepsUp n set p c)

pub steps_more : (n : ℕ) (set : Schemas) (b c p i : ℕ) → StepsUp n set b c → is_group set c ≡ true → group_target set p i ≡ Some c → StepsUp (n + 1) set b p
steps_more n set b c p i s g t = subst (λ (k : ℕ). StepsUp k set b p) (sym (add-one n)) (more n b s)
  where
    more : (n b : ℕ) → StepsUp n set b c → StepsUp (suc n) set b p
    more zero b e = (ap (is_group set) e ∙ g, (p, i, t ∙ ap (λ (x : ℕ). Some x) (sym e), refl))
    more (suc n) b (h, (q, j, u, rest)) = (h, (q, j, u, more n q rest))

pub depth_from_steps : (n : ℕ) (set : Schemas) (b c : ℕ) → StepsUp n set b c → is_group set c ≡ false → Depth n set b
depth_from_steps zero set b c e g = ap (is_group set) e ∙ g
depth_from_steps (suc n) set b c (h, (p, i, t, rest)) g = (h, (p, i, t, depth_from_steps n set p c rest g))

module _ (set : Schemas) (targets : TargetsAreGroups set) (table : List (Option (ℕ × ℕ))) (ok : IsParentTable set table) where
  pub same_parent : (g b i c j : ℕ) → is_group set g ≡ true → group_target set b i ≡ Some g → group_target set c j ≡ Some g → b ≡ c
  same_parent g b i c j h t u =
      let lt : g < length table = (let w = (targets b i g t).0 in let l = ok.same_length in omega arith) in
      let one : slice_get table g ≡ Some (Some (b, i)) = ok.all g b i lt t in
      let two : slice_get table g ≡ Some (Some (c, j)) = ok.all g c j lt u in
      let p : ◌≡◌ {A = Option (Option (ℕ × ℕ))} (Some (Some (b, i))) (Some (Some (c, j))) = sym one ∙ two in
      (some_pair_parts b c i j (same_Some {A = Option (ℕ × ℕ)} (Some (b, i)) (Some (c, j)) p)).0

-- where a group is named by fields of one brand alone
module _ (set : Schemas) (targets : TargetsAreGroups set) (unique : (g b i c j : ℕ) → is_group set g ≡ true → group_target set b i ≡ Some g → group_target set c j ≡ Some g → b ≡ c) where
  pub same_depth : (n m b : ℕ) → Depth n set b → Depth m set b → n ≡ m
  same_depth zero zero b d e = refl
  same_depth zero (suc m) b d (h, rest) = cc
  same_depth (suc n) zero b (h, rest) e = cc
  same_depth (suc n) (suc m) b (h, (p, i, t, d)) (h', (q, j, u, e)) =
      let same : q ≡ p = unique b q j p i h u t in
      ap suc (same_depth n m p d (subst (Depth m set) same e))

  -- what is left of the way up after n steps
  pub depth_along : (n m b c : ℕ) → StepsUp n set b c → Depth m set b → (k : ℕ) × (m ≡ n + k) × Depth k set c
  depth_along zero m b c e d = (m, omega arith, subst (Depth m set) e d)
  depth_along (suc n) zero b c (h, rest) d = cc
  depth_along (suc n) (suc m) b c (h, (p, i, t, rest)) (h', (q, j, u, d)) =
      let same : q ≡ p = unique b q j p i h u t in
      let r = depth_along n m p c rest (subst (Depth m set) same d) in
      (r.0, (let e : m ≡ n + r.0 = r.1 in omega arith), r.2)

  -- the groups on the way up
  chain : (m b : ℕ) → Depth m set b → List ℕ
  chain zero b d = []
  chain (suc m) b (h, (p, i, t, d)) = b ∷ chain m p d

  length_chain : (m b : ℕ) (d : Depth m set b) → length (chain m b d) ≡ m
  unfolding chain
  length_chain zero b d = refl
  length_chain (suc m) b (h, (p, i, t, d)) = ap suc (length_chain m p d)

  chain_within : (m b : ℕ) (d : Depth m set b) (q : ℕ) → list_any (eqb q) (chain m b d) ≡ true → q < length set.brands
  unfolding chain
  chain_within zero b d q e = cc
  chain_within (suc m) b (h, (p, i, t, d)) q e = at_head (list_any (eqb q) (chain m p d)) (chain_within m p d q) (eqb q b) refl e
    where
      at_head : (y : Bool) → (y ≡ true → q < length set.brands) → (x : Bool) → eqb q b ≡ x → x || y ≡ true → q < length set.brands
      at_head y rest true same e = let lt = (targets p i b t).0 in let s : q ≡ b = grind arith in omega arith
      at_head y rest false other e = rest e

  chain_apart : (n b : ℕ) → Depth (suc n) set b → (m p : ℕ) (d : Depth m set p) → m ≤ n → AllByRecursion (λ y. eqb b y ≡ false) (chain m p d)
  unfolding chain
  chain_apart n b deep zero p d le = tt
  chain_apart n b deep (suc m) p (h, (q, i, t, d)) le = (
    differs (eqb b p) refl,
    chain_apart n b deep m q d (omega arith),
  )
    where
      differs : (x : Bool) → eqb b p ≡ x → x ≡ false
      differs false e = refl
      differs true e = let s : p ≡ b = grind arith in absurd (let z : suc n ≡ suc m = same_depth (suc n) (suc m) b deep (subst (Depth (suc m) set) s (h, (q, i, t, d))) in omega arith)

  chain_distinct : (m b : ℕ) (d : Depth m set b) → IsDistinct eqb (chain m b d)
  unfolding chain IsDistinct
  chain_distinct zero b d = tt
  chain_distinct (suc m) b (h, (p, i, t, d)) = IsDistinct-cons eqb b (chain m p d) (chain_apart m b (h, (p, i, t, d)) m p d (omega arith)) (chain_distinct m p d)

  -- a way up is no longer than there are brands
  pub depth_within : (m b : ℕ) → Depth m set b → m ≤ length set.brands
  depth_within m b d = let l = length_chain m b d in let le = length-le_from_distinct_below (chain m b d) (length set.brands) (chain_distinct m b d) (chain_within m b d) in omega arith

entry_is : (o : Option (Option (ℕ × ℕ))) (p : ℕ × ℕ) → Some p ≡ option_flatten o → o ≡ Some (Some p)
entry_is None p e = cc
entry_is (Some None) p e = cc
entry_is (Some (Some q)) p e = cc

module _ (set : Schemas) (targets : TargetsAreGroups set) (table : List (Option (ℕ × ℕ))) (ok : IsParentTable set table) where
  -- the entry of a parent table is the group field that names the brand
  pub parent_is : (g : ℕ) (b i : ℕ) → Some (b, i) ≡ option_flatten (slice_get table g) → group_target set b i ≡ Some g
  parent_is g b i e = ok.holds g b i (entry_is (slice_get table g) (b, i) e)

  pub no_parent : (g b i : ℕ) → is_group set g ≡ true → None ≡ option_flatten (slice_get table g) → group_target set b i ≡ Some g → ⊥
  no_parent g b i h e t =
      let lt : g < length table = (let w = (targets b i g t).0 in let l = ok.same_length in omega arith) in
      let one : slice_get table g ≡ Some (Some (b, i)) = ok.all g b i lt t in
      let z : option_flatten (slice_get table g) ≡ Some (b, i) = ap option_flatten one in
      absurd (clash (e ∙ z))
    where
      clash : ◌≡◌ {A = Option (ℕ × ℕ)} None (Some (b, i)) → ⊥
      clash q = cc

  pub walk_more : (n b c p i : ℕ) → StepsUp n set b c → is_group set c ≡ true → Some (p, i) ≡ option_flatten (slice_get table c) → StepsUp (n + 1) set b p
  walk_more n b c p i s g e = steps_more n set b c p i s g (parent_is c p i e)

  -- a way up that comes to a group with no parent
  pub walk_stops : (n b c : ℕ) → StepsUp n set b c → is_group set c ≡ true → None ≡ option_flatten (slice_get table c) → (m : ℕ) → Depth m set b → ⊥
  walk_stops n b c s g e m d = at_rest (depth_along set targets (same_parent set targets table ok) n m b c s d)
    where
      at_rest : (k : ℕ) × (m ≡ n + k) × Depth k set c → ⊥
      at_rest (zero, q, r) = cc
      at_rest (suc k, q, (h, (p, i, t, r))) = no_parent c p i g e t

  -- a way up that is too long
  pub walk_far : (n b c : ℕ) → StepsUp n set b c → length set.brands + 1 ≤ n → (m : ℕ) → Depth m set b → ⊥
  walk_far n b c s far m d = let r = depth_along set targets (same_parent set targets table ok) n m b c s d in let le = depth_within set targets (same_parent set targets table ok) m b d in let e : m ≡ n + r.0 = r.1 in absurd (omega arith)

  -- what the rule says of a group, from what was looked at
  pub one_parent : (g b i : ℕ) → Some (b, i) ≡ option_flatten (slice_get table g)
      → HaveSameSizes set g b → HasOneParent set g
  one_parent g b i e same = record {
    parent = b;
    index = i;
    is_parent = is_parent set g b i (parent_is g b i e);
    only = λ c j t.
        let w = (targets b i g (parent_is g b i e)).0 in
        let lt : g < length table = (let l = ok.same_length in omega arith) in
        let one : slice_get table g ≡ Some (Some (b, i)) = ok.all g b i lt (parent_is g b i e) in
        let two : slice_get table g ≡ Some (Some (c, j)) = ok.all g c j lt (from_parent set g c j t) in
        let p : ◌≡◌ {A = Option (Option (ℕ × ℕ))} (Some (Some (c, j))) (Some (Some (b, i))) = sym two ∙ one in
        some_pair_parts c b j i (same_Some {A = Option (ℕ × ℕ)} (Some (c, j)) (Some (b, i)) p);
    sizes = same;
  }

  pub sizes_differ : (g b i : ℕ) → Some (b, i) ≡ option_flatten (slice_get table g) → HasOneParent set g
      → (HaveSameSizes set g b → ⊥) → ⊥
  sizes_differ g b i e one differ =
      let same : b ≡ one.parent = (one.only b i (is_parent set g b i (parent_is g b i e))).0 in
      differ (subst (HaveSameSizes set g) (sym same) one.sizes)

  pub parent_within : (g b i : ℕ) → Some (b, i) ≡ option_flatten (slice_get table g) → b < length set.brands
  parent_within g b i e = within_brands set b i g (parent_is g b i e)

  -- a group with no parent has none in the rule
  pub without_parent : (g : ℕ) → is_group set g ≡ true → None ≡ option_flatten (slice_get table g) → HasOneParent set g → ⊥
  without_parent g h e one = no_parent g one.parent one.index h e (from_parent set g one.parent one.index one.is_parent)

  -- the walk, as the code takes it
  pub walk_ends : (n b c : ℕ) → n ≤ length set.brands → StepsUp n set b c → is_group set c ≡ false → StandsInStruct set b
  walk_ends n b c le s g = (n, le, ends_from_depth n set b (depth_from_steps n set b c s g))

  pub walk_broken : (n b c : ℕ) → StepsUp n set b c → is_group set c ≡ true → None ≡ option_flatten (slice_get table c) → StandsInStruct set b → ⊥
  walk_broken n b c s g e stands = walk_stops n b c s g e stands.0 (depth_from_ends stands.0 set b stands.2)

  pub walk_endless : (n b c : ℕ) → StepsUp n set b c → length set.brands + 1 ≤ n → StandsInStruct set b → ⊥
  walk_endless n b c s far stands = walk_far n b c s far stands.0 (depth_from_ends stands.0 set b stands.2)

  -- a way up that comes to a brand that stands in a struct
  pub walk_joins : (n b c : ℕ) → StepsUp n set b c → StandsInStruct set c → StandsInStruct set b
  walk_joins n b c s (k, le, ends) =
      let d : Depth (n + k) set b = join n b s (depth_from_ends k set c ends) in
      (n + k, depth_within set targets (same_parent set targets table ok) (n + k) b d, ends_from_depth (n + k) set b d)
    where
      join : (n b : ℕ) → StepsUp n set b c → Depth k set c → Depth (n + k) set b
      join zero b e d = subst (λ (x : ℕ). Depth x set b) (let z : k ≡ 0 + k = omega arith in z) (subst (Depth k set) (sym e) d)
      join (suc n) b (h, (p, i, t, rest)) d = subst (λ (x : ℕ). Depth x set b) (let e : suc (n + k) ≡ suc n + k = omega arith in e) (h, (p, i, t, join n p rest d))

  -- the parent of a group that stands in a struct does too
  pub parent_stands : (g b i : ℕ) → is_group set g ≡ true → Some (b, i) ≡ option_flatten (slice_get table g) → StandsInStruct set g → StandsInStruct set b
  parent_stands g b i h e (zero, le, ends) = absurd (let no : is_group set g ≡ false = ends in cc)
  parent_stands g b i h e (suc n, le, (g_is, (p, j, parent, rest))) =
      let same : p ≡ b = same_parent set targets table ok g p j b i h (from_parent set g p j parent) (parent_is g b i e) in
      (n, omega arith, subst (EndsAtStruct n set) same rest)

-- one more mark
pub mark_known : (set : Schemas) (known : List Bool) (g : ℕ) → AreKnown set known → StandsInStruct set g → AreKnown set (set_at known g true)
mark_known set known g k stands = record {
  counted = length-set known g true ∙ k.counted;
  stands = λ h e. ⊎_elim
      (λ lt. k.stands h (sym (get_or-set_other known g h true false (λ q. absurd (omega arith))) ∙ e))
      (λ le. ⊎_elim
      (λ lt. k.stands h (sym (get_or-set_other known g h true false (λ q. absurd (omega arith))) ∙ e))
      (λ ge. let same : g ≡ h = omega arith in subst (StandsInStruct set) same stands)
      (cases_lt g h))
      (cases_lt h g);
}

pub none_known : (set : Schemas) (known : List Bool) (count : ℕ) → known ≡ replicate count false → count ≡ length set.brands → AreKnown set known
none_known set known count is n = record {
  counted = ap (λ (xs : List Bool). length xs) is ∙ length_replicate count ∙ n;
  stands = λ g e. absurd (let no : get_or (replicate count false) g false ≡ false = unset count g in let yes : get_or (replicate count false) g false ≡ true = ap (λ (xs : List Bool). get_or xs g false) (sym is) ∙ e in cc);
}
  where
    length_replicate : (n : ℕ) → length (replicate n false) ≡ n
    length_replicate zero = refl
    length_replicate (suc n) = ap suc (length_replicate n)

    unset : (n g : ℕ) → get_or (replicate n false) g false ≡ false
    unset zero g = refl
    unset (suc n) zero = refl
    unset (suc n) (suc g) = unset n g
