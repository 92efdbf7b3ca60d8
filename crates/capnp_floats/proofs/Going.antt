-- The steps of the search for digits.
use Rattle.std.proofs.Common.{ℕ, ◌≡◌, ◌+◌, ◌-◌, ◌*◌, ◌^◌, ◌%◌, ◌<◌, ◌≤◌, ◌⊎◌, ⊎_elim, inl, inr, true, false, sym, ap, ◌∙◌, subst, arith}
use Rattle.std.proofs.Math.Nat.{lt_of_mul-lt-mul_right}
use Rattle.std.proofs.lemmas.Nat.{pow-add, pow_pos}
use Rattle.std.proofs.lemmas.Bool.{both_ways}
use Rattle.capnp_floats.specs.declared.search.Search.{Search}
use Rattle.capnp_floats.specs.Naturals.{room}
use Rattle.capnp_floats.specs.Shortest.{Lies, IsRounded, reaches}
use Rattle.capnp_floats.specs.Steps.Intervals.{interval}
use Rattle.capnp_floats.specs.Steps.Going.{Advances, FollowsSearch, IsGoing, IsSearchOpen, around}
use Rattle.capnp_floats.proofs.Naturals.{few_factors}
use Rattle.capnp_floats.proofs.Reaching.{not_reached}
use Rattle.capnp_floats.proofs.Rounding.{coarse_next, floor_rounded, ceiling_rounded, never_above, never_below}

pub count_small : (count one rest all : ℕ) → count * one + rest ≡ all → all < 10 * one → count < 10
count_small count one rest all e h = lt_of_mul-lt-mul_right one {m = count} {n = 10} (omega arith)

pub ten_more : (x t : ℕ) → x * 10 ^ t * 10 ≡ x * 10 ^ (t + 1)
ten_more x t = let p : x * 10 ^ (t + 1) ≡ x * (10 ^ t * 10) = ap (λ z. x * z) (pow-add 10 t 1) in omega arith

pub two_more : (x t : ℕ) → 2 ^ t ≤ x → 2 ^ (t + 1) ≤ x * 10
two_more x t h = let p : 2 ^ (t + 1) ≡ 2 ^ t * 2 = pow-add 2 t 1 in omega arith

-- what is known of an open state: what the next digit needs
pub record OpenFacts (s : Search) : Type 0 where
  pub below : s.below ≤ s.rest
  pub up : s.rest + s.above ≤ s.one
  pub less : s.rest < s.one
  pub positive : 0 < s.one
  pub digits : s.digits < 2 ^ 56
  pub tenths : s.tenths < 1152
  pub small : 100 * s.one < room

pub open_facts : (s : Search) → IsSearchOpen s → OpenFacts s
open_facts s o =
    let b : s.below ≤ s.rest = not_reached s.has_ends s.below s.rest o.not_down in
    let u : s.rest + s.above ≤ s.one = not_reached s.has_ends (s.rest + s.above) s.one o.not_up in
    let a : 0 < s.above = o.above in
    let l : s.rest < s.one = omega arith in
    let z : s.digits * s.one + s.rest ≤ s.below * 2 ^ 56 = o.size in
    let r : 100 * s.one < room = o.small in
    record {
      below = b;
      up = u;
      less = l;
      positive = omega arith;
      digits = lt_of_mul-lt-mul_right s.one {m = s.digits} {n = 2 ^ 56} (omega arith);
      tenths = few_factors s.tenths s.below o.many (omega arith);
      small = r;
    }

pub going_on : (s t : Search) → IsSearchOpen s → Advances s t → IsGoing t
going_on s t o v =
    let f : OpenFacts s = open_facts s o in
    let e1 : t.one ≡ s.one = v.one in
    let e2 : t.below ≡ s.below * 10 = v.below in
    let e3 : t.above ≡ s.above * 10 = v.above in
    let e4 : t.digits * t.one + t.rest ≡ (s.digits * s.one + s.rest) * 10 = v.value in
    let e5 : t.tenths ≡ s.tenths + 1 = v.tenths in
    let b : s.below ≤ s.rest = f.below in
    let u : s.rest + s.above ≤ s.one = f.up in
    let l : s.rest < s.one = f.less in
    record {
      less = v.less;
      below_wide = omega arith;
      above_wide = omega arith;
      coarse = λ n lies. coarse_next s.has_ends s.one s.digits s.rest s.below s.above (t.digits * t.one + t.rest) t.below t.above
          o.not_down o.not_up e4 e2 e3 n
          (subst (λ z. Lies (interval s.has_ends z (t.digits * t.one + t.rest) t.below t.above) (10 * n)) e1
          (subst (λ z. Lies (interval z t.one (t.digits * t.one + t.rest) t.below t.above) (10 * n)) v.ends lies));
      many = subst (λ z. 2 ^ z ≤ t.below) (sym e5) (subst (λ z. 2 ^ (s.tenths + 1) ≤ z) (sym e2) (two_more s.below s.tenths o.many));
      above = let a : 0 < s.above = o.above in omega arith;
      size = let z : s.digits * s.one + s.rest ≤ s.below * 2 ^ 56 = o.size in omega arith;
      small = let r : 100 * s.one < room = o.small in omega arith;
      digits = let d : s.digits < 2 ^ 56 = f.digits in let w : t.digits ≤ 10 * s.digits + 9 = v.digits in omega arith;
      few = let d : s.tenths < 1152 = f.tenths in omega arith;
    }

pub follows_first : (s t : Search) → s.digits ≡ 0 → s.tenths ≡ 0 → Advances s t → FollowsSearch s t
follows_first s t d n v =
    let p : 10 ^ t.tenths ≡ 10 = ap (λ z. 10 ^ z) (v.tenths ∙ ap (λ z. z + 1) n) in
    record {
      one = v.one;
      ends = v.ends;
      value = let e : t.digits * t.one + t.rest ≡ (s.digits * s.one + s.rest) * 10 = v.value in
          let w : s.digits * s.one ≡ 0 * s.one = ap (λ z. z * s.one) d in
          let q : s.rest * 10 ^ t.tenths ≡ s.rest * 10 = ap (λ z. s.rest * z) p in omega arith;
      below = v.below ∙ ap (λ z. s.below * z) (sym p);
      above = v.above ∙ ap (λ z. s.above * z) (sym p);
    }

pub follows_on : (o s t : Search) → FollowsSearch o s → Advances s t → FollowsSearch o t
follows_on o s t f v =
    let more : (x : ℕ) → x * 10 ^ s.tenths * 10 ≡ x * 10 ^ t.tenths = λ x. ten_more x s.tenths ∙ ap (λ z. x * 10 ^ z) (sym v.tenths) in
    record {
      one = v.one ∙ f.one;
      ends = v.ends ∙ f.ends;
      value = v.value ∙ ap (λ z. z * 10) f.value ∙ more o.rest;
      below = v.below ∙ ap (λ z. z * 10) f.below ∙ more o.below;
      above = v.above ∙ ap (λ z. z * 10) f.above ∙ more o.above;
    }

pub open_again : (s : Search) → IsGoing s → reaches s.has_ends s.below s.rest ≡ false → reaches s.has_ends (s.rest + s.above) s.one ≡ false → IsSearchOpen s
open_again s g d u = record { not_down = d; not_up = u; many = g.many; above = g.above; size = g.size; small = g.small }

-- below grows towards one
pub shrinks : (s t : Search) → IsSearchOpen s → Advances s t → t.one - t.below < s.one - s.below
shrinks s t o v =
    let f : OpenFacts s = open_facts s o in
    let e1 : t.one ≡ s.one = v.one in
    let e2 : t.below ≡ s.below * 10 = v.below in
    let b : s.below ≤ s.rest = f.below in
    let l : s.rest < s.one = f.less in
    let m : 2 ^ s.tenths ≤ s.below = o.many in
    let p : 0 < 2 ^ s.tenths = pow_pos s.tenths in
    omega arith

-- ---- the end

pub end_floor_alone : (s : Search) → IsGoing s → (reaches s.has_ends s.below s.rest ≡ true) ⊎ (reaches s.has_ends (s.rest + s.above) s.one ≡ true)
    → reaches s.has_ends (s.rest + s.above) s.one ≡ false → IsRounded (around s) s.digits
end_floor_alone s g done up = floor_rounded s.has_ends s.one s.digits s.rest s.below s.above g.less g.above
    (⊎_elim (λ x. x) (λ x. absurd (both_ways _ up x)) done) g.coarse
    (λ n l m. let k : n ≤ s.digits = never_above s.has_ends s.one s.digits s.rest s.below s.above n up l in absurd (omega arith))

pub end_floor_nearer : (s : Search) → IsGoing s → reaches s.has_ends s.below s.rest ≡ true → s.rest + s.rest < s.one → IsRounded (around s) s.digits
end_floor_nearer s g down h = floor_rounded s.has_ends s.one s.digits s.rest s.below s.above g.less g.above down g.coarse (λ n l m. inl h)

pub end_floor_even : (s : Search) → IsGoing s → reaches s.has_ends s.below s.rest ≡ true → s.rest + s.rest ≡ s.one → s.digits % 2 ≡ 0 → IsRounded (around s) s.digits
end_floor_even s g down h e = floor_rounded s.has_ends s.one s.digits s.rest s.below s.above g.less g.above down g.coarse (λ n l m. inr (h, e))

below_positive : (s : Search) → IsGoing s → 0 < s.below
below_positive s g = let m : 2 ^ s.tenths ≤ s.below = g.many in let p : 0 < 2 ^ s.tenths = pow_pos s.tenths in omega arith

pub end_ceiling_alone : (s : Search) → IsGoing s → reaches s.has_ends s.below s.rest ≡ false
    → reaches s.has_ends (s.rest + s.above) s.one ≡ true → IsRounded (around s) (s.digits + 1)
end_ceiling_alone s g down up = ceiling_rounded s.has_ends s.one s.digits s.rest s.below s.above g.less (below_positive s g) up g.coarse
    (λ n l m. let k : s.digits < n = never_below s.has_ends s.one s.digits s.rest s.below s.above n down l in absurd (omega arith))

pub end_ceiling_nearer : (s : Search) → IsGoing s → reaches s.has_ends (s.rest + s.above) s.one ≡ true → s.one < s.rest + s.rest → IsRounded (around s) (s.digits + 1)
end_ceiling_nearer s g up h = ceiling_rounded s.has_ends s.one s.digits s.rest s.below s.above g.less (below_positive s g) up g.coarse (λ n l m. inl h)

pub end_ceiling_odd : (s : Search) → IsGoing s → reaches s.has_ends (s.rest + s.above) s.one ≡ true → s.rest + s.rest ≡ s.one → (s.digits + 1) % 2 ≡ 0 → IsRounded (around s) (s.digits + 1)
end_ceiling_odd s g up h e = ceiling_rounded s.has_ends s.one s.digits s.rest s.below s.above g.less (below_positive s g) up g.coarse (λ n l m. inr (h, e))
