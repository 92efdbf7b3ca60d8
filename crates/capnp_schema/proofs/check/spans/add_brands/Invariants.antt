use Rattle.std.proofs.Common.{ℕ, suc, ◌≡◌, ◌||◌, drop}
use Rattle.capnp_schema.specs.Entries.{lists_seen}
use Rattle.capnp_schema.specs.Footprint.{Spot}
use Rattle.capnp_schema.specs.Steps.Checking.Spans.{reached_spot, some_brand}
use Rattle.capnp_schema.proofs.check.spans.add_brands.Given as goal

-- what is reached so far, and by the brands that are left
abbrev pub invariant-loop-i : goal.invariant-loop-i
invariant-loop-i l = (groups : ℕ) (p : Spot) →
    (reached_spot groups (lists_seen l.lists) l.out.items l.below.items p || some_brand (suc groups) (lists_seen l.lists) (drop l.i l.brands) p)
    ≡ reached_spot (suc groups) (lists_seen l.lists) l.initial.out.items l.brands p
