-- No list is left of both types, or one more is gone through.
use Rattle.std.proofs.Common.{arith, rules, ◌≡◌}
use Rattle.capnp_base.specs.Types.{variant_kind}
use Rattle.capnp_schema.specs.Entries.{lists_seen}
use Rattle.capnp_schema.specs.Types.{seen_type}
use Rattle.capnp_differences.specs.Notes.{more_levels}
use Rattle.capnp_differences.proofs.InsideLists.{enums_end, enums_on, levels_end, levels_on, one_less}
use Rattle.capnp_differences.proofs.lists.through_lists.Goals as goal

pub returns-in_default : goal.returns-in_default
returns-in_default c =
    let out : variant_kind c.which-s.result ≡ 15 → variant_kind c.which-t.result ≡ 15 → ⊥ = search rules in
    let set = lists_seen c.args.schemas.now in
    record {
      enums = enums_end set c.loop-x.one c.loop-x.other c.which-s.result c.which-t.result c.which-s.ensures c.which-t.ensures _ c.loop-x.invariant.0;
      levels = levels_end set c.loop-x.one c.loop-x.other c.which-s.result c.which-t.result c.which-s.ensures c.which-t.ensures c.loop-x.levels
          (more_levels set (seen_type c.args.older) (seen_type c.args.newer)) c.loop-x.invariant.1.0 out;
      all = out;
    }

pub loop-x-preserved : goal.loop-x-preserved
loop-x-preserved c =
    let set = lists_seen c.args.schemas.now in
    let less = one_less c.loop-x.one c.in-List.x c.in-List.ensures in (
      enums_on set c.loop-x.one c.loop-x.other c.in-List.x c.in-List-t.y c.type_in_place-other.result c.in-List.ensures c.in-List-t.ensures c.type_in_place-other.ensures _ c.loop-x.invariant.0,
      (
        levels_on set c.loop-x.one c.loop-x.other c.in-List.x c.in-List-t.y c.type_in_place-other.result c.in-List.ensures c.in-List-t.ensures c.type_in_place-other.ensures c.loop-x.levels c.level_asked-levels.result
            (more_levels set (seen_type c.args.older) (seen_type c.args.newer)) c.level_asked-levels.ensures.level c.loop-x.invariant.1.0,
        omega (arith, less, c.level_asked-levels.ensures.few, c.loop-x.invariant.1.1),
      ),
    )
