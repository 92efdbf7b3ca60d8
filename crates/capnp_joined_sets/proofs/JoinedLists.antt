-- Lists that make up a set, and those of two sets, one behind the other, where the second have moved.
use Rattle.std.proofs.Common.{◌≡◌, ◌++◌, List, map, ap, ap₂, ◌∙◌}
use Rattle.capnp_schema.specs.Schema.{Brand, Enum, Node, Schemas, seen_brand, seen_enum, seen_node, seen_schemas}
use Rattle.capnp_schema.specs.declared.record.BrandRecord.{BrandRecord}
use Rattle.capnp_schema.specs.declared.record.EnumRecord.{EnumRecord}
use Rattle.capnp_schema.specs.declared.record.NodeRecord.{NodeRecord}
use Rattle.capnp_joined_sets.specs.declared.moves.Moves.{Moves}
use Rattle.capnp_joined_sets.specs.Joined.{ends_of, joined, moved_brand, moved_enum, moved_node}

pub seen_as : (set : Schemas) (ns : List NodeRecord) (bs : List BrandRecord) (es : List EnumRecord) → map seen_node ns ≡ set.nodes → map seen_brand bs ≡ set.brands → map seen_enum es ≡ set.enums → seen_schemas ns bs es ≡ set
seen_as set ns bs es nodes brands enums =
    let lists : List Node → List Brand → List Enum → Schemas = λ xs ys zs. record { nodes = xs; brands = ys; enums = zs } in
    ap (λ xs. lists xs (map seen_brand bs) (map seen_enum es)) nodes ∙ ap₂ (λ ys zs. lists set.nodes ys zs) brands enums

pub nodes_behind : (older newer f s : Schemas) (by : Moves) → f ≡ older → s ≡ newer → by ≡ ends_of older → f.nodes ++ map (moved_node by) s.nodes ≡ (joined older newer).nodes
nodes_behind older newer f s by first second ends =
    ap₂ (λ (x y : Schemas). x.nodes ++ map (moved_node by) y.nodes) first second ∙ ap (λ to. older.nodes ++ map (moved_node to) newer.nodes) ends

pub brands_behind : (older newer f s : Schemas) (by : Moves) → f ≡ older → s ≡ newer → by ≡ ends_of older → f.brands ++ map (moved_brand by) s.brands ≡ (joined older newer).brands
brands_behind older newer f s by first second ends =
    ap₂ (λ (x y : Schemas). x.brands ++ map (moved_brand by) y.brands) first second ∙ ap (λ to. older.brands ++ map (moved_brand to) newer.brands) ends

pub enums_behind : (older newer f s : Schemas) (by : Moves) → f ≡ older → s ≡ newer → by ≡ ends_of older → f.enums ++ map (moved_enum by) s.enums ≡ (joined older newer).enums
enums_behind older newer f s by first second ends =
    ap₂ (λ (x y : Schemas). x.enums ++ map (moved_enum by) y.enums) first second ∙ ap (λ to. older.enums ++ map (moved_enum to) newer.enums) ends
