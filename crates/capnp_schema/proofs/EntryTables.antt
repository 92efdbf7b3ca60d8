-- Tables, one for each entry of a list, one after another.
use Rattle.std.proofs.Common.{ℕ, zero, suc, ◌≡◌, ◌+◌, ◌<◌, ◌≤◌, ⊎_elim, List, [], ◌∷◌, ◌++◌, Option, Vec, arith, ap, length, refl, sym, ◌∙◌, subst}
use Rattle.std.specs.declared.alloc.Global.{Global}
use Rattle.std.proofs.lemmas.Bool.{cases_lt}
use Rattle.std.proofs.lemmas.List.{length_push}
use Rattle.std.proofs.lemmas.Option.{slice_get_past}
use Rattle.std.specs.Option.{unwrap_or}
use Rattle.capnp_schema.specs.Schema.{Schemas, Node, no_node, node_at}
use Rattle.capnp_schema.specs.Tables.{table_at}

pub table_past : {A : Type 0} (tables : List (Vec A Global)) (n : ℕ) → length tables ≤ n → table_at tables n ≡ []
table_past [] n h = refl
table_past (t ∷ tables) zero h = absurd (omega arith)
table_past (t ∷ tables) (suc n) h = table_past tables n (omega arith)

table_before : {A : Type 0} (tables : List (Vec A Global)) (new : Vec A Global) (n : ℕ) → n < length tables → table_at (tables ++ new ∷ []) n ≡ table_at tables n
table_before [] new n h = absurd (omega arith)
table_before (t ∷ tables) new zero h = refl
table_before (t ∷ tables) new (suc n) h = table_before tables new n (omega arith)

table_here : {A : Type 0} (tables : List (Vec A Global)) (new : Vec A Global) → table_at (tables ++ new ∷ []) (length tables) ≡ new.items
table_here [] new = refl
table_here (t ∷ tables) new = table_here tables new

-- P of each of the first n tables, of which there are so many
pub record EachTable {A : Type 0} (P : ℕ → List A → Type 0) (tables : List (Vec A Global)) (n : ℕ) : Type 0 where
  pub counted : length tables ≡ n
  pub each : (k : ℕ) → k < n → P k (table_at tables k)

module _ {A : Type 0} (P : ℕ → List A → Type 0) where
  pub one_table : (tables : List (Vec A Global)) (n : ℕ) (new : Vec A Global) → EachTable P tables n → P n new.items → EachTable P (tables ++ new ∷ []) (n + 1)
  one_table tables n new before here = record {
    counted = length_push tables new ∙ ap (λ (k : ℕ). k + 1) before.counted;
    each = λ k h. ⊎_elim
        (λ less. subst (P k) (sym (table_before tables new k (let c = before.counted in omega arith))) (before.each k less))
        (λ le. let same : n ≡ k = omega arith in subst (λ (j : ℕ). P j (table_at (tables ++ new ∷ []) j)) same (subst (P n) (sym (ap (table_at (tables ++ new ∷ [])) (sym before.counted) ∙ table_here tables new)) here))
        (cases_lt k n);
  }

  -- past the last table stands nothing
  pub all_tables : (tables : List (Vec A Global)) (n : ℕ) → EachTable P tables n → ((k : ℕ) → n ≤ k → P k []) → (k : ℕ) → P k (table_at tables k)
  all_tables tables n each past k = ⊎_elim (λ less. each.each k less) (λ le. subst (P k) (sym (table_past tables k (let c = each.counted in omega arith))) (past k le)) (cases_lt k n)

pub node_past : (set : Schemas) (n : ℕ) → length set.nodes ≤ n → node_at set n ≡ no_node
node_past set n h = ap (λ (o : Option Node). unwrap_or o no_node) (slice_get_past set.nodes n h)

-- tables of all nodes, where an empty table is that of what stands past the last
pub all_node_tables : {A : Type 0} (set : Schemas) (P : Node → List A → Type 0) (tables : List (Vec A Global)) (n : ℕ) → EachTable (λ k. P (node_at set k)) tables n → length set.nodes ≤ n → P no_node [] → (k : ℕ) → P (node_at set k) (table_at tables k)
all_node_tables set P tables n each end none = all_tables (λ k. P (node_at set k)) tables n each (λ k h. subst (λ (x : Node). P x []) (sym (node_past set k (omega arith))) none)
