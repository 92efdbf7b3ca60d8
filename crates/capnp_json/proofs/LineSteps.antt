-- Lines, and known bytes behind others.
use Rattle.std.proofs.Common.{ℕ, suc, ◌+◌, ◌*◌, ◌≡◌, List, [], ◌∷◌, ◌++◌, IfErr, OnOk, Result, Some, ap, arith, replicate, sym, subst, ◌∙◌, None}
use Rattle.capnp_records.specs.Text.{Layout, deeper, line}
use Rattle.capnp_json.specs.Pieces.{said}
use Rattle.capnp_json.specs.Steps.Puts.{Gives, IsPut, IsStopped, Leads}
use Rattle.capnp_json.specs.declared.error.JsonError.{JsonError}
use Rattle.capnp_json.specs.declared.output.Output.{Output}
use Rattle.capnp_json.proofs.Puts.{last_put, last_stopped, nothing_put, then_bytes, two_first}

pub deeper_is : (n : ℕ) → Some (n + 1) ≡ deeper (Some n)
deeper_is n = ap Some (omega arith)

abbrev pub spaces : ℕ → List ℕ
spaces m = replicate m 32

-- so many spaces are left
more_left : (n k : ℕ) → spaces (2 * (n + 1)) ≡ 32 ∷ 32 ∷ spaces (2 * n)
more_left n k =
    let e : 2 * (n + 1) ≡ suc (suc (2 * n)) = omega arith in
    ap spaces e

pub two_left : (now mid : Output) (left fewer : ℕ) → left ≡ fewer + 1 → IsPut now (said (32 ∷ 32 ∷ [])) mid → Leads now (said (spaces (2 * left))) mid (said (spaces (2 * fewer)))
two_left now mid left fewer e h r k =
    subst (λ (z : List ℕ). Gives now (said z) r) (sym (ap (λ (n : ℕ). spaces (2 * n)) e ∙ more_left fewer 0)) (then_bytes now mid (32 ∷ 32 ∷ []) (spaces (2 * fewer)) h r k)

pub two_stopped : (now : Output) (left fewer : ℕ) (why : JsonError) → left ≡ fewer + 1 → IsStopped now (said (32 ∷ 32 ∷ [])) why → IsStopped now (said (spaces (2 * left))) why
two_stopped now left fewer why e h =
    subst (λ (z : List ℕ). IsStopped now (said z) why) (sym (ap (λ (n : ℕ). spaces (2 * n)) e ∙ more_left fewer 0)) (two_first now (32 ∷ 32 ∷ []) (spaces (2 * fewer)) why h)

pub none_left : (now : Output) (left : ℕ) → left ≡ 0 → IsPut now (said (spaces (2 * left))) now
none_left now left e = subst (λ (n : ℕ). IsPut now (said (spaces (2 * n))) now) (sym e) (nothing_put now)

-- bytes behind others
module _ {T : Type 0} (old mid new : Output) (x y : List ℕ) (r : Result T JsonError) (h : IsPut old (said x) mid) where
  pub behind_put : OnOk r (IsPut mid (said y) new) → OnOk r (IsPut old (said (x ++ y)) new)
  behind_put k = last_put old mid new (said (x ++ y)) (said y) (then_bytes old mid x y h) r k

  pub behind_stopped : IfErr r (IsStopped mid (said y)) → IfErr r (IsStopped old (said (x ++ y)))
  behind_stopped k = last_stopped old mid new (said (x ++ y)) (said y) (then_bytes old mid x y h) r k

-- on one line there are no breaks
pub no_line : (at : Layout) (out : Output) → at ≡ None → IsPut out (said (line at)) out
no_line at out e = subst (λ (z : Layout). IsPut out (said (line z)) out) (sym e) (nothing_put out)
