-- What the steps so far made, one step later, and where that is too much.
use Rattle.std.proofs.Common.{ℕ, suc, ◌+◌, ◌<◌, ◌≡◌, ◌∙◌, ◌⊎◌, inl, inr, arith, ap, refl, sym, Bool, true, false, List, Result, Ok, Err}
use Rattle.capnp_device.specs.declared.error.ErrorKind.{ErrorKind}
use Rattle.capnp_device.specs.declared.error.ErrorKind.TheVariants.{TooLarge}
use Rattle.capnp_request.specs.Order.{Made, make_all, nothing_made}
use Rattle.capnp_request.specs.Steps.ProgressSeen.{work_rest}
use Rattle.capnp_request.specs.Steps.Sizes.{IsLargeWork, IsStepLarge}
use Rattle.capnp_request.specs.Terms.{SchemaNode}
use Rattle.capnp_request.specs.Within.{made_in, make_step}
use Rattle.capnp_request.specs.Work.{Named, Work}
use Rattle.capnp_request.specs.declared.conversion.Progress.{Progress}
use Rattle.capnp_request.proofs.ProgressMade.{steps_refused}

rest_none : (more : Bool) (m : Made) (s : Named) (again : Made → Work Made) → ((n : Made) (t : Named) → again n t ≡ Ok (n, t)) → work_rest more again m s ≡ Ok (m, s)
rest_none true m s again h = h m s
rest_none false m s again h = refl

pub so_begun : (nodes : List SchemaNode) (strict : Bool) (m : Made) (s : Named) → m ≡ nothing_made → (k : ℕ) → made_in nodes strict (k + 0) nothing_made s ≡ made_in nodes strict k m s
so_begun nodes strict m s e k = let same : k + 0 ≡ k = omega arith in ap (λ n. made_in nodes strict n nothing_made s) same ∙ ap (λ x. made_in nodes strict k x s) (sym e)

module _ (nodes : List SchemaNode) (strict : Bool) (start : Named) (taken : ℕ) (m : Made) (s : Named) (so_far : (k : ℕ) → made_in nodes strict (k + taken) nothing_made start ≡ made_in nodes strict k m s) where
  one_more : (k : ℕ) → made_in nodes strict (k + (taken + 1)) nothing_made start ≡ make_step nodes strict (made_in nodes strict k) m s
  one_more k = let same : k + (taken + 1) ≡ suc k + taken = omega arith in ap (λ n. made_in nodes strict n nothing_made start) same ∙ so_far (suc k)

  pub so_more : (more : Bool) (new : Made) (t : Named) → ((again : Made → Work Made) → make_step nodes strict again m s ≡ work_rest more again new t) → more ≡ true →
      (k : ℕ) → made_in nodes strict (k + (taken + 1)) nothing_made start ≡ made_in nodes strict k new t
  so_more more new t next e k = one_more k ∙ (next (made_in nodes strict k) ∙ ap (λ q. work_rest q (made_in nodes strict k) new t) e)

  so_large : (limit left bytes : ℕ) → left + bytes ≡ limit → (new : Progress) (t : Named) → IsStepLarge nodes strict m s left bytes new t → IsLargeWork limit nodes strict start
  so_large limit left bytes all new t large = record {
    steps = 0 + (taken + 1);
    made = _;
    after = t;
    begun = one_more 0 ∙ (large.1.1.0 (made_in nodes strict 0) ∙ rest_none large.0 _ t (made_in nodes strict 0) (λ n u. refl));
    large = omega (arith, all, large.1.1.1);
  }

-- why a step isn't made, and so not all
pub all_refused : (nodes : List SchemaNode) (strict : Bool) (steps : ℕ) (m : Made) (s : Named) (whole : Result (Made × Named) ErrorKind) → make_all nodes strict steps m s ≡ whole → 0 < steps →
    (start : Named) (taken : ℕ) → ((k : ℕ) → made_in nodes strict (k + taken) nothing_made start ≡ made_in nodes strict k m s) →
    (limit left bytes : ℕ) → left + bytes ≡ limit → (new : Progress) (t : Named) (kind : ErrorKind) →
    ((again : Made → Work Made) → make_step nodes strict again m s ≡ Err kind) ⊎ ((kind ≡ TooLarge) × IsStepLarge nodes strict m s left bytes new t) →
    (whole ≡ Err kind) ⊎ ((kind ≡ TooLarge) × IsLargeWork limit nodes strict start)
all_refused nodes strict steps m s whole rest some start taken so_far limit left bytes all new t kind (inl h) = inl (steps_refused nodes strict steps m s whole rest some kind h)
all_refused nodes strict steps m s whole rest some start taken so_far limit left bytes all new t kind (inr (k, large)) = inr (k, so_large nodes strict start taken m s so_far limit left bytes all new t large)
