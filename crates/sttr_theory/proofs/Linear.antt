-- One use of each child.
use Rattle.std.proofs.Common.{ℕ, ◌≡◌, ◌⊎◌, ◌<◌, List, length, Contains, sym, subst, ◌∙◌, inl, inr}
use Rattle.model_sta.specs.Operations.{Auto}
use Rattle.model_sttr.specs.Terms.{IsLinear}
use Rattle.model_sttr.specs.Transducer.{OutRule, Trans, out_rules, AllLinear}
use Rattle.model_sttr.specs.Operations.{asking}
use Rattle.model_sttr.proofs.Stands.{stands_linear}
use Rattle.model_sttr.proofs.Heads.{in_range}
use Rattle.sttr_theory.specs.Triples.{Triple, LookName}
use Rattle.sttr_theory.specs.Results.{IsOldHead, IsBuiltOutRestriction, IsBuiltComposition, IsBuiltRestriction}
use Rattle.sttr_theory.proofs.Places.{last_or_before}
use Rattle.sttr_theory.proofs.Built.{built_linear}
use Rattle.sttr_theory.proofs.Records.{asking_linear}

module _ {L : Type 0} (ranks : List ℕ) (D : L → Type 0) (f : Trans L) where
  module _ (a : Auto L) (looks : List LookName) (c : Trans L) (b : IsBuiltRestriction ranks D f a looks c) where
    restricted_linear : AllLinear f.sttr → (q : ℕ) → (q ≡ length f.sttr.rules) ⊎ (q < length f.sttr.rules) → (r : OutRule L) → Contains (out_rules c.sttr q) r → IsLinear r.term
    restricted_linear lin q (inl e) r here =
        let (ρ, mine, σ, its, same, (made, stands)) = b.only r (subst (λ n. Contains (out_rules c.sttr n) r) (e ∙ sym b.start) here) in
        stands_linear (IsOldHead f.sttr) D r.term ρ.term stands (lin f.start ρ mine)
    restricted_linear lin q (inr lt) r here = let (ρ, mine, (made, stands)) = (b.old q lt).0 r here in stands_linear (IsOldHead f.sttr) D r.term ρ.term stands (lin q ρ mine)

    pub restriction_linear : AllLinear f.sttr → AllLinear c.sttr
    restriction_linear lin q r here = restricted_linear lin q (last_or_before (length f.sttr.rules) q (subst (λ n. q < n) b.as_many (in_range c.sttr.rules q r here))) r here

  pub composition_linear : (g : Trans L) (looks : List LookName) (names : List Triple) (c : Trans L) → IsBuiltComposition ranks D f g looks names c → AllLinear f.sttr → AllLinear g.sttr → AllLinear c.sttr
  composition_linear g looks names c b lS lT = built_linear ranks D f.sttr g.sttr looks names c.sttr b.built lS lT

  pub out_restriction_linear : (a : Auto L) (looks : List LookName) (names : List Triple) (c : Trans L) → IsBuiltOutRestriction ranks D f a looks names c → AllLinear f.sttr → AllLinear c.sttr
  out_restriction_linear a looks names c b lS = built_linear ranks D f.sttr (asking a.rules) looks names c.sttr b.built lS (asking_linear ranks D a.rules)
