-- What the rules of a head give, those of the identity included.
use Rattle.std.proofs.Common.{ℕ, zero, suc, ◌+◌, ◌≡◌, ◌<◌, List, get_or, length, refl, sym, subst, arith, ◌⊎◌, inl, inr}
use Rattle.model_tree.specs.Tree.{Tree, node, Trees, no_trees, tree}
use Rattle.model_sta.specs.Sets.{width, Fits, FitsAll}
use Rattle.model_sttr.specs.Terms.{Uses, IsInstance}
use Rattle.model_sttr.specs.Transducer.{Head, identity, run, OutRule, Sttr, Gives, GivesAt, SttrFits, AllLinear, IsFunctionalOn}
use Rattle.model_sttr.proofs.Heads.{one_head}
use Rattle.sttr_theory.specs.Built.{copying, IsRuleOf}
use Rattle.sttr_theory.proofs.Accept.{Fires, wants, AccEach, acc_none, applies_out, applies_in}
use Rattle.sttr_theory.proofs.Runs.{copy, OneEach}
use Rattle.sttr_theory.proofs.Complete.{copy_in, copy_out}
use Rattle.sttr_theory.proofs.Kept.{kept_used}

module _ {L : Type 0} (ranks : List ℕ) (D : L → Type 0) (S T : Sttr L) where
  module _ (c : ℕ) (l : L) (ts : Trees L) (u : Tree L) where
    -- what a rule does at a node
    abbrev pub Does : OutRule L → Type 0
    Does ρ = Fires ρ.rule c l × AccEach S.looks (wants ρ.rule) ts × IsInstance (λ h j v. GivesAt S h j ts v) l ρ.term u

    pub rule_out : (h : Head) → c < length ranks → width ts ≡ get_or ranks c 0 → Gives S h (node c l ts) u → (ρ : OutRule L) × IsRuleOf ranks D S T h ρ × Does ρ
    rule_out identity lt e x = (
      copying c (get_or ranks c 0),
      (c, lt, refl),
      ((refl, refl), acc_none S.looks ts, subst (λ n. IsInstance (λ h j v. GivesAt S h j ts v) l (copy c n) u) e (copy_in S (λ h j v. GivesAt S h j ts v) l c ts u (λ j v g. g) x)),
    )
    rule_out (run q) lt e x =
        let (ρ, here, applies, i) = x in
        let (fires, kids) = applies_out S.looks c l ts ρ.rule applies in
        (ρ, here, (fires, kids, i))

    copied : (c' : ℕ) → width ts ≡ get_or ranks c 0 → Does (copying c' (get_or ranks c' 0)) → node c l ts ≡ u
    copied c' e d =
        let i : IsInstance (λ h j v. GivesAt S h j ts v) l (copy c (get_or ranks c 0)) u = subst (λ x. IsInstance (λ h j v. GivesAt S h j ts v) l (copy x (get_or ranks x 0)) u) d.0.0 d.2 in
        copy_out S (λ h j v. GivesAt S h j ts v) l c ts u (λ j v g. g) (subst (λ n. IsInstance (λ h j v. GivesAt S h j ts v) l (copy c n) u) (sym e) i)

    pub rule_in : (h : Head) → width ts ≡ get_or ranks c 0 → (ρ : OutRule L) → IsRuleOf ranks D S T h ρ → Does ρ → Gives S h (node c l ts) u
    rule_in identity e ρ is d = let (c', lt, eq) = is in copied c' e (subst Does eq d)
    rule_in (run q) e ρ here d = (ρ, here, applies_in S.looks c l ts ρ.rule d.0 d.1, d.2)

  -- a rule uses only children that there are
  pub rule_range : SttrFits S ranks → (h : Head) (ρ : OutRule L) → IsRuleOf ranks D S T h ρ → (j : ℕ) → Uses j ρ.term → j < get_or ranks ρ.rule.constructor 0
  rule_range ok identity ρ is j u =
      let (c, lt, eq) = is in
      let below : j < 0 + get_or ranks c 0 = (kept_used (L → L) 0 (get_or ranks c 0) j (subst (λ r. Uses j r.term) eq u)).1 in
      subst (λ r. j < get_or ranks r.rule.constructor 0) (sym eq) (omega (arith, below))
  rule_range ok (run q) ρ here j u = (ok.rules q ρ here).children j u

  module _ (f : IsFunctionalOn S (Fits ranks D)) where
    pub one_each : (ts : Trees L) → FitsAll ranks D ts → OneEach (λ h j v. GivesAt S h j ts v)
    one_each no_trees ty h j u v a b = absurd a
    one_each (tree t ts) ty h zero u v a b = one_head S (Fits ranks D) f h t u v ty.0 a b
    one_each (tree t ts) ty h (suc j) u v a b = one_each ts ty.1 h j u v a b

  pub plan : (ts : Trees L) → FitsAll ranks D ts → IsFunctionalOn S (Fits ranks D) ⊎ AllLinear T → OneEach (λ h j v. GivesAt S h j ts v) ⊎ AllLinear T
  plan ts ty (inl f) = inl (one_each f ts ty)
  plan ts ty (inr f) = inr f
