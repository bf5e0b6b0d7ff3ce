-- That runs end: how much there is of a term, and of the second's terms.
use Rattle.std.proofs.Common.{ℕ, zero, suc, ◌+◌, ◌*◌, ◌≤◌, ◌≡◌, List, [], ◌∷◌, Contains, inl, inr, refl, subst, ap, ◌∙◌, arith}
use Rattle.model_sttr.specs.Plain.{PlainOut}
use Rattle.model_sttr.specs.Terms.{Term}
use Rattle.model_sttr.specs.Transducer.{Head}
use Rattle.sta_core.specs.Machine.{PlainRule}
use Rattle.sttr_core.specs.Machine.{OutMachine}
use Rattle.sttr_run.specs.Found.{IsTermOf, MayRun}
use Rattle.sttr_run.proofs.Members.{nil_out, cons_out}
use Rattle.sttr_run.proofs.Weights.{weight}

module _ {A M : Type 0} where
  abbrev rules_weight : List (PlainOut (PlainRule A) M) → ℕ
  rules_weight [] = 0
  rules_weight (r ∷ rs) = weight r.term + rules_weight rs

  abbrev all_weight : List (List (PlainOut (PlainRule A) M)) → ℕ
  all_weight [] = 0
  all_weight (rs ∷ rss) = rules_weight rs + all_weight rss

  in_rules : (rs : List (PlainOut (PlainRule A) M)) (r : PlainOut (PlainRule A) M) → Contains rs r → weight r.term ≤ rules_weight rs
  in_rules [] r at = absurd (nil_out r at)
  in_rules (q ∷ rs) r at = elim (cons_out q rs r at) [ inl e ↦ (let s = ap (λ x. weight x.term) e in omega (arith, s)) | inr later ↦ (let h = in_rules rs r later in omega (arith, h)) ]

  in_all : (rss : List (List (PlainOut (PlainRule A) M))) (rs : List (PlainOut (PlainRule A) M)) → Contains rss rs → rules_weight rs ≤ all_weight rss
  in_all [] rs at = absurd (nil_out rs at)
  in_all (qs ∷ rss) rs at = elim (cons_out qs rss rs at) [ inl e ↦ (let s = ap rules_weight e in omega (arith, s)) | inr later ↦ (let h = in_all rss rs later in omega (arith, h)) ]

  -- more than each term of the second
  pub total : OutMachine A M → ℕ
  total d = all_weight d.rules

  pub term_light : (d : OutMachine A M) (t : Term Head M) → IsTermOf d t → weight t ≤ total d
  unfolding total
  term_light d t (those, in_d, r, in_those, e) = let a = in_all d.rules those in_d in let b = in_rules those r in_those in let s = ap weight e in omega (arith, a, b, s)

  pub may_run : (d : OutMachine A M) (t : Term Head M) → IsTermOf d t → MayRun d t
  may_run d t (those, in_d, r, in_those, e) = subst (MayRun d) e (record { maps = λ n by. (those, in_d, r, in_those, by); same = λ j o. (those, in_d, r, in_those, j, o) })

  -- so much of the term, each with room for all terms of the second
  pub scaled : OutMachine A M → ℕ → ℕ
  scaled d zero = 0
  scaled d (suc n) = scaled d n + (2 * total d + 6)

  pub scaled_suc : (d : OutMachine A M) (n : ℕ) → scaled d (suc n) ≡ scaled d n + (2 * total d + 6)
  unfolding scaled
  scaled_suc d n = refl

  pub scaled_le : (d : OutMachine A M) (m n : ℕ) → m ≤ n → scaled d m ≤ scaled d n
  unfolding scaled
  scaled_le d zero n h = omega arith
  scaled_le d (suc m) zero h = absurd (omega (arith, h))
  scaled_le d (suc m) (suc n) h = let s = scaled_le d m n (omega (arith, h)) in omega (arith, s)

  -- a node has more than its parts
  pub scaled_node : (d : OutMachine A M) (n m : ℕ) → n ≡ suc m → scaled d n ≡ scaled d m + (2 * total d + 6)
  scaled_node d n m e = ap (scaled d) e ∙ scaled_suc d m
