-- The rules of a transducer over labels, by those that are held.
use Rattle.std.proofs.Common.{◌≡◌, inl, inr, ℕ, zero, suc, ◌<◌, Bool, List, [], ◌∷◌, refl, map, length, get_or, All, subst, arith}
use Rattle.std.specs.List.{Contains}
use Rattle.std.proofs.Math.ListN.{get_or-map}
use Rattle.std.proofs.lemmas.List.Elements.{All-tail}
use Rattle.model_tree.specs.Label.{Label}
use Rattle.model_sttr.specs.Terms.{Term, on, build, Parts, no_parts, part, with_maps, parts_with_maps, Uses, UsesIn, IsLinear, AreLinear}
use Rattle.model_sttr.specs.Transducer.{OutRule, out_rules, AllLinear}
use Rattle.model_sttr.specs.Plain.{PlainOut, out_meaning}
use Rattle.sta_core.specs.Machine.{PlainRule}
use Rattle.sta_core.specs.Sta.{rule_meaning}
use Rattle.sttr_core.specs.Machine.{OutMachine, transducer_of}
use Rattle.sttr_core.specs.Linear as held

module _ {H M N : Type 0} (f : M → N) (j : ℕ) where
  mutual
    pub uses_as_with_maps : (p : Term H M) → Uses j (with_maps f p) → Uses j p
    uses_as_with_maps (on h i) u = u
    uses_as_with_maps (build c m ps) u = used_in ps u

    pub used_in : (ps : Parts H M) → UsesIn j (parts_with_maps f ps) → UsesIn j ps
    used_in no_parts u = u
    used_in (part p ps) (inl u) = inl (uses_as_with_maps p u)
    used_in (part p ps) (inr u) = inr (used_in ps u)

module _ {H M N : Type 0} (f : M → N) where
  mutual
    -- maps do not count
    pub linear_with_maps : (p : Term H M) → IsLinear p → IsLinear (with_maps f p)
    linear_with_maps (on h i) lin = tt
    linear_with_maps (build c m ps) lin = are_linear ps lin

    pub are_linear : (ps : Parts H M) → AreLinear ps → AreLinear (parts_with_maps f ps)
    are_linear no_parts lin = tt
    are_linear (part p ps) lin = (linear_with_maps p lin.0, are_linear ps lin.1, λ j u v. lin.2 j (uses_as_with_maps f j p u) (used_in f j ps v))

-- an element of what a list is mapped to is what an element is mapped to
pub mapped_from : {X Y : Type 0} (f : X → Y) (xs : List X) (k : ℕ) (y : Y) → k < length (map f xs) → get_or (map f xs) k y ≡ y → (x : X) × Contains xs x × (f x ≡ y)
mapped_from f [] k y low is = absurd (omega arith)
mapped_from f (x ∷ xs) zero y low is = (x, (zero, omega arith, refl), is)
mapped_from f (x ∷ xs) (suc k) y low is =
    let z = mapped_from f xs k y (omega arith) is in
    (z.0, (suc z.1.0, omega (arith, z.1.1), z.1.2), z.2)

-- what holds of each element of each list holds of each element of the list at a place
pub of_place : {X : Type 0} (P : X → Type 0) (xss : List (List X)) (q : ℕ) (x : X) → All (λ xs. All P xs) xss → Contains (get_or xss q []) x → P x
of_place P [] q x all (k, low, is) = absurd (omega arith)
of_place P (xs ∷ xss) zero x all (k, low, is) = subst P is (all zero xs (omega arith) k x low)
of_place P (xs ∷ xss) (suc q) x all at = of_place P xss q x (All-tail (λ ys. All P ys) xs xss all) at

module _ {A M : Type 0} (holds : A → Label → Bool) (make : M → Label → Label) where
  abbrev pub meaning_of : PlainOut (PlainRule A) M → OutRule Label
  meaning_of r = out_meaning (rule_meaning holds) make r

  pub rules_meant : (d : OutMachine A M) (q : ℕ) → out_rules (transducer_of holds make d) q ≡ map meaning_of (get_or d.rules q [])
  rules_meant d q = get_or-map (map meaning_of) d.rules q []

  -- each rule over labels is one that is held
  pub rule_held : (d : OutMachine A M) (q : ℕ) (r : OutRule Label) → Contains (out_rules (transducer_of holds make d) q) r → (x : PlainOut (PlainRule A) M) × Contains (get_or d.rules q []) x × (meaning_of x ≡ r)
  rule_held d q r (k, low, is) =
      let e = rules_meant d q in
      mapped_from meaning_of (get_or d.rules q []) k r (subst (λ rs. k < length rs) e low) (subst (λ rs. get_or rs k r ≡ r) e is)

  -- where no rule that is held uses a child twice, none over labels does
  pub linear_meant : (d : OutMachine A M) → held.AreLinear d → AllLinear (transducer_of holds make d)
  linear_meant d lin q r at =
      let x = rule_held d q r at in
      subst (λ (o : OutRule Label). IsLinear o.term) x.2 (linear_with_maps make x.0.term (of_place (λ o. IsLinear o.term) d.rules q x.0 lin x.1))
