-- What a call leads to.
use Rattle.std.proofs.Common.{ℕ, zero, suc, ◌≡◌, ◌<◌, inl, inr, true, List, [], ◌∷◌, length, get_or, refl, sym, arith}
use Rattle.std.specs.Prelude.{Contains}
use Rattle.model_tree.specs.Tree.{Tree, node, Trees, no_trees, tree, node_count, depth}
use Rattle.model_sta.specs.Automaton.{rule_applies}
use Rattle.model_sta.specs.Loads.{Load, IsTooMuch, IsSubtree, IsSubtreeOfOne}
use Rattle.model_sttr.specs.Terms.{Occurs}
use Rattle.model_sttr.specs.Transducer.{run, OutRule, Sttr, out_rules, Gives}
use Rattle.model_sttr.specs.Loads.{GivesTooMuch}
use Rattle.apply_laws.specs.Reached.{Leads, LeadsAt}
use Rattle.apply_laws.proofs.Passing.{some_passes}
use Rattle.apply_laws.proofs.Loads.{is_too_much}

module _ {L : Type 0} (f : Sttr L) where
  pub leads_itself : (q : ℕ) (t : Tree L) → Leads f q t q t
  leads_itself q (node c l ts) = inl (refl, refl)

  pub leads_on : (q c : ℕ) (l : L) (ts : Trees L) (e : OutRule L) → Contains (out_rules f q) e → rule_applies f.looks (node c l ts) e.rule ≡ true → (p k : ℕ) → Occurs (run p) k e.term → (r : ℕ) (s : Tree L) → LeadsAt f p k ts r s → Leads f q (node c l ts) r s
  leads_on q c l ts e m a p k i r s h = inr (e, m, a, p, k, i, h)

  mutual
    leads_below : (q : ℕ) (t : Tree L) (r : ℕ) (s : Tree L) → Leads f q t r s → IsSubtree s t
    leads_below q (node c l ts) r s (inl (e, g)) = inl (sym g)
    leads_below q (node c l ts) r s (inr (e, m, a, p, k, i, h)) = inr (leads_below_at p k ts r s h)

    leads_below_at : (p k : ℕ) (ts : Trees L) (r : ℕ) (s : Tree L) → LeadsAt f p k ts r s → IsSubtreeOfOne s ts
    leads_below_at p k no_trees r s h = absurd h
    leads_below_at p zero (tree t ts) r s h = inl (leads_below p t r s h)
    leads_below_at p (suc k) (tree t ts) r s h = inr (leads_below_at p k ts r s h)

  contains_low : {X : Type 0} (xss : List (List X)) (q : ℕ) (x : X) → Contains (get_or xss q []) x → q < length xss
  contains_low [] q x (k, l, e) = absurd (omega (arith, l))
  contains_low (xs ∷ xss) zero x c = omega arith
  contains_low (xs ∷ xss) (suc q) x c = omega (arith, contains_low xss q x c)

  gives_low : (q : ℕ) (t u : Tree L) → Gives f (run q) t u → q < length f.rules
  gives_low q (node c l ts) u (r, m, a, g) = contains_low f.rules q r m

  -- what passes a load where the call leads to gives too much
  pub leads_too_much : (q : ℕ) (t : Tree L) (r : ℕ) (s : Tree L) (a : Load) → Leads f q t r s → IsTooMuch a (Gives f (run r)) s → GivesTooMuch f a t
  leads_too_much q t r s a h m = let some = some_passes node_count depth (Gives f (run r) s) a (is_too_much (Gives f (run r)) s a m) in (r, gives_low r s some.0 some.1, s, leads_below q t r s h, m)
