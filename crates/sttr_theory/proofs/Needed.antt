-- The condition of composition is needed.
use Rattle.std.proofs.Common.{ℕ, ◌≡◌, true, [], Some, Contains, refl, sym, ◌∙◌, inl, inr, arith}
use Rattle.model_tree.specs.Tree.{Tree, node, Trees, no_trees, tree}
use Rattle.model_sta.specs.Automaton.{rule_applies}
use Rattle.model_sttr.specs.Terms.{IsInstance}
use Rattle.model_sttr.specs.Transducer.{run, OutRule, Sttr, out_rules, Gives, GivesAt}
use Rattle.sttr_theory.specs.Triples.{Way, Middle, ThroughAt, Works}
use Rattle.sttr_theory.specs.Ways.{ways}
use Rattle.sttr_theory.specs.Needed.{plain_rule, leaf, to_leaf, first, second, over, asked_of, inputs, output}
use Rattle.sttr_theory.proofs.Accept.{applies_out}
use Rattle.sttr_theory.proofs.OneOf.{OneOf, member, of_member}

-- what a rule of the state gives
abbrev Does : Sttr ℕ → Tree ℕ → Tree ℕ → OutRule ℕ → Type 0
Does f (node c l ts) u r = (rule_applies f.looks (node c l ts) r.rule ≡ true) × IsInstance (λ h j v. GivesAt f h j ts v) l r.term u

gives_by : (f : Sttr ℕ) (q : ℕ) (t u : Tree ℕ) → OneOf (Does f t u) (out_rules f q) → Gives f (run q) t u
gives_by f q (node c l ts) u o = let (r, here, (a, i)) = member (Does f (node c l ts) u) (out_rules f q) o in (r, here, a, i)

by_rule : (f : Sttr ℕ) (q : ℕ) (t u : Tree ℕ) → Gives f (run q) t u → OneOf (Does f t u) (out_rules f q)
by_rule f q (node c l ts) u (r, here, a, i) = of_member (Does f (node c l ts) u) (out_rules f q) r here (a, i)

through : (c : ℕ) → Gives first (run 0) (leaf 0) (leaf c) → Gives second (run 1) (leaf c) (leaf c) → ThroughAt first second inputs (record { first = run 0; all = []; second = Some (run 1) }) 0 (leaf c)
through c a b = (leaf c, a, tt, b)

pub some_way : (y : Way ℕ) × Contains (ways second over asked_of) y × Works first second 0 inputs output y
some_way = member (Works first second 0 inputs output) (ways second over asked_of) (inl (
  refl,
  (λ j. tt),
  (
    refl,
    refl,
    (
      through 0 (gives_by first 0 (leaf 0) (leaf 0) (inl (refl, (refl, refl, tt)))) (gives_by second 1 (leaf 0) (leaf 0) (inl (refl, (refl, refl, tt)))),
      (
        through 1 (gives_by first 0 (leaf 0) (leaf 1) (inr (inl (refl, (refl, refl, tt))))) (gives_by second 1 (leaf 1) (leaf 1) (inr (inl (refl, (refl, refl, tt))))),
        tt,
      ),
    ),
  ),
))

-- state 1 gives leaves of the input's constructor
same_constructor : (c l d k : ℕ) (ts us : Trees ℕ) → Gives second (run 1) (node c l ts) (node d k us) → c ≡ d
same_constructor c l d k ts us g = of (by_rule second 1 (node c l ts) (node d k us) g)
  where
    of : OneOf (Does second (node c l ts) (node d k us)) (out_rules second 1) → c ≡ d
    of (inl (a, i)) = sym (applies_out second.looks c l ts (plain_rule 0 (to_leaf 0)).rule a).0.0 ∙ i.0
    of (inr (inl (a, i))) = sym (applies_out second.looks c l ts (plain_rule 1 (to_leaf 1)).rule a).0.0 ∙ i.0
    of (inr (inr o)) = absurd o

no_child : (v : Tree ℕ) → Gives second (run 1) v (leaf 0) → Gives second (run 1) v (leaf 1) → ⊥
no_child (node c l ts) a b = let e : 0 ≡ 1 = sym (same_constructor c l 0 0 ts no_trees a) ∙ same_constructor c l 1 0 ts no_trees b in absurd (omega (arith, e))

no_middle : (u : Tree ℕ) → IsInstance (λ h j v. GivesAt first h j inputs v) 0 over u → Gives second (run 0) u output → ⊥
no_middle (node c l no_trees) i g = i.2
no_middle (node c l (tree v (tree x us))) i g = i.2.1
no_middle (node c l (tree v no_trees)) i g = of (by_rule second 0 (node c l (tree v no_trees)) output g)
  where
    of : OneOf (Does second (node c l (tree v no_trees)) output) (out_rules second 0) → ⊥
    of (inl (a, k)) = no_child v k.2.0 k.2.1.0
    of (inr o) = o

pub no_middle_tree : ¬ (Middle first second 0 inputs over asked_of output)
no_middle_tree (u, i, has, end) = no_middle u i end
