-- Which terms a call has at a node, and which calls it leads to.
use Rattle.std.specs.Prelude.{ℕ, zero, suc, ◌≡◌, ◌⊎◌, true, cond, List, [], ◌∷◌, Contains}
use Rattle.model_tree.specs.Tree.{Tree, node, Trees, no_trees, tree}
use Rattle.model_sta.specs.Automaton.{Rule, rule_applies}
use Rattle.model_sttr.specs.Terms.{Term, Occurs}
use Rattle.model_sttr.specs.Transducer.{Head, run, OutRule, Sttr, out_rules}

module _ {L : Type 0} where
  -- the terms of those rules that apply to the tree
  abbrev pub terms_of : List (List (Rule L)) → Tree L → List (OutRule L) → List (Term Head (L → L))
  terms_of looks t [] = []
  terms_of looks t (r ∷ rs) = cond (rule_applies looks t r.rule) (r.term ∷ terms_of looks t rs) (terms_of looks t rs)

module _ {L : Type 0} (f : Sttr L) where
  abbrev mutual
    -- the call of a state on a tree leads to that of state r on the tree s, by rules that apply
    pub Leads : ℕ → Tree L → ℕ → Tree L → Type 0
    Leads q (node c l ts) r s =
        ((q ≡ r) × (node c l ts ≡ s))
        ⊎ ((e : OutRule L) × Contains (out_rules f q) e × (rule_applies f.looks (node c l ts) e.rule ≡ true) × (p : ℕ) × (k : ℕ) × Occurs (run p) k e.term × LeadsAt p k ts r s)

    pub LeadsAt : ℕ → ℕ → Trees L → ℕ → Tree L → Type 0
    LeadsAt p k no_trees r s = ⊥
    LeadsAt p zero (tree t ts) r s = Leads p t r s
    LeadsAt p (suc k) (tree t ts) r s = LeadsAt p k ts r s
