-- A language whose trees are all too large.
use Rattle.std.proofs.Common.{◌≡◌, ℕ, zero, suc, ◌+◌, ◌≤◌, ◌<◌, Bool, true, false, ◌&&◌, List, [], ◌∷◌, length, get_or, Contains, inl, inr, refl, sym, subst, codes, arith}
use Rattle.model_tree.specs.Label.{Label, row}
use Rattle.model_tree.specs.Tree.{node, Trees, no_trees, tree, list_of, LabelTree, node_count, node_count_all}
use Rattle.model_tree.proofs.Trees.{one-le-node_count}
use Rattle.model_tree.specs.Signature.{PlainSignature, HasType, EachHasType}
use Rattle.model_program.specs.Syntax.{Demand}
use Rattle.model_grammar.specs.Syntax.{named, Rule}
use Rattle.model_names.specs.Declared.{same_text, rules_of}
use Rattle.model_meaning.specs.Types.{input_of}
use Rattle.model_meaning.specs.Meaning.{IsInLanguage, Applies, IsTreeOf, input_type}
use Rattle.model_meaning.specs.Laws.{AreDemanded}
use Rattle.model_meaning.specs.Programs.{name, x, rule, t, demand}
use Rattle.model_meaning.proofs.Members.{one_of, none_of}
use Rattle.model_meaning.proofs.Rules.{by_rules}
use Rattle.model_run.specs.Causes.{AreAllLarge}
use Rattle.model_run.specs.Borders.{full}
use Rattle.model_run.specs.OwedExamples.{towers, level, of_two}
use Rattle.model_run.proofs.Undefined.{DefineNothing, undefined}
use Rattle.model_run.proofs.Large.{nodes, grown}

abbrev the_type : PlainSignature
the_type = input_type towers (x (level 20))

defines_nothing : DefineNothing towers
defines_nothing = (refl, (refl, (refl, (refl, (refl, (refl, (refl, (refl, (refl, (refl, (refl, (refl, (refl, (refl, (refl, (refl, (refl, (refl, (refl, (refl, (refl, (refl, tt))))))))))))))))))))))

-- a tree of a node that is named d has two children
record HasTwo (ts : Trees Label) : Type 0 where
  one : LabelTree
  other : LabelTree
  are : ts ≡ tree one (tree other no_trees)

two_of : (ts : Trees Label) → length (list_of ts) ≡ 2 → HasTwo ts
two_of no_trees e = absurd (omega (arith, e))
two_of (tree v no_trees) e = absurd (omega (arith, e))
two_of (tree v (tree w no_trees)) e = record { one = v; other = w; are = refl }
two_of (tree v (tree w (tree z ts))) e = absurd (omega (arith, e))

two_children : (c : ℕ) (ts : Trees Label) → same_text (get_or (codes "a" ∷ codes "c" ∷ codes "d" ∷ []) c []) (codes "d") ≡ true → length (list_of ts) ≡ get_or (0 ∷ 1 ∷ 2 ∷ []) c 0 → HasTwo ts
two_children zero ts e many = cc
two_children (suc zero) ts e many = cc
two_children (suc (suc zero)) ts e many = two_of ts many
two_children (suc (suc (suc c))) ts e many = cc

first_true : (a b : Bool) → (a && b) ≡ true → a ≡ true
first_true true b e = refl
first_true false b e = e

-- a rule of a name that has one
the_rule : (q : List ℕ) (r s : Rule) → rules_of towers q ≡ r ∷ [] → Contains (rules_of towers q) s → r ≡ s
the_rule q r s only at = elim (one_of r s [] (subst (λ rs. Contains rs s) only at)) [ inl same ↦ same | inr other ↦ absurd (none_of s other) ]

module _ (p q : List ℕ) (only : rules_of towers q ≡ of_two p ∷ []) (on : input_of towers q ≡ the_type) (m : ℕ) (least : (u : LabelTree) → HasType the_type u → IsInLanguage towers (x p) u → m ≤ node_count u) where
  -- each tree of the next language is twice as large, and one more
  next : (u : LabelTree) → HasType the_type u → IsInLanguage towers (x q) u → grown m ≤ node_count u
  next (node c l ts) typed inside =
      let by = (((by_rules towers).by_rules (name q) (undefined towers defines_nothing q) (node c l ts)).0 inside) in
      let applied : Applies towers the_type (of_two p) (node c l ts) = subst (λ r. Applies towers the_type r (node c l ts)) (sym (the_rule q (of_two p) by.0 only by.1)) (subst (λ s. Applies towers s by.0 (node c l ts)) on by.2) in
      let parts = ((by_rules towers).applies the_type (of_two p) c l ts).0 applied in
      below (two_children c ts (first_true _ _ parts.0) typed.1) typed.3 parts.1
    where
      two_below : (v w : LabelTree) → EachHasType the_type (tree v (tree w no_trees)) → AreDemanded towers (tree v (tree w no_trees)) (of_two p).vars (of_two p).given → grown m ≤ suc (node_count_all (tree v (tree w no_trees)))
      two_below v w each demands =
          let one = least v each.0 (demands.0 (demand p (codes "x")) (0, omega arith, refl) refl) in
          let other = least w each.1.0 (demands.1.0 (demand p (codes "y")) (1, omega arith, refl) refl) in
          omega (arith, one, other)

      below : HasTwo ts → EachHasType the_type ts → AreDemanded towers ts (of_two p).vars (of_two p).given → grown m ≤ suc (node_count_all ts)
      below pair each demands =
          subst (λ us. grown m ≤ suc (node_count_all us)) (sym pair.are)
          (two_below pair.one pair.other (subst (EachHasType the_type) pair.are each) (subst (λ us. AreDemanded towers us (of_two p).vars (of_two p).given) pair.are demands))

  -- the full tree that is deeper by one is in it
  next_inside : (n : ℕ) → IsInLanguage towers (x p) (full n) → IsInLanguage towers (x q) (full (suc n))
  unfolding full
  next_inside n inside =
      ((by_rules towers).by_rules (name q) (undefined towers defines_nothing q) (full (suc n))).1 (
        of_two p,
        subst (λ rs. Contains rs (of_two p)) (sym only) (0, omega arith, refl),
        subst (λ s. Applies towers s (of_two p) (full (suc n))) (sym on)
            (((by_rules towers).applies the_type (of_two p) 2 (row []) (tree (full n) (tree (full n) no_trees))).1 (refl, ((λ d at same. both d at), ((λ d at same. both d at), tt)))),
      )
    where
      both : (d : Demand) → Contains (of_two p).given d → IsInLanguage towers (named d.language) (full n)
      both d at = elim (one_of (demand p (codes "x")) d (demand p (codes "y") ∷ []) at) [
        | inl e ↦ subst (λ (k : Demand). IsInLanguage towers (named k.language) (full n)) e inside
        | inr later ↦ elim (one_of (demand p (codes "y")) d [] later) [ inl e ↦ subst (λ (k : Demand). IsInLanguage towers (named k.language) (full n)) e inside | inr other ↦ absurd (none_of d other) ]
      ]

-- how large the trees of a language are at least, and a tree of it
record IsTower (q : List ℕ) (n : ℕ) : Type 0 where
  least : (u : LabelTree) → HasType the_type u → IsInLanguage towers (x q) u → nodes n ≤ node_count u
  inside : IsInLanguage towers (x q) (full n)

lowest : IsTower (level 0) 0
unfolding full
lowest = record { least = λ u typed own. one-le-node_count u; inside = ((by_rules towers).by_rules (name (level 0)) refl (t 0 [])).1 (rule (codes "a") [] [], (0, omega arith, refl), (refl, tt)) }

higher : (p q : List ℕ) (n : ℕ) → rules_of towers q ≡ of_two p ∷ [] → input_of towers q ≡ the_type → IsTower p n → IsTower q (suc n)
higher p q n only on tower = record { least = next p q only on (nodes n) tower.least; inside = next_inside p q only on (nodes n) tower.least n tower.inside }

fifth : IsTower (level 5) 5
fifth =
    higher (level 4) (level 5) 4 refl refl (higher (level 3) (level 4) 3 refl refl (higher (level 2) (level 3) 2 refl refl (higher (level 1) (level 2) 1 refl refl (higher (level 0) (level 1) 0 refl refl lowest))))

tenth : IsTower (level 10) 10
tenth =
    higher (level 9) (level 10) 9 refl refl (higher (level 8) (level 9) 8 refl refl (higher (level 7) (level 8) 7 refl refl (higher (level 6) (level 7) 6 refl refl (higher (level 5) (level 6) 5 refl refl fifth))))

fifteenth : IsTower (level 15) 15
fifteenth =
    higher (level 14) (level 15) 14 refl refl (higher (level 13) (level 14) 13 refl refl (higher (level 12) (level 13) 12 refl refl (higher (level 11) (level 12) 11 refl refl (higher (level 10) (level 11) 10 refl refl tenth))))

twentieth : IsTower (level 20) 20
twentieth =
    higher (level 19) (level 20) 19 refl refl (higher (level 18) (level 19) 18 refl refl (higher (level 17) (level 18) 17 refl refl (higher (level 16) (level 17) 16 refl refl (higher (level 15) (level 16) 15 refl refl fifteenth))))

typed_full : (n : ℕ) → HasType the_type (full n)
unfolding full
typed_full zero = (omega arith, refl, refl, tt)
typed_full (suc n) = (omega arith, refl, refl, (typed_full n, (typed_full n, tt)))

pub all_large : AreAllLarge (IsTreeOf towers (x (level 20)))
all_large = record {
  tree = full 20;
  right = record { typed = typed_full 20; inside = twentieth.inside };
  large = λ u right. (let many = twentieth.least u right.typed right.inside in omega (arith, many));
}
