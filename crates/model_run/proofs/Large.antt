-- Two outputs that can be shown, but not together.
use Rattle.std.proofs.Common.{◌≡◌, ◌≤◌, ◌<◌, ◌+◌, ℕ, zero, suc, true, List, [], ◌∷◌, Contains, inl, inr, codes, refl, sym, ap, ◌∙◌, subst, arith}
use Rattle.std.specs.Prelude.{max, ◌&&◌}
use Rattle.std.specs.List.{sum_by}
use Rattle.model_tree.specs.Tree.{no_trees, tree, node_count, depth, LabelTree}
use Rattle.model_tree.specs.Kept.{is_kept}
use Rattle.model_tree.specs.Scalars.{has_scalars}
use Rattle.model_grammar.specs.Syntax.{OutRule}
use Rattle.model_meaning.specs.Meaning.{IsRelated}
use Rattle.model_meaning.specs.Programs.{x, t}
use Rattle.model_meaning.proofs.Members.{one_of, none_of}
use Rattle.model_run.specs.Printable.{IsPrintable}
use Rattle.model_run.specs.Report.{AreOutputs}
use Rattle.model_run.specs.Borders.{doubling, full_of, leaf_alone, deep, full, with_root}

-- ---- how large a full tree is

abbrev pub grown : ℕ → ℕ
grown k = suc (k + k)

abbrev pub nodes : ℕ → ℕ
nodes zero = 1
nodes (suc n) = grown (nodes n)

pub count_is : (n : ℕ) → node_count (full n) ≡ nodes n
unfolding full
count_is zero = refl
count_is (suc n) = let e = count_is n in omega (arith, e)

depth_is : (n : ℕ) → depth (full n) ≡ suc n
unfolding full
depth_is zero = refl
depth_is (suc n) = let e = depth_is n in grind (arith, e)

both_true : (a b : _) → a ≡ true → b ≡ true → (a && (b && true)) ≡ true
both_true a b e f = rw (e, f) refl

kept_is : (n : ℕ) → is_kept (full n) ≡ true
unfolding full
kept_is zero = refl
kept_is (suc n) = let e = kept_is n in rw e refl

scalars_are : (n : ℕ) → has_scalars (full n) ≡ true
unfolding full
scalars_are zero = refl
scalars_are (suc n) = let e = scalars_are n in rw e refl

-- ---- what is related

-- the second transformation makes full trees
full_related : (n : ℕ) → IsRelated doubling (x (codes "full")) (deep n) (full n)
unfolding deep full
full_related zero = (leaf_alone, (0, omega arith, refl), (refl, tt), (refl, refl, tt))
full_related (suc n) = (full_of (codes "d"), (1, omega arith, refl), (refl, ((λ d at same. absurd (none_of d at)), tt)), (refl, refl, (full_related n, (full_related n, tt))))

-- and the first puts two of them below a root
rooted : (c : ℕ) → Contains (2 ∷ 3 ∷ []) c → (n : ℕ) → IsRelated doubling (x (codes "two")) (deep (suc n)) (t c (full n ∷ full n ∷ []))
unfolding deep
rooted c at n = elim (one_of 2 c (3 ∷ []) at) [
  | inl e ↦ subst (λ k. IsRelated doubling (x (codes "two")) (deep (suc n)) (t k (full n ∷ full n ∷ []))) e
      (full_of (codes "d"), (0, omega arith, refl), (refl, ((λ d at same. absurd (none_of d at)), tt)), (refl, refl, (full_related n, (full_related n, tt))))
  | inr later ↦ elim (one_of 3 c [] later) [
    | inl e ↦ subst (λ k. IsRelated doubling (x (codes "two")) (deep (suc n)) (t k (full n ∷ full n ∷ []))) e
        (full_of (codes "e"), (1, omega arith, refl), (refl, ((λ d at same. absurd (none_of d at)), tt)), (refl, refl, (full_related n, (full_related n, tt))))
    | inr other ↦ absurd (none_of c other)
  ]
]

rooted_count : (c : ℕ) → node_count (with_root c) ≡ grown (nodes 18)
rooted_count c = let e = count_is 18 in omega (arith, e)

rooted_printable : (c : ℕ) → IsPrintable (with_root c)
rooted_printable c = record {
  kept = (let e = kept_is 18 in rw e refl);
  scalars = (let e = scalars_are 18 in rw e refl);
  small = (let e = rooted_count c in omega (arith, e));
  shallow = (let e = depth_is 18 in grind (arith, e));
}

pub each_output : (c : ℕ) → Contains (2 ∷ 3 ∷ []) c → IsRelated doubling (x (codes "two")) (deep 19) (with_root c) × IsPrintable (with_root c)
each_output c at = (rooted c at 18, rooted_printable c)

pub together : ¬ (AreOutputs doubling (x (codes "two")) (deep 19) (with_root 2 ∷ with_root 3 ∷ []))
together are = let first = rooted_count 2 in let second = rooted_count 3 in let small = are.small in omega (arith, first, second, small)
