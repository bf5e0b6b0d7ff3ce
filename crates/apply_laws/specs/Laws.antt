-- The laws of what is found.
use Rattle.std.specs.Prelude.{ℕ, ◌≡◌, ◌↔◌, ◌≤◌, Bool, IsTrue, List, [], ◌∷◌, ◌++◌, length, Option, None}
use Rattle.std.specs.Cmp.{IsTotalOrder}
use Rattle.std.specs.declared.cmp.Ordering.{Ordering}
use Rattle.std.specs.declared.cmp.Ordering.TheVariants.{Equal}
use Rattle.model_tree.specs.Limits.{most_nodes, greatest_depth, most_outputs}
use Rattle.model_tree.specs.Tree.{Tree, node, Trees, relabel, relabel_all, node_count, depth}
use Rattle.model_tree.specs.TreeOrder.{tree_cmp}
use Rattle.model_sta.specs.Loads.{Load, IsTooMuch}
use Rattle.model_sta.specs.Sets.{Each}
use Rattle.model_sttr.specs.Terms.{Term, build, Parts, part}
use Rattle.model_sttr.specs.Transducer.{Head, run, Sttr, out_rules, Gives}
use Rattle.model_sttr.specs.Loads.{GivesTooMuch}
use Rattle.model_sttr.specs.Cuts.{Cut, Cuts, tree_of}
use Rattle.apply_laws.specs.Lists.{sum_of, merge}
use Rattle.apply_laws.specs.Listing.{first_some}
use Rattle.apply_laws.specs.Found.{Found, listed, IsProduct, IsNodeFound}
use Rattle.apply_laws.specs.Terms.{IsTermFound, ArePartsFound, AreTermsFound, IsCallFound}
use Rattle.apply_laws.specs.Reached.{terms_of, Leads}

-- labels of the meaning, the order of the values that stand for them, which of them are kept, and their numbers outside
pub record Labels (V L N : Type 0) : Type 0 where
  pub label : V → L
  pub order : V → V → Ordering
  pub keeps : L → Bool
  pub outside : L → N → Bool
  pub total : IsTotalOrder order
  pub same : (v w : V) → (order v w ≡ Equal) ↔ (label v ≡ label w)

module _ {V L N : Type 0} (a : Labels V L N) (f : Sttr L) (ts : Trees V) (l : L) where
  abbrev OfTerm : Term Head (L → L) → Found (Cut V) N → Type 0
  OfTerm = IsTermFound a.label a.order a.keeps (λ l n. IsTrue (a.outside l n)) f ts l

  abbrev OfParts : Parts Head (L → L) → Found (Cuts V) N → Type 0
  OfParts = ArePartsFound a.label a.order a.keeps (λ l n. IsTrue (a.outside l n)) f ts l

  abbrev OfTerms : List (Term Head (L → L)) → Found (Cut V) N → Type 0
  OfTerms = AreTermsFound a.label a.order a.keeps (λ l n. IsTrue (a.outside l n)) f ts l

-- a part before parts
abbrev pub PartsAreFound : Type 0 → Type 0 → Type 0 → Type 0
PartsAreFound V L N = (a : Labels V L N) (f : Sttr L) (ts : Trees V) (l : L) (p : Term Head (L → L)) (ps : Parts Head (L → L)) (first : Found (Cut V) N) (rest all : Found (Cuts V) N)
    → OfTerm a f ts l p first → OfParts a f ts l ps rest → IsProduct a.label first rest all → OfParts a f ts l (part p ps) all

-- a node over parts
abbrev pub NodesAreFound : Type 0 → Type 0 → Type 0 → Type 0
NodesAreFound V L N = (a : Labels V L N) (f : Sttr L) (ts : Trees V) (l : L) (c : ℕ) (m : L → L) (ps : Parts Head (L → L)) (parts : Found (Cuts V) N) (found : Found (Cut V) N)
    → OfParts a f ts l ps parts → IsNodeFound a.label a.keeps (λ l n. IsTrue (a.outside l n)) c (m l) parts found → OfTerm a f ts l (build c m ps) found

-- one more term
abbrev pub MoreIsFound : Type 0 → Type 0 → Type 0 → Type 0
MoreIsFound V L N = (a : Labels V L N) (f : Sttr L) (ts : Trees V) (l : L) (ps : List (Term Head (L → L))) (p : Term Head (L → L)) (xs ys : List (Cut V)) (m n : Option N)
    → OfTerms a f ts l ps (listed xs m) → OfTerm a f ts l p (listed ys n) → OfTerms a f ts l (ps ++ p ∷ []) (listed (merge (λ x y. tree_cmp a.order (tree_of x) (tree_of y)) xs ys) (first_some m n))

-- a state has what the terms of its rules that apply have
abbrev pub StatesAreFound : Type 0 → Type 0 → Type 0 → Type 0
StatesAreFound V L N = (a : Labels V L N) (f : Sttr L) (ts : Trees V) (q c : ℕ) (v : V) (found : Found (Cut V) N)
    → OfTerms a f ts (a.label v) (terms_of f.looks (node c (a.label v) (relabel_all a.label ts)) (out_rules f q)) found → IsCallFound a.label a.order a.keeps (λ l n. IsTrue (a.outside l n)) f q (node c v ts) found

-- a short list of small outputs with no number that isn't kept
abbrev pub ListedPassesNone : Type 0 → Type 0 → Type 0 → Type 0
ListedPassesNone V L N = (a : Labels V L N) (f : Sttr L) (t : Tree V) (q : ℕ) (xs : List (Cut V)) → IsCallFound a.label a.order a.keeps (λ l n. IsTrue (a.outside l n)) f q t (listed xs None)
    → length xs ≤ most_outputs → sum_of (λ x. node_count (tree_of x)) xs ≤ most_nodes → Each (λ x. depth (tree_of x) ≤ greatest_depth) xs → (load : Load) → IsTooMuch load (Gives f (run q)) (relabel a.label t) → ⊥

-- too much of what a call leads to is at a subtree
abbrev pub ReachedIsTooMuch : Type 0 → Type 0
ReachedIsTooMuch L = (f : Sttr L) (q : ℕ) (t : Tree L) (r : ℕ) (s : Tree L) (load : Load) → Leads f q t r s → IsTooMuch load (Gives f (run r)) s → GivesTooMuch f load t
