-- What triples demand of children, and what names ask of them.
use Rattle.std.proofs.Common.{ℕ, zero, suc, ◌<◌, List, [], ◌∷◌, length, sym, subst, arith}
use Rattle.model_tree.specs.Tree.{Tree, Trees, no_trees, tree}
use Rattle.model_sta.specs.Sets.{Each, width}
use Rattle.model_sta.specs.Operations.{Has, HasAll, AreStates}
use Rattle.model_sttr.specs.Terms.{Term, Occurs, Uses}
use Rattle.model_sttr.specs.Transducer.{Head, identity, run, Sttr, GivesAt}
use Rattle.model_sttr.specs.Operations.{HasSource}
use Rattle.model_sttr.proofs.Heads.{identity_eq}
use Rattle.model_sttr.proofs.Instances.{occurs_uses}
use Rattle.sttr_theory.specs.Triples.{Triple, LookName, of_first, of_second, middle, asked_by, asked, At, Means, IsAsked}
use Rattle.sttr_theory.proofs.Each.{each_both, each_split, each_map, each_to_map, each_of_map}
use Rattle.sttr_theory.proofs.Complete.{identity_refl}

module _ {L : Type 0} (P Q : Tree L → Type 0) (f : (t : Tree L) → P t → Q t) where
  pub at_map : (j : ℕ) (ts : Trees L) → At P j ts → At Q j ts
  at_map j no_trees a = a
  at_map zero (tree t ts) a = f t a
  at_map (suc j) (tree t ts) a = at_map j ts a

module _ {L : Type 0} (f g : Sttr L) where
  -- child j has an output for the triple
  abbrev pub IsMet : Trees L → ℕ → Triple → Type 0
  IsMet ts j x = (u : Tree L) × GivesAt f x.first j ts u × HasAll g.looks x.all u

  same_out : (all : List ℕ) (ts : Trees L) (j : ℕ) (u : Tree L) → GivesAt f identity j ts u → HasAll g.looks all u → Each (λ s. At (Has g.looks s) j ts) all
  same_out all no_trees j u gives has = absurd gives
  same_out all (tree t ts) zero u gives has = subst (HasAll g.looks all) (sym (identity_eq f t u gives)) has
  same_out all (tree t ts) (suc j) u gives has = same_out all ts j u gives has

  same_in : (all : List ℕ) (ts : Trees L) (j : ℕ) → j < width ts → Each (λ s. At (Has g.looks s) j ts) all → (u : Tree L) × GivesAt f identity j ts u × HasAll g.looks all u
  same_in all no_trees j lt e = absurd (omega (arith, lt))
  same_in all (tree t ts) zero lt e = (t, identity_refl f t, e)
  same_in all (tree t ts) (suc j) lt e = same_in all ts j (omega (arith, lt)) e

  source_out : (q : ℕ) (all : List ℕ) (ts : Trees L) (j : ℕ) (u : Tree L) → GivesAt f (run q) j ts u → HasAll g.looks all u → At (HasSource f g.looks (run q) all) j ts
  source_out q all no_trees j u gives has = gives
  source_out q all (tree t ts) zero u gives has = (u, gives, has)
  source_out q all (tree t ts) (suc j) u gives has = source_out q all ts j u gives has

  source_in : (q : ℕ) (all : List ℕ) (ts : Trees L) (j : ℕ) → At (HasSource f g.looks (run q) all) j ts → (u : Tree L) × GivesAt f (run q) j ts u × HasAll g.looks all u
  source_in q all no_trees j a = absurd a
  source_in q all (tree t ts) zero a = a
  source_in q all (tree t ts) (suc j) a = source_in q all ts j a

  -- a child with an output is what is asked of it; and a child that is there and is what is asked has one
  met_out : (h : Head) (all : List ℕ) (ts : Trees L) (j : ℕ) (u : Tree L) → GivesAt f h j ts u → HasAll g.looks all u → Each (λ n. At (Means f g n) j ts) (asked_by h all)
  met_out identity all ts j u gives has = each_to_map (λ n. At (Means f g n) j ts) of_second all (same_out all ts j u gives has)
  met_out (run q) all ts j u gives has = (source_out q all ts j u gives has, tt)

  met_in : (h : Head) (all : List ℕ) (ts : Trees L) (j : ℕ) → j < width ts → Each (λ n. At (Means f g n) j ts) (asked_by h all) → (u : Tree L) × GivesAt f h j ts u × HasAll g.looks all u
  met_in identity all ts j lt e = same_in all ts j lt (each_of_map (λ n. At (Means f g n) j ts) of_second all e)
  met_in (run q) all ts j lt e = source_in q all ts j e.0

  pub mets_out : (ts : Trees L) (j : ℕ) (ds : List Triple) → Each (IsMet ts j) ds → Each (λ n. At (Means f g n) j ts) (asked ds)
  mets_out ts j [] e = tt
  mets_out ts j (d ∷ ds) e = let ((u, gives, has), later) = e in each_both (λ n. At (Means f g n) j ts) (asked_by d.first d.all) (asked ds) (met_out d.first d.all ts j u gives has) (mets_out ts j ds later)

  pub mets_in : (ts : Trees L) (j : ℕ) (ds : List Triple) → Each (λ d. j < width ts) ds → Each (λ n. At (Means f g n) j ts) (asked ds) → Each (IsMet ts j) ds
  mets_in ts j [] lt e = tt
  mets_in ts j (d ∷ ds) lt e = let (now, later) = each_split (λ n. At (Means f g n) j ts) (asked_by d.first d.all) (asked ds) e in (met_in d.first d.all ts j lt.0 now, mets_in ts j ds lt.1 later)

  module _ (p : Term Head (L → L)) (j : ℕ) where
    asks_by : (h : Head) (all : List ℕ) → Occurs h j p → AreStates g.looks all → Each (λ n. IsAsked f g p n j) (asked_by h all)
    asks_by identity all o low = each_to_map (λ n. IsAsked f g p n j) of_second all (each_map (λ s. s < length g.looks) (λ s. Occurs identity j p × (s < length g.looks)) (λ s lt. (o, lt)) all low)
    asks_by (run q) all o low = ((o, low), tt)

    -- the demands of triples ask only what stands in the term, where the triples do
    pub asks_named : (ds : List Triple) → Each (λ d. Occurs d.first j p × AreStates g.looks d.all) ds → Each (λ n. IsAsked f g p n j) (asked ds)
    asks_named [] e = tt
    asks_named (d ∷ ds) e = each_both (λ n. IsAsked f g p n j) (asked_by d.first d.all) (asked ds) (asks_by d.first d.all e.0.0 e.0.1) (asks_named ds e.1)

    pub asked_uses : (n : LookName) → IsAsked f g p n j → Uses j p
    asked_uses (of_first s) a = absurd a
    asked_uses (of_second s) a = occurs_uses identity j p a.0
    asked_uses (middle q all) a = occurs_uses (run q) j p a.0
