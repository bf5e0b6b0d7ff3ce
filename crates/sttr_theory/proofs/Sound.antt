-- From a run to a middle tree.
use Rattle.std.proofs.Common.{ℕ, zero, suc, ◌≡◌, ◌⊎◌, ◌<◌, List, [], ◌∷◌, ◌++◌, Contains, refl, sym, ap, subst, inl, inr, arith}
use Rattle.model_tree.specs.Tree.{Tree, node, Trees, no_trees, tree}
use Rattle.model_sta.specs.Automaton.{Rule}
use Rattle.model_sta.specs.Operations.{HasAll, Has}
use Rattle.model_sttr.specs.Terms.{Term, on, build, Parts, no_parts, part, Uses, UsesIn, IsLinear, AreLinear, IsInstance, AreInstances}
use Rattle.model_sttr.specs.Transducer.{Head, identity, run, OutRule, Sttr, out_rules, Gives, GivesAt, AllLinear}
use Rattle.model_sttr.proofs.Instances.{occurs_uses, instance_at}
use Rattle.model_sttr.proofs.Heads.{one}
use Rattle.sttr_theory.specs.Lists.{once}
use Rattle.sttr_theory.specs.Ways.{size}
use Rattle.sttr_theory.proofs.Accept.{wants, AccEach, acc_split, applies_in, has_in}
use Rattle.sttr_theory.proofs.Once.{each_once_out}
use Rattle.sttr_theory.proofs.Runs.{Aim, free, gives, Meets, Fit, Kid, kid_out, Picks, merged, copy, Step, Run, RunAt, OneEach, Premise}
use Rattle.sttr_theory.proofs.Complete.{instances_width, copy_out}
use Rattle.sttr_theory.proofs.Kept.{kept_uses, kept_occurs, kept_linear}

-- picked rules accept the node
pub unpicked : {L : Type 0} (A : List (List (Rule L))) (c : ℕ) (l : L) (us : Trees L) (Z : List ℕ) (rs : List (Rule L)) → Picks A c l Z rs → AccEach A (merged rs) us → HasAll A Z (node c l us)
unpicked A c l us [] rs p acc = tt
unpicked A c l us (s ∷ Z) [] p acc = absurd p
unpicked A c l us (s ∷ Z) (r ∷ rs) p acc =
    let (x, y) = acc_split A (wants r) (merged rs) us acc in
    (has_in A c l us s r p.0 p.1 x, unpicked A c l us Z rs p.2 y)

module _ {L : Type 0} (K : Head → ℕ → Tree L → Type 0) (l : L) where
  -- u is an instance of part j
  abbrev pub InstanceAt : ℕ → Parts Head (L → L) → Tree L → Type 0
  InstanceAt j no_parts u = ⊥
  InstanceAt zero (part p ps) u = IsInstance K l p u
  InstanceAt (suc j) (part p ps) u = InstanceAt j ps u

  module _ (A : List (List (Rule L))) where
    -- what can stand at part j, of which E is demanded
    abbrev pub Can : Parts Head (L → L) → (ℕ → List ℕ) → ℕ → Tree L → Type 0
    Can ps E j u = InstanceAt j ps u × HasAll A (E j) u

    -- the trees can stand at all parts
    abbrev pub Good : Parts Head (L → L) → (ℕ → List ℕ) → Trees L → Type 0
    Good ps E us = AreInstances K l ps us × AccEach A E us

    pub assemble : (ps : Parts Head (L → L)) (E : ℕ → List ℕ) → ((j : ℕ) → j < size ps → (u : Tree L) × Can ps E j u) → (us : Trees L) × Good ps E us
    assemble no_parts E f = (no_trees, (tt, tt))
    assemble (part p ps) E f =
        let (u, (i, a)) = f 0 (omega arith) in
        let (us, (is, as')) = assemble ps (λ j. E (suc j)) (λ j lt. f (suc j) (omega arith)) in
        (tree u us, ((i, is), (a, as')))

-- tree j is replaced
abbrev pub put : {L : Type 0} → ℕ → Tree L → Trees L → Trees L
put j u no_trees = no_trees
put zero u (tree v us) = tree u us
put (suc j) u (tree v us) = tree v (put j u us)

module _ {L : Type 0} (K : Head → ℕ → Tree L → Type 0) (l : L) where
  pub put_good : (A : List (List (Rule L))) (ps : Parts Head (L → L)) (E : ℕ → List ℕ) (j : ℕ) (u : Tree L) (us : Trees L) → Can K l A ps E j u → Good K l A ps E us → Good K l A ps E (put j u us)
  put_good A ps E j u no_trees c g = g
  put_good A no_parts E j u (tree v us) c g = absurd g.0
  put_good A (part p ps) E zero u (tree v us) c g = ((c.0, g.0.1), (c.1, g.1.1))
  put_good A (part p ps) E (suc j) u (tree v us) c g =
      let (is, as') = put_good A ps (λ k. E (suc k)) j u us c (g.0.1, g.1.1) in
      ((g.0.0, is), (g.1.0, as'))

  pub put_at : (T : Sttr L) (ps : Parts Head (L → L)) (h : Head) (j : ℕ) (u v : Tree L) (us : Trees L) → InstanceAt K l j ps u → AreInstances K l ps us → Gives T h u v → GivesAt T h j (put j u us) v
  put_at T no_parts h j u v us c g r = absurd c
  put_at T (part p ps) h j u v no_trees c g r = g
  put_at T (part p ps) h zero u v (tree x us) c g r = r
  put_at T (part p ps) h (suc j) u v (tree x us) c g r = put_at T ps h j u v us c g.1 r

pub put_other : {L : Type 0} (T : Sttr L) (h : Head) (j k : ℕ) (u v : Tree L) (us : Trees L) → (k ≡ j → ⊥) → GivesAt T h j us v → GivesAt T h j (put k u us) v
put_other T h j k u v no_trees ne r = r
put_other T h zero zero u v (tree x us) ne r = absurd (ne refl)
put_other T h zero (suc k) u v (tree x us) ne r = r
put_other T h (suc j) zero u v (tree x us) ne r = r
put_other T h (suc j) (suc k) u v (tree x us) ne r = put_other T h j k u v us (λ e. ne (ap suc e)) r

module _ {L : Type 0} (O : Head → ℕ → Tree L → Type 0) (l : L) where
  mutual
    -- a child that is used has an answer there
    pub used : (p : Term Head (L → L)) (j : ℕ) (w : Tree L) → Uses j p → IsInstance O l p w → (h : Head) × (v : Tree L) × O h j v
    used (on h k) j w e i = subst (λ n. (h' : Head) × (v : Tree L) × O h' n v) e (h, w, i)
    used (build c m ps) j (node c' l' ws) e i = used_in ps j ws e i.2

    pub used_in : (ps : Parts Head (L → L)) (j : ℕ) (ws : Trees L) → UsesIn j ps → AreInstances O l ps ws → (h : Head) × (v : Tree L) × O h j v
    used_in no_parts j ws e i = absurd e
    used_in (part p ps) j no_trees e i = absurd i
    used_in (part p ps) j (tree w ws) (inl e) i = used p j w e i.0
    used_in (part p ps) j (tree w ws) (inr e) i = used_in ps j ws e i.1

-- the second trees serve all that the first served, but for the children that U holds of
abbrev pub KeptBut : {L : Type 0} → Sttr L → (ℕ → Type 0) → Trees L → Trees L → Type 0
KeptBut {L} T U us us' = (h : Head) (j : ℕ) (v : Tree L) → (U j → ⊥) → GivesAt T h j us v → GivesAt T h j us' v

module _ {L : Type 0} (K : Head → ℕ → Tree L → Type 0) (l : L) (ps : Parts Head (L → L)) (T : Sttr L) (E : ℕ → List ℕ) where
  -- a candidate for part j that h takes to v
  abbrev pub Candidate : Head → ℕ → Tree L → Type 0
  Candidate h j v = (u : Tree L) × Can K l T.looks ps E j u × Gives T h u v

  module _ (l' : L) where
    mutual
      -- one list of trees for all calls, where no child is used twice
      pub choose : (p : Term Head (L → L)) (w : Tree L) (us : Trees L) → IsLinear p → Good K l T.looks ps E us → IsInstance Candidate l' p w
          → (us' : Trees L) × Good K l T.looks ps E us' × KeptBut T (λ j. Uses j p) us us' × IsInstance (λ h j v. GivesAt T h j us' v) l' p w
      choose (on h j) w us lin g (u, can, r) = (
        put j u us,
        put_good K l T.looks ps E j u us can g,
        (λ k i v ne x. put_other T k i j u v us ne x),
        put_at K l T ps h j u w us can.0 g.0 r,
      )
      choose (build c m qs) (node c' l'' ws) us lin g i =
          let (us', g', k, is) = chooses qs ws us lin g i.2 in
          (us', g', k, (i.0, i.1, is))

      pub chooses : (qs : Parts Head (L → L)) (ws : Trees L) (us : Trees L) → AreLinear qs → Good K l T.looks ps E us → AreInstances Candidate l' qs ws
          → (us' : Trees L) × Good K l T.looks ps E us' × KeptBut T (λ j. UsesIn j qs) us us' × AreInstances (λ h j v. GivesAt T h j us' v) l' qs ws
      chooses no_parts no_trees us lin g i = (us, g, (λ h j v ne x. x), tt)
      chooses no_parts (tree w ws) us lin g i = absurd i
      chooses (part q qs) no_trees us lin g i = absurd i
      chooses (part q qs) (tree w ws) us lin g i =
          let (us1, g1, k1, i1) = choose q w us lin.0 g i.0 in
          let (us2, g2, k2, i2) = chooses qs ws us1 lin.1 g1 i.1 in (
            us2,
            g2,
            (λ h j v ne x. k2 h j v (λ y. ne (inr y)) (k1 h j v (λ y. ne (inl y)) x)),
            (instance_at (λ h j v. GivesAt T h j us1 v) (λ h j v. GivesAt T h j us2 v) l' q (λ h j v y x. k2 h j v (lin.2 j (occurs_uses h j q y)) x) w i1, i2),
          )

module _ {L : Type 0} (K : Head → ℕ → Tree L → Type 0) (l : L) (f : OneEach K) where
  pub only : (T : Sttr L) (ps : Parts Head (L → L)) (h : Head) (j : ℕ) (u v : Tree L) (us : Trees L) → InstanceAt K l j ps u → AreInstances K l ps us → Gives T h u v → GivesAt T h j us v
  only T no_parts h j u v us c g r = absurd c
  only T (part p ps) h j u v no_trees c g r = g
  only T (part p ps) h zero u v (tree x us) c g r = subst (λ y. Gives T h y v) (one K l f p u x c g.0) r
  only T (part p ps) h (suc j) u v (tree x us) c g r = only T ps h j u v us c g.1 r

module _ {L : Type 0} (K : Head → ℕ → Tree L → Type 0) (l : L) (ps : Parts Head (L → L)) (T : Sttr L) (E : ℕ → List ℕ) (l' : L) (p : Term Head (L → L)) (w : Tree L) where
  start : (j : ℕ) → IsInstance (Candidate K l ps T E) l' p w → Uses j p ⊎ ((u : Tree L) × Can K l T.looks ps E j u) → (u : Tree L) × Can K l T.looks ps E j u
  start j i (inl e) = let (h, v, (u, can, r)) = used (Candidate K l ps T E) l' p j w e i in (u, can)
  start j i (inr x) = x

  finish : (us : Trees L) → Good K l T.looks ps E us → OneEach K ⊎ IsLinear p → IsInstance (Candidate K l ps T E) l' p w
      → (us' : Trees L) × Good K l T.looks ps E us' × IsInstance (λ h j v. GivesAt T h j us' v) l' p w
  finish us g (inl f) i = (
    us,
    g,
    instance_at (Candidate K l ps T E) (λ h j v. GivesAt T h j us v) l' p (λ h j v e x. only K l f T ps h j x.0 v us x.1.0 g.0 x.2) w i,
  )
  finish us g (inr lin) i = let (us', g', k, i') = choose K l ps T E l' p w us lin g i in (us', g', i')

  -- one list of trees for all calls
  pub chosen : OneEach K ⊎ IsLinear p → ((j : ℕ) → j < size ps → Uses j p ⊎ ((u : Tree L) × Can K l T.looks ps E j u)) → IsInstance (Candidate K l ps T E) l' p w
      → (us : Trees L) × Good K l T.looks ps E us × IsInstance (λ h j v. GivesAt T h j us v) l' p w
  chosen prem rest i = let (us, g) = assemble K l T.looks ps E (λ j lt. start j i (rest j lt)) in finish us g prem i

module _ {L : Type 0} (T : Sttr L) (c : ℕ) (l' : L) (K : Head → ℕ → Tree L → Type 0) (l : L) (ps : Parts Head (L → L)) (O : ℕ → List ℕ → Aim L → Type 0) where
  -- what stands at part j, where a run for it gives a tree
  abbrev Back : Type 0
  Back = (j : ℕ) (Z : List ℕ) (a : Aim L) → Premise K T a → O j Z a → (u : Tree L) × InstanceAt K l j ps u × Fit T Z a u

  abbrev Whole : (ℕ → List ℕ) → Aim L → Type 0
  Whole E a = (us : Trees L) × Good K l T.looks ps E us × Meets T a (node c l' us)

  free_sound : Back → (E : ℕ → List ℕ) → Step T c l' O (size ps) E free → Whole E free
  free_sound back E step =
      let (us, g) = assemble K l T.looks ps E (λ j lt. let (u, i, fit) = back j (E j) free tt (step j lt) in (u, (i, fit.0))) in
      (us, g, tt)

  identity_sound : Back → (E : ℕ → List ℕ) (w : Tree L) → Step T c l' O (size ps) E (gives identity w) → Whole E (gives identity w)
  identity_sound back E w step =
      let inst : IsInstance (Candidate K l ps T E) l' (copy c (size ps)) w =
      instance_at (λ h j v. O j (E j) (gives h v)) (Candidate K l ps T E) l' (copy c (size ps))
      (λ h j v o x. let e = kept_occurs (L → L) h 0 (size ps) j o in
      let (u, i, fit) = back j (E j) (gives identity v) tt (subst (λ k. O j (E j) (gives k v)) (sym e) x) in
      (u, (i, fit.0), subst (λ k. Gives T k u v) e fit.1)) w step in
      let (us, g, i) = chosen K l ps T E l' (copy c (size ps)) w (inr (kept_linear (L → L) 0 (size ps)))
      (λ j lt. inl (kept_uses (L → L) 0 (size ps) j (omega arith) (omega (arith, lt)))) inst in
      (us, g, copy_out T (λ h j v. GivesAt T h j us v) l' c us w (λ j v x. x) (subst (λ n. IsInstance (λ h j v. GivesAt T h j us v) l' (copy c n) w) (instances_width K l ps us g.0) i))

  below : OneEach K ⊎ AllLinear T → (h : Head) (v : Tree L) → Premise K T (gives h v)
  below prem identity v = tt
  below prem (run q) v = prem

  at_rule : OneEach K ⊎ AllLinear T → (q : ℕ) (r : OutRule L) → Contains (out_rules T q) r → OneEach K ⊎ IsLinear r.term
  at_rule (inl f) q r here = inl f
  at_rule (inr f) q r here = inr (f q r here)

  at_rest : Back → (E : ℕ → List ℕ) (p : Term Head (L → L)) (j : ℕ) → Uses j p ⊎ O j (E j) free → Uses j p ⊎ ((u : Tree L) × Can K l T.looks ps E j u)
  at_rest back E p j (inl e) = inl e
  at_rest back E p j (inr x) = let (u, i, fit) = back j (E j) free tt x in inr (u, (i, fit.0))

  run_sound : Back → OneEach K ⊎ AllLinear T → (E : ℕ → List ℕ) (q : ℕ) (w : Tree L) → Step T c l' O (size ps) E (gives (run q) w) → Whole E (gives (run q) w)
  run_sound back prem E q w step =
      let (r, here, fires, rest, inst) = step in
      let all : ℕ → List ℕ = (λ j. E j ++ wants r.rule j) in
      let inst' : IsInstance (Candidate K l ps T all) l' r.term w = instance_at (λ h j v. O j (all j) (gives h v)) (Candidate K l ps T all) l' r.term
      (λ h j v e x. let (u, i, fit) = back j (all j) (gives h v) (below prem h v) x in (u, (i, fit.0), fit.1)) w inst in
      let (us, g, i) = chosen K l ps T all l' r.term w (at_rule prem q r here) (λ j lt. at_rest back all r.term j (rest j lt)) inst' in
      let (x, y) = acc_split T.looks E (wants r.rule) us g.1 in
      (us, (g.0, x), (r, here, applies_in T.looks c l' us r.rule fires y, i))

  -- from the second's step at a middle node to the children of that node
  pub step_sound : (a : Aim L) → Premise K T a → Back → (E : ℕ → List ℕ) → Step T c l' O (size ps) E a → Whole E a
  step_sound free prem back E step = free_sound back E step
  step_sound (gives identity w) prem back E step = identity_sound back E w step
  step_sound (gives (run q) w) prem back E step = run_sound back prem E q w step

module _ {L : Type 0} (T : Sttr L) (K : Head → ℕ → Tree L → Type 0) (l : L) where
  mutual
    -- a run leads to a middle tree that is an instance of the term
    pub sound : (p : Term Head (L → L)) (Z : List ℕ) (a : Aim L) → Premise K T a → Run T (Kid T K) l p Z a → (u : Tree L) × IsInstance K l p u × Fit T Z a u
    sound (on h j) Z a prem w = kid_out T K h Z a j w
    sound (build c m ps) Z a prem w =
        let (rs, picks, step) = w in
        let (us, g, meets) = step_sound T c (m l) K l ps (λ j Z' a'. RunAt T (Kid T K) l j ps Z' a') a prem (λ j Z' a' prem' x. sound_at ps j Z' a' prem' x) (merged rs) step in
        (node c (m l) us, (refl, refl, g.0), (each_once_out (λ s. Has T.looks s (node c (m l) us)) Z (unpicked T.looks c (m l) us (once Z) rs picks g.1), meets))

    pub sound_at : (ps : Parts Head (L → L)) (j : ℕ) (Z : List ℕ) (a : Aim L) → Premise K T a → RunAt T (Kid T K) l j ps Z a → (u : Tree L) × InstanceAt K l j ps u × Fit T Z a u
    sound_at no_parts j Z a prem w = absurd w
    sound_at (part p ps) zero Z a prem w = sound p Z a prem w
    sound_at (part p ps) (suc j) Z a prem w = sound_at ps j Z a prem w
